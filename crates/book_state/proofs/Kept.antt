-- What a book keeps and the order of its expressions, which each call's proof carries on together.
use Rattle.book_state.specs.State.{State}
use Rattle.book_state.specs.Whole.{Ordered, Whole}

pub record Kept (s : State) : Type 0 where
  pub whole : Whole s
  pub ordered : Ordered s
