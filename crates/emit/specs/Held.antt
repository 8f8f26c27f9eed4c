-- The data that operations hold.
use Rattle.std.specs.Prelude.{ℕ, List}
use Rattle.op.specs.declared.operation.Data.{Data}
use Rattle.book_state.specs.declared.shape.Shape.{Shape}
use Rattle.book_state.specs.declared.shape.Shape.TheVariants.{Plain, Holding, Branching, Nesting}
use Rattle.book_state.specs.State.{State}
use Rattle.book_tree.specs.Store.{store_of}
use Rattle.rules.specs.Tree.{bytes_at}

-- where an operation's data lie; nowhere, with no bytes, where it holds none
abbrev pub place_of : Shape → Data
place_of Plain = record { start = 0; len = 0 }
place_of (Holding d) = d
place_of (Branching t) = record { start = 0; len = 0 }
place_of (Nesting m) = record { start = 0; len = 0 }

-- an operation's data
abbrev pub data_at : State → Shape → List ℕ
data_at b h = bytes_at (store_of b) (place_of h)
