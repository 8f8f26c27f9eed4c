use Rattle.book_state.proofs.Keeping.{keep-sealed}
use Rattle.book_tables.specs.View.{view}
use Rattle.book.proofs.Kept.{kept}
use Rattle.book.proofs.book.Book.close.Goals as goal

pub invariant_of-self : goal.invariant_of-self
invariant_of-self c = kept (view c.args.self.now.tables) (view c.seal.new.self) _ _ c.args.self.now.whole c.args.self.now.ordered (keep-sealed (view c.args.self.now.tables)) c.seal.ensures
