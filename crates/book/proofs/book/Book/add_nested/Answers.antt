use Rattle.book_state.proofs.Keeping.{keep-nested}
use Rattle.book_tables.specs.View.{view}
use Rattle.book.proofs.Kept.{kept}
use Rattle.book.proofs.book.Book.add_nested.Goals as goal

pub invariant_of-self : goal.invariant_of-self
invariant_of-self c = kept (view c.args.self.now.tables) (view c.add_nested.new.self) _ _ c.args.self.now.whole c.args.self.now.ordered (keep-nested c.args.number (view c.args.self.now.tables)) c.add_nested.ensures
