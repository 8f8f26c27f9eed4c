use Rattle.book_state.proofs.Keeping.{keep-added}
use Rattle.book_tables.specs.View.{view}
use Rattle.book.proofs.Kept.{kept}
use Rattle.book.proofs.book.Book.add.Goals as goal

pub invariant_of-self : goal.invariant_of-self
invariant_of-self c = kept (view c.args.self.now.tables) (view c.add.new.self) _ _ c.args.self.now.whole c.args.self.now.ordered (keep-added c.args.op c.args.bytes.now (view c.args.self.now.tables) c.requires) c.add.ensures
