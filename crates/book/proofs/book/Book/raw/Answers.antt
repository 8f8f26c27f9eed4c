use Rattle.book_state.proofs.Keeping.{keep_raw}
use Rattle.book_tables.specs.View.{view}
use Rattle.book.proofs.Kept.{kept}
use Rattle.book.proofs.book.Book.raw.Goals as goal

pub invariant_of-self : goal.invariant_of-self
invariant_of-self c = kept (view c.args.self.now.tables) (view c.raw.new.self) _ _ c.args.self.now.whole c.args.self.now.ordered (keep_raw c.args.bytes.now (view c.args.self.now.tables)) c.raw.ensures
