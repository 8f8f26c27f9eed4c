use Rattle.book_state.proofs.Keeping.{keep-discarded}
use Rattle.book_tables.specs.View.{view}
use Rattle.book.proofs.Kept.{kept}
use Rattle.book.proofs.book.Book.withdraw.Goals as goal

pub invariant_of-self : goal.invariant_of-self
invariant_of-self c = kept (view c.args.self.now.tables) (view c.discard.new.self) _ _ c.args.self.now.whole c.args.self.now.ordered (keep-discarded (view c.args.self.now.tables)) c.discard.ensures
