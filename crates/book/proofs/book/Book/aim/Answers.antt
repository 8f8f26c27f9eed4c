use Rattle.book_state.proofs.Keeping.{keep_target}
use Rattle.book_tables.specs.View.{view}
use Rattle.book.proofs.Kept.{kept}
use Rattle.book.proofs.book.Book.aim.Goals as goal

pub invariant_of-self : goal.invariant_of-self
invariant_of-self c = kept (view c.args.self.now.tables) (view c.set_target.new.self) _ _ c.args.self.now.whole c.args.self.now.ordered (keep_target c.args.branch c.args.target (view c.args.self.now.tables)) c.set_target.ensures
