use Rattle.book_state.proofs.Keeping.{keep-branched}
use Rattle.book_tables.specs.View.{view}
use Rattle.book.proofs.Kept.{kept}
use Rattle.book.proofs.book.Book.add_branch.Goals as goal

pub invariant_of-self : goal.invariant_of-self
invariant_of-self c = kept (view c.args.self.now.tables) (view c.add_branch.new.self) _ _ c.args.self.now.whole c.args.self.now.ordered (keep-branched c.args.op (view c.args.self.now.tables) c.requires.named c.requires.bare) c.add_branch.ensures
