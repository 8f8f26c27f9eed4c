use Rattle.std.proofs.Common.{◌≡◌, ◌-◌}
use Rattle.book_state.specs.Calls.{freed, with_expressions}
use Rattle.book_state.specs.State.{slice, draft}
use Rattle.book_tables.specs.View.{view}
use Rattle.book_tables.proofs.tables.Tables.discard.Given as goal

abbrev pub invariant-loop-place : goal.invariant-loop-place
invariant-loop-place l = record {
  same : view l.self ≡ with_expressions l.self.expressions (view l.initial.self);
  drafted : l.self.draft ≡ l.initial.self.draft;
  left : freed (slice l.self.operations.now l.place (l.self.op_count - l.place)) l.self.expressions ≡ freed (draft (view l.initial.self)) l.initial.self.expressions;
}
