use Rattle.std.proofs.Common.{ap, sym, ◌∙◌, subst, ◌+◌, ◌-◌, ◌<◌, ◌≤◌, IfSome, Option, arith}
use Rattle.book_state.specs.Calls.{freed, with_expressions}
use Rattle.book_state.specs.State.{State, no_operation, slice}
use Rattle.book_tables.specs.declared.tables.DraftStart.{DraftStart}
use Rattle.book_tables.proofs.Rest.{slice_front}
use Rattle.book_tables.proofs.tables.Tables.discard.Goals as goal

pub loop-place-preserved : goal.loop-place-preserved
loop-place-preserved c =
    let s = c.loop-place.self in
    let n = ap (λ (t : State). t.op_count) c.loop-place.invariant.same in
    let f = ap (λ xs. freed xs s.expressions) (slice_front s.operations.now c.loop-place.place s.op_count no_operation (omega arith) (omega arith)) in
    record {
      same = ap (with_expressions c.free.new.expressions) c.loop-place.invariant.same;
      drafted = c.loop-place.invariant.drafted;
      left = ap (freed (slice s.operations.now (c.loop-place.place + 1) (s.op_count - (c.loop-place.place + 1)))) c.free.ensures ∙ (sym f ∙ c.loop-place.invariant.left);
    }

pub invariant_of-self-2-clause-bytes_within : goal.invariant_of-self-2-clause-bytes_within
invariant_of-self-2-clause-bytes_within c =
    let s = c.loop-place.self in
    let h = subst (λ (o : Option DraftStart). IfSome o (λ d. (d.start ≤ s.op_count) × (d.byte_start ≤ s.byte_count) × (s.sealed_count < 1024)))
    (c.loop-place.invariant.drafted ∙ c.in_ok-draft.ensures.ok_part) s.drafted in
    omega (arith, h.1, s.bytes_within)
