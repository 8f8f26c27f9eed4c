use Rattle.std.proofs.Common.{length, refl, ◌∙◌, arith}
use Rattle.std.proofs.lemmas.List.{drop-set-lt}
use Rattle.claim.specs.Claim.{Runs}
use Rattle.book.specs.Holds.{holds}
use Rattle.section.specs.Made.{call_in}
use Rattle.section.proofs.Onward.{one_on, all_on}
use Rattle.section.proofs.run.run_in_book.Goals as goal

pub loop-i-init : goal.loop-i-init
unfolding Runs
loop-i-init g c = (refl, refl)

pub loop-i-preserved : goal.loop-i-preserved
loop-i-preserved g c = (
  one_on (call_in (holds c.args.book.now)) c.args.calls.now c.loop-i.answers c.loop-i.i c.apply_in_book.result _ _ _ _ _ (omega arith) (omega arith) refl c.loop-i.invariant.0 c.apply_in_book.ensures,
  drop-set-lt (length c.args.calls.now) c.loop-i.answers c.loop-i.i c.apply_in_book.result (omega arith) ∙ c.loop-i.invariant.1,
)

pub returns : goal.returns
returns g c =
    record {
      ran = all_on (call_in (holds c.args.book.now)) c.args.calls.now c.loop-i.answers c.loop-i.i _ _ (omega arith) c.loop-i.invariant.0;
      rest = c.loop-i.invariant.1;
    }
