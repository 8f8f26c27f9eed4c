use Rattle.std.proofs.Common.{◌≡◌, length, take, drop}
use Rattle.claim.specs.Claim.{Runs}
use Rattle.section.specs.Held.{state_of}
use Rattle.section.specs.Made.{call_of, all_made}
use Rattle.section.proofs.run.run.Given as goal

abbrev pub invariant-loop-i : goal.invariant-loop-i
invariant-loop-i g l =
    Runs (state_of g.W.Writer.means l.initial.section) (all_made call_of (take l.i l.calls) (take l.i l.answers))
    (state_of g.W.Writer.means l.section)
    × (drop (length l.calls) l.answers ≡ drop (length l.calls) l.initial.answers)
