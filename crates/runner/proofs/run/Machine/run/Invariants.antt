use Rattle.std.proofs.Common.{◌≤◌}
use Rattle.script.specs.Readers.{left}
use Rattle.runner.proofs.run.Machine.run.Given as goal

abbrev pub invariant-loop-item : goal.invariant-loop-item
invariant-loop-item g l = left l.lines ≤ left l.initial.lines

abbrev pub decreases-loop-item : goal.decreases-loop-item
decreases-loop-item g l = left l.lines
