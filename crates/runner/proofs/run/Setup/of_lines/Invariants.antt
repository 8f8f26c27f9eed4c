use Rattle.std.proofs.Common.{◌≤◌}
use Rattle.script.specs.Readers.{left}
use Rattle.runner.proofs.run.Setup.of_lines.Given as goal

abbrev pub invariant-loop-next : goal.invariant-loop-next
invariant-loop-next l = left l.lines ≤ left l.initial.lines

abbrev pub decreases-loop-next : goal.decreases-loop-next
decreases-loop-next l = left l.lines
