use Rattle.script.specs.Readers.{left}
use Rattle.runner.proofs.run.run.Given as goal

abbrev pub decreases-loop-ending : goal.decreases-loop-ending
decreases-loop-ending l = left l.lines
