use Rattle.rules.proofs.Examples.{worked}
use Rattle.rules.proofs.examples_hold.Goals as goal

pub returns : goal.returns
returns c = worked
