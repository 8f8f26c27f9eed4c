use Rattle.claim.proofs.Evaluations.{worked}
use Rattle.claim.proofs.examples_hold.Goals as goal

pub returns : goal.returns
returns c = worked
