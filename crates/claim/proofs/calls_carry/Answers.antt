use Rattle.claim.proofs.Carrying as carrying
use Rattle.claim.proofs.calls_carry.Goals as goal

pub returns : goal.returns
returns c = carrying.calls_carry
