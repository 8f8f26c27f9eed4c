use Rattle.claim.proofs.Carrying as carrying
use Rattle.claim.proofs.claim_holds.Goals as goal

pub returns : goal.returns
returns c = carrying.claim
