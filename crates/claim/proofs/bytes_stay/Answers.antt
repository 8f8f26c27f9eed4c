use Rattle.claim.proofs.Carrying as carrying
use Rattle.claim.proofs.bytes_stay.Goals as goal

pub returns : goal.returns
returns c = carrying.steady
