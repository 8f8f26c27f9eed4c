use Rattle.claim.proofs.Ranges as ranges
use Rattle.claim.proofs.trees_fit.Goals as goal

pub returns : goal.returns
returns c = ranges.trees_fit
