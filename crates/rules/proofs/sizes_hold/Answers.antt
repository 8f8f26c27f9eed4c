use Rattle.rules.proofs.Sizes.{sizes_hold}
use Rattle.rules.proofs.sizes_hold.Goals as goal

pub returns : goal.returns
returns c = sizes_hold
