use Rattle.dwarf.proofs.Sizes.{sizes_hold}
use Rattle.dwarf.proofs.sizes_hold.Goals as goal

pub returns : goal.returns
returns c = sizes_hold
