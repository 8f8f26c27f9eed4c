use Rattle.dwarf.proofs.Patching.{patches}
use Rattle.dwarf.proofs.patches_hold.Goals as goal

pub returns : goal.returns
returns c = patches
