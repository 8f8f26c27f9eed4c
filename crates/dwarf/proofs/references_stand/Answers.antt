use Rattle.dwarf.proofs.Standing.{references_stand}
use Rattle.dwarf.proofs.references_stand.Goals as goal

pub returns : goal.returns
returns c = references_stand
