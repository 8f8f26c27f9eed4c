use Rattle.dwarf.proofs.Findings.{read_well_formed}
use Rattle.dwarf.proofs.read_well_formed.Goals as goal

pub returns : goal.returns
returns c = read_well_formed
