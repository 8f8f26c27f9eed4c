use Rattle.dwarf.proofs.Steps.{steps_suffice}
use Rattle.dwarf.proofs.steps_suffice.Goals as goal

pub returns : goal.returns
returns c = steps_suffice
