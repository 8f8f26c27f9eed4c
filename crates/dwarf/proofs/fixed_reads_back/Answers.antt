use Rattle.dwarf.proofs.Widths.{fixed_reads_back}
use Rattle.dwarf.proofs.fixed_reads_back.Goals as goal

pub returns : goal.returns
returns c = fixed_reads_back
