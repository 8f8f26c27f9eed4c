use Rattle.dwarf.proofs.ReadingExamples.{examples_read}
use Rattle.dwarf.proofs.examples_read.Goals as goal

pub returns : goal.returns
returns c = examples_read
