use Rattle.dwarf.proofs.ReadBack.{tokens_read_back}
use Rattle.dwarf.proofs.tokens_read_back.Goals as goal

pub returns : goal.returns
returns c = tokens_read_back
