use Rattle.dwarf.proofs.ReadBack.{tokens_read_back}
use Rattle.claim.proofs.Formed.{encoded_well_formed}
use Rattle.theorems.proofs.expressions_read_back.Goals as goal

pub returns : goal.returns
returns c = λ big e s t a numbers at accepted readable fits offsets short numbersFit. tokens_read_back big e numbers at a (encoded_well_formed e s t a accepted readable fits offsets short) numbersFit
