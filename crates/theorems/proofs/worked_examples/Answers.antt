use Rattle.rules.proofs.Examples as expressions
use Rattle.claim.proofs.Evaluations as sections
use Rattle.theorems.proofs.worked_examples.Goals as goal

pub returns : goal.returns
returns c = (expressions.worked, sections.worked)
