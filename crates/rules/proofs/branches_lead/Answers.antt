use Rattle.rules.proofs.Branches.{branches_lead}
use Rattle.rules.proofs.branches_lead.Goals as goal

pub returns : goal.returns
returns c = branches_lead
