use Rattle.rules.proofs.Refusals.{refusals_listed}
use Rattle.rules.proofs.refusals_listed.Goals as goal

pub returns : goal.returns
returns c = refusals_listed
