use Rattle.rules.proofs.Widths.{references-wide}
use Rattle.rules.proofs.references_wide.Goals as goal

pub returns : goal.returns
returns c = references-wide
