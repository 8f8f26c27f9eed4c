-- A call that answers and leaves what the rules say carries the claim on.
use Rattle.claim.specs.Section.{State}
use Rattle.claim.specs.Calls.{Call, Answer}
use Rattle.claim.specs.Claim.{Stepped}
use Rattle.claim.proofs.Carrying as claim
use Rattle.section_tables.proofs.Steps.{Follows}

pub stepped : {m : State} {c : Call} {a : Answer} {s : State} → Follows m c a s → Stepped m c a s
stepped f = claim.stepped f.answered f.left
