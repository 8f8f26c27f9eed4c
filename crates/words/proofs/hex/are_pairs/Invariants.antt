use Rattle.std.proofs.Common.{◌≡◌, is_some, length}
use Rattle.words.specs.Bytes.{bytes_in}
use Rattle.words.proofs.hex.are_pairs.Given as goal

abbrev pub invariant-loop-left : goal.invariant-loop-left
invariant-loop-left l = is_some (bytes_in l.left) ≡ is_some (bytes_in l.digits)

abbrev pub decreases-loop-left : goal.decreases-loop-left
decreases-loop-left l = length l.left
