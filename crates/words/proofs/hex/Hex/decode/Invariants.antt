use Rattle.std.proofs.Common.{◌≡◌, ◌++◌, length, vec_items}
use Rattle.words.specs.Bytes.{front_bytes}
use Rattle.words.proofs.hex.Hex.decode.Given as goal

abbrev pub invariant-loop-left : goal.invariant-loop-left
invariant-loop-left l = vec_items l.bytes ++ front_bytes l.left ≡ front_bytes l.self.digits.now

abbrev pub decreases-loop-left : goal.decreases-loop-left
decreases-loop-left l = length l.left
