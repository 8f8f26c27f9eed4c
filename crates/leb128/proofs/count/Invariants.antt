use Rattle.std.proofs.Common.{◌≡◌, ◌+◌, ◌-◌, ◌≤◌, length}
use Rattle.leb128.proofs.count.Given as goal

abbrev pub invariant-loop-val : goal.invariant-loop-val
invariant-loop-val g l = (1 ≤ l.size) × (l.size ≤ 10) × (l.size + length (g.N.Groups.cut (10 - l.size) l.val) ≡ 1 + length (g.N.Groups.cut 9 l.initial.val)) × g.N.Groups.fits (10 - l.size) l.val

abbrev pub decreases-loop-val : goal.decreases-loop-val
decreases-loop-val g l = 10 - l.size
