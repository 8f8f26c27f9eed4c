use Rattle.std.proofs.Common.{◌≡◌, ◌-◌, ◌≤◌, ◌++◌, length, take}
use Rattle.leb128.proofs.Leb128.encode.Given as goal

abbrev pub invariant-loop-bytes : goal.invariant-loop-bytes
invariant-loop-bytes g l = (length l.bytes ≡ 10) × (l.len ≤ 9) × (take l.len l.bytes ++ g.N.Groups.cut (9 - l.len) l.val ≡ g.N.Groups.cut 9 l.initial.val) × g.N.Groups.fits (9 - l.len) l.val

abbrev pub decreases-loop-bytes : goal.decreases-loop-bytes
decreases-loop-bytes g l = 9 - l.len
