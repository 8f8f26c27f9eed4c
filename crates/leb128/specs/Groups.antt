-- The laws of numbers that are cut into groups of seven bits.
use Rattle.std.specs.Prelude.{◌≡◌, ℕ, zero, suc, ◌+◌, ◌*◌, ◌/◌, ◌%◌, ◌≤◌, ◌<◌, true, false, [], ◌∷◌, ℤ, pos, negsuc, nat_lt, refl}
use Rattle.std.proofs.Common.{ap, ◌∙◌, arith}
use Rattle.std.proofs.lemmas.Bool.{ltb-true, ltb-false, lt-ltb}
use Rattle.dwarf.specs.Leb.{groups, sgroups, shr, is_small, low_seven, magnitude}
use Rattle.dwarf.proofs.Uleb.{groups_last, groups_more}
use Rattle.dwarf.proofs.Sleb.{sgroups_last, sgroups_more}

pub groups_none : (n : ℕ) → groups 0 n ≡ (n % 128) ∷ []
unfolding groups
groups_none n = refl

pub last_group : (k n : ℕ) → nat_lt n 128 ≡ true → groups k n ≡ (n % 128) ∷ []
last_group k n h = let l = ltb-true n 128 h in groups_last k n l ∙ ap (λ (x : ℕ). x ∷ []) (omega arith)

pub next_group : (k n : ℕ) → nat_lt n 128 ≡ false → groups (suc k) n ≡ (n % 128 + 128) ∷ groups k (n / 128)
next_group k n h = groups_more k n (ltb-false n 128 h)

small_is : (z : ℤ) → is_small z ≡ true → magnitude z < 64
small_is (pos n) h = ltb-true n 64 h
small_is (negsuc m) h = ltb-true m 64 h

large_is : (z : ℤ) → is_small z ≡ false → 64 ≤ magnitude z
large_is (pos n) h = ltb-false n 64 h
large_is (negsuc m) h = ltb-false m 64 h

pub sgroups_none : (z : ℤ) → sgroups 0 z ≡ low_seven z ∷ []
unfolding sgroups
sgroups_none z = refl

pub last_sgroup : (k : ℕ) (z : ℤ) → is_small z ≡ true → sgroups k z ≡ low_seven z ∷ []
last_sgroup k z h = sgroups_last k z (small_is z h)

pub next_sgroup : (k : ℕ) (z : ℤ) → is_small z ≡ false → sgroups (suc k) z ≡ (low_seven z + 128) ∷ sgroups k (shr 128 z)
next_sgroup k z h = sgroups_more k z (large_is z h)

-- what k + 1 groups hold at most, of a number of 64 bits
abbrev pub room : ℕ → ℕ
room zero = 2
room (suc k) = 128 * room k

pub one_group : (n : ℕ) → n < room 0 → nat_lt n 128 ≡ true
one_group n h = lt-ltb n 128 (omega arith)

pub fewer_groups : (k n : ℕ) → n < room (suc k) → nat_lt n 128 ≡ false → n / 128 < room k
fewer_groups k n h e = omega arith

-- the same of the bits but for the sign
abbrev pub signed_room : ℕ → ℕ
signed_room zero = 1
signed_room (suc k) = 128 * signed_room k

pub one_sgroup : (z : ℤ) → magnitude z < signed_room 0 → is_small z ≡ true
one_sgroup (pos n) h = lt-ltb n 64 (omega arith)
one_sgroup (negsuc m) h = lt-ltb m 64 (omega arith)

pub fewer_sgroups : (k : ℕ) (z : ℤ) → magnitude z < signed_room (suc k) → is_small z ≡ false → magnitude (shr 128 z) < signed_room k
fewer_sgroups k (pos n) h e = omega arith
fewer_sgroups k (negsuc m) h e = omega arith
