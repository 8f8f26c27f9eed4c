-- Signed LEB128 numbers: they read back, and nothing shorter reads as the same number.
use Rattle.std.proofs.Common.{◌≡◌, ℕ, zero, suc, ◌+◌, ◌-◌, ◌*◌, ◌/◌, ◌%◌, ◌^◌, ◌<◌, ◌≤◌, true, false, List, [], ◌∷◌, ◌++◌, length, ℤ, pos, negsuc, Some, sym, refl, ap, ◌∙◌, inl, inr, arith}
use Rattle.std.proofs.lemmas.Bool.{lt-ltb, le-ltb, cond-true, cond-false, cases_lt}
use Rattle.dwarf.specs.Reader.{Got, got, and_then, ReadsBack, Shortest}
use Rattle.dwarf.specs.Leb.{low_seven, shr, is_small, sgroups, sleb, signed_seven, with_low_seven, read_sgroups, magnitude, read_sleb}
use Rattle.dwarf.proofs.Optional.{both, got_same, passed}

pub small_from : (z : ℤ) → magnitude z < 64 → is_small z ≡ true
small_from (pos n) h = lt-ltb n 64 h
small_from (negsuc m) h = lt-ltb m 64 h

pub large_from : (z : ℤ) → 64 ≤ magnitude z → is_small z ≡ false
large_from (pos n) h = le-ltb n 64 h
large_from (negsuc m) h = le-ltb m 64 h

pub magnitude-shr : (d : ℕ) (z : ℤ) → magnitude (shr d z) ≡ magnitude z / d
magnitude-shr d (pos n) = refl
magnitude-shr d (negsuc m) = refl

pub low_below : (z : ℤ) → low_seven z < 128
low_below (pos n) = omega arith
low_below (negsuc m) = omega arith

pub sgroups_last : (k : ℕ) (z : ℤ) → magnitude z < 64 → sgroups k z ≡ low_seven z ∷ []
unfolding sgroups
sgroups_last zero z h = refl
sgroups_last (suc k) z h = cond-true _ _ _ (small_from z h)

pub sgroups_more : (k : ℕ) (z : ℤ) → 64 ≤ magnitude z → sgroups (suc k) z ≡ (low_seven z + 128) ∷ sgroups k (shr 128 z)
unfolding sgroups
sgroups_more k z h = cond-false _ _ _ (large_from z h)

pub read_last : (k b : ℕ) (bytes : List ℕ) → b < 128 → read_sgroups (suc k) (b ∷ bytes) ≡ got (signed_seven b) bytes
unfolding read_sgroups
read_last k b bytes h = cond-true _ _ _ (lt-ltb b 128 h)

pub read_more : (k b : ℕ) (bytes : List ℕ) → 128 ≤ b → read_sgroups (suc k) (b ∷ bytes) ≡ and_then (read_sgroups k bytes) (λ g. got (with_low_seven (b % 128) g.value) g.rest)
unfolding read_sgroups
read_more k b bytes h = cond-false _ _ _ (le-ltb b 128 h)

-- the last group is the number itself
last_is : (z : ℤ) → magnitude z < 64 → signed_seven (low_seven z) ≡ z
last_is (pos n) h =
    let e : n % 128 ≡ n = omega arith in
    cond-true _ _ _ (lt-ltb (n % 128) 64 (omega arith)) ∙ ap pos e
last_is (negsuc m) h =
    let e : 127 - (127 - m % 128) ≡ m = omega arith in
    cond-false _ _ _ (le-ltb (127 - m % 128) 64 (omega arith)) ∙ ap negsuc e

-- the low group and the others make the number
whole_is : (z : ℤ) (low : ℕ) → low ≡ low_seven z → with_low_seven low (shr 128 z) ≡ z
whole_is (pos n) low e = let h : low + 128 * (n / 128) ≡ n = omega arith in ap pos h
whole_is (negsuc m) low e = let h : 127 - low + 128 * (m / 128) ≡ m = omega arith in ap negsuc h

-- what k + 1 groups hold, but for the sign
above : ℕ → ℕ
above zero = 64
above (suc k) = 128 * above k

read-sgroups : (k : ℕ) (z : ℤ) (rest : List ℕ) → magnitude z < above k → read_sgroups (suc k) (sgroups k z ++ rest) ≡ got z rest
unfolding above
read-sgroups zero z rest h =
    rw (sgroups_last zero z h) (read_last zero (low_seven z) rest (low_below z) ∙ got_same rest (last_is z h))
read-sgroups (suc k) z rest h =
    elim (cases_lt (magnitude z) 64) [
      | inl l ↦ rw (sgroups_last (suc k) z l) (read_last (suc k) (low_seven z) rest (low_below z) ∙ got_same rest (last_is z l))
      | inr g ↦ let b = low_below z in
          let m = magnitude-shr 128 z in
          let less : magnitude (shr 128 z) < above k = omega arith in
          rw (sgroups_more k z g) (read_more (suc k) (low_seven z + 128) (sgroups k (shr 128 z) ++ rest) (omega arith)
          ∙ rw (read-sgroups k (shr 128 z) rest less) (got_same rest (whole_is z ((low_seven z + 128) % 128) (omega arith))))
    ]

pub sleb_reads_back : (z : ℤ) → magnitude z < 2 ^ 63 → ReadsBack read_sleb (sleb z) z
unfolding sleb read_sleb ReadsBack
sleb_reads_back z h rest =
    let c : magnitude z < above 9 = unfold above in omega arith in
    rw (read-sgroups 9 z rest c, lt-ltb (magnitude z) (2 ^ 63) h)

-- seven bits as a number
seven_magnitude : (b : ℕ) → b < 128 → magnitude (signed_seven b) < 64
seven_magnitude b h =
    elim (cases_lt b 64) [
      | inl l ↦ rw (cond-true _ (pos b) (negsuc (127 - b)) (lt-ltb b 64 l)) l
      | inr g ↦ rw (cond-false _ (pos b) (negsuc (127 - b)) (le-ltb b 64 g)) (omega arith)
    ]

shr_with : (low : ℕ) (z : ℤ) → low < 128 → shr 128 (with_low_seven low z) ≡ z
shr_with low (pos n) h = let e : (low + 128 * n) / 128 ≡ n = omega arith in ap pos e
shr_with low (negsuc m) h = let e : (127 - low + 128 * m) / 128 ≡ m = omega arith in ap negsuc e

-- one byte reads as one group
one_byte : (j b : ℕ) (bytes : List ℕ) (g : Got ℤ) → b < 128 → got (signed_seven b) bytes ≡ Some g → length (sgroups j g.value) + length g.rest ≤ suc (length bytes)
one_byte j b bytes g l e =
    let same : g ≡ record { value = signed_seven b; rest = bytes } = cc in
    rw (same, sgroups_last j (signed_seven b) (seven_magnitude b l)) (omega arith)

-- a byte before others adds at most a group
one_more : (j b : ℕ) (bytes : List ℕ) (h g : Got ℤ) → got (with_low_seven (b % 128) h.value) h.rest ≡ Some g
    → ((i : ℕ) → length (sgroups i h.value) + length h.rest ≤ length bytes) → length (sgroups j g.value) + length g.rest ≤ suc (length bytes)
one_more j b bytes h g e below =
    let same : g ≡ record { value = with_low_seven (b % 128) h.value; rest = h.rest } = cc in
    rw same (more j)
  where
    more : (j : ℕ) → length (sgroups j (with_low_seven (b % 128) h.value)) + length h.rest ≤ suc (length bytes)
    more zero = unfold sgroups in omega (arith, below 0)
    more (suc i) =
        elim (cases_lt (magnitude (with_low_seven (b % 128) h.value)) 64) [
          | inl l ↦ rw (sgroups_last (suc i) _ l) (omega (arith, below i))
          | inr m ↦ rw (sgroups_more i _ m, shr_with (b % 128) h.value (omega arith)) (omega (arith, below i))
        ]

-- a number takes no more groups than the bytes that it was read from
sgroups_shortest : (k j : ℕ) (bytes : List ℕ) (g : Got ℤ) → read_sgroups k bytes ≡ Some g → length (sgroups j g.value) + length g.rest ≤ length bytes
unfolding read_sgroups
sgroups_shortest zero j bytes g e = absurd (let z : ◌≡◌ {A = ℕ} 0 1 = cc in omega arith)
sgroups_shortest (suc k) j [] g e = absurd (let z : ◌≡◌ {A = ℕ} 0 1 = cc in omega arith)
sgroups_shortest (suc k) j (b ∷ bytes) g e =
    elim (cases_lt b 128) [
      | inl l ↦ one_byte j b bytes g l (sym (read_last k b bytes l) ∙ e)
      | inr m ↦ let s = both (read_sgroups k bytes) _ g (sym (read_more k b bytes m) ∙ e) in
          one_more j b bytes s.value g s.next_is (λ i. sgroups_shortest k i bytes s.value s.first_is)
    ]

pub sleb_shortest : (z : ℤ) → Shortest read_sleb (sleb z) z
unfolding sleb read_sleb Shortest
sleb_shortest z other rest e =
    let s = both (read_sgroups 10 other) _ _ e in
    let same : s.value ≡ record { value = z; rest = rest } = passed _ s.value _ s.next_is in
    rw same at (sgroups_shortest 10 9 other s.value s.first_is)

pub sleb_nonempty : (z : ℤ) → 1 ≤ length (sleb z)
unfolding sleb
sleb_nonempty z = elim (cases_lt (magnitude z) 64) [ inl l ↦ rw (sgroups_last 9 z l) (omega arith) | inr g ↦ rw (sgroups_more 8 z g) (omega arith) ]

sgroups_most : (k : ℕ) (z : ℤ) → length (sgroups k z) ≤ suc k
unfolding sgroups
sgroups_most zero z = omega arith
sgroups_most (suc k) z =
    elim (cases_lt (magnitude z) 64) [
      | inl l ↦ rw (sgroups_last (suc k) z l) (omega arith)
      | inr g ↦ rw (sgroups_more k z g) (omega (arith, sgroups_most k (shr 128 z)))
    ]

pub sleb_most : (z : ℤ) → length (sleb z) ≤ 10
unfolding sleb
sleb_most z = sgroups_most 9 z
