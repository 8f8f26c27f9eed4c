-- Unsigned LEB128 numbers: they read back, and nothing shorter reads as the same number.
use Rattle.std.proofs.Common.{◌≡◌, ℕ, zero, suc, ◌+◌, ◌*◌, ◌/◌, ◌%◌, ◌^◌, ◌<◌, ◌≤◌, List, [], ◌∷◌, ◌++◌, length, Some, sym, ap, ◌∙◌, inl, inr, arith}
use Rattle.std.proofs.lemmas.Bool.{lt-ltb, le-ltb, cond-true, cond-false, cases_lt}
use Rattle.dwarf.specs.Reader.{Got, got, and_then, ReadsBack, Shortest}
use Rattle.dwarf.specs.Leb.{groups, uleb, read_groups, read_uleb}
use Rattle.dwarf.proofs.Optional.{both, got_same, passed}

pub groups_last : (k n : ℕ) → n < 128 → groups k n ≡ n ∷ []
unfolding groups
groups_last zero n h = ap (λ (x : ℕ). x ∷ []) (omega arith)
groups_last (suc k) n h = cond-true _ _ _ (lt-ltb n 128 h)

pub groups_more : (k n : ℕ) → 128 ≤ n → groups (suc k) n ≡ (n % 128 + 128) ∷ groups k (n / 128)
unfolding groups
groups_more k n h = cond-false _ _ _ (le-ltb n 128 h)

pub read_last : (k b : ℕ) (bytes : List ℕ) → b < 128 → read_groups (suc k) (b ∷ bytes) ≡ got b bytes
unfolding read_groups
read_last k b bytes h = cond-true _ _ _ (lt-ltb b 128 h)

pub read_more : (k b : ℕ) (bytes : List ℕ) → 128 ≤ b → read_groups (suc k) (b ∷ bytes) ≡ and_then (read_groups k bytes) (λ g. got (b % 128 + 128 * g.value) g.rest)
unfolding read_groups
read_more k b bytes h = cond-false _ _ _ (le-ltb b 128 h)

-- what k + 1 groups hold
above : ℕ → ℕ
above zero = 128
above (suc k) = 128 * above k

read-groups : (k n : ℕ) (rest : List ℕ) → n < above k → read_groups (suc k) (groups k n ++ rest) ≡ got n rest
unfolding above
read-groups zero n rest h = rw (groups_last zero n h) (read_last zero n rest h)
read-groups (suc k) n rest h =
    elim (cases_lt n 128) [
      | inl l ↦ rw (groups_last (suc k) n l) (read_last (suc k) n rest l)
      | inr g ↦ let big : 128 ≤ n % 128 + 128 = omega arith in
          let less : n / 128 < above k = omega arith in
          rw (groups_more k n g) (read_more (suc k) (n % 128 + 128) (groups k (n / 128) ++ rest) big
          ∙ rw (read-groups k (n / 128) rest less) (got_same rest (omega arith)))
    ]

pub uleb_reads_back : (n : ℕ) → n < 2 ^ 64 → ReadsBack read_uleb (uleb n) n
unfolding uleb read_uleb ReadsBack
uleb_reads_back n h rest =
    let c : n < above 9 = unfold above in omega arith in
    rw (read-groups 9 n rest c, lt-ltb n (2 ^ 64) h)

-- one byte reads as one group
one_byte : (j b : ℕ) (bytes : List ℕ) (g : Got ℕ) → b < 128 → got b bytes ≡ Some g → length (groups j g.value) + length g.rest ≤ suc (length bytes)
one_byte j b bytes g l e =
    let same : g ≡ record { value = b; rest = bytes } = cc in
    rw (same, groups_last j b l) (omega arith)

-- a byte before others adds at most a group
one_more : (j b : ℕ) (bytes : List ℕ) (h g : Got ℕ) → got (b % 128 + 128 * h.value) h.rest ≡ Some g
    → ((i : ℕ) → length (groups i h.value) + length h.rest ≤ length bytes) → length (groups j g.value) + length g.rest ≤ suc (length bytes)
one_more j b bytes h g e below =
    let v : ℕ = b % 128 + 128 * h.value in
    let same : g ≡ record { value = v; rest = h.rest } = cc in
    rw same (more j)
  where
    more : (j : ℕ) → length (groups j (b % 128 + 128 * h.value)) + length h.rest ≤ suc (length bytes)
    more zero = unfold groups in omega (arith, below 0)
    more (suc i) =
        elim (cases_lt (b % 128 + 128 * h.value) 128) [
          | inl l ↦ rw (groups_last (suc i) _ l) (omega (arith, below i))
          | inr m ↦ let q : (b % 128 + 128 * h.value) / 128 ≡ h.value = omega arith in
              rw (groups_more i _ m, q) (omega (arith, below i))
        ]

-- a number takes no more groups than the bytes that it was read from
groups_shortest : (k j : ℕ) (bytes : List ℕ) (g : Got ℕ) → read_groups k bytes ≡ Some g → length (groups j g.value) + length g.rest ≤ length bytes
unfolding read_groups
groups_shortest zero j bytes g e = absurd (let z : ◌≡◌ {A = ℕ} 0 1 = cc in omega arith)
groups_shortest (suc k) j [] g e = absurd (let z : ◌≡◌ {A = ℕ} 0 1 = cc in omega arith)
groups_shortest (suc k) j (b ∷ bytes) g e =
    elim (cases_lt b 128) [
      | inl l ↦ one_byte j b bytes g l (sym (read_last k b bytes l) ∙ e)
      | inr m ↦ let s = both (read_groups k bytes) _ g (sym (read_more k b bytes m) ∙ e) in
          one_more j b bytes s.value g s.next_is (λ i. groups_shortest k i bytes s.value s.first_is)
    ]

pub uleb_shortest : (n : ℕ) → Shortest read_uleb (uleb n) n
unfolding uleb read_uleb Shortest
uleb_shortest n other rest e =
    let s = both (read_groups 10 other) _ _ e in
    let same : s.value ≡ record { value = n; rest = rest } = passed _ s.value _ s.next_is in
    rw same at (groups_shortest 10 9 other s.value s.first_is)

pub uleb_nonempty : (n : ℕ) → 1 ≤ length (uleb n)
unfolding uleb
uleb_nonempty n = elim (cases_lt n 128) [ inl l ↦ rw (groups_last 9 n l) (omega arith) | inr g ↦ rw (groups_more 8 n g) (omega arith) ]

groups_most : (k n : ℕ) → length (groups k n) ≤ suc k
unfolding groups
groups_most zero n = omega arith
groups_most (suc k) n =
    elim (cases_lt n 128) [
      | inl l ↦ rw (groups_last (suc k) n l) (omega arith)
      | inr g ↦ rw (groups_more k n g) (omega (arith, groups_most k (n / 128)))
    ]

pub uleb_most : (n : ℕ) → length (uleb n) ≤ 10
unfolding uleb
uleb_most n = groups_most 9 n

groups-grow : (k m n : ℕ) → m ≤ n → length (groups k m) ≤ length (groups k n)
unfolding groups
groups-grow zero m n h = omega arith
groups-grow (suc k) m n h =
    elim (cases_lt n 128) [
      | inl l ↦ let s : m < 128 = omega arith in rw (groups_last (suc k) m s, groups_last (suc k) n l) (omega arith)
      | inr g ↦ elim (cases_lt m 128) [
        | inl s ↦ rw (groups_last (suc k) m s, groups_more k n g) (omega arith)
        | inr b ↦ rw (groups_more k m b, groups_more k n g) (omega (arith, groups-grow k (m / 128) (n / 128) (omega arith)))
      ]
    ]

-- a larger number takes no fewer bytes
pub uleb_grows : (m n : ℕ) → m ≤ n → length (uleb m) ≤ length (uleb n)
unfolding uleb
uleb_grows m n h = groups-grow 9 m n h
