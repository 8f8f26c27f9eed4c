-- The first of the references that a test holds of, by its place.
use Rattle.std.proofs.Common.{◌≡◌, ℕ, zero, suc, ◌+◌, ◌<◌, ◌≤◌, Bool, true, false, eqb, leb, List, [], ◌∷◌, ◌++◌, length, get_or, take, drop, Some, None, sym, refl, ap, ◌∙◌, add-one, arith}
use Rattle.std.proofs.lemmas.Bool.{ne_eqb, leb-true, and_parts, and_left}
use Rattle.common.specs.declared.fixup.DebugInfoFixup.{DebugInfoFixup}
use Rattle.claim.specs.Calls.{stands_at, first_of, without_first}
use Rattle.section_tables.specs.Rows.{no_row, FirstAt}

module _ (test : DebugInfoFixup → Bool) where
  pub none_first : (ps : List DebugInfoFixup) → ((k : ℕ) → k < length ps → test (get_or ps k no_row) ≡ false) → first_of test ps ≡ None
  unfolding first_of
  none_first [] h = refl
  none_first (p ∷ ps) h = let n : test p ≡ false = h 0 (omega arith) in rw n (none_first ps (λ k l. h (suc k) (omega arith)))

  first_here : (ps : List DebugInfoFixup) (i : ℕ) → i < length ps → ((k : ℕ) → k < i → test (get_or ps k no_row) ≡ false)
      → test (get_or ps i no_row) ≡ true → (first_of test ps ≡ Some (get_or ps i no_row)) × (without_first test ps ≡ take i ps ++ drop (suc i) ps)
  unfolding first_of without_first
  first_here [] i l h e = absurd (omega arith)
  first_here (p ∷ ps) zero l h e = let n : test p ≡ true = e in (rw n refl, rw n refl)
  first_here (p ∷ ps) (suc i) l h e =
      let n : test p ≡ false = h 0 (omega arith) in
      let r = first_here ps i (omega arith) (λ k m. h (suc k) (omega arith)) e in
      (rw n r.0, rw n (ap (λ (z : List DebugInfoFixup). p ∷ z) r.1))

-- a reference that stands, where none before it does, is the first
pub first_at : (size offset : ℕ) (ps : List DebugInfoFixup) (i : ℕ) → i < length ps
    → ((k : ℕ) → k < i → stands_at size offset (get_or ps k no_row) ≡ false) → stands_at size offset (get_or ps i no_row) ≡ true → FirstAt size offset ps i
first_at size offset ps i l h e =
    let r = first_here (stands_at size offset) ps i l h e in
    record { below = l; stands = e; first = r.0; freed = r.1 ∙ ap (λ (z : ℕ). take i ps ++ drop z ps) (sym (add-one i)) }

-- a reference that begins elsewhere does not stand at an offset
pub elsewhere : (size offset : ℕ) (p : DebugInfoFixup) → (p.offset ≡ offset → ⊥) → stands_at size offset p ≡ false
elsewhere size offset p ne = and_left (eqb p.offset offset) (leb (p.offset + p.width) size) (ne_eqb p.offset offset ne)

-- one that stands lies within the bytes
pub stands_within : (size offset : ℕ) (p : DebugInfoFixup) → stands_at size offset p ≡ true → p.offset + p.width ≤ size
stands_within size offset p h = leb-true (p.offset + p.width) size (and_parts (eqb p.offset offset) (leb (p.offset + p.width) size) h).1
