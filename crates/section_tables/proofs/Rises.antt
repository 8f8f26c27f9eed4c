-- References whose offsets rise.
use Rattle.std.proofs.Common.{◌≡◌, ℕ, zero, suc, ◌+◌, ◌<◌, ◌≤◌, Bool, true, false, leb, ltb, List, [], ◌∷◌, ◌++◌, length, get_or, take, drop, Some, None, Option, sym, refl, ap, ◌∙◌, inl, inr, add-one, arith}
use Rattle.std.proofs.lemmas.Bool.{leb-true, le-leb, ltb-true, ltb-false, and_parts, and_from, cases_lt}
use Rattle.std.proofs.lemmas.List.Sorted.{IsPartitionedBy-ltb}
use Rattle.std.specs.Bool.{then_some}
use Rattle.std.specs.Borrow.{Bor}
use Rattle.std.specs.Slice.{IsItemAt}
use Rattle.std.specs.List.Sorted.{IsPartitionPoint, IsPartitionedBy}
use Rattle.common.specs.declared.fixup.DebugInfoFixup.{DebugInfoFixup}
use Rattle.dwarf.specs.Fixed.{is_width}
use Rattle.claim.specs.Calls.{stands_at, first_of}
use Rattle.section_tables.specs.Rows.{no_row, rise, wide, FirstAt, Found}
use Rattle.section_tables.proofs.Firsts.{none_first, first_at, elsewhere}

parts : (least : ℕ) (p : DebugInfoFixup) (ps : List DebugInfoFixup) → rise least (p ∷ ps) ≡ true
    → (leb least p.offset ≡ true) × (rise (p.offset + 1) ps ≡ true)
parts least p ps r = and_parts (leb least p.offset) (rise (p.offset + 1) ps) r

rise_from : (least : ℕ) (ps : List DebugInfoFixup) (k : ℕ) (d : DebugInfoFixup) → rise least ps ≡ true → k < length ps → least ≤ (get_or ps k d).offset
rise_from least [] k d r l = absurd (omega arith)
rise_from least (p ∷ ps) zero d r l = leb-true least p.offset (parts least p ps r).0
rise_from least (p ∷ ps) (suc k) d r l =
    let a = leb-true least p.offset (parts least p ps r).0 in
    let b = rise_from (p.offset + 1) ps k d (parts least p ps r).1 (omega arith) in omega arith

-- of two references the one behind begins behind
pub rise_less : (least : ℕ) (ps : List DebugInfoFixup) (i j : ℕ) (d : DebugInfoFixup) → rise least ps ≡ true → i < j → j < length ps
    → (get_or ps i d).offset < (get_or ps j d).offset
rise_less least [] i j d r m l = absurd (omega arith)
rise_less least (p ∷ ps) i zero d r m l = absurd (omega arith)
rise_less least (p ∷ ps) zero (suc j) d r m l = let b = rise_from (p.offset + 1) ps j d (parts least p ps r).1 (omega arith) in omega arith
rise_less least (p ∷ ps) (suc i) (suc j) d r m l = rise_less (p.offset + 1) ps i j d (parts least p ps r).1 (omega arith) (omega arith)

pub rise_lower : (least less : ℕ) (ps : List DebugInfoFixup) → less ≤ least → rise least ps ≡ true → rise less ps ≡ true
rise_lower least less [] l r = refl
rise_lower least less (p ∷ ps) l r =
    let a = leb-true least p.offset (parts least p ps r).0 in
    and_from (leb less p.offset) (rise (p.offset + 1) ps) (le-leb less p.offset (omega arith)) (parts least p ps r).1

-- what is left when one is taken out still rises
rise_without : (least : ℕ) (ps : List DebugInfoFixup) (i : ℕ) → rise least ps ≡ true → rise least (take i ps ++ drop (suc i) ps) ≡ true
rise_without least [] zero r = refl
rise_without least [] (suc i) r = refl
rise_without least (p ∷ ps) zero r =
    let a = leb-true least p.offset (parts least p ps r).0 in
    rise_lower (p.offset + 1) least ps (omega arith) (parts least p ps r).1
rise_without least (p ∷ ps) (suc i) r =
    and_from (leb least p.offset) (rise (p.offset + 1) (take i ps ++ drop (suc i) ps)) (parts least p ps r).0
    (rise_without (p.offset + 1) ps i (parts least p ps r).1)

-- so with their widths
wide_without : (ps : List DebugInfoFixup) (i : ℕ) → wide ps ≡ true → wide (take i ps ++ drop (suc i) ps) ≡ true
wide_without [] zero w = refl
wide_without [] (suc i) w = refl
wide_without (p ∷ ps) zero w = (and_parts (is_width p.width) (wide ps) w).1
wide_without (p ∷ ps) (suc i) w =
    let h = and_parts (is_width p.width) (wide ps) w in
    and_from (is_width p.width) (wide (take i ps ++ drop (suc i) ps)) h.0 (wide_without ps i h.1)

pub wide-freed : (ps qs : List DebugInfoFixup) (i : ℕ) → qs ≡ take i ps ++ drop (i + 1) ps → wide ps ≡ true → wide qs ≡ true
wide-freed ps qs i e w = ap wide (e ∙ ap (λ (z : ℕ). take i ps ++ drop z ps) (add-one i)) ∙ wide_without ps i w

pub wide_at : (ps : List DebugInfoFixup) (i : ℕ) → i < length ps → wide ps ≡ true → is_width (get_or ps i no_row).width ≡ true
wide_at [] i l w = absurd (omega arith)
wide_at (p ∷ ps) zero l w = (and_parts (is_width p.width) (wide ps) w).0
wide_at (p ∷ ps) (suc i) l w = wide_at ps i (omega arith) (and_parts (is_width p.width) (wide ps) w).1

-- the references before a place begin before an offset, and those from it on do not
pub record SplitAt (offset : ℕ) (ps : List DebugInfoFixup) (i : ℕ) : Type 0 where
  pub within : i ≤ length ps
  pub before : (k : ℕ) → k < i → (get_or ps k no_row).offset < offset
  pub behind : (k : ℕ) → i ≤ k → k < length ps → offset ≤ (get_or ps k no_row).offset

module _ (offset : ℕ) (ps : List DebugInfoFixup) where
  -- those that begin before an offset come first
  pub parted : rise 0 ps ≡ true → IsPartitionedBy (λ (p : DebugInfoFixup). ltb p.offset offset) ps
  parted r = IsPartitionedBy-ltb (λ (p : DebugInfoFixup). p.offset) ps offset (λ i j d l m.
      elim (cases_lt i j) [
        | inl a ↦ let z = rise_less 0 ps i j d r a m in omega arith
        | inr a ↦ let e : i ≡ j = omega arith in let z : (get_or ps i d).offset ≡ (get_or ps j d).offset = ap (λ (k : ℕ). (get_or ps k d).offset) e in omega arith
      ])

  pub split : (i : ℕ) → i ≤ length ps → IsPartitionPoint (λ (p : DebugInfoFixup). ltb p.offset offset ≡ true) (λ (p : DebugInfoFixup). ltb p.offset offset ≡ false) ps i → SplitAt offset ps i
  split i l h = record {
    within = l;
    before = λ k m. ltb-true _ offset (h.0 k no_row (omega arith) m);
    behind = λ k m n. ltb-false _ offset (h.1 k no_row m n);
  }

-- whether a reference, where there is one, begins at an offset and lies within so many bytes
abbrev pub standing : ℕ → ℕ → Option (Bor DebugInfoFixup) → Bool
standing size offset None = false
standing size offset (Some p) = stands_at size offset p.now

module _ (offset : ℕ) (ps : List DebugInfoFixup) (r : rise 0 ps ≡ true) where
  module _ (size i : ℕ) (s : SplitAt offset ps i) where
    before_not : (k : ℕ) → k < i → stands_at size offset (get_or ps k no_row) ≡ false
    before_not k l = let z = s.before k l in elsewhere size offset (get_or ps k no_row) (λ e. omega arith)

    pub split_first : i < length ps → stands_at size offset (get_or ps i no_row) ≡ true → FirstAt size offset ps i
    split_first l e = first_at size offset ps i l before_not e

    pub split_other : i < length ps → stands_at size offset (get_or ps i no_row) ≡ false → first_of (stands_at size offset) ps ≡ None
    split_other l e = none_first (stands_at size offset) ps (λ k m.
        elim (cases_lt k i) [
          | inl a ↦ before_not k a
          | inr a ↦ elim (cases_lt i k) [
            | inl c ↦ let x = s.behind i (omega arith) l in let y = rise_less 0 ps i k no_row r c m in elsewhere size offset (get_or ps k no_row) (λ z. omega arith)
            | inr c ↦ let z : i ≡ k = omega arith in rw (← z) e
          ]
        ])

    pub split_none : length ps ≤ i → first_of (stands_at size offset) ps ≡ None
    split_none l = none_first (stands_at size offset) ps (λ k m. before_not k (omega arith))

    -- so the reference at that place, where there is one, is the only one that can stand
    pub split_found : (r : Option (Bor DebugInfoFixup)) → IsItemAt ps i r → Found size offset ps (then_some (standing size offset r) i)
    split_found None h = split_none h.3
    split_found (Some p) h = go (stands_at size offset p.now) (ap (stands_at size offset) (h.3.1 no_row))
      where
        go : (b : Bool) → b ≡ stands_at size offset (get_or ps i no_row) → Found size offset ps (then_some b i)
        go true e = split_first h.3.0 (sym e)
        go false e = split_other h.3.0 (sym e)

pub rise-freed : (ps qs : List DebugInfoFixup) (i : ℕ) → qs ≡ take i ps ++ drop (i + 1) ps → rise 0 ps ≡ true → rise 0 qs ≡ true
rise-freed ps qs i e r = ap (rise 0) (e ∙ ap (λ (z : ℕ). take i ps ++ drop z ps) (add-one i)) ∙ rise_without 0 ps i r
