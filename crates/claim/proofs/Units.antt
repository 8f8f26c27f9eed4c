-- The offsets of entries: those that are placed stay, whatever units begin and whatever else is placed.
use Rattle.std.proofs.Common.{◌≡◌, ℕ, ◌<◌, Bool, true, false, cond, ltb, ◌⊎◌, List, [], ◌∷◌, ◌++◌, length, get_or, set, replicate, Some, None, Option, sym, refl, ap, ◌∙◌, subst, inl, inr, arith, length-append, length-set, get_or-set_other, get_or-set_same}
use lib.ListN.{get_or-append, get_or-replicate, length-replicate}
use Rattle.std.proofs.lemmas.List.{get_or_past}
use lib.Seq.{get_or-append_seam}
use Rattle.std.proofs.lemmas.Bool.{cases_eq, cases_lt, lt-ltb}
use Rattle.common.specs.declared.encoding.Encoding.{Encoding}
use Rattle.unit.specs.declared.UnitOffsets.{UnitOffsets}
use Rattle.claim.specs.Section.{no_unit, unit_at, entry_offset, fresh_unit, with_entry, placed_in}

some_none : {A : Type 0} (P : Type 0) (a : A) (o : Option A) → o ≡ None → o ≡ Some a → P
some_none P a o e f = absurd cc

-- the offset as it stands in the table of entries
abbrev in_table : List UnitOffsets → ℕ → ℕ → Option ℕ
in_table us k x = get_or (unit_at us k).entries x None

begun-table : (us : List UnitOffsets) (k x n : ℕ) → in_table us k x ≡ Some n → k < length us
begun-table us k x n h =
    elim (cases_lt k (length us)) [
      | inl a ↦ a
      | inr a ↦ some_none (k < length us) n (in_table us k x) (ap (λ (u : UnitOffsets). get_or u.entries x None) (get_or_past us k no_unit a)) h
    ]

kept_unit : (us : List UnitOffsets) (u : UnitOffsets) (k x m : ℕ) → in_table us k x ≡ Some m → in_table (us ++ (u ∷ [])) k x ≡ Some m
kept_unit us u k x m h =
    let l : k < length us = begun-table us k x m h in
    ap (λ (v : UnitOffsets). get_or v.entries x None) (get_or-append us (u ∷ []) no_unit k l) ∙ h

fresh_none : (e : Encoding) (n x : ℕ) → get_or (fresh_unit e n).entries x None ≡ None
fresh_none e n x =
    let no : Option ℕ = None in
    elim (cases_lt x 128) [
      | inl a ↦ get_or-replicate 128 x no no a
      | inr a ↦ get_or_past (replicate 128 no) x no (let z : length (replicate 128 no) ≡ 128 = length-replicate 128 no in omega arith)
    ]

more_units : (us : List UnitOffsets) (e : Encoding) (n k x m : ℕ) → in_table (us ++ (fresh_unit e n ∷ [])) k x ≡ Some m → in_table us k x ≡ Some m
more_units us e n k x m h =
    let all : List UnitOffsets = us ++ (fresh_unit e n ∷ []) in
    let P : Type 0 = in_table us k x ≡ Some m in
    elim (cases_lt k (length us)) [
      | inl a ↦ ap (λ (v : UnitOffsets). get_or v.entries x None) (sym (get_or-append us (fresh_unit e n ∷ []) no_unit k a)) ∙ h
      | inr a ↦ elim (cases_eq k (length us)) [
        | inl b ↦ some_none P m (in_table all k x)
            (ap (λ (v : UnitOffsets). get_or v.entries x None) (ap (λ (i : ℕ). get_or all i no_unit) b ∙ get_or-append_seam us (fresh_unit e n) [] no_unit) ∙ fresh_none e n x) h
        | inr b ↦ some_none P m (in_table all k x)
            (ap (λ (v : UnitOffsets). get_or v.entries x None) (get_or_past all k no_unit (rw (length-append us (fresh_unit e n ∷ [])) (omega arith)))) h
      ]
    ]

kept_entry : (us : List UnitOffsets) (k x n j y m : ℕ) → in_table us k x ≡ None → in_table us j y ≡ Some m → in_table (placed_in us k x n) j y ≡ Some m
kept_entry us k x n j y m e h =
    let l : j < length us = begun-table us j y m h in
    elim (cases_eq j k) [
      | inl a ↦
          let c : get_or (placed_in us k x n) j no_unit ≡ with_entry (unit_at us k) x n =
          ap (λ (i : ℕ). get_or (placed_in us k x n) i no_unit) a ∙ get_or-set_same us k (with_entry (unit_at us k) x n) no_unit (subst (λ (i : ℕ). i < length us) a l) in
          let ne : y ≡ x → ⊥ = λ b. some_none ⊥ m (in_table us j y)
          (ap (λ (i : ℕ). in_table us i y) a ∙ ap (λ (i : ℕ). in_table us k i) b ∙ e) h in
          ap (λ (v : UnitOffsets). get_or v.entries y None) c
          ∙ get_or-set_other (unit_at us k).entries x y (Some n) None ne
          ∙ ap (λ (i : ℕ). in_table us i y) (sym a) ∙ h
      | inr a ↦ ap (λ (v : UnitOffsets). get_or v.entries y None) (get_or-set_other us k j (with_entry (unit_at us k) x n) no_unit a) ∙ h
    ]

more_entries : (us : List UnitOffsets) (k x n j y m : ℕ) → k < length us → in_table (placed_in us k x n) j y ≡ Some m → (n ≡ m) ⊎ (in_table us j y ≡ Some m)
more_entries us k x n j y m l h =
    elim (cases_eq j k) [
      | inl a ↦
          let entries : List (Option ℕ) = (unit_at us k).entries in
          let c : get_or (placed_in us k x n) j no_unit ≡ with_entry (unit_at us k) x n =
          ap (λ (i : ℕ). get_or (placed_in us k x n) i no_unit) a ∙ get_or-set_same us k (with_entry (unit_at us k) x n) no_unit l in
          let g : get_or (set entries x (Some n)) y None ≡ Some m = ap (λ (v : UnitOffsets). get_or v.entries y None) (sym c) ∙ h in
          elim (cases_eq y x) [
            | inl b ↦ elim (cases_lt x (length entries)) [
              | inl d ↦
                  let f : get_or (set entries x (Some n)) y None ≡ Some n =
                  ap (λ (i : ℕ). get_or (set entries x (Some n)) i None) b ∙ get_or-set_same entries x (Some n) None d in
                  inl cc
              | inr d ↦ some_none _ m (get_or (set entries x (Some n)) y None)
                  (get_or_past (set entries x (Some n)) y None (rw (length-set entries x (Some n)) (omega arith))) g
            ]
            | inr b ↦ inr (ap (λ (i : ℕ). in_table us i y) a ∙ sym (get_or-set_other entries x y (Some n) None b) ∙ g)
          ]
      | inr a ↦ inr (ap (λ (v : UnitOffsets). get_or v.entries y None) (sym (get_or-set_other us k j (with_entry (unit_at us k) x n) no_unit a)) ∙ h)
    ]

-- a unit has 128 entries: what holds of the table holds of them
below : (b : Bool) (m : ℕ) (o o' : Option ℕ) → (o ≡ Some m → o' ≡ Some m) → cond b o None ≡ Some m → cond b o' None ≡ Some m
below true m o o' f h = f h
below false m o o' f h = h

pub begun : (us : List UnitOffsets) (k x n : ℕ) → entry_offset us k x ≡ Some n → k < length us
unfolding entry_offset
begun us k x n h = go (ltb x 128) h
  where
    go : (b : Bool) → cond b (in_table us k x) None ≡ Some n → k < length us
    go true e = begun-table us k x n e
    go false e = some_none (k < length us) n None refl e

pub kept_by_unit : (us : List UnitOffsets) (u : UnitOffsets) (k x m : ℕ) → entry_offset us k x ≡ Some m → entry_offset (us ++ (u ∷ [])) k x ≡ Some m
unfolding entry_offset
kept_by_unit us u k x m h = below (ltb x 128) m (in_table us k x) (in_table (us ++ (u ∷ [])) k x) (kept_unit us u k x m) h

pub of_more_units : (us : List UnitOffsets) (e : Encoding) (n k x m : ℕ) → entry_offset (us ++ (fresh_unit e n ∷ [])) k x ≡ Some m → entry_offset us k x ≡ Some m
unfolding entry_offset
of_more_units us e n k x m h = below (ltb x 128) m (in_table (us ++ (fresh_unit e n ∷ [])) k x) (in_table us k x) (more_units us e n k x m) h

pub kept_by_entry : (us : List UnitOffsets) (k x n j y m : ℕ) → x < 128 → entry_offset us k x ≡ None → entry_offset us j y ≡ Some m
    → entry_offset (placed_in us k x n) j y ≡ Some m
unfolding entry_offset
kept_by_entry us k x n j y m l e h =
    let free : in_table us k x ≡ None = rw (lt-ltb x 128 l) at e in
    below (ltb y 128) m (in_table us j y) (in_table (placed_in us k x n) j y) (kept_entry us k x n j y m free) h

pub of_more_entries : (us : List UnitOffsets) (k x n j y m : ℕ) → k < length us → entry_offset (placed_in us k x n) j y ≡ Some m
    → (n ≡ m) ⊎ (entry_offset us j y ≡ Some m)
unfolding entry_offset
of_more_entries us k x n j y m l h = go (ltb y 128) h
  where
    go : (b : Bool) → cond b (in_table (placed_in us k x n) j y) None ≡ Some m → (n ≡ m) ⊎ (cond b (in_table us j y) None ≡ Some m)
    go true e = more_entries us k x n j y m l e
    go false e = inr e
