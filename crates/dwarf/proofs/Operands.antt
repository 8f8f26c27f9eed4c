-- The operands of codes that stand in a range.
use Rattle.std.proofs.Common.{◌≡◌, ℕ, ◌<◌, ◌≤◌, Bool, true, ◌&&◌, ltb, leb, List, [], ◌∷◌, ◌++◌, take, drop, Some, sym, refl, ap, ◌∙◌, inl, inr, arith}
use Rattle.std.proofs.lemmas.List.{take-append-drop}
use Rattle.std.proofs.lemmas.Bool.{and_parts, and_right, or_cases, leb-true, ltb-true, lt-leb, cond-true, cond-false}
use Rattle.common.specs.declared.encoding.Encoding.{Encoding}
use Rattle.dwarf.specs.Codes.{signed_number, Row, table, lookup, operands, within, is_plain}

-- rows that end before a code
abbrev pub before : ℕ → List Row → Bool
before c [] = true
before c (r ∷ rows) = ltb r.last c && before c rows

lookup_past : (a c : ℕ) (rows more : List Row) → before a rows ≡ true → a ≤ c → lookup (rows ++ more) c ≡ lookup more c
unfolding lookup
lookup_past a c [] more h l = refl
lookup_past a c (r ∷ rows) more h l =
    let p = and_parts (ltb r.last a) (before a rows) h in
    let less : r.last < c = omega (arith, ltb-true r.last a p.0) in
    cond-false _ _ _ (and_right (leb r.first c) (leb c r.last) (lt-leb c r.last less)) ∙ lookup_past a c rows more p.1 l

-- the codes of a row, after rows that end before it
pub operands_of_row : (e : Encoding) (k : ℕ) (r : Row) (more : List Row) (c : ℕ) → drop k (table e) ≡ r ∷ more → before r.first (take k (table e)) ≡ true
    → within r.first r.last c ≡ true → operands e c ≡ Some r.kinds
unfolding operands
operands_of_row e k r more c d b w =
    let p = and_parts (leb r.first c) (leb c r.last) w in
    ap (λ rows. lookup rows c) (sym (take-append-drop k (table e)))
    ∙ lookup_past r.first c (take k (table e)) (drop k (table e)) b (leb-true r.first c p.0)
    ∙ ap (λ rows. lookup rows c) d
    ∙ (unfold lookup in cond-true _ _ _ w)

pub operands_breg : (e : Encoding) (c : ℕ) → within 0x70 0x8f c ≡ true → operands e c ≡ Some (signed_number ∷ [])
unfolding table
operands_breg e c w = operands_of_row e 13 _ _ c refl refl w

pub operands-plain : (e : Encoding) (c : ℕ) → is_plain c ≡ true → operands e c ≡ Some []
unfolding table
operands-plain e c h =
    elim (or_cases (within 0x06 0x06 c) _ h) [
      | inl w ↦ operands_of_row e 1 _ _ c refl refl w
      | inr h ↦
          elim (or_cases (within 0x12 0x14 c) _ h) [
            | inl w ↦ operands_of_row e 4 _ _ c refl refl w
            | inr h ↦
                elim (or_cases (within 0x16 0x22 c) _ h) [
                  | inl w ↦ operands_of_row e 6 _ _ c refl refl w
                  | inr h ↦
                      elim (or_cases (within 0x24 0x27 c) _ h) [
                        | inl w ↦ operands_of_row e 8 _ _ c refl refl w
                        | inr h ↦
                            elim (or_cases (within 0x29 0x2e c) _ h) [
                              | inl w ↦ operands_of_row e 10 _ _ c refl refl w
                              | inr h ↦
                                  elim (or_cases (within 0x30 0x6f c) _ h) [
                                    | inl w ↦ operands_of_row e 12 _ _ c refl refl w
                                    | inr h ↦
                                        elim (or_cases (within 0x96 0x97 c) _ h) [
                                          | inl w ↦ operands_of_row e 19 _ _ c refl refl w
                                          | inr h ↦
                                              elim (or_cases (within 0x9b 0x9c c) (within 0x9f 0x9f c) h) [ inl w ↦ operands_of_row e 22 _ _ c refl refl w | inr w ↦ operands_of_row e 25 _ _ c refl refl w ]
                                        ]
                                  ]
                            ]
                      ]
                ]
          ]
    ]
