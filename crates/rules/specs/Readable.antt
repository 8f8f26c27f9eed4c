-- The expressions whose bytes tell their operations.
use Rattle.std.specs.Prelude.{ℕ, Bool, true, false, ◌&&◌, ◌||◌, List, [], ◌∷◌, nat_le}
use Rattle.rules.specs.Kinds.{Kind, given, bare, branch, nesting, other, kind_of}
use Rattle.rules.specs.Tree.{Tree, end, plain, nest}

-- codes without operands: first and last of each range (DWARF 5, section 7.7.1)
abbrev pub bare_codes : List (ℕ × ℕ)
bare_codes =
    (0x06, 0x06) ∷ (0x12, 0x14) ∷ (0x16, 0x22) ∷ (0x24, 0x27) ∷ (0x29, 0x2e) ∷ (0x30, 0x6f) ∷ (0x96, 0x97) ∷ (0x9b, 0x9c) ∷ (0x9f, 0x9f) ∷ []

-- whether a number lies in one of the ranges
abbrev pub among : List (ℕ × ℕ) → ℕ → Bool
among [] c = false
among (range ∷ ranges) c = (nat_le range.0 c && nat_le c range.1) || among ranges c

-- no bytes as they are given, and no code given that has operands or is not in the table
abbrev pub readable_kind : Kind → Bool
readable_kind given = false
readable_kind (bare c) = among bare_codes c
readable_kind (branch target) = true
readable_kind (nesting n) = true
readable_kind other = true

-- an expression is readable when its operations and its nested expressions are
abbrev pub readable : Tree → Bool
readable end = true
readable (plain o bs t) = readable_kind (kind_of o) && readable t
readable (nest y t) = readable y && readable t
