-- The numbers of a script. Characters stand as their ASCII codes.
use Rattle.std.specs.Prelude.{ℕ, ◌+◌, ◌-◌, ◌^◌, Bool, cond, ◌&&◌, List, [], ◌∷◌, ℤ, pos, neg_ℤ, Some, None, codes, Option, nat_le, nat_lt}
use Rattle.std.specs.Option.{option_map}
use Rattle.std.specs.Int.Digits.{number_from_digits}
use Rattle.words.specs.Text.{stripped}

-- whether a character lies between two others, these included
abbrev pub lies : ℕ → ℕ → ℕ → Bool
lies low high c = nat_le low c && nat_le c high

-- the value of a hexadecimal digit: 0 to 9, a to f, A to F
abbrev pub hex_digit : ℕ → Option ℕ
hex_digit c =
    cond (lies 48 57 c) (Some (c - 48)) (cond (lies 97 102 c) (Some (c - 87)) (cond (lies 65 70 c) (Some (c - 55)) None))

-- a number, where it is below a limit
abbrev pub below : ℕ → Option ℕ → Option ℕ
below limit None = None
below limit (Some n) = cond (nat_lt n limit) (Some n) None

-- the value of a digit in a base of at most 16
abbrev pub digit_in : ℕ → ℕ → Option ℕ
digit_in base c = below base (hex_digit c)

-- a list with one more element in front, where both are there
abbrev pub onto : {A : Type 0} → Option A → Option (List A) → Option (List A)
onto None xs = None
onto (Some x) None = None
onto (Some x) (Some xs) = Some (x ∷ xs)

-- the values of digits, where all are digits
abbrev pub digits_in : ℕ → List ℕ → Option (List ℕ)
digits_in base [] = Some []
digits_in base (c ∷ cs) = onto (digit_in base c) (digits_in base cs)

-- the number that one or more digits of a base write
abbrev pub numeral : ℕ → List ℕ → Option ℕ
numeral base [] = None
numeral base (c ∷ cs) = option_map (number_from_digits base) (digits_in base (c ∷ cs))

-- a word of `0x` and hexadecimal digits, or of decimal digits
abbrev pub plain : List ℕ → Option ℕ
plain cs = elim (stripped (codes "0x") cs) [ Some ds ↦ numeral 16 ds | None ↦ numeral 10 cs ]

-- a word that is a number of 0 to `most`
abbrev pub number_of : ℕ → List ℕ → Option ℕ
number_of most cs = below (most + 1) (plain cs)

-- a word that is a number of -2^63 to 2^63 - 1: a leading `-` makes it negative
abbrev pub signed_of : List ℕ → Option ℤ
signed_of cs =
    elim (stripped (codes "-") cs) [ Some ds ↦ option_map (λ n. neg_ℤ (pos n)) (number_of (2 ^ 63) ds) | None ↦ option_map pos (number_of (2 ^ 63 - 1) cs) ]
