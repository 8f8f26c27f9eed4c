-- Numbers in a fixed width of bytes, written and read.
use Rattle.std.specs.Prelude.{ℕ, zero, suc, ◌+◌, ◌-◌, ◌*◌, ◌/◌, ◌%◌, ◌^◌, ◌<◌, Bool, true, false, cond, ◌||◌, List, [], ◌∷◌, reverse, ℤ, pos, negsuc, Ok, Err, Option, Result, ◌==◌, nat_lt}
use Rattle.common.specs.declared.error.Error.{Error}
use Rattle.common.specs.declared.error.Error.TheVariants.{ValueTooLarge, UnsupportedWordSize}
use Rattle.dwarf.specs.Reader.{Got, got, and_then, read_data, ReadsBack}

-- the low bytes of a number, so many of them, lowest first
abbrev pub low_bytes : ℕ → ℕ → List ℕ
low_bytes zero n = []
low_bytes (suc width) n = (n % 256) ∷ low_bytes width (n / 256)

-- the bytes of a number in a width: highest first where `big` holds, else lowest first
abbrev pub fixed_bytes : Bool → ℕ → ℕ → List ℕ
fixed_bytes true width n = reverse (low_bytes width n)
fixed_bytes false width n = low_bytes width n

-- the widths of unsigned data
abbrev pub is_width : ℕ → Bool
is_width width = width == 1 || (width == 2 || (width == 3 || (width == 4 || width == 8)))

-- a number that a width holds, or the refusal: first of the width, then of the number
abbrev pub in_width : ℕ → ℕ → Result ℕ Error
in_width width n = cond (is_width width) (cond (nat_lt n (256 ^ width)) (Ok n) (Err ValueTooLarge)) (Err (UnsupportedWordSize width))

-- the bytes of an unsigned number in a width, or the refusal: first of the width, then of the number
abbrev pub udata : Bool → ℕ → ℕ → Result (List ℕ) Error
udata big n width =
    cond (is_width width) (cond (nat_lt n (256 ^ width)) (Ok (fixed_bytes big width n)) (Err ValueTooLarge)) (Err (UnsupportedWordSize width))

-- the number that bytes are, lowest first
unfoldable pub number : List ℕ → ℕ
number [] = 0
number (b ∷ bytes) = b + 256 * number bytes

-- bytes with the lowest first, which is the last where `big` holds
abbrev pub lowest_first : Bool → List ℕ → List ℕ
lowest_first true bytes = reverse bytes
lowest_first false bytes = bytes

-- a number of that many bytes
unfoldable pub read_fixed : Bool → ℕ → List ℕ → Option (Got ℕ)
read_fixed big width bytes = and_then (read_data width bytes) (λ g. got (number (lowest_first big g.value)) g.rest)

-- the two's complement of a signed number in a width of bytes
abbrev pub twos_complement : ℕ → ℤ → ℕ
twos_complement width (pos n) = n
twos_complement width (negsuc m) = 256 ^ width - suc m

-- the signed number whose two's complement in a width of bytes is given: the highest bit is its sign
abbrev pub signed_of : ℕ → ℕ → ℤ
signed_of width n = cond (nat_lt (2 * n) (256 ^ width)) (pos n) (negsuc (256 ^ width - suc n))

-- every number reads back from a width that holds it, in either order
abbrev pub FixedReadsBack : Type 0
FixedReadsBack = (big : Bool) (width n : ℕ) → n < 256 ^ width → ReadsBack (read_fixed big width) (fixed_bytes big width n) n
