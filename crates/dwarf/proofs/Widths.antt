-- Numbers in a fixed width: their length, and that they read back, signed ones too.
use Rattle.std.proofs.Common.{◌≡◌, ℕ, zero, suc, ◌+◌, ◌-◌, ◌*◌, ◌/◌, ◌^◌, ◌<◌, ◌≤◌, Bool, true, false, List, ◌++◌, length, ℤ, pos, negsuc, refl, ap, ◌∙◌, pow-suc, arith, length-append, take_at, drop_at}
use mathlib.Core.List.{reverse-reverse}
use lib.ListN.{length-reverse}
use Rattle.std.proofs.lemmas.Bool.{le-leb, lt-ltb, le-ltb, cond-true, cond-false, false≢true}
use Rattle.dwarf.specs.Reader.{got, read_data, ReadsBack}
use Rattle.dwarf.specs.Leb.{magnitude}
use Rattle.dwarf.specs.Fixed.{low_bytes, fixed_bytes, is_width, number, lowest_first, read_fixed, twos_complement, signed_of, FixedReadsBack}
use Rattle.dwarf.proofs.Optional.{got_same}

length-low_bytes : (width n : ℕ) → length (low_bytes width n) ≡ width
length-low_bytes zero n = refl
length-low_bytes (suc width) n = ap suc (length-low_bytes width (n / 256))

number-low_bytes : (width n : ℕ) → n < 256 ^ width → number (low_bytes width n) ≡ n
unfolding number
number-low_bytes zero n h = omega arith
number-low_bytes (suc width) n h =
    let p : 256 ^ suc width ≡ 256 ^ width * 256 = pow-suc 256 width in
    let less : n / 256 < 256 ^ width = omega arith in
    rw (number-low_bytes width (n / 256) less) (omega arith)

pub length_fixed : (big : Bool) (width n : ℕ) → length (fixed_bytes big width n) ≡ width
length_fixed true width n = length-reverse (low_bytes width n) ∙ length-low_bytes width n
length_fixed false width n = length-low_bytes width n

pub number_fixed : (big : Bool) (width n : ℕ) → n < 256 ^ width → number (lowest_first big (fixed_bytes big width n)) ≡ n
number_fixed true width n h = ap number (reverse-reverse (low_bytes width n)) ∙ number-low_bytes width n h
number_fixed false width n h = number-low_bytes width n h

-- bytes are read as they stand
pub data_reads_back : (bytes rest : List ℕ) (count : ℕ) → length bytes ≡ count → read_data count (bytes ++ rest) ≡ got bytes rest
data_reads_back bytes rest count l =
    let fits : count ≤ length (bytes ++ rest) = simp length-append (omega arith) in
    rw (le-leb count (length (bytes ++ rest)) fits, take_at bytes rest count l, drop_at bytes rest count l)

pub fixed_reads_back : FixedReadsBack
unfolding read_fixed ReadsBack
fixed_reads_back big width n h rest =
    rw (data_reads_back (fixed_bytes big width n) rest width (length_fixed big width n)) (got_same rest (number_fixed big width n h))

-- a signed number that a width holds is the one of its two's complement
pub signed_of_complement : (width : ℕ) (z : ℤ) → 2 * magnitude z + 2 ≤ 256 ^ width → signed_of width (twos_complement width z) ≡ z
signed_of_complement width (pos n) h = cond-true _ _ _ (lt-ltb (2 * n) (256 ^ width) (omega arith))
signed_of_complement width (negsuc m) h =
    let e : 256 ^ width - suc (256 ^ width - suc m) ≡ m = omega arith in
    cond-false _ _ _ (le-ltb (2 * (256 ^ width - suc m)) (256 ^ width) (omega arith)) ∙ ap negsuc e

pub complement-fits : (width : ℕ) (z : ℤ) → 2 * magnitude z + 2 ≤ 256 ^ width → twos_complement width z < 256 ^ width
complement-fits width (pos n) h = omega arith
complement-fits width (negsuc m) h = omega arith

-- a width of data is a byte at least
pub width_positive : (width : ℕ) → is_width width ≡ true → 0 < width
width_positive zero h = absurd (false≢true h)
width_positive (suc width) h = omega arith
