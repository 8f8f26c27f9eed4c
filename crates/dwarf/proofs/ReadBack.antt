-- Well-formed tokens read back, at any nesting.
use Rattle.std.proofs.Common.{◌≡◌, ℕ, zero, suc, ◌+◌, ◌^◌, ◌<◌, Bool, List, ◌∷◌, ◌++◌, length, ℤ, Some, refl, ap, inl, inr, arith, length-append}
use Rattle.common.specs.declared.encoding.Encoding.{Encoding}
use Rattle.dwarf.specs.Reader.{got, ReadsBack}
use Rattle.dwarf.specs.Leb.{uleb, sleb, read_uleb, read_sleb, magnitude}
use Rattle.dwarf.specs.Fixed.{fixed_bytes, read_fixed, twos_complement}
use Rattle.dwarf.specs.Tokens.{Tokens, displacement}
use Rattle.dwarf.specs.Codes.{Kind}
use Rattle.dwarf.specs.Bytes.{bytes_of, size_of}
use Rattle.dwarf.specs.Reading.{read_counted, read_short, reading, read}
use Rattle.dwarf.specs.References.{references, shown}
use Rattle.dwarf.specs.WellFormed.{WellFormed, at_end, at_code, at_unsigned, at_signed, at_fixed, at_displacement, at_block, at_short, at_nested, at_reference, NumbersFit, TokensReadBack}
use Rattle.dwarf.proofs.Uleb.{uleb_reads_back, uleb_nonempty}
use Rattle.dwarf.proofs.Sleb.{sleb_reads_back, sleb_nonempty}
use Rattle.dwarf.proofs.Widths.{length_fixed, data_reads_back, fixed_reads_back, signed_of_complement, complement-fits, width_positive}
use Rattle.dwarf.proofs.Sizes.{length-shown}
use Rattle.dwarf.proofs.Placeholders.{in_left, in_right}

-- what each operand reads as
unsigned_back : (n : ℕ) (rest : List ℕ) → n < 2 ^ 64 → read_uleb (uleb n ++ rest) ≡ got n rest
unfolding ReadsBack
unsigned_back n rest h = uleb_reads_back n h rest

signed_back : (z : ℤ) (rest : List ℕ) → magnitude z < 2 ^ 63 → read_sleb (sleb z ++ rest) ≡ got z rest
unfolding ReadsBack
signed_back z rest h = sleb_reads_back z h rest

fixed_back : (big : Bool) (width n : ℕ) (rest : List ℕ) → n < 256 ^ width → read_fixed big width (fixed_bytes big width n ++ rest) ≡ got n rest
unfolding ReadsBack
fixed_back big width n rest h = fixed_reads_back big width n h rest

counted_back : (bytes rest : List ℕ) → length bytes < 2 ^ 64 → read_counted (uleb (length bytes) ++ (bytes ++ rest)) ≡ got bytes rest
unfolding read_counted
counted_back bytes rest h = rw (unsigned_back (length bytes) (bytes ++ rest) h) (data_reads_back bytes rest (length bytes) refl)

short_back : (bytes rest : List ℕ) → read_short (length bytes ∷ (bytes ++ rest)) ≡ got bytes rest
unfolding read_short
short_back bytes rest = data_reads_back bytes rest (length bytes) refl

module _ (big : Bool) (e : Encoding) (value : ℕ → ℕ) where
  abbrev bytes : ℕ → Tokens → List ℕ
  bytes at ts = bytes_of big (shown value at ts)

  reads : (steps at : ℕ) {kinds : List Kind} {ts : Tokens} → WellFormed e kinds ts → NumbersFit value (references at ts)
      → length (bytes at ts) < steps → reading steps big e kinds (bytes at ts) ≡ Some (shown value at ts)
  unfolding reading bytes_of shown references
  reads zero at w fit h = absurd (omega arith)
  reads (suc steps) at at_end fit h = refl
  reads (suc steps) at (at_code k w) fit h = rw (k, reads steps (at + 1) w fit (omega arith))
  reads (suc steps) at (at_unsigned {n = n} {ts = ts} l w) fit h =
      let next : ℕ = at + length (uleb n) in
      let some = uleb_nonempty n in
      let less : length (bytes next ts) < steps = omega (arith, length-append (uleb n) (bytes next ts)) in
      rw (unsigned_back n (bytes next ts) l, reads steps next w fit less)
  reads (suc steps) at (at_signed {z = z} {ts = ts} l w) fit h =
      let next : ℕ = at + length (sleb z) in
      let some = sleb_nonempty z in
      let less : length (bytes next ts) < steps = omega (arith, length-append (sleb z) (bytes next ts)) in
      rw (signed_back z (bytes next ts) l, reads steps next w fit less)
  reads (suc steps) at (at_fixed {width = width} {n = n} {ts = ts} k l w) fit h =
      let next : ℕ = at + width in
      let some = width_positive width k in
      let less : length (bytes next ts) < steps = omega (arith, length-append (fixed_bytes big width n) (bytes next ts), length_fixed big width n) in
      rw (k, fixed_back big width n (bytes next ts) l, reads steps next w fit less)
  reads (suc steps) at (at_displacement {z = z} {ts = ts} l w) fit h =
      let next : ℕ = at + 2 in
      let n : ℕ = twos_complement 2 z in
      let less : length (bytes next ts) < steps = omega (arith, length-append (fixed_bytes big 2 n) (bytes next ts), length_fixed big 2 n) in
      rw (fixed_back big 2 n (bytes next ts) (complement-fits 2 z (omega arith)), reads steps next w fit less)
      (ap (λ x. Some (displacement x (shown value next ts))) (signed_of_complement 2 z (omega arith)))
  reads (suc steps) at (at_block {bytes = bs} {ts = ts} l w) fit h =
      let next : ℕ = at + length (uleb (length bs)) + length bs in
      let some = uleb_nonempty (length bs) in
      let less : length (bytes next ts) < steps = omega (arith, length-append (uleb (length bs)) (bs ++ bytes next ts), length-append bs (bytes next ts)) in
      rw (counted_back bs (bytes next ts) l, reads steps next w fit less)
  reads (suc steps) at (at_short {bytes = bs} {ts = ts} l w) fit h =
      let next : ℕ = at + 1 + length bs in
      let less : length (bytes next ts) < steps = omega (arith, length-append bs (bytes next ts)) in
      rw (short_back bs (bytes next ts), reads steps next w fit less)
  reads (suc steps) at (at_nested {inner = inner} {ts = ts} l v w) fit h =
      let in_at : ℕ = at + length (uleb (size_of inner)) in
      let next : ℕ = in_at + size_of inner in
      let some = uleb_nonempty (length (bytes in_at inner)) in
      let size = length-shown big value in_at inner in
      let all = length-append (uleb (length (bytes in_at inner))) (bytes in_at inner ++ bytes next ts) in
      let both = length-append (bytes in_at inner) (bytes next ts) in
      let less : length (bytes next ts) < steps = omega arith in
      let less_in : length (bytes in_at inner) < steps = omega arith in
      let fit_in : NumbersFit value (references in_at inner) = λ p k. fit p (in_left p (references in_at inner) (references next ts) k) in
      let fit_next : NumbersFit value (references next ts) = λ p k. fit p (in_right p (references in_at inner) (references next ts) k) in
      rw (counted_back (bytes in_at inner) (bytes next ts) (omega arith), reads steps in_at v fit_in less_in, reads steps next w fit_next less)
  reads (suc steps) at (at_reference {width = width} {unit = unit} {entry = entry} {ts = ts} k w) fit h =
      let next : ℕ = at + width in
      let some = width_positive width k in
      let fits : value at < 256 ^ width = fit (record { offset = at; width = width; unit = unit; entry = entry }) (inl refl) in
      let less : length (bytes next ts) < steps = omega (arith, length-append (fixed_bytes big width (value at)) (bytes next ts), length_fixed big width (value at)) in
      rw (k, fixed_back big width (value at) (bytes next ts) fits, reads steps next w (λ p i. fit p (inr i)) less)

pub tokens_read_back : TokensReadBack
unfolding read
tokens_read_back big e value at ts w fit = reads big e value (suc (length (bytes_of big (shown value at ts)))) at w fit (omega arith)
