-- Well-formed tokens: their references are wide, and numbers that fit keep the form.
use Rattle.std.proofs.Common.{ℕ, ◌+◌, List, length, refl, inl, inr}
use Rattle.common.specs.declared.encoding.Encoding.{Encoding}
use Rattle.dwarf.specs.Leb.{uleb, sleb}
use Rattle.dwarf.specs.Tokens.{Tokens}
use Rattle.dwarf.specs.Codes.{Kind}
use Rattle.dwarf.specs.Bytes.{size_of}
use Rattle.dwarf.specs.References.{references, shown, Wide}
use Rattle.dwarf.specs.WellFormed.{WellFormed, at_end, at_code, at_unsigned, at_signed, at_fixed, at_displacement, at_block, at_short, at_nested, at_reference, NumbersFit}
use Rattle.dwarf.proofs.Widths.{width_positive}
use Rattle.dwarf.proofs.Sizes.{size_shown}
use Rattle.dwarf.proofs.Placeholders.{in_left, in_right}

pub formed_wide : {e : Encoding} {kinds : List Kind} {ts : Tokens} → WellFormed e kinds ts → Wide ts
formed_wide at_end = tt
formed_wide (at_code o w) = formed_wide w
formed_wide (at_unsigned l w) = formed_wide w
formed_wide (at_signed l w) = formed_wide w
formed_wide (at_fixed k l w) = formed_wide w
formed_wide (at_displacement l w) = formed_wide w
formed_wide (at_block l w) = formed_wide w
formed_wide (at_short l w) = formed_wide w
formed_wide (at_nested l i w) = (formed_wide i, formed_wide w)
formed_wide (at_reference {width = width} k w) = (width_positive width k, formed_wide w)

pub formed_shown : (e : Encoding) (value : ℕ → ℕ) (at : ℕ) {kinds : List Kind} {ts : Tokens} → WellFormed e kinds ts → NumbersFit value (references at ts)
    → WellFormed e kinds (shown value at ts)
unfolding references shown
formed_shown e value at at_end fit = at_end
formed_shown e value at (at_code o w) fit = at_code o (formed_shown e value (at + 1) w fit)
formed_shown e value at (at_unsigned {n = n} l w) fit = at_unsigned l (formed_shown e value (at + length (uleb n)) w fit)
formed_shown e value at (at_signed {z = z} l w) fit = at_signed l (formed_shown e value (at + length (sleb z)) w fit)
formed_shown e value at (at_fixed {width = width} k l w) fit = at_fixed k l (formed_shown e value (at + width) w fit)
formed_shown e value at (at_displacement l w) fit = at_displacement l (formed_shown e value (at + 2) w fit)
formed_shown e value at (at_block {bytes = bs} l w) fit = at_block l (formed_shown e value (at + length (uleb (length bs)) + length bs) w fit)
formed_shown e value at (at_short {bytes = bs} l w) fit = at_short l (formed_shown e value (at + 1 + length bs) w fit)
formed_shown e value at (at_nested {inner = inner} {ts = ts} l i w) fit =
    let in_at : ℕ = at + length (uleb (size_of inner)) in
    let next : ℕ = in_at + size_of inner in
    at_nested (rw (size_shown value in_at inner) l)
    (formed_shown e value in_at i (λ p k. fit p (in_left p (references in_at inner) (references next ts) k)))
    (formed_shown e value next w (λ p k. fit p (in_right p (references in_at inner) (references next ts) k)))
formed_shown e value at (at_reference {width = width} {unit = unit} {entry = entry} k w) fit =
    at_fixed k (fit (record { offset = at; width = width; unit = unit; entry = entry }) (inl refl)) (formed_shown e value (at + width) w (λ p i. fit p (inr i)))
