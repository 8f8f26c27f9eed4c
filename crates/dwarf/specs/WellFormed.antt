-- Tokens that the code table allows, with operands in their ranges.
use Rattle.std.specs.Prelude.{◌≡◌, ℕ, ◌^◌, ◌<◌, ◌≤◌, Bool, true, List, [], ◌∷◌, length, ℤ, Some}
use Rattle.common.specs.declared.encoding.Encoding.{Encoding}
use Rattle.dwarf.specs.Reader.{AllBytes}
use Rattle.dwarf.specs.Leb.{magnitude}
use Rattle.dwarf.specs.Fixed.{is_width}
use Rattle.dwarf.specs.Tokens.{Tokens, done, code, unsigned, signed, fixed, displacement, block, short, nested, reference}
use Rattle.dwarf.specs.Codes.{Kind, unsigned_number, signed_number, number_of, branch_displacement, counted_data, short_data, nested_operations, operands}
use Rattle.dwarf.specs.Bytes.{bytes_of, size_of}
use Rattle.common.specs.declared.fixup.DebugInfoFixup.{DebugInfoFixup}
use Rattle.dwarf.specs.References.{references, shown, In}
use Rattle.dwarf.specs.Reading.{read}

-- tokens that begin with operands of these kinds, and then go on with codes and their operands to the end
pub data WellFormed (e : Encoding) : List Kind → Tokens → Type 0 where
  at_end : WellFormed e [] done
  at_code : {c : ℕ} {kinds : List Kind} {ts : Tokens} → operands e c ≡ Some kinds → WellFormed e kinds ts → WellFormed e [] (code c ts)
  at_unsigned : {n : ℕ} {kinds : List Kind} {ts : Tokens} → n < 2 ^ 64 → WellFormed e kinds ts → WellFormed e (unsigned_number ∷ kinds) (unsigned n ts)
  at_signed : {z : ℤ} {kinds : List Kind} {ts : Tokens} → magnitude z < 2 ^ 63 → WellFormed e kinds ts → WellFormed e (signed_number ∷ kinds) (signed z ts)
  at_fixed : {width n : ℕ} {kinds : List Kind} {ts : Tokens} → is_width width ≡ true → n < 256 ^ width → WellFormed e kinds ts
      → WellFormed e (number_of width ∷ kinds) (fixed width n ts)
  at_displacement : {z : ℤ} {kinds : List Kind} {ts : Tokens} → magnitude z < 2 ^ 15 → WellFormed e kinds ts
      → WellFormed e (branch_displacement ∷ kinds) (displacement z ts)
  at_block : {bytes : List ℕ} {kinds : List Kind} {ts : Tokens} → length bytes < 2 ^ 64 → WellFormed e kinds ts
      → WellFormed e (counted_data ∷ kinds) (block bytes ts)
  at_short : {bytes : List ℕ} {kinds : List Kind} {ts : Tokens} → length bytes < 256 → WellFormed e kinds ts
      → WellFormed e (short_data ∷ kinds) (short bytes ts)
  at_nested : {inner : Tokens} {kinds : List Kind} {ts : Tokens} → size_of inner < 2 ^ 64 → WellFormed e [] inner → WellFormed e kinds ts
      → WellFormed e (nested_operations ∷ kinds) (nested inner ts)
  at_reference : {width unit entry : ℕ} {kinds : List Kind} {ts : Tokens} → is_width width ≡ true → WellFormed e kinds ts
      → WellFormed e (number_of width ∷ kinds) (reference width unit entry ts)

-- the number for each reference fits its width
abbrev pub NumbersFit : (ℕ → ℕ) → List DebugInfoFixup → Type 0
NumbersFit value places = (p : DebugInfoFixup) → In p places → value p.offset < 256 ^ p.width

-- well-formed tokens read back, at any nesting, as they are with the numbers that stand for their references
abbrev pub TokensReadBack : Type 0
TokensReadBack = (big : Bool) (e : Encoding) (value : ℕ → ℕ) (at : ℕ) (ts : Tokens)
    → WellFormed e [] ts → NumbersFit value (references at ts) → read big e (bytes_of big (shown value at ts)) ≡ Some (shown value at ts)

-- what is read from so many bytes: well-formed tokens without a reference, which take no more bytes
pub record Found (e : Encoding) (kinds : List Kind) (ts : Tokens) (size : ℕ) : Type 0 where
  pub formed : WellFormed e kinds ts
  pub no_references : (at : ℕ) → references at ts ≡ []
  pub fewest : size_of ts ≤ size

-- all that is read is well formed
abbrev pub ReadWellFormed : Type 0
ReadWellFormed = (big : Bool) (e : Encoding) (bytes : List ℕ) (ts : Tokens) → AllBytes bytes → read big e bytes ≡ Some ts → Found e [] ts (length bytes)
