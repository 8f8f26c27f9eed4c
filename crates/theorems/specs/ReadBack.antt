-- What is written is read again.
use Rattle.std.specs.Prelude.{◌≡◌, ℕ, ◌^◌, ◌<◌, Bool, true, Some, Ok}
use Rattle.common.specs.declared.encoding.Encoding.{Encoding}
use Rattle.dwarf.specs.Bytes.{bytes_of, size_of}
use Rattle.dwarf.specs.Reading.{read}
use Rattle.dwarf.specs.References.{references, shown}
use Rattle.dwarf.specs.Tokens.{Tokens}
use Rattle.dwarf.specs.WellFormed.{NumbersFit}
use Rattle.rules.specs.Encode.{encode}
use Rattle.rules.specs.Readable.{readable}
use Rattle.rules.specs.Scope.{Scope, base_of}
use Rattle.rules.specs.Tree.{Tree}
use Rattle.claim.specs.Fits.{Fits}

-- the entries of a unit have offsets of 64 bits
abbrev pub OffsetsFit : Scope → Type 0
OffsetsFit s = (entry n : ℕ) → base_of s entry ≡ Ok n → n < 2 ^ 64

-- An accepted expression that is readable, whose operands and length have the ranges of a program's numbers, reads back from its bytes as its own codes, operands,
-- data and nested operations: in either byte order, in every encoding, and whatever numbers that fit stand for its references.
abbrev pub ExpressionsReadBack : Type 0
ExpressionsReadBack =
    (big : Bool) (e : Encoding) (s : Scope) (t : Tree) (a : Tokens) (numbers : ℕ → ℕ) (at : ℕ) →
    encode e s t ≡ Ok a → readable t ≡ true → Fits t → OffsetsFit s → size_of a < 2 ^ 64 → NumbersFit numbers (references at a) →
    read big e (bytes_of big (shown numbers at a)) ≡ Some (shown numbers at a)
