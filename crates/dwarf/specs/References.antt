-- The references in encoded operations: where they stand, and what the operations are once numbers stand in their places.
use Rattle.std.specs.Prelude.{◌≡◌, ℕ, ◌+◌, ◌-◌, ◌<◌, Bool, cond, ◌⊎◌, List, [], ◌∷◌, ◌++◌, length, take, drop, ◌==◌}
use Rattle.common.specs.declared.fixup.DebugInfoFixup.{DebugInfoFixup}
use Rattle.dwarf.specs.Leb.{uleb, sleb}
use Rattle.dwarf.specs.Fixed.{fixed_bytes}
use Rattle.dwarf.specs.Tokens.{Tokens, done, code, unsigned, signed, fixed, displacement, block, short, nested, reference, raw}
use Rattle.dwarf.specs.Bytes.{bytes_of, size_of}

-- the references in tokens that begin at an offset, by rising offset
unfoldable pub references : ℕ → Tokens → List DebugInfoFixup
references at done = []
references at (code c ts) = references (at + 1) ts
references at (unsigned n ts) = references (at + length (uleb n)) ts
references at (signed z ts) = references (at + length (sleb z)) ts
references at (fixed width n ts) = references (at + width) ts
references at (displacement z ts) = references (at + 2) ts
references at (block bytes ts) = references (at + length (uleb (length bytes)) + length bytes) ts
references at (short bytes ts) = references (at + 1 + length bytes) ts
references at (nested inner ts) =
    references (at + length (uleb (size_of inner))) inner ++ references (at + length (uleb (size_of inner)) + size_of inner) ts
references at (reference width unit entry ts) = record { offset = at; width = width; unit = unit; entry = entry } ∷ references (at + width) ts
references at (raw bytes ts) = references (at + length bytes) ts

-- tokens that begin at an offset, with a number in place of each reference: what `value` gives for the reference's offset
unfoldable pub shown : (ℕ → ℕ) → ℕ → Tokens → Tokens
shown value at done = done
shown value at (code c ts) = code c (shown value (at + 1) ts)
shown value at (unsigned n ts) = unsigned n (shown value (at + length (uleb n)) ts)
shown value at (signed z ts) = signed z (shown value (at + length (sleb z)) ts)
shown value at (fixed width n ts) = fixed width n (shown value (at + width) ts)
shown value at (displacement z ts) = displacement z (shown value (at + 2) ts)
shown value at (block bytes ts) = block bytes (shown value (at + length (uleb (length bytes)) + length bytes) ts)
shown value at (short bytes ts) = short bytes (shown value (at + 1 + length bytes) ts)
shown value at (nested inner ts) =
    nested (shown value (at + length (uleb (size_of inner))) inner) (shown value (at + length (uleb (size_of inner)) + size_of inner) ts)
shown value at (reference width unit entry ts) = fixed width (value at) (shown value (at + width) ts)
shown value at (raw bytes ts) = raw bytes (shown value (at + length bytes) ts)

-- every reference has a byte at least
abbrev pub Wide : Tokens → Type 0
Wide done = Unit {0}
Wide (code c ts) = Wide ts
Wide (unsigned n ts) = Wide ts
Wide (signed z ts) = Wide ts
Wide (fixed width n ts) = Wide ts
Wide (displacement z ts) = Wide ts
Wide (block bytes ts) = Wide ts
Wide (short bytes ts) = Wide ts
Wide (nested inner ts) = Wide inner × Wide ts
Wide (reference width unit entry ts) = (0 < width) × Wide ts
Wide (raw bytes ts) = Wide ts

-- a placeholder is one of those listed
abbrev pub In : DebugInfoFixup → List DebugInfoFixup → Type 0
In p [] = ⊥
In p (q ∷ qs) = (q ≡ p) ⊎ In p qs

-- the numbers with another one at one offset
unfoldable pub put : (ℕ → ℕ) → ℕ → ℕ → ℕ → ℕ
put value at n offset = cond (offset == at) n (value offset)

-- bytes with those from an offset on replaced by others
abbrev pub patched : List ℕ → ℕ → List ℕ → List ℕ
patched bytes at new = take at bytes ++ (new ++ drop (at + length new) bytes)

-- tokens take as many bytes as their size says, in either order, and whatever numbers stand for the references
abbrev pub SizesHold : Type 0
SizesHold = (big : Bool) (value : ℕ → ℕ) (at : ℕ) (ts : Tokens)
    → (length (bytes_of big ts) ≡ size_of ts) × (length (bytes_of big (shown value at ts)) ≡ size_of ts)

-- a number written over a reference gives the bytes of the same tokens with that number in the reference's place, and nothing else changes
abbrev pub Patches : Type 0
Patches = (big : Bool) (value : ℕ → ℕ) (before after : List ℕ) (ts : Tokens) (p : DebugInfoFixup) (n : ℕ)
    → Wide ts → In p (references (length before) ts)
    → patched (before ++ (bytes_of big (shown value (length before) ts) ++ after)) p.offset (fixed_bytes big p.width n)
    ≡ before ++ (bytes_of big (shown (put value p.offset n) (length before) ts) ++ after)

-- the bytes at a reference's place are those of its number; with zero for every reference they are the bytes of the tokens themselves
pub record ReferencesStand : Type 0 where
  pub as_numbers : (big : Bool) (value : ℕ → ℕ) (at : ℕ) (ts : Tokens) (p : DebugInfoFixup) → Wide ts → In p (references at ts)
      → take p.width (drop (p.offset - at) (bytes_of big (shown value at ts))) ≡ fixed_bytes big p.width (value p.offset)
  pub as_zeros : (big : Bool) (at : ℕ) (ts : Tokens) → bytes_of big (shown (λ _. 0) at ts) ≡ bytes_of big ts
