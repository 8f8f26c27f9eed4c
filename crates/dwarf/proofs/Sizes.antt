-- Tokens take as many bytes as their size says.
use Rattle.std.proofs.Common.{◌≡◌, ℕ, ◌+◌, Bool, length, refl, ap, ◌∙◌, arith, length-append}
use Rattle.dwarf.specs.Leb.{uleb, sleb}
use Rattle.dwarf.specs.Tokens.{Tokens, done, code, unsigned, signed, fixed, displacement, block, short, nested, reference, raw}
use Rattle.dwarf.specs.Bytes.{bytes_of, size_of}
use Rattle.dwarf.specs.References.{shown, SizesHold}
use Rattle.dwarf.proofs.Widths.{length_fixed}

pub length_bytes : (big : Bool) (ts : Tokens) → length (bytes_of big ts) ≡ size_of ts
unfolding bytes_of size_of
length_bytes big done = refl
length_bytes big (code c ts) = rw (length_bytes big ts) (omega arith)
length_bytes big (unsigned n ts) = rw (length-append, length_bytes big ts)
length_bytes big (signed z ts) = rw (length-append, length_bytes big ts)
length_bytes big (fixed width n ts) = rw (length-append, length_fixed, length_bytes big ts)
length_bytes big (displacement z ts) = rw (length-append, length_fixed, length_bytes big ts)
length_bytes big (block bytes ts) = simp (length-append, length_bytes big ts)
length_bytes big (short bytes ts) = simp (length-append, length_bytes big ts) (omega arith)
length_bytes big (nested inner ts) = simp (length-append, length_bytes big inner, length_bytes big ts)
length_bytes big (reference width unit entry ts) = rw (length-append, length_fixed, length_bytes big ts)
length_bytes big (raw bytes ts) = rw (length-append, length_bytes big ts)

-- the size does not hang on the numbers that stand for references
pub size_shown : (value : ℕ → ℕ) (at : ℕ) (ts : Tokens) → size_of (shown value at ts) ≡ size_of ts
unfolding size_of shown
size_shown value at done = refl
size_shown value at (code c ts) = ap (λ k. 1 + k) (size_shown value (at + 1) ts)
size_shown value at (unsigned n ts) = ap (λ k. length (uleb n) + k) (size_shown value (at + length (uleb n)) ts)
size_shown value at (signed z ts) = ap (λ k. length (sleb z) + k) (size_shown value (at + length (sleb z)) ts)
size_shown value at (fixed width n ts) = ap (λ k. width + k) (size_shown value (at + width) ts)
size_shown value at (displacement z ts) = ap (λ k. 2 + k) (size_shown value (at + 2) ts)
size_shown value at (block bytes ts) = rw (size_shown value (at + length (uleb (length bytes)) + length bytes) ts)
size_shown value at (short bytes ts) = rw (size_shown value (at + 1 + length bytes) ts)
size_shown value at (nested inner ts) =
    rw (size_shown value (at + length (uleb (size_of inner))) inner, size_shown value (at + length (uleb (size_of inner)) + size_of inner) ts)
size_shown value at (reference width unit entry ts) = ap (λ k. width + k) (size_shown value (at + width) ts)
size_shown value at (raw bytes ts) = ap (λ k. length bytes + k) (size_shown value (at + length bytes) ts)

pub length-shown : (big : Bool) (value : ℕ → ℕ) (at : ℕ) (ts : Tokens) → length (bytes_of big (shown value at ts)) ≡ size_of ts
length-shown big value at ts = length_bytes big (shown value at ts) ∙ size_shown value at ts

pub sizes_hold : SizesHold
sizes_hold big value at ts = (length_bytes big ts, length-shown big value at ts)
