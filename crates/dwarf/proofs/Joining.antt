-- Tokens followed by others: each fact of the whole from those of the parts.
use Rattle.std.proofs.Common.{◌≡◌, ℕ, ◌+◌, Bool, List, [], ◌∷◌, ◌++◌, length, refl, ap, append_assoc, arith}
use Rattle.common.specs.declared.encoding.Encoding.{Encoding}
use Rattle.dwarf.specs.Leb.{uleb, sleb}
use Rattle.dwarf.specs.Tokens.{Tokens, done, code, unsigned, signed, fixed, displacement, block, short, nested, reference, raw}
use Rattle.dwarf.specs.Codes.{Kind}
use Rattle.dwarf.specs.Bytes.{bytes_of, size_of, joined}
use Rattle.dwarf.specs.References.{references, shown, Wide}
use Rattle.dwarf.specs.WellFormed.{WellFormed, at_end, at_code, at_unsigned, at_signed, at_fixed, at_displacement, at_block, at_short, at_nested, at_reference}

pub size_joined : (a next : Tokens) → size_of (joined a next) ≡ size_of a + size_of next
unfolding joined size_of
size_joined done next = omega arith
size_joined (code c ts) next = rw (size_joined ts next) (omega arith)
size_joined (unsigned n ts) next = rw (size_joined ts next) (omega arith)
size_joined (signed z ts) next = rw (size_joined ts next) (omega arith)
size_joined (fixed width n ts) next = rw (size_joined ts next) (omega arith)
size_joined (displacement z ts) next = rw (size_joined ts next) (omega arith)
size_joined (block bytes ts) next = rw (size_joined ts next) (omega arith)
size_joined (short bytes ts) next = rw (size_joined ts next) (omega arith)
size_joined (nested inner ts) next = rw (size_joined ts next) (omega arith)
size_joined (reference width unit entry ts) next = rw (size_joined ts next) (omega arith)
size_joined (raw bytes ts) next = rw (size_joined ts next) (omega arith)

pub bytes_joined : (big : Bool) (a next : Tokens) → bytes_of big (joined a next) ≡ bytes_of big a ++ bytes_of big next
unfolding joined bytes_of
bytes_joined big done next = refl
bytes_joined big (code c ts) next = ap (λ bytes. c ∷ bytes) (bytes_joined big ts next)
bytes_joined big (unsigned n ts) next = rw (bytes_joined big ts next, append_assoc)
bytes_joined big (signed z ts) next = rw (bytes_joined big ts next, append_assoc)
bytes_joined big (fixed width n ts) next = rw (bytes_joined big ts next, append_assoc)
bytes_joined big (displacement z ts) next = rw (bytes_joined big ts next, append_assoc)
bytes_joined big (block bytes ts) next = rw (bytes_joined big ts next) (simp append_assoc)
bytes_joined big (short bytes ts) next = rw (bytes_joined big ts next) (simp append_assoc)
bytes_joined big (nested inner ts) next = rw (bytes_joined big ts next) (simp append_assoc)
bytes_joined big (reference width unit entry ts) next = rw (bytes_joined big ts next, append_assoc)
bytes_joined big (raw bytes ts) next = rw (bytes_joined big ts next, append_assoc)

pub wide-joined : (a next : Tokens) → Wide a → Wide next → Wide (joined a next)
unfolding joined
wide-joined done next w v = v
wide-joined (code c ts) next w v = wide-joined ts next w v
wide-joined (unsigned n ts) next w v = wide-joined ts next w v
wide-joined (signed z ts) next w v = wide-joined ts next w v
wide-joined (fixed width n ts) next w v = wide-joined ts next w v
wide-joined (displacement z ts) next w v = wide-joined ts next w v
wide-joined (block bytes ts) next w v = wide-joined ts next w v
wide-joined (short bytes ts) next w v = wide-joined ts next w v
wide-joined (nested inner ts) next w v = (w.0, wide-joined ts next w.1 v)
wide-joined (reference width unit entry ts) next w v = (w.0, wide-joined ts next w.1 v)
wide-joined (raw bytes ts) next w v = wide-joined ts next w v

pub formed_joined : (e : Encoding) (next : Tokens) → WellFormed e [] next → {kinds : List Kind} {a : Tokens} → WellFormed e kinds a → WellFormed e kinds (joined a next)
unfolding joined
formed_joined e next v at_end = v
formed_joined e next v (at_code o w) = at_code o (formed_joined e next v w)
formed_joined e next v (at_unsigned l w) = at_unsigned l (formed_joined e next v w)
formed_joined e next v (at_signed l w) = at_signed l (formed_joined e next v w)
formed_joined e next v (at_fixed k l w) = at_fixed k l (formed_joined e next v w)
formed_joined e next v (at_displacement l w) = at_displacement l (formed_joined e next v w)
formed_joined e next v (at_block l w) = at_block l (formed_joined e next v w)
formed_joined e next v (at_short l w) = at_short l (formed_joined e next v w)
formed_joined e next v (at_nested l i w) = at_nested l i (formed_joined e next v w)
formed_joined e next v (at_reference k w) = at_reference k (formed_joined e next v w)

-- the second part begins at `end`, where the first ends
pub shown-joined : (value : ℕ → ℕ) (at end : ℕ) (a next : Tokens) → end ≡ at + size_of a
    → shown value at (joined a next) ≡ joined (shown value at a) (shown value end next)
unfolding joined shown size_of
shown-joined value at end done next e = ap (λ (k : ℕ). shown value k next) (omega arith)
shown-joined value at end (code c ts) next e = ap (code c) (shown-joined value (at + 1) end ts next (omega arith))
shown-joined value at end (unsigned n ts) next e = ap (unsigned n) (shown-joined value (at + length (uleb n)) end ts next (omega arith))
shown-joined value at end (signed z ts) next e = ap (signed z) (shown-joined value (at + length (sleb z)) end ts next (omega arith))
shown-joined value at end (fixed width n ts) next e = ap (fixed width n) (shown-joined value (at + width) end ts next (omega arith))
shown-joined value at end (displacement z ts) next e = ap (displacement z) (shown-joined value (at + 2) end ts next (omega arith))
shown-joined value at end (block bytes ts) next e = ap (block bytes) (shown-joined value (at + length (uleb (length bytes)) + length bytes) end ts next (omega arith))
shown-joined value at end (short bytes ts) next e = ap (short bytes) (shown-joined value (at + 1 + length bytes) end ts next (omega arith))
shown-joined value at end (nested inner ts) next e = ap (nested (shown value (at + length (uleb (size_of inner))) inner)) (shown-joined value (at + length (uleb (size_of inner)) + size_of inner) end ts next (omega arith))
shown-joined value at end (reference width unit entry ts) next e = ap (fixed width (value at)) (shown-joined value (at + width) end ts next (omega arith))
shown-joined value at end (raw bytes ts) next e = ap (raw bytes) (shown-joined value (at + length bytes) end ts next (omega arith))

pub references-joined : (at end : ℕ) (a next : Tokens) → end ≡ at + size_of a → references at (joined a next) ≡ references at a ++ references end next
unfolding joined references size_of
references-joined at end done next e = ap (λ (k : ℕ). references k next) (omega arith)
references-joined at end (code c ts) next e = references-joined (at + 1) end ts next (omega arith)
references-joined at end (unsigned n ts) next e = references-joined (at + length (uleb n)) end ts next (omega arith)
references-joined at end (signed z ts) next e = references-joined (at + length (sleb z)) end ts next (omega arith)
references-joined at end (fixed width n ts) next e = references-joined (at + width) end ts next (omega arith)
references-joined at end (displacement z ts) next e = references-joined (at + 2) end ts next (omega arith)
references-joined at end (block bytes ts) next e = references-joined (at + length (uleb (length bytes)) + length bytes) end ts next (omega arith)
references-joined at end (short bytes ts) next e = references-joined (at + 1 + length bytes) end ts next (omega arith)
references-joined at end (nested inner ts) next e = rw (references-joined (at + length (uleb (size_of inner)) + size_of inner) end ts next (omega arith), append_assoc)
references-joined at end (reference width unit entry ts) next e = ap (λ ps. record { offset = at; width = width; unit = unit; entry = entry } ∷ ps) (references-joined (at + width) end ts next (omega arith))
references-joined at end (raw bytes ts) next e = references-joined (at + length bytes) end ts next (omega arith)
