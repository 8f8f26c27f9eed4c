-- The bytes and the size of encoded operations.
use Rattle.std.specs.Prelude.{ℕ, ◌+◌, Bool, List, [], ◌∷◌, ◌++◌, length}
use Rattle.dwarf.specs.Leb.{uleb, sleb}
use Rattle.dwarf.specs.Fixed.{fixed_bytes, twos_complement}
use Rattle.dwarf.specs.Tokens.{Tokens, done, code, unsigned, signed, fixed, displacement, block, short, nested, reference, raw}

-- the bytes of tokens in a byte order; a reference stands as zeros
unfoldable pub bytes_of : Bool → Tokens → List ℕ
bytes_of big done = []
bytes_of big (code c ts) = c ∷ bytes_of big ts
bytes_of big (unsigned n ts) = uleb n ++ bytes_of big ts
bytes_of big (signed z ts) = sleb z ++ bytes_of big ts
bytes_of big (fixed width n ts) = fixed_bytes big width n ++ bytes_of big ts
bytes_of big (displacement z ts) = fixed_bytes big 2 (twos_complement 2 z) ++ bytes_of big ts
bytes_of big (block bytes ts) = uleb (length bytes) ++ (bytes ++ bytes_of big ts)
bytes_of big (short bytes ts) = length bytes ∷ (bytes ++ bytes_of big ts)
bytes_of big (nested inner ts) = uleb (length (bytes_of big inner)) ++ (bytes_of big inner ++ bytes_of big ts)
bytes_of big (reference width unit entry ts) = fixed_bytes big width 0 ++ bytes_of big ts
bytes_of big (raw bytes ts) = bytes ++ bytes_of big ts

-- how many bytes tokens take
unfoldable pub size_of : Tokens → ℕ
size_of done = 0
size_of (code c ts) = 1 + size_of ts
size_of (unsigned n ts) = length (uleb n) + size_of ts
size_of (signed z ts) = length (sleb z) + size_of ts
size_of (fixed width n ts) = width + size_of ts
size_of (displacement z ts) = 2 + size_of ts
size_of (block bytes ts) = length (uleb (length bytes)) + (length bytes + size_of ts)
size_of (short bytes ts) = 1 + (length bytes + size_of ts)
size_of (nested inner ts) = length (uleb (size_of inner)) + (size_of inner + size_of ts)
size_of (reference width unit entry ts) = width + size_of ts
size_of (raw bytes ts) = length bytes + size_of ts

-- tokens followed by others
unfoldable pub joined : Tokens → Tokens → Tokens
joined done next = next
joined (code c ts) next = code c (joined ts next)
joined (unsigned n ts) next = unsigned n (joined ts next)
joined (signed z ts) next = signed z (joined ts next)
joined (fixed width n ts) next = fixed width n (joined ts next)
joined (displacement z ts) next = displacement z (joined ts next)
joined (block bytes ts) next = block bytes (joined ts next)
joined (short bytes ts) next = short bytes (joined ts next)
joined (nested inner ts) next = nested inner (joined ts next)
joined (reference width unit entry ts) next = reference width unit entry (joined ts next)
joined (raw bytes ts) next = raw bytes (joined ts next)
