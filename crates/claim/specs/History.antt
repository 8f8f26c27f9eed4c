-- What a history of calls has laid down in a section, and what it has filled.
use Rattle.std.specs.Prelude.{ℕ, ◌+◌, Bool, true, false, cond, List, [], ◌∷◌, ◌++◌, ◌==◌}
use Rattle.common.specs.declared.fixup.DebugInfoFixup.{DebugInfoFixup}
use Rattle.dwarf.specs.Tokens.{Tokens, done, raw}
use Rattle.dwarf.specs.Bytes.{bytes_of, size_of}
use Rattle.dwarf.specs.References.{references, shown, put}
use Rattle.claim.specs.Calls.{
  Written,
  Event,
  refused,
  began,
  appended,
  placed,
  sized,
  wrote,
  wrote_frame,
  filled,
  finished,
  listed,
  History,
}

-- A piece of the section: bytes that an accepted append added, or an accepted expression.
pub data Chunk : Type 0 where
  plain_bytes : List ℕ → Chunk
  expression : Written → Chunk

-- a piece as tokens
unfoldable pub content : Chunk → Tokens
content (plain_bytes bytes) = raw bytes done
content (expression w) = w.tokens

-- the pieces that accepted appends and writes have laid down, in call order
unfoldable pub laid_by : Event → List Chunk → List Chunk
laid_by (refused e) cs = cs
laid_by (began unit e) cs = cs
laid_by (appended bytes) cs = cs ++ (plain_bytes bytes ∷ [])
laid_by (placed unit entry offset) cs = cs
laid_by (sized n) cs = cs
laid_by (wrote w) cs = cs ++ (expression w ∷ [])
laid_by (wrote_frame w) cs = cs ++ (expression w ∷ [])
laid_by (filled p n) cs = cs
laid_by (finished n) cs = cs
laid_by (listed p) cs = cs

unfoldable pub laid : History → List Chunk
laid [] = []
laid (ev ∷ h) = laid_by ev (laid h)

-- an accepted fill: the reference that it closed, and the number that it wrote there
pub record Fill : Type 0 where
  pub place : DebugInfoFixup
  pub number : ℕ

-- the accepted fills, the last first
unfoldable pub filled_by : Event → List Fill → List Fill
filled_by (refused e) fs = fs
filled_by (began unit e) fs = fs
filled_by (appended bytes) fs = fs
filled_by (placed unit entry offset) fs = fs
filled_by (sized n) fs = fs
filled_by (wrote w) fs = fs
filled_by (wrote_frame w) fs = fs
filled_by (filled p n) fs = record { place = p; number = n } ∷ fs
filled_by (finished n) fs = fs
filled_by (listed p) fs = fs

unfoldable pub fills : History → List Fill
fills [] = []
fills (ev ∷ h) = filled_by ev (fills h)

-- the number at the place of a reference: 0, or what a fill wrote there
unfoldable pub numbers : List Fill → ℕ → ℕ
numbers [] = λ offset. 0
numbers (f ∷ fs) = put (numbers fs) f.place.offset f.number

-- whether a fill has closed the reference at an offset
unfoldable pub closed : List Fill → ℕ → Bool
closed [] offset = false
closed (f ∷ fs) offset = cond (offset == f.place.offset) true (closed fs offset)

-- the bytes of pieces one after the other from an offset on, with numbers in place of the references
unfoldable pub layout : Bool → (ℕ → ℕ) → ℕ → List Chunk → List ℕ
layout big value at [] = []
layout big value at (c ∷ cs) = bytes_of big (shown value at (content c)) ++ layout big value (at + size_of (content c)) cs

-- how many bytes pieces take
unfoldable pub sizes : List Chunk → ℕ
sizes [] = 0
sizes (c ∷ cs) = size_of (content c) + sizes cs

-- the references in pieces one after the other from an offset on
unfoldable pub set_down : ℕ → List Chunk → List DebugInfoFixup
set_down at [] = []
set_down at (c ∷ cs) = references at (content c) ++ set_down (at + size_of (content c)) cs

-- the references that a test holds of
unfoldable pub keep : (DebugInfoFixup → Bool) → List DebugInfoFixup → List DebugInfoFixup
keep test [] = []
keep test (p ∷ ps) = cond (test p) (p ∷ keep test ps) (keep test ps)
