-- Pending references in a table.
use Rattle.std.specs.Prelude.{◌≡◌, ℕ, ◌+◌, ◌<◌, Bool, true, ◌&&◌, List, [], ◌∷◌, ◌++◌, length, take, drop, Some, None, Option, nat_le, slice_index_or}
use Rattle.common.specs.declared.fixup.DebugInfoFixup.{DebugInfoFixup}
use Rattle.common.specs.declared.fixup.Fixups.{Fixups}
use Rattle.dwarf.specs.Fixed.{is_width}
use Rattle.claim.specs.Calls.{stands_at, first_of, without_first}

-- the references that are pending
abbrev pub rows_of : Fixups → List DebugInfoFixup
rows_of f = take f.count f.rows

-- what a place past the last reference reads as
abbrev pub no_row : DebugInfoFixup
no_row = record { offset = 0; width = 0; unit = 0; entry = 0 }

-- whether every reference has a width in which a number can be written
abbrev pub wide : List DebugInfoFixup → Bool
wide [] = true
wide (p ∷ ps) = is_width p.width && wide ps

-- whether the offsets rise, from an offset on
abbrev pub rise : ℕ → List DebugInfoFixup → Bool
rise least [] = true
rise least (p ∷ ps) = nat_le least p.offset && rise (p.offset + 1) ps

-- whether every reference ends within so many bytes
abbrev pub inside : ℕ → List DebugInfoFixup → Bool
inside size [] = true
inside size (p ∷ ps) = nat_le (p.offset + p.width) size && inside size ps

-- the reference at a place is the first that begins at an offset and lies within so many bytes
pub record FirstAt (size offset : ℕ) (ps : List DebugInfoFixup) (i : ℕ) : Type 0 where
  pub below : i < length ps
  pub stands : stands_at size offset (slice_index_or ps i no_row) ≡ true
  pub first : first_of (stands_at size offset) ps ≡ Some (slice_index_or ps i no_row)
  pub freed : without_first (stands_at size offset) ps ≡ take i ps ++ drop (i + 1) ps

-- the place of the first such reference, or that there is none
abbrev pub Found : ℕ → ℕ → List DebugInfoFixup → Option ℕ → Type 0
Found size offset ps (Some i) = FirstAt size offset ps i
Found size offset ps None = first_of (stands_at size offset) ps ≡ None
