-- What an expression's entries mean: those of the unit that it is written in, or of none in a frame expression.
use Rattle.std.specs.Prelude.{ℕ, ◌-◌, Some, None, Ok, Err, Option, Result}
use Rattle.common.specs.declared.error.Error.{Error}
use Rattle.common.specs.declared.error.Error.TheVariants.{UnsupportedExpressionForwardReference, UnsupportedCfiExpressionReference}

-- Where an expression is written.
pub data Scope : Type 0 where
  -- in a frame table, which has no entries
  in_frame : Scope
  -- in a unit: where the unit starts in the section, and the section offset of each entry that is placed
  in_unit : ℕ → (ℕ → Option ℕ) → Scope

-- the offset of a place from the start of its unit; an entry that is not placed has none yet
abbrev pub from_start : ℕ → Option ℕ → Result ℕ Error
from_start start None = Err UnsupportedExpressionForwardReference
from_start start (Some offset) = Ok (offset - start)

-- the offset of an entry from the start of its unit
abbrev pub base_of : Scope → ℕ → Result ℕ Error
base_of in_frame entry = Err UnsupportedCfiExpressionReference
base_of (in_unit start offsets) entry = from_start start (offsets entry)

-- the offset that stands for a base type: 0 for the generic type
abbrev pub base_or_generic : Scope → Option ℕ → Result ℕ Error
base_or_generic s None = Ok 0
base_or_generic s (Some entry) = base_of s entry
