-- What a section holds.
use Rattle.std.specs.Prelude.{◌≡◌, ℕ, ◌+◌, ◌-◌, ◌≤◌, Bool, List, [], length, replicate, Some, None, Option, nat_le, slice_index_or, slice_set}
use Rattle.common.specs.declared.encoding.Encoding.{Encoding}
use Rattle.common.specs.declared.encoding.Format.TheVariants.{Dwarf32}
use Rattle.common.specs.declared.fixup.DebugInfoFixup.{DebugInfoFixup}
use Rattle.unit.specs.Offsets.{place_of}
use Rattle.unit.specs.declared.UnitOffsets.{UnitOffsets}

-- the bytes of the section, how many there can be, whether the highest byte of a number comes first, the units in the order in which they
-- began, and the references that wait for their entry, by rising offset
pub record State : Type 0 where
  pub bytes : List ℕ
  pub capacity : ℕ
  pub big : Bool
  pub units : List UnitOffsets
  pub pending : List DebugInfoFixup

-- a new section: no unit has begun and nothing is pending, over any bytes that its sink holds
pub record New (s : State) : Type 0 where
  pub no_units : s.units ≡ []
  pub no_pending : s.pending ≡ []
  pub within : length s.bytes ≤ s.capacity
  pub bounded : s.capacity ≤ 2147483647

-- whether so many bytes more fit
abbrev pub fits : State → ℕ → Bool
fits s n = nat_le (length s.bytes + n) s.capacity

-- what a unit that has not begun reads as: none of its entries is placed
abbrev pub no_unit : UnitOffsets
no_unit = record { encoding = record { address_size = 0; format = Dwarf32; version = 0 }; start = 0; entries = [] }

-- the unit of a number
abbrev pub unit_at : List UnitOffsets → ℕ → UnitOffsets
unit_at us unit = slice_index_or us unit no_unit

-- the number of the last unit begun, and that unit
abbrev pub last_number : State → ℕ
last_number s = length s.units - 1

abbrev pub last_unit : State → UnitOffsets
last_unit s = unit_at s.units (last_number s)

-- the section offset of an entry of a unit, if it is placed
unfoldable pub entry_offset : List UnitOffsets → ℕ → ℕ → Option ℕ
entry_offset us unit entry = place_of (unit_at us unit) entry

-- a unit that begins at an offset
abbrev pub fresh_unit : Encoding → ℕ → UnitOffsets
fresh_unit e start = record { encoding = e; start = start; entries = replicate 128 None }

-- a unit with an entry placed at an offset
abbrev pub with_entry : UnitOffsets → ℕ → ℕ → UnitOffsets
with_entry u entry offset = record { encoding = u.encoding; start = u.start; entries = slice_set u.entries entry (Some offset) }

-- the units with an entry of one of them placed at an offset
abbrev pub placed_in : List UnitOffsets → ℕ → ℕ → ℕ → List UnitOffsets
placed_in us unit entry offset = slice_set us unit (with_entry (unit_at us unit) entry offset)
