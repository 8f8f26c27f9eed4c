-- The entries that a unit's offsets give to an expression.
use Rattle.std.specs.Prelude.{ℕ, ◌-◌, cond, Some, None, Option, nat_lt, replicate, slice_index_or}
use Rattle.std.specs.Borrow.{Bor}
use Rattle.common.specs.declared.encoding.Encoding.{Encoding}
use Rattle.rules.specs.Scope.{Scope, in_frame, in_unit}
use Rattle.unit.specs.declared.Context.{Context}
use Rattle.unit.specs.declared.UnitOffsets.{UnitOffsets}

-- the offset of a place, if there is one, from a start
abbrev pub offset_from : ℕ → Option ℕ → Option ℕ
offset_from start None = None
offset_from start (Some offset) = Some (offset - start)

-- where an entry stands, if it is placed; a unit has 128 entries
abbrev pub place_of : UnitOffsets → ℕ → Option ℕ
place_of u entry = cond (nat_lt entry 128) (slice_index_or u.entries entry None) None

-- a unit that starts at an offset, with no entry placed
abbrev pub unplaced : Encoding → ℕ → UnitOffsets
unplaced e start = record { encoding = e; start = start; entries = replicate 128 None }

-- a unit's entries
abbrev pub unit_scope : UnitOffsets → Scope
unit_scope u = in_unit u.start (place_of u)

-- the entries that an expression can name: those of its unit, and none in a frame expression
abbrev pub scope_of : Option (Bor UnitOffsets) → Scope
scope_of None = in_frame
scope_of (Some u) = unit_scope u.now

-- what an expression of a unit is written for, and one of a frame table
abbrev pub of_unit : Bor UnitOffsets → Context
of_unit u = record { encoding = u.now.encoding; unit_offsets = Some u }

abbrev pub of_frame : Encoding → Context
of_frame e = record { encoding = e; unit_offsets = None }
