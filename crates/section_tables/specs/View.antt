-- The section that a sink and tables are.
use Rattle.std.specs.Prelude.{◌≡◌, ◌<◌, ◌≤◌, ℕ, ◌-◌, cond, List, [], ◌∷◌, ◌++◌, length, take, is_some, ok_or, Ok, Err, Result, nat_le, nat_lt}
use Rattle.std.specs.List.{slice_get}
use Rattle.common.specs.declared.error.Error.{Error}
use Rattle.common.specs.declared.error.Error.TheVariants.{TooManyUnits, NoUnit, BadEntry, AlreadyPlaced, AtUnitStart}
use Rattle.rules.specs.Results.{and_then}
use Rattle.writer.specs.Meaning.{Sink}
use Rattle.unit.specs.Offsets.{place_of}
use Rattle.unit.specs.declared.UnitOffsets.{UnitOffsets}
use Rattle.claim.specs.Section.{State, placed_in}
use Rattle.section_tables.specs.Rows.{rows_of}
use Rattle.section_tables.specs.declared.tables.Tables.{Tables}
use Rattle.section_tables.specs.declared.tables.Units.{Units}

-- the units that have begun
abbrev pub units_of : Units → List UnitOffsets
units_of u = take u.count u.rows

-- the last of them, or the refusal where there is none
abbrev pub last_of : List UnitOffsets → Result UnitOffsets Error
last_of us = ok_or (slice_get us (length us - 1)) NoUnit

-- a unit begins behind others, under the next number, or is refused where there are 8
abbrev pub Begins : List UnitOffsets → UnitOffsets → Result ℕ Error → List UnitOffsets → Type 0
Begins us u (Ok number) us' = (length us < 8) × (number ≡ length us) × (us' ≡ us ++ (u ∷ []))
Begins us u (Err e) us' = (8 ≤ length us) × (e ≡ TooManyUnits) × (us' ≡ us)

-- what is answered where an entry of a unit is to be placed at an offset: once, and never at the unit's own start
abbrev pub placing_in : ℕ → ℕ → UnitOffsets → Result (Unit {0}) Error
placing_in entry offset u =
    cond (nat_lt 127 entry) (Err BadEntry)
    (cond (is_some (place_of u entry)) (Err AlreadyPlaced) (cond (nat_le offset u.start) (Err AtUnitStart) (Ok tt)))

-- the units after it
abbrev pub units_after : List UnitOffsets → ℕ → ℕ → Result (Unit {0}) Error → List UnitOffsets
units_after us entry offset (Ok x) = placed_in us (length us - 1) entry offset
units_after us entry offset (Err e) = us

-- an entry of the last unit is placed, or refused
pub record Places (us : List UnitOffsets) (entry offset : ℕ) (r : Result (Unit {0}) Error) (us' : List UnitOffsets) : Type 0 where
  pub answer : r ≡ and_then (last_of us) (placing_in entry offset)
  pub after : us' ≡ units_after us entry offset r

-- the section
abbrev pub view : Sink → Tables → State
view s t = record { bytes = s.content; capacity = s.capacity; big = s.big; units = units_of t.units; pending = rows_of t.pending }
