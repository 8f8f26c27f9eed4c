-- What stands in the tables of a section.
use Rattle.std.proofs.Common.{◌≡◌, ℕ, ◌-◌, ◌<◌, ◌≤◌, Bool, true, false, cond, ltb, List, length, get_or, take, set, None, Option, sym, refl, ap, ◌∙◌, arith}
use lib.Seq.{take-set-lt}
use Rattle.std.proofs.lemmas.List.{length-take-le, get_or-take, get_or_default, get_or_past}
use Rattle.std.proofs.lemmas.Bool.{lt-ltb, cond-true}
use Rattle.common.specs.declared.fixup.Fixups.{Fixups}
use Rattle.unit.specs.Offsets.{place_of}
use Rattle.unit.specs.declared.UnitOffsets.{UnitOffsets}
use Rattle.claim.specs.Section.{no_unit, unit_at, entry_offset, with_entry, placed_in}
use Rattle.section_tables.specs.declared.tables.Units.{Units}
use Rattle.section_tables.specs.Rows.{rows_of}
use Rattle.section_tables.specs.View.{units_of}

pub rows_long : (f : Fixups) → length (rows_of f) ≡ f.count
rows_long f = length-take-le f.count f.rows (omega (arith, f.table, f.used))

nothing : (b : Bool) (o : Option ℕ) → o ≡ None → None ≡ cond b o None
nothing true o e = sym e
nothing false o e = refl

module _ (us : List UnitOffsets) (unit entry : ℕ) where
  pub no_unit_there : length us ≤ unit → None ≡ entry_offset us unit entry
  unfolding entry_offset
  no_unit_there l =
      nothing (ltb entry 128) (get_or (unit_at us unit).entries entry None) (ap (λ (u : UnitOffsets). get_or {A = Option ℕ} u.entries entry None) (get_or_past us unit no_unit l))

  module _ (u : UnitOffsets) (same : u ≡ unit_at us unit) where
    pub entry_past : length u.entries ≤ entry → None ≡ entry_offset us unit entry
    unfolding entry_offset
    entry_past l =
        nothing (ltb entry 128) (get_or u.entries entry None) (get_or_past u.entries entry None l)
        ∙ ap (λ (u : UnitOffsets). place_of u entry) same

    pub entry_there : entry < 128 → get_or u.entries entry None ≡ entry_offset us unit entry
    unfolding entry_offset
    entry_there l =
        sym (cond-true (ltb entry 128) (get_or u.entries entry None) None (lt-ltb entry 128 l))
        ∙ ap (λ (u : UnitOffsets). place_of u entry) same

-- an entry of the last unit written into the table
pub placed_there : (t : Units) (entry n : ℕ) (d : UnitOffsets) → 0 < t.count
    → take t.count (set t.rows (t.count - 1) (with_entry (get_or t.rows (t.count - 1) d) entry n)) ≡ placed_in (units_of t) (length (units_of t) - 1) entry n
placed_there t entry n d some =
    let last : ℕ = t.count - 1 in
    let many : length (units_of t) ≡ t.count = length-take-le t.count t.rows (omega (arith, t.table, t.used)) in
    let same : get_or t.rows last d ≡ unit_at (units_of t) last =
    get_or_default t.rows last d no_unit (omega (arith, t.table, t.used)) ∙ sym (get_or-take t.count t.rows last no_unit (omega arith)) in
    take-set-lt t.count t.rows last (with_entry (get_or t.rows last d) entry n) (omega arith)
    ∙ ap (λ (u : UnitOffsets). set (units_of t) last (with_entry u entry n)) same
    ∙ ap (λ (k : ℕ). placed_in (units_of t) (k - 1) entry n) (sym many)
