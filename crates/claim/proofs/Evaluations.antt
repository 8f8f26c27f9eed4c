-- The worked examples.
use Rattle.std.proofs.Common.{refl}
use Rattle.dwarf.specs.Leb.{groups, sgroups, uleb, sleb}
use Rattle.dwarf.specs.Bytes.{bytes_of, size_of, joined}
use Rattle.dwarf.specs.References.{references}
use Rattle.claim.specs.Section.{entry_offset}
use Rattle.claim.specs.Calls.{first_of, without_first, event, after, state}
use Rattle.claim.specs.Examples.{NestedReference, NarrowReference, PlacingOrder, WritingOrder, FillingOrder, WorkedSections}

nested : NestedReference
unfolding groups sgroups uleb sleb bytes_of size_of joined references entry_offset first_of without_first event after state
nested =
    record {
      foretold = refl;
      number_of_bytes = refl;
      bytes = refl;
      pending = refl;
      first_row = refl;
      past_last = refl;
      filled = refl;
      none_pending = refl;
      complete = refl;
    }

narrow : NarrowReference
unfolding groups sgroups uleb sleb bytes_of size_of joined references entry_offset first_of without_first event after state
narrow = record { pending = refl; fits = refl; too_large = refl }

placing : PlacingOrder
unfolding entry_offset event after state
placing =
    record {
      begin_eight = refl;
      begin_nine = refl;
      append_fits = refl;
      append_no_room = refl;
      place_no_unit = refl;
      place_bad_entry = refl;
      place_at_start = refl;
      place_done = refl;
      place_twice = refl;
    }

writing : WritingOrder
unfolding groups sgroups uleb sleb bytes_of size_of joined references entry_offset event after state
writing =
    record {
      size_no_unit = refl;
      size_no_expression = refl;
      size_forward = refl;
      frame_size_no_expression = refl;
      frame_size_base = refl;
      write_no_unit = refl;
      write_no_expression = refl;
      write_encoding = refl;
      write_too_many = refl;
      write_no_room = refl;
      write_fits = refl;
      write_one_short = refl;
      frame_no_expression = refl;
      frame_base = refl;
      frame_reference = refl;
      frame_no_room = refl;
      frame_fits = refl;
    }

filling : FillingOrder
unfolding groups sgroups uleb sleb bytes_of size_of joined references entry_offset first_of without_first event after state
filling = record { fill_not_pending = refl; fill_not_placed = refl; fill_once = refl; finish_pending = refl; finish_new = refl }

pub worked : WorkedSections
worked = record { nested = nested; narrow = narrow; placing = placing; writing = writing; filling = filling }
