-- A book's tables as what they hold.
use Rattle.std.specs.Option.{is_some}
use Rattle.book_state.specs.State.{State}
use Rattle.book_tables.specs.Starts.{first_operation, first_byte}
use Rattle.book_tables.specs.declared.tables.Tables.{Tables}

abbrev pub view : Tables → State
view t = record { operations = t.operations.now; bytes = t.bytes.now; expressions = t.expressions; op_count = t.op_count; byte_count = t.byte_count; sealed_count = t.sealed_count; start = first_operation t.draft t.op_count; byte_start = first_byte t.draft t.byte_count; drafting = is_some t.draft }
