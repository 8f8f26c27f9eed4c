-- Worked examples of a section's calls, evaluated on the definitions.
use Rattle.std.specs.Prelude.{◌≡◌, ℕ, false, List, [], ◌∷◌, take, drop, replicate, pos, Some, None}
use Rattle.common.specs.declared.error.Error.TheVariants.{
  ValueTooLarge,
  InvalidReference,
  UnsupportedExpressionForwardReference,
  UnsupportedCfiExpressionReference,
  NoRoom,
  TooManyReferences,
  TooManyUnits,
  NoUnit,
  BadEntry,
  AlreadyPlaced,
  AtUnitStart,
  NotPlaced,
  NotPending,
  StillPending,
  NoExpression,
}
use Rattle.common.specs.declared.fixup.DebugInfoFixup.{DebugInfoFixup}
use Rattle.op.specs.declared.operation.DebugInfoRef.TheVariants.{Entry}
use Rattle.op.specs.declared.operation.Operation.TheVariants.{Simple, UnsignedConstant, CallRef, Convert, ImplicitPointer}
use Rattle.rules.specs.Examples.{dwarf32, version5, row as in_a_row}
use Rattle.rules.specs.Tree.{Tree, nest}
use Rattle.claim.specs.Section.{State}
use Rattle.claim.specs.Calls.{
  Call,
  begin_unit,
  append,
  place_entry,
  ask_size,
  ask_frame_size,
  write,
  write_frame,
  fill,
  finish,
  ask_pending,
  Answer,
  ok,
  number,
  row,
  refusal,
  event,
  answer,
  state,
}

-- a new section over so many bytes 07, little-endian, with a capacity
abbrev pub over : ℕ → ℕ → State
over held capacity = record { bytes = replicate held 7; capacity = capacity; big = false; units = []; pending = [] }

-- what a call answers after others, the last of them first
abbrev pub answered : State → List Call → Call → Answer
answered s calls c = answer (event (state s calls) c)

-- a reference to an entry of unit 0
abbrev pub called : ℕ → Tree
called entry = in_a_row (CallRef (Entry 0 entry) ∷ [])

-- the entry value of a call of entry 1, then a stack value
abbrev pub nested_call : Tree
nested_call = nest (called 1) (in_a_row (Simple (record { 0 = 0x9f }) ∷ []))

-- a base that is not placed
abbrev pub unplaced_base : Tree
unplaced_base = in_a_row (Convert (Some 3) ∷ [])

-- the row of a reference that is pending
abbrev pub waiting : ℕ → ℕ → ℕ → DebugInfoFixup
waiting offset width entry = record { offset = offset; width = width; unit = 0; entry = entry }

-- the expression is written at length 100; and then its entry is placed at 300 and the reference filled
abbrev pub written_at_100 : List Call
written_at_100 = write (Some nested_call) ∷ begin_unit version5 ∷ []

abbrev pub filled_at_103 : List Call
filled_at_103 = fill 103 ∷ place_entry 1 ∷ append (replicate 192 9) ∷ written_at_100

-- the reference stands as zeros, 3 bytes after the expression's start, until the fill writes the entry's offset there
pub record NestedReference : Type 0 where
  pub foretold : answered (over 100 1000) (begin_unit version5 ∷ []) (ask_size (Some nested_call)) ≡ number 8
  pub number_of_bytes : answered (over 100 1000) (begin_unit version5 ∷ []) (write (Some nested_call)) ≡ number 8
  pub bytes : drop 100 (state (over 100 1000) written_at_100).bytes ≡ 0xa3 ∷ 0x05 ∷ 0x9a ∷ 0x00 ∷ 0x00 ∷ 0x00 ∷ 0x00 ∷ 0x9f ∷ []
  pub pending : (state (over 100 1000) written_at_100).pending ≡ waiting 103 4 1 ∷ []
  pub first_row : answered (over 100 1000) written_at_100 (ask_pending 0) ≡ row (Some (waiting 103 4 1))
  pub past_last : answered (over 100 1000) written_at_100 (ask_pending 1) ≡ row None
  pub filled : take 8 (drop 100 (state (over 100 1000) filled_at_103).bytes) ≡ 0xa3 ∷ 0x05 ∷ 0x9a ∷ 0x2c ∷ 0x01 ∷ 0x00 ∷ 0x00 ∷ 0x9f ∷ []
  pub none_pending : (state (over 100 1000) filled_at_103).pending ≡ []
  pub complete : answered (over 100 1000) filled_at_103 finish ≡ number 300

-- in version 2 with addresses of one byte: a reference of one byte is filled with 255, and not with 256
abbrev pub narrow : List Call
narrow = write (Some (in_a_row (ImplicitPointer (Entry 0 1) (pos 0) ∷ []))) ∷ begin_unit (dwarf32 2 1) ∷ []

pub record NarrowReference : Type 0 where
  pub pending : (state (over 0 1000) narrow).pending ≡ waiting 1 1 1 ∷ []
  pub fits : answered (over 0 1000) (place_entry 1 ∷ append (replicate 252 9) ∷ narrow) (fill 1) ≡ ok
  pub too_large : answered (over 0 1000) (place_entry 1 ∷ append (replicate 253 9) ∷ narrow) (fill 1) ≡ refusal ValueTooLarge

-- eight units
abbrev pub eight_units : List Call
eight_units = replicate 8 (begin_unit version5)

-- a section with 512 references pending and no room left
abbrev pub crowded : State
crowded = record {
  bytes = replicate 4 0;
  capacity = 4;
  big = false;
  units = (state (over 0 4) (begin_unit version5 ∷ [])).units;
  pending = replicate 512 (waiting 0 4 1);
}

-- units, appends and entries
pub record PlacingOrder : Type 0 where
  pub begin_eight : answered (over 0 10) (replicate 7 (begin_unit version5)) (begin_unit version5) ≡ number 7
  pub begin_nine : answered (over 0 10) eight_units (begin_unit version5) ≡ refusal TooManyUnits
  pub append_fits : answered (over 2 10) [] (append (replicate 8 1)) ≡ ok
  pub append_no_room : answered (over 2 10) [] (append (replicate 9 1)) ≡ refusal NoRoom
  pub place_no_unit : answered (over 2 10) [] (place_entry 200) ≡ refusal NoUnit
  pub place_bad_entry : answered (over 2 10) (begin_unit version5 ∷ []) (place_entry 128) ≡ refusal BadEntry
  pub place_at_start : answered (over 2 10) (begin_unit version5 ∷ []) (place_entry 127) ≡ refusal AtUnitStart
  pub place_done : answered (over 2 10) (append (1 ∷ []) ∷ begin_unit version5 ∷ []) (place_entry 127) ≡ ok
  pub place_twice : answered (over 2 10) (place_entry 127 ∷ append (1 ∷ []) ∷ begin_unit version5 ∷ []) (place_entry 127) ≡ refusal AlreadyPlaced

-- sizes and writes
pub record WritingOrder : Type 0 where
  pub size_no_unit : answered (over 2 10) [] (ask_size None) ≡ refusal NoUnit
  pub size_no_expression : answered (over 2 10) (begin_unit version5 ∷ []) (ask_size None) ≡ refusal NoExpression
  pub size_forward : answered (over 2 10) (begin_unit version5 ∷ []) (ask_size (Some unplaced_base)) ≡ refusal UnsupportedExpressionForwardReference
  pub frame_size_no_expression : answered (over 2 10) [] (ask_frame_size None version5) ≡ refusal NoExpression
  pub frame_size_base : answered (over 2 10) [] (ask_frame_size (Some unplaced_base) version5) ≡ refusal UnsupportedCfiExpressionReference
  pub write_no_unit : answered (over 2 10) [] (write None) ≡ refusal NoUnit
  pub write_no_expression : answered (over 2 10) (begin_unit version5 ∷ []) (write None) ≡ refusal NoExpression
  pub write_encoding : answered crowded [] (write (Some unplaced_base)) ≡ refusal UnsupportedExpressionForwardReference
  pub write_too_many : answered crowded [] (write (Some (called 1))) ≡ refusal TooManyReferences
  pub write_no_room : answered crowded [] (write (Some (in_a_row (UnsignedConstant 1 ∷ [])))) ≡ refusal NoRoom
  pub write_fits : answered (over 5 10) (begin_unit version5 ∷ []) (write (Some (called 1))) ≡ number 5
  pub write_one_short : answered (over 6 10) (begin_unit version5 ∷ []) (write (Some (called 1))) ≡ refusal NoRoom
  pub frame_no_expression : answered (over 2 2) [] (write_frame None version5) ≡ refusal NoExpression
  pub frame_base : answered (over 2 2) [] (write_frame (Some unplaced_base) version5) ≡ refusal UnsupportedCfiExpressionReference
  pub frame_reference : answered (over 2 2) [] (write_frame (Some (called 1)) version5) ≡ refusal InvalidReference
  pub frame_no_room : answered (over 2 2) [] (write_frame (Some (in_a_row (UnsignedConstant 1 ∷ []))) version5) ≡ refusal NoRoom
  pub frame_fits : answered (over 2 3) [] (write_frame (Some (in_a_row (UnsignedConstant 1 ∷ []))) version5) ≡ number 1

-- fills and the end
pub record FillingOrder : Type 0 where
  pub fill_not_pending : answered (over 100 1000) written_at_100 (fill 102) ≡ refusal NotPending
  pub fill_not_placed : answered (over 100 1000) written_at_100 (fill 103) ≡ refusal NotPlaced
  pub fill_once : answered (over 100 1000) filled_at_103 (fill 103) ≡ refusal NotPending
  pub finish_pending : answered (over 100 1000) written_at_100 finish ≡ refusal StillPending
  pub finish_new : answered (over 100 1000) [] finish ≡ number 100

-- All the worked examples.
pub record WorkedSections : Type 0 where
  pub nested : NestedReference
  pub narrow : NarrowReference
  pub placing : PlacingOrder
  pub writing : WritingOrder
  pub filling : FillingOrder
