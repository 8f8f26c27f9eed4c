-- The calls of a section: when each refuses, what it answers and what it leaves.
use Rattle.std.specs.Prelude.{ℕ, ◌+◌, ◌^◌, Bool, cond, not, ◌&&◌, List, [], ◌∷◌, ◌++◌, length, is_some, Some, None, Ok, Err, Option, Result, ◌==◌, nat_le, nat_lt}
use Rattle.std.specs.List.{slice_get}
use Rattle.common.specs.declared.encoding.Encoding.{Encoding}
use Rattle.common.specs.declared.error.Error.{Error}
use Rattle.common.specs.declared.error.Error.TheVariants.{
  ValueTooLarge,
  NoRoom,
  TooManyReferences,
  TooManyUnits,
  NoUnit,
  BadEntry,
  AlreadyPlaced,
  AtUnitStart,
  NotPlaced,
  NotPending,
  StillPending,
  NoExpression,
}
use Rattle.common.specs.declared.fixup.DebugInfoFixup.{DebugInfoFixup}
use Rattle.dwarf.specs.Fixed.{fixed_bytes}
use Rattle.dwarf.specs.Tokens.{Tokens}
use Rattle.dwarf.specs.Bytes.{bytes_of, size_of}
use Rattle.dwarf.specs.References.{references, patched}
use Rattle.rules.specs.Scope.{Scope, in_frame}
use Rattle.rules.specs.Tree.{Tree}
use Rattle.rules.specs.Sizes.{size_tree}
use Rattle.rules.specs.Encode.{encode}
use Rattle.unit.specs.Offsets.{unit_scope}
use Rattle.unit.specs.declared.UnitOffsets.{UnitOffsets}
use Rattle.claim.specs.Section.{State, fits, last_number, last_unit, entry_offset, fresh_unit, placed_in}

-- A call. One that is given a book and an expression's number has in their place the expression that the book holds under that number, if it holds one.
pub data Call : Type 0 where
  begin_unit : Encoding → Call
  append : List ℕ → Call
  place_entry : ℕ → Call
  ask_size : Option Tree → Call
  ask_frame_size : Option Tree → Encoding → Call
  write : Option Tree → Call
  write_frame : Option Tree → Encoding → Call
  fill : ℕ → Call
  finish : Call
  ask_pending : ℕ → Call

-- an expression that was accepted: its encoding, where its entries were looked up, its operations, and what they are encoded as
pub record Written : Type 0 where
  pub encoding : Encoding
  pub scope : Scope
  pub tree : Tree
  pub tokens : Tokens

-- What a call came to.
pub data Event : Type 0 where
  -- it was refused
  refused : Error → Event
  -- a unit of a number began
  began : ℕ → Encoding → Event
  -- bytes were added
  appended : List ℕ → Event
  -- an entry of a unit was placed at an offset
  placed : ℕ → ℕ → ℕ → Event
  -- a size was answered
  sized : ℕ → Event
  -- an expression was written in the last unit
  wrote : Written → Event
  -- a frame expression was written
  wrote_frame : Written → Event
  -- a reference was filled with a number
  filled : DebugInfoFixup → ℕ → Event
  -- the section is complete, with so many bytes
  finished : ℕ → Event
  -- a pending reference was answered, or that there is none
  listed : Option DebugInfoFixup → Event

-- the refusal where a test holds, else what follows
abbrev pub refused_if : Bool → Error → Event → Event
refused_if test e next = cond test (refused e) next

-- what follows on the expression of a book, or the refusal where it has none of the number
abbrev pub on_tree : Option Tree → (Tree → Event) → Event
on_tree None next = refused NoExpression
on_tree (Some t) next = next t

-- what follows on a value, or its refusal
abbrev pub on_value : {A : Type 0} → Result A Error → (A → Event) → Event
on_value (Ok a) next = next a
on_value (Err e) next = refused e

-- whether no unit has begun
abbrev pub none_begun : State → Bool
none_begun s = length s.units == 0

-- the refusal where so many bytes more do not fit, else what follows
abbrev pub with_room : State → ℕ → Event → Event
with_room s n next = refused_if (not (fits s n)) NoRoom next

-- an entry of the last unit is placed at the section's end: once, and never at the unit's own start
abbrev pub placing : State → ℕ → Event
placing s entry =
    refused_if (none_begun s) NoUnit
    (refused_if (nat_lt 127 entry) BadEntry
    (refused_if (is_some (entry_offset s.units (last_number s) entry)) AlreadyPlaced
    (refused_if (nat_le (length s.bytes) (last_unit s).start) AtUnitStart
    (placed (last_number s) entry (length s.bytes)))))

-- an expression that is encoded is written where at most 512 references are pending then, and where it fits
abbrev pub writing : State → Encoding → Scope → Tree → Tokens → Event
writing s e scope t tokens =
    refused_if (nat_lt 512 (length s.pending + length (references (length s.bytes) tokens))) TooManyReferences
    (with_room s (size_of tokens) (wrote (record { encoding = e; scope = scope; tree = t; tokens = tokens })))

-- a frame expression that is encoded is written where it fits
abbrev pub framing : State → Encoding → Tree → Tokens → Event
framing s e t tokens = with_room s (size_of tokens) (wrote_frame (record { encoding = e; scope = in_frame; tree = t; tokens = tokens }))

-- a reference that begins at an offset, and whose bytes lie within so many
abbrev pub stands_at : ℕ → ℕ → DebugInfoFixup → Bool
stands_at size offset p = p.offset == offset && nat_le (p.offset + p.width) size

-- the first of the references that a test holds of
unfoldable pub first_of : (DebugInfoFixup → Bool) → List DebugInfoFixup → Option DebugInfoFixup
first_of test [] = None
first_of test (p ∷ ps) = cond (test p) (Some p) (first_of test ps)

-- the references without the first that a test holds of
unfoldable pub without_first : (DebugInfoFixup → Bool) → List DebugInfoFixup → List DebugInfoFixup
without_first test [] = []
without_first test (p ∷ ps) = cond (test p) ps (p ∷ without_first test ps)

-- a reference is filled with its entry's offset, once that is known and where it fits
abbrev pub filling_with : DebugInfoFixup → Option ℕ → Event
filling_with p None = refused NotPlaced
filling_with p (Some n) = refused_if (nat_le (256 ^ p.width) n) ValueTooLarge (filled p n)

abbrev pub filling : State → Option DebugInfoFixup → Event
filling s None = refused NotPending
filling s (Some p) = filling_with p (entry_offset s.units p.unit p.entry)

-- what a call comes to, with its refusals in the order in which they are tried
unfoldable pub event : State → Call → Event
event s (begin_unit e) = refused_if (nat_le 8 (length s.units)) TooManyUnits (began (length s.units) e)
event s (append bytes) = with_room s (length bytes) (appended bytes)
event s (place_entry entry) = placing s entry
event s (ask_size x) = refused_if (none_begun s) NoUnit (on_tree x (λ t. on_value (size_tree (last_unit s).encoding (unit_scope (last_unit s)) t) sized))
event s (ask_frame_size x e) = on_tree x (λ t. on_value (size_tree e in_frame t) sized)
event s (write x) =
    refused_if (none_begun s) NoUnit
    (on_tree x (λ t. on_value (encode (last_unit s).encoding (unit_scope (last_unit s)) t) (writing s (last_unit s).encoding (unit_scope (last_unit s)) t)))
event s (write_frame x e) = on_tree x (λ t. on_value (encode e in_frame t) (framing s e t))
event s (fill offset) = filling s (first_of (stands_at (length s.bytes) offset) s.pending)
event s finish = refused_if (nat_lt 0 (length s.pending)) StillPending (finished (length s.bytes))
event s (ask_pending index) = listed (slice_get s.pending index)

-- What a call answers.
pub data Answer : Type 0 where
  -- that it is done
  ok : Answer
  -- a unit's number, a size, how many bytes were added, or the section's length
  number : ℕ → Answer
  -- a pending reference, or nothing past the last
  row : Option DebugInfoFixup → Answer
  -- the refusal
  refusal : Error → Answer

abbrev pub answer : Event → Answer
answer (refused e) = refusal e
answer (began unit e) = number unit
answer (appended bytes) = ok
answer (placed unit entry offset) = ok
answer (sized n) = number n
answer (wrote w) = number (size_of w.tokens)
answer (wrote_frame w) = number (size_of w.tokens)
answer (filled p n) = ok
answer (finished n) = number n
answer (listed p) = row p

-- the section with other bytes, with other units
abbrev pub with_bytes : State → List ℕ → List DebugInfoFixup → State
with_bytes s bytes pending = record { bytes = bytes; capacity = s.capacity; big = s.big; units = s.units; pending = pending }

abbrev pub with_units : State → List UnitOffsets → State
with_units s units = record { bytes = s.bytes; capacity = s.capacity; big = s.big; units = units; pending = s.pending }

-- what a call leaves; a refusal and a question change nothing
unfoldable pub after : State → Event → State
after s (refused e) = s
after s (began unit e) = with_units s (s.units ++ (fresh_unit e (length s.bytes) ∷ []))
after s (appended bytes) = with_bytes s (s.bytes ++ bytes) s.pending
after s (placed unit entry offset) = with_units s (placed_in s.units unit entry offset)
after s (sized n) = s
after s (wrote w) = with_bytes s (s.bytes ++ bytes_of s.big w.tokens) (s.pending ++ references (length s.bytes) w.tokens)
after s (wrote_frame w) = with_bytes s (s.bytes ++ bytes_of s.big w.tokens) s.pending
after s (filled p n) =
    with_bytes s (patched s.bytes p.offset (fixed_bytes s.big p.width n))
    (without_first (stands_at (length s.bytes) p.offset) s.pending)
after s (finished n) = s
after s (listed p) = s

-- where calls lead, the last of them first
unfoldable pub state : State → List Call → State
state s [] = s
state s (c ∷ calls) = after (state s calls) (event (state s calls) c)

-- what calls came to, the last first
abbrev pub History : Type 0
History = List Event

unfoldable pub history : State → List Call → History
history s [] = []
history s (c ∷ calls) = event (state s calls) c ∷ history s calls
