-- Calls that a program makes and the answers that it gets, as the rules have them.
use Rattle.std.specs.Prelude.{List, [], ◌∷◌, ◌++◌, Ok, Err, Result}
use Rattle.common.specs.declared.error.Error.{Error}
use Rattle.book.specs.Holds.{holds}
use Rattle.book_state.specs.State as book
use Rattle.expression.specs.Sealed.{tree_at}
use Rattle.section.specs.declared.calls.Call.{Call as Given}
use Rattle.section.specs.declared.calls.Call.TheVariants.{BeginUnit, Append, Place, Size, SizeFrame, Write, WriteFrame, Fill, Finish, Pending}
use Rattle.section.specs.declared.calls.NumberedCall.{NumberedCall}
use Rattle.section.specs.declared.calls.NumberedCall.TheVariants as numbered
use Rattle.section.specs.declared.calls.Answer.{Answer as Got}
use Rattle.section.specs.declared.calls.Answer.TheVariants.{Done, Number, Row}
use Rattle.claim.specs.Section.{State, New}
use Rattle.claim.specs.Calls.{
  Call,
  begin_unit,
  append,
  place_entry,
  ask_size,
  ask_frame_size,
  write,
  write_frame,
  fill,
  finish,
  ask_pending,
  Answer,
  ok,
  number,
  row,
  refusal,
  history,
}
use Rattle.claim.specs.History.{fills}
use Rattle.claim.specs.Claim.{Made, made, calls, Runs, Told, Kept}

-- a call, with its expression in place of the book and the number
abbrev pub call_of : Given → Call
call_of (BeginUnit e) = begin_unit e
call_of (Append bytes) = append bytes.now
call_of (Place entry) = place_entry entry
call_of (Size b n) = ask_size (tree_at (holds b.now) n)
call_of (SizeFrame b n e) = ask_frame_size (tree_at (holds b.now) n) e
call_of (Write b n) = write (tree_at (holds b.now) n)
call_of (WriteFrame b n e) = write_frame (tree_at (holds b.now) n) e
call_of (Fill offset) = fill offset
call_of Finish = finish
call_of (Pending index) = ask_pending index

-- a call that names no book, with the expressions of a book in place of their numbers
abbrev pub call_in : book.State → NumberedCall → Call
call_in b (numbered.BeginUnit e) = begin_unit e
call_in b (numbered.Append bytes) = append bytes.now
call_in b (numbered.Place entry) = place_entry entry
call_in b (numbered.Size n) = ask_size (tree_at b n)
call_in b (numbered.SizeFrame n e) = ask_frame_size (tree_at b n) e
call_in b (numbered.Write n) = write (tree_at b n)
call_in b (numbered.WriteFrame n e) = write_frame (tree_at b n) e
call_in b (numbered.Fill offset) = fill offset
call_in b numbered.Finish = finish
call_in b (numbered.Pending index) = ask_pending index

-- an answer
abbrev pub answer_of : Result Got Error → Answer
answer_of (Ok Done) = ok
answer_of (Ok (Number n)) = number n
answer_of (Ok (Row p)) = row p
answer_of (Err e) = refusal e

-- calls, by what each says, and their answers, the last first; as many as there are of both
abbrev pub all_made : {C : Type 0} → (C → Call) → List C → List (Result Got Error) → List Made
all_made say [] rs = []
all_made say (c ∷ cs) [] = []
all_made say (c ∷ cs) (a ∷ rs) = all_made say cs rs ++ (made (say c) (answer_of a) ∷ [])

-- what holds where calls were made behind a run that led from a new section to m
pub record Onward (s₀ : State) (ds : List Made) (m : State) (es : List Made) (s : State) : Type 0 where
  pub run : Runs s₀ (es ++ ds) s
  pub told : Told s₀ (history s₀ (calls (es ++ ds))) s
  pub kept : Kept m.bytes s.bytes (fills (history m (calls es)))

-- the calls answer and leave what the rules say, and they carry the claim on
pub record Ran (m : State) (es : List Made) (s : State) : Type 0 where
  pub followed : Runs m es s
  pub carried : (s₀ : State) (ds : List Made) → New s₀ → Runs s₀ ds m → Onward s₀ ds m es s
