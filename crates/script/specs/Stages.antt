-- The order of a script's lines: what makes the sink and the book comes before the first call, each at most once, and
-- the sink not after the bytes held.
use Rattle.std.specs.Prelude.{Bool, true, false, cond, ◌||◌, List, [], ◌∷◌, Some, None, Option}
use Rattle.script.specs.declared.verb.Part.{Part}
use Rattle.script.specs.declared.verb.Part.TheVariants.{New, Sink, Book, Hold, Call}
use Rattle.script.specs.declared.stage.Stage.{Stage}

abbrev pub is_sink : Part → Bool
is_sink New = false
is_sink Sink = true
is_sink Book = false
is_sink Hold = false
is_sink Call = false

abbrev pub is_book : Part → Bool
is_book New = false
is_book Sink = false
is_book Book = true
is_book Hold = false
is_book Call = false

abbrev pub is_hold : Part → Bool
is_hold New = false
is_hold Sink = false
is_hold Book = false
is_hold Hold = true
is_hold Call = false

abbrev pub is_call : Part → Bool
is_call New = false
is_call Sink = false
is_call Book = false
is_call Hold = false
is_call Call = true

-- whether a line comes too late after an earlier one
abbrev pub late : Part → Part → Bool
late New earlier = false
late Sink earlier = is_call earlier || (is_sink earlier || is_hold earlier)
late Book earlier = is_call earlier || is_book earlier
late Hold earlier = is_call earlier || is_hold earlier
late Call earlier = false

-- whether some line passes a test
abbrev pub any : (Part → Bool) → List Part → Bool
any test [] = false
any test (p ∷ ps) = test p || any test ps

-- the lines since the script's start or the last `new`, after one more
abbrev pub since : List Part → Part → List Part
since past New = []
since past Sink = Sink ∷ past
since past Book = Book ∷ past
since past Hold = Hold ∷ past
since past Call = Call ∷ past

-- what a stage keeps of them
abbrev pub seen : List Part → Stage
seen past = record { sink = any is_sink past; book = any is_book past; hold = any is_hold past; begun = any is_call past }

-- the stage after one more line, unless it comes too late
abbrev pub stage_after : List Part → Part → Option Stage
stage_after past p = cond (any (late p) past) None (Some (seen (since past p)))

-- whether a stage says that a line comes too late
abbrev pub late_at : Stage → Part → Bool
late_at s New = false
late_at s Sink = s.begun || (s.sink || s.hold)
late_at s Book = s.begun || s.book
late_at s Hold = s.begun || s.hold
late_at s Call = false

-- a stage with one more line
abbrev pub grown : Stage → Part → Stage
grown s New = record { sink = false; book = false; hold = false; begun = false }
grown s Sink = record { sink = true; book = s.book; hold = s.hold; begun = s.begun }
grown s Book = record { sink = s.sink; book = true; hold = s.hold; begun = s.begun }
grown s Hold = record { sink = s.sink; book = s.book; hold = true; begun = s.begun }
grown s Call = record { sink = s.sink; book = s.book; hold = s.hold; begun = true }
