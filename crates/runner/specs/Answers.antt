-- What a line's call answers.
use Rattle.std.specs.Prelude.{◌≡◌, ℕ, List, [], Ok, Err, Result, codes}
use Rattle.std.specs.Fmt.{decimal}
use Rattle.common.specs.declared.error.Error.{Error}
use Rattle.writer.specs.Meaning.{Sink, append_answer, appended}
use Rattle.runner.specs.declared.answer.Answer.{Answer}
use Rattle.runner.specs.declared.answer.Answer.TheVariants.{Silent, Done, Number}

-- the text that an answer is printed as
abbrev pub answer_text : Answer → List ℕ
answer_text Silent = []
answer_text Done = codes "ok"
answer_text (Number n) = decimal n

-- the answer of a call that answers nothing
abbrev pub answered : Answer → Result (Unit {0}) Error → Result Answer Error
answered accepted (Ok nothing) = Ok accepted
answered accepted (Err e) = Err e

-- bytes were written at the end of a sink, or refused
pub record Written (accepted : Answer) (bytes : List ℕ) (before : Sink) (answer : Result Answer Error) (after : Sink) : Type 0 where
  pub answers : answer ≡ answered accepted (append_answer before (Ok bytes))
  pub leaves : after ≡ appended before (Ok bytes)
