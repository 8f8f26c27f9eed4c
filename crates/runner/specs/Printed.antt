-- The lines that a run prints.
use Rattle.std.specs.Prelude.{ℕ, List, [], ◌++◌, Ok, Err, Result, codes}
use Rattle.std.specs.Fmt.{decimal}
use Rattle.common.specs.declared.error.Error.{Error}
use Rattle.common.specs.Refusals.{refusal_text}
use Rattle.script.specs.declared.fault.Fault.{Fault}
use Rattle.script.specs.declared.verb.Verb.{Verb}
use Rattle.script.specs.Faults.{fault_text}
use Rattle.script.specs.Verbs.{word_for}
use Rattle.runner.specs.declared.answer.Answer.{Answer}
use Rattle.runner.specs.declared.answer.Answer.TheVariants.{Silent, Done, Number}
use Rattle.runner.specs.Answers.{answer_text}

-- a call's line: the number of the script's line, its first word and what is answered
abbrev pub call_line : ℕ → Verb → List ℕ → List ℕ
call_line line verb text = decimal line ++ codes " " ++ word_for verb ++ codes " " ++ text ++ codes "\n"

-- what a call's answer prints
abbrev pub answer_line : ℕ → Verb → Result Answer Error → List ℕ
answer_line line verb (Ok Silent) = []
answer_line line verb (Ok Done) = call_line line verb (answer_text Done)
answer_line line verb (Ok (Number n)) = call_line line verb (answer_text (Number n))
answer_line line verb (Err e) = call_line line verb (codes "refused " ++ refusal_text e)

-- what an error of the script prints
abbrev pub fault_line : ℕ → Fault → List ℕ
fault_line line fault = decimal line ++ codes " error: " ++ fault_text fault ++ codes "\n"
