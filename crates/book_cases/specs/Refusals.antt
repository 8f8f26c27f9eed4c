-- What a case shows of a call.
use Rattle.std.specs.Prelude.{Ok, Err, Result}
use Rattle.common.specs.declared.error.Error.{Error}
use Rattle.book_cases.specs.declared.answers.Answer.{Answer}
use Rattle.book_cases.specs.declared.answers.Answer.TheVariants.{Accepted, Refused}

-- that it was accepted, or why it was refused
abbrev pub answer_of : {T E : Type 0} → (E → Error) → Result T E → Answer
answer_of why (Ok value) = Accepted
answer_of why (Err refused) = Refused (why refused)
