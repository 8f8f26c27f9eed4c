-- An operation is put behind those of the draft.
use Rattle.std.specs.Prelude.{ℕ, cond, List, length, Ok, Err, Result}
use Rattle.common.specs.declared.error.Error.{Error}
use Rattle.common.specs.declared.error.Error.TheVariants.{BookFull}
use Rattle.op.specs.declared.operation.Operation.{Operation}
use Rattle.book_state.specs.Calls.{pushed}
use Rattle.book_state.specs.State.{State, fits}

-- refused where it does not fit with its data
abbrev pub put : Operation → List ℕ → State → Result (Unit {0}) Error × State
put x bs s = cond (fits (length bs) s) (Ok tt, pushed x bs s) (Err BookFull, s)
