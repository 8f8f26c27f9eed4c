-- A call's answer as its caller gets it.
use Rattle.std.specs.Prelude.{ℕ, false, Ok, Err, Result}
use Rattle.common.specs.declared.error.Error.{Error}
use Rattle.book_state.specs.State.{State}
use Rattle.book.specs.declared.draft.Draft.{Draft}
use Rattle.book.specs.declared.ticket.Ticket.{Ticket}

-- another form of the answer, beside what the call leaves
abbrev pub answered : {A B : Type 0} → (A → B) → A × State → B × State
answered form p = (form p.0, p.1)

-- an accepted call gives a draft
abbrev pub opening : Result (Unit {0}) Error → Result Draft Error
opening (Ok u) = Ok (record { 0 = tt })
opening (Err e) = Err e

-- an accepted branch gives a ticket that is not spent
abbrev pub ticketed : Result ℕ Error → Result Ticket Error
ticketed (Ok n) = Ok (record { branch = n; spent = false })
ticketed (Err e) = Err e

-- a refused call hands back what it was given
abbrev pub handed_back : {X Y : Type 0} → Y → Result X Error → Result X (Y × Error)
handed_back y (Ok x) = Ok x
handed_back y (Err e) = Err (y, e)
