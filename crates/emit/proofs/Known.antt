-- What is known of an operation that was checked.
use Rattle.std.proofs.Common.{◌≡◌, ℕ, true, List, length, ℤ, is_ok as std_is_ok, Ok, Err, Result, sym, refl, ap, ◌∙◌, arith}
use Rattle.common.specs.declared.encoding.Encoding.{Encoding}
use Rattle.common.specs.declared.error.Error.{Error}
use Rattle.dwarf.specs.Bytes.{bytes_of, size_of}
use Rattle.dwarf.specs.References.{references}
use Rattle.dwarf.specs.Tokens.{Tokens}
use Rattle.dwarf.proofs.Sizes.{length_bytes}
use Rattle.op.specs.declared.operation.Operation.{Operation}
use Rattle.book_state.specs.Operations.{shape}
use Rattle.book_state.specs.State.{State}
use Rattle.operation.specs.Fronts.{data_in}
use Rattle.operation.specs.Rows.{row_of}
use Rattle.operation.proofs.Referring.{operation_references}
use Rattle.rules.specs.Encode.{encode_op}
use Rattle.rules.specs.Operands.{after_branch, displaced}
use Rattle.rules.specs.Passes.{tokens_or}
use Rattle.rules.specs.Results.{and_then}
use Rattle.rules.specs.Scope.{Scope}
use Rattle.rules.proofs.Results.{not_refused}
use Rattle.writer.specs.Meaning.{Sink}
use Rattle.emit.specs.declared.cursor.Open.{Open}
use Rattle.emit.specs.Held.{data_at}
use Rattle.emit.specs.Room.{Room, Encoded, op_tokens}
use Rattle.emit.specs.Walk.{starts_of, next_op, next_data, next_start, check_at, tokens_at, leads_to}
use Rattle.emit.proofs.Plain.{data_held}
use Rattle.emit.proofs.Putting.{is_ok}

checked_ok : (r : Result Tokens Error) → and_then {Y = Unit {0}} r (λ a. Ok tt) ≡ Ok tt → std_is_ok r ≡ true
checked_ok (Ok a) h = refl
checked_ok (Err z) h = not_refused _ z tt h

-- its displacement is not refused
pub not_led : (e : Encoding) (s : Scope) (b : State) (at : Open) (z : Error) → leads_to e s b at (Err z) → check_at e s b at ≡ Ok tt → ⊥
not_led e s b at z h k =
    not_refused ⊥ z tt (ap (λ (r : Result Tokens Error). and_then r (λ a. Ok tt)) h ∙ k)

module _ (e : Encoding) (s : Scope) (b : State) (at : Open) (o : Operation) (here : o ≡ next_op b at) (ds : List ℕ) (is : ds ≡ data_at b (shape o)) (z : ℤ)
    (leads : leads_to e s b at (Ok z)) (checked : check_at e s b at ≡ Ok tt) where
  same : encode_op e s (λ _. Ok z) o ds ≡ encode_op e s (displaced (starts_of e s b at.number) (after_branch (next_start e s b at))) (next_op b at) (next_data b at)
  same =
      ap (λ (d : List ℕ). encode_op e s (λ _. Ok z) o d) is
      ∙ (ap (λ (y : Operation). encode_op e s (λ _. Ok z) y (data_at b (shape y))) here ∙ leads)

  pub known : Encoded e s z o ds
  known = ap std_is_ok same ∙ checked_ok (encode_op e s (displaced (starts_of e s b at.number) (after_branch (next_start e s b at))) (next_op b at) (next_data b at)) checked

  pub tokens_are : op_tokens e s z o ds ≡ tokens_at e s b at
  tokens_are = ap tokens_or same

  pub only : data_in o ds ≡ ds
  only = ap (data_in o) is ∙ (data_held b o ∙ sym is)

  pub room_known : (k : Sink) → Room k (size_of (tokens_at e s b at)) → Room k (length (bytes_of k.big (op_tokens e s z o ds)))
  room_known k h =
      let l = length_bytes k.big (op_tokens e s z o ds) in
      let n = ap size_of tokens_are in
      omega (arith, h)

  -- its reference is the one that the tokens set down
  pub row_is : (n : ℕ) → row_of e n o ≡ references n (tokens_at e s b at)
  row_is n =
      sym (operation_references e s (λ _. Ok z) o ds (tokens_at e s b at) n (is_ok (encode_op e s (λ _. Ok z) o ds) known ∙ ap Ok tokens_are))
