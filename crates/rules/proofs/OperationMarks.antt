-- What stands where in the tokens of one operation: it begins once, at its first byte, and a branch has its displacement after its code.
use Rattle.std.proofs.Common.{◌≡◌, ℕ, ◌+◌, List, [], ◌∷◌, ℤ, Ok, Option, Result, refl}
use Rattle.common.specs.declared.encoding.Encoding.{Encoding}
use Rattle.common.specs.declared.error.Error.{Error}
use Rattle.dwarf.specs.Tokens.{Tokens}
use Rattle.op.specs.declared.operation.Operation.{Operation}
use Rattle.rules.specs.Branches.{first, jump, marks}
use Rattle.rules.specs.Encode.{encode_op}
use Rattle.rules.specs.Kinds.{Kind, given, bare, branch, nesting, other, kind_of}
use Rattle.rules.specs.Scope.{Scope}
use Rattle.rules.proofs.Rows.{Rows, by_rows}

-- the tokens of one operation, which is no branch
abbrev pub Once : Tokens → Type 0
Once a = (p : ℕ) → marks p a ≡ first p ∷ []

-- what the tokens of an operation of some kind have where
abbrev pub Marked : (Option ℕ → Result ℤ Error) → Kind → Tokens → Type 0
Marked leads given a = Once a
Marked leads (bare c) a = Once a
Marked leads (branch target) a = (z : ℤ) × (leads target ≡ Ok z) × ((p : ℕ) → marks p a ≡ first p ∷ jump (p + 1) z ∷ [])
Marked leads (nesting n) a = Once a
Marked leads other a = Once a

marked-rows : (e : Encoding) (s : Scope) (leads : Option ℕ → Result ℤ Error) → Rows e s leads (λ o bs a. Marked leads (kind_of o) a)
marked-rows e s leads = record {
  of_raw = λ d bs p. refl;
  of_simple = λ o bs p. refl;
  of_address = λ n bs w l p. refl;
  of_literal = λ n bs l p. refl;
  of_unsigned = λ n bs l p. refl;
  of_signed = λ z bs p. refl;
  of_constant_type = λ base n d bs is l p. refl;
  of_frame_offset = λ z bs p. refl;
  of_breg = λ r z bs l p. refl;
  of_bregx = λ r z bs l p. refl;
  of_register_type = λ r base n bs is p. refl;
  of_dup = λ i bs z p. refl;
  of_over = λ i bs z p. refl;
  of_pick = λ i bs l p. refl;
  of_deref = λ space bs p. refl;
  of_deref_size = λ space size bs p. refl;
  of_deref_type = λ space size base n bs is p. refl;
  of_plus = λ n bs p. refl;
  of_skip = λ target z bs is. (z, is, λ p. refl);
  of_branch = λ target z bs is. (z, is, λ p. refl);
  of_call = λ entry n bs l p. refl;
  of_call_ref = λ to owner entry bs is p. refl;
  of_variable = λ to owner entry bs is p. refl;
  of_convert = λ base n bs is p. refl;
  of_reinterpret = λ base n bs is p. refl;
  of_register = λ r bs l p. refl;
  of_regx = λ r bs l p. refl;
  of_implicit_value = λ d bs p. refl;
  of_implicit_pointer = λ to owner entry z bs is w p. refl;
  of_piece = λ n bs p. refl;
  of_bit_piece = λ n k bs p. refl;
  of_parameter = λ entry n bs l p. refl;
}

pub operation_marks : (e : Encoding) (s : Scope) (leads : Option ℕ → Result ℤ Error) (o : Operation) (bs : List ℕ) (a : Tokens) →
    encode_op e s leads o bs ≡ Ok a → Marked leads (kind_of o) a
operation_marks e s leads o bs a h = by_rows e s leads (λ o bs a. Marked leads (kind_of o) a) (marked-rows e s leads) o bs a h
