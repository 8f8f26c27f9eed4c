-- The references of an operation's tokens.
use Rattle.std.proofs.Common.{◌≡◌, ℕ, ◌+◌, List, ℤ, Ok, Option, Result, sym, refl, ap}
use Rattle.common.specs.Formats.{word_size}
use Rattle.common.specs.declared.encoding.Encoding.{Encoding}
use Rattle.common.specs.declared.error.Error.{Error}
use Rattle.dwarf.specs.References.{references}
use Rattle.dwarf.specs.Tokens.{Tokens}
use Rattle.op.specs.declared.operation.Operation.{Operation}
use Rattle.rules.specs.Encode.{encode_op}
use Rattle.rules.specs.Scope.{Scope}
use Rattle.rules.specs.Sizes.{pointer_size}
use Rattle.rules.proofs.Rows.{Rows, by_rows}
use Rattle.operation.specs.Rows.{entry_row, row_of}

row-rows : (e : Encoding) (s : Scope) (leads : Option ℕ → Result ℤ Error) → Rows e s leads (λ o bs a. (at : ℕ) → references at a ≡ row_of e at o)
unfolding references
row-rows e s leads = record {
  of_raw = λ d bs at. refl;
  of_simple = λ o bs at. refl;
  of_address = λ n bs w l at. refl;
  of_literal = λ n bs l at. refl;
  of_unsigned = λ n bs l at. refl;
  of_signed = λ z bs at. refl;
  of_constant_type = λ base n d bs is l at. refl;
  of_frame_offset = λ z bs at. refl;
  of_breg = λ r z bs l at. refl;
  of_bregx = λ r z bs l at. refl;
  of_register_type = λ r base n bs is at. refl;
  of_dup = λ i bs z at. refl;
  of_over = λ i bs z at. refl;
  of_pick = λ i bs l at. refl;
  of_deref = λ space bs at. refl;
  of_deref_size = λ space size bs at. refl;
  of_deref_type = λ space size base n bs is at. refl;
  of_plus = λ n bs at. refl;
  of_skip = λ target z bs is at. refl;
  of_branch = λ target z bs is at. refl;
  of_call = λ entry n bs l at. refl;
  of_call_ref = λ to owner entry bs is at. sym (ap (entry_row (at + 1) (word_size e.format)) is);
  of_variable = λ to owner entry bs is at. sym (ap (entry_row (at + 1) (word_size e.format)) is);
  of_convert = λ base n bs is at. refl;
  of_reinterpret = λ base n bs is at. refl;
  of_register = λ r bs l at. refl;
  of_regx = λ r bs l at. refl;
  of_implicit_value = λ d bs at. refl;
  of_implicit_pointer = λ to owner entry z bs is w at. sym (ap (entry_row (at + 1) (pointer_size e)) is);
  of_piece = λ n bs at. refl;
  of_bit_piece = λ n k bs at. refl;
  of_parameter = λ entry n bs l at. refl;
}

-- an operation's reference stands right behind its code
pub operation_references : (e : Encoding) (s : Scope) (leads : Option ℕ → Result ℤ Error) (o : Operation) (bs : List ℕ) (a : Tokens) (at : ℕ) →
    encode_op e s leads o bs ≡ Ok a → references at a ≡ row_of e at o
operation_references e s leads o bs a at h = by_rows e s leads (λ o bs a. (at : ℕ) → references at a ≡ row_of e at o) (row-rows e s leads) o bs a h at
