-- The size of an operation is the size of its tokens.
use Rattle.std.proofs.Common.{◌≡◌, ℕ, List, ℤ, Ok, Option, Result, refl, ap, arith}
use Rattle.std.proofs.lemmas.Bool.{lt-ltb, le-ltb}
use Rattle.common.specs.declared.encoding.Encoding.{Encoding}
use Rattle.common.specs.declared.error.Error.{Error}
use Rattle.dwarf.specs.Bytes.{size_of}
use Rattle.dwarf.specs.Tokens.{Tokens}
use Rattle.op.specs.declared.operation.Operation.{Operation}
use Rattle.rules.specs.Encode.{encode_op}
use Rattle.rules.specs.Scope.{Scope}
use Rattle.rules.specs.Sizes.{size_op}
use Rattle.rules.proofs.Rows.{Rows, by_rows}

sized_rows : (e : Encoding) (s : Scope) (leads : Option ℕ → Result ℤ Error) → Rows e s leads (λ o bs a. size_op e s o bs ≡ Ok (size_of a))
unfolding size_of
sized_rows e s leads = record {
  of_raw = λ d bs. ap Ok (omega arith);
  of_simple = λ o bs. refl;
  of_address = λ n bs w l. ap Ok (omega arith);
  of_literal = λ n bs l. rw (lt-ltb n 32 l);
  of_unsigned = λ n bs l. rw (le-ltb n 32 l) (ap Ok (omega arith));
  of_signed = λ z bs. ap Ok (omega arith);
  of_constant_type = λ base n d bs is l. rw is (ap Ok (omega arith));
  of_frame_offset = λ z bs. ap Ok (omega arith);
  of_breg = λ r z bs l. rw (lt-ltb r.0 32 l) (ap Ok (omega arith));
  of_bregx = λ r z bs l. rw (le-ltb r.0 32 l) (ap Ok (omega arith));
  of_register_type = λ r base n bs is. rw is (ap Ok (omega arith));
  of_dup = λ i bs z. rw (lt-ltb i 2 (omega arith));
  of_over = λ i bs z. rw (lt-ltb i 2 (omega arith));
  of_pick = λ i bs l. rw (le-ltb i 2 l);
  of_deref = λ space bs. refl;
  of_deref_size = λ space size bs. refl;
  of_deref_type = λ space size base n bs is. rw is (ap Ok (omega arith));
  of_plus = λ n bs. ap Ok (omega arith);
  of_skip = λ target z bs is. refl;
  of_branch = λ target z bs is. refl;
  of_call = λ entry n bs l. refl;
  of_call_ref = λ to owner entry bs is. ap Ok (omega arith);
  of_variable = λ to owner entry bs is. ap Ok (omega arith);
  of_convert = λ base n bs is. rw is (ap Ok (omega arith));
  of_reinterpret = λ base n bs is. rw is (ap Ok (omega arith));
  of_register = λ r bs l. rw (lt-ltb r.0 32 l);
  of_regx = λ r bs l. rw (le-ltb r.0 32 l) (ap Ok (omega arith));
  of_implicit_value = λ d bs. ap Ok (omega arith);
  of_implicit_pointer = λ to owner entry z bs is w. ap Ok (omega arith);
  of_piece = λ n bs. ap Ok (omega arith);
  of_bit_piece = λ n k bs. ap Ok (omega arith);
  of_parameter = λ entry n bs l. refl;
}

-- where an operation is encoded, its size is the size of its tokens
pub operation_size : (e : Encoding) (s : Scope) (leads : Option ℕ → Result ℤ Error) (o : Operation) (bs : List ℕ) (a : Tokens) →
    encode_op e s leads o bs ≡ Ok a → size_op e s o bs ≡ Ok (size_of a)
operation_size e s leads o bs a h = by_rows e s leads (λ o bs a. size_op e s o bs ≡ Ok (size_of a)) (sized_rows e s leads) o bs a h
