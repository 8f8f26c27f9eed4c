-- The bytes of an operation are its code and operands, and then its data.
use Rattle.std.proofs.Common.{◌≡◌, ℕ, Bool, List, [], ◌∷◌, ◌++◌, length, ℤ, Ok, Option, Result, sym, refl, ap, ◌∙◌, append_assoc}
use Rattle.std.proofs.lemmas.List.{append-nil}
use Rattle.common.specs.declared.encoding.Encoding.{Encoding}
use Rattle.common.specs.declared.error.Error.{Error}
use Rattle.dwarf.specs.Bytes.{bytes_of}
use Rattle.dwarf.specs.Fixed.{fixed_bytes, twos_complement}
use Rattle.dwarf.specs.Leb.{uleb, sleb}
use Rattle.dwarf.specs.Tokens.{Tokens, done, code, unsigned, signed, fixed, displacement, block, short, nested, reference, raw}
use Rattle.op.specs.declared.operation.Operation.{Operation}
use Rattle.rules.specs.Encode.{encode_op}
use Rattle.rules.specs.Scope.{Scope}
use Rattle.rules.proofs.Rows.{Rows, by_rows}
use Rattle.operation.specs.Fronts.{front, data_in}

-- nothing is nested, and nothing follows data
abbrev pub Flat : Tokens → Type 0
Flat done = Unit {0}
Flat (code c ts) = Flat ts
Flat (unsigned n ts) = Flat ts
Flat (signed z ts) = Flat ts
Flat (fixed width n ts) = Flat ts
Flat (displacement z ts) = Flat ts
Flat (block bytes ts) = ts ≡ done
Flat (short bytes ts) = ts ≡ done
Flat (nested inner ts) = ⊥
Flat (reference width unit entry ts) = Flat ts
Flat (raw bytes ts) = ts ≡ done

-- the data
abbrev pub tail : Tokens → List ℕ
tail done = []
tail (code c ts) = tail ts
tail (unsigned n ts) = tail ts
tail (signed z ts) = tail ts
tail (fixed width n ts) = tail ts
tail (displacement z ts) = tail ts
tail (block bytes ts) = bytes
tail (short bytes ts) = bytes
tail (nested inner ts) = []
tail (reference width unit entry ts) = tail ts
tail (raw bytes ts) = bytes

last : (big : Bool) (bytes : List ℕ) (ts : Tokens) → ts ≡ done → bytes ++ bytes_of big ts ≡ bytes
unfolding bytes_of
last big bytes ts e = ap (λ t. bytes ++ bytes_of big t) e ∙ append-nil bytes

pub front_bytes : (big : Bool) (before : List ℕ) (a : Tokens) → Flat a → before ++ bytes_of big a ≡ front big before a ++ tail a
unfolding bytes_of
front_bytes big before done f = refl
front_bytes big before (code c ts) f = sym (append_assoc before (c ∷ []) (bytes_of big ts)) ∙ front_bytes big (before ++ (c ∷ [])) ts f
front_bytes big before (unsigned n ts) f = sym (append_assoc before (uleb n) (bytes_of big ts)) ∙ front_bytes big (before ++ uleb n) ts f
front_bytes big before (signed z ts) f = sym (append_assoc before (sleb z) (bytes_of big ts)) ∙ front_bytes big (before ++ sleb z) ts f
front_bytes big before (fixed width n ts) f =
    sym (append_assoc before (fixed_bytes big width n) (bytes_of big ts)) ∙ front_bytes big (before ++ fixed_bytes big width n) ts f
front_bytes big before (displacement z ts) f =
    sym (append_assoc before (fixed_bytes big 2 (twos_complement 2 z)) (bytes_of big ts)) ∙ front_bytes big (before ++ fixed_bytes big 2 (twos_complement 2 z)) ts f
front_bytes big before (block bytes ts) f =
    ap (λ z. before ++ (uleb (length bytes) ++ z)) (last big bytes ts f) ∙ sym (append_assoc before (uleb (length bytes)) bytes)
front_bytes big before (short bytes ts) f =
    ap (λ z. before ++ (length bytes ∷ z)) (last big bytes ts f) ∙ sym (append_assoc before (length bytes ∷ []) bytes)
front_bytes big before (nested inner ts) f = absurd f
front_bytes big before (reference width unit entry ts) f =
    sym (append_assoc before (fixed_bytes big width 0) (bytes_of big ts)) ∙ front_bytes big (before ++ fixed_bytes big width 0) ts f
front_bytes big before (raw bytes ts) f = ap (λ z. before ++ z) (last big bytes ts f)

flat_rows : (e : Encoding) (s : Scope) (leads : Option ℕ → Result ℤ Error) → Rows e s leads (λ o bs a. Flat a × (tail a ≡ data_in o bs))
flat_rows e s leads = record {
  of_raw = λ d bs. (refl, refl);
  of_simple = λ o bs. (tt, refl);
  of_address = λ n bs w l. (tt, refl);
  of_literal = λ n bs l. (tt, refl);
  of_unsigned = λ n bs l. (tt, refl);
  of_signed = λ z bs. (tt, refl);
  of_constant_type = λ base n d bs is l. (refl, refl);
  of_frame_offset = λ z bs. (tt, refl);
  of_breg = λ r z bs l. (tt, refl);
  of_bregx = λ r z bs l. (tt, refl);
  of_register_type = λ r base n bs is. (tt, refl);
  of_dup = λ i bs z. (tt, refl);
  of_over = λ i bs z. (tt, refl);
  of_pick = λ i bs l. (tt, refl);
  of_deref = λ space bs. (tt, refl);
  of_deref_size = λ space size bs. (tt, refl);
  of_deref_type = λ space size base n bs is. (tt, refl);
  of_plus = λ n bs. (tt, refl);
  of_skip = λ target z bs is. (tt, refl);
  of_branch = λ target z bs is. (tt, refl);
  of_call = λ entry n bs l. (tt, refl);
  of_call_ref = λ to owner entry bs is. (tt, refl);
  of_variable = λ to owner entry bs is. (tt, refl);
  of_convert = λ base n bs is. (tt, refl);
  of_reinterpret = λ base n bs is. (tt, refl);
  of_register = λ r bs l. (tt, refl);
  of_regx = λ r bs l. (tt, refl);
  of_implicit_value = λ d bs. (refl, refl);
  of_implicit_pointer = λ to owner entry z bs is w. (tt, refl);
  of_piece = λ n bs. (tt, refl);
  of_bit_piece = λ n k bs. (tt, refl);
  of_parameter = λ entry n bs l. (tt, refl);
}

-- the bytes of an operation are those of its front, and then its data
pub operation_bytes : (e : Encoding) (s : Scope) (leads : Option ℕ → Result ℤ Error) (o : Operation) (bs : List ℕ) (a : Tokens) (big : Bool) →
    encode_op e s leads o bs ≡ Ok a → bytes_of big a ≡ front big [] a ++ data_in o bs
operation_bytes e s leads o bs a big h =
    let f = by_rows e s leads (λ o bs a. Flat a × (tail a ≡ data_in o bs)) (flat_rows e s leads) o bs a h in
    front_bytes big [] a f.0 ∙ ap (λ z. front big [] a ++ z) f.1
