-- What is encoded of a readable expression is well formed.
use Rattle.std.proofs.Common.{◌≡◌, ℕ, ◌+◌, ◌^◌, ◌<◌, ◌≤◌, Bool, true, false, cond, ltb, leb, List, [], ◌∷◌, ℤ, pos, negsuc, ◌-ℤ◌, Some, None, Ok, Err, Option, Result, refl, arith}
use Rattle.std.proofs.lemmas.Bool.{false≢true, and_parts, and_from, or_left, or_right, ltb-true, le-leb}
use Rattle.common.specs.Formats.{word_size}
use Rattle.common.specs.declared.encoding.Encoding.{Encoding}
use Rattle.common.specs.declared.encoding.Format.{Format}
use Rattle.common.specs.declared.encoding.Format.TheVariants.{Dwarf32, Dwarf64}
use Rattle.common.specs.declared.error.Error.{Error}
use Rattle.common.specs.declared.error.Error.TheVariants.{ValueTooLarge}
use Rattle.dwarf.specs.Leb.{magnitude}
use Rattle.dwarf.specs.Fixed.{is_width}
use Rattle.dwarf.specs.Tokens.{Tokens, done, code, nested}
use Rattle.dwarf.specs.Bytes.{size_of, joined}
use Rattle.dwarf.specs.Codes.{Kind, nested_operations, table, lookup, operands, within, is_plain}
use Rattle.dwarf.specs.WellFormed.{
  WellFormed,
  at_end,
  at_code,
  at_unsigned,
  at_signed,
  at_fixed,
  at_displacement,
  at_block,
  at_short,
  at_nested,
  at_reference,
}
use Rattle.dwarf.proofs.Joining.{size_joined, formed_joined}
use Rattle.dwarf.proofs.Operands.{operands_breg, operands-plain}
use Rattle.op.specs.declared.operation.Operation.{Operation}
use Rattle.rules.specs.Results.{and_then}
use Rattle.rules.specs.Encode.{starts, encode_op, encode_tree, encode}
use Rattle.rules.specs.Kinds.{kind_of}
use Rattle.rules.specs.Operands.{by_version, in_two_bytes, target_at, displacement_from, after_branch, displaced}
use Rattle.rules.specs.Readable.{bare_codes, among, readable_kind, readable}
use Rattle.rules.specs.Scope.{Scope, base_of, base_or_generic}
use Rattle.rules.specs.Sizes.{size_tree, extent_op, extent_nested}
use Rattle.rules.specs.Tree.{Tree, end, plain, nest}
use Rattle.rules.proofs.Results.{not_refused, value_is, first_step, last_step}
use Rattle.std.proofs.Math.Bool.{or-false}
use Rattle.rules.proofs.Rows.{Rows, by_rows}
use Rattle.claim.specs.Fits.{FitsOperation, Fits}

-- the offsets of entries are numbers of 64 bits
abbrev pub Low : Scope → Type 0
Low s = (entry n : ℕ) → base_of s entry ≡ Ok n → n < 2 ^ 64

-- two signed bytes hold the displacement of a branch
two_bytes : (z : ℤ) → in_two_bytes z ≡ true → magnitude z < 2 ^ 15
two_bytes (pos n) h = let l = ltb-true n 32768 h in omega arith
two_bytes (negsuc m) h = let l = ltb-true m 32768 h in omega arith

displaced-fits : (hs : List ℕ) (after : ℕ) (target : Option ℕ) (z : ℤ) → displaced hs after target ≡ Ok z → magnitude z < 2 ^ 15
displaced-fits hs after target z h =
    first_step (target_at hs target) (displacement_from after) (magnitude z < 2 ^ 15) z h (λ to is k. go to (in_two_bytes (pos to -ℤ pos after)) refl k)
  where
    go : (to : ℕ) (b : Bool) → in_two_bytes (pos to -ℤ pos after) ≡ b → cond b (Ok (pos to -ℤ pos after)) (Err ValueTooLarge) ≡ Ok z → magnitude z < 2 ^ 15
    go to true e k = two_bytes z (value_is (λ y. in_two_bytes y ≡ true) (pos to -ℤ pos after) z k e)
    go to false e k = not_refused (magnitude z < 2 ^ 15) ValueTooLarge z k

-- codes without operands
bare_plain : (c : ℕ) → among bare_codes c ≡ true → is_plain c ≡ true
bare_plain c h = rw (or-false (within 0x9f 0x9f c)) at h

literal_plain : (c : ℕ) → 0x30 ≤ c → c ≤ 0x6f → is_plain c ≡ true
literal_plain c a b =
    or_right (within 0x06 0x06 c) _ (or_right (within 0x12 0x14 c) _ (or_right (within 0x16 0x22 c) _ (or_right (within 0x24 0x27 c) _
    (or_right (within 0x29 0x2e c) _ (or_left (within 0x30 0x6f c) _ (and_from (leb 0x30 c) (leb c 0x6f) (le-leb 0x30 c a) (le-leb c 0x6f b)))))))

in_range : (a z c : ℕ) → a ≤ c → c ≤ z → within a z c ≡ true
in_range a z c l m = and_from (leb a c) (leb c z) (le-leb a c l) (le-leb c z m)

pub word_width : (f : Format) → is_width (word_size f) ≡ true
word_width Dwarf32 = refl
word_width Dwarf64 = refl

-- one of two codes with the same operands
either_code : (e : Encoding) (kinds : List Kind) (b : Bool) (new old : ℕ) → operands e new ≡ Some kinds → operands e old ≡ Some kinds
    → operands e (cond b old new) ≡ Some kinds
either_code e kinds true new old h k = k
either_code e kinds false new old h k = h

module _ (e : Encoding) (s : Scope) (low : Low s) where
  based : (base : Option ℕ) (n : ℕ) → base_or_generic s base ≡ Ok n → n < 2 ^ 64
  based None n h = value_is (λ m. m < 2 ^ 64) 0 n h (omega arith)
  based (Some entry) n h = low entry n h

  -- what is shown of each operation
  abbrev FormedOp : Operation → List ℕ → Tokens → Type 0
  FormedOp o bs a = readable_kind (kind_of o) ≡ true → FitsOperation o → size_of a < 2 ^ 64 → WellFormed e [] a

  formed_rows : (leads : Option ℕ → Result ℤ Error) → ((target : Option ℕ) (z : ℤ) → leads target ≡ Ok z → magnitude z < 2 ^ 15)
      → Rows e s leads FormedOp
  unfolding operands lookup table size_of
  formed_rows leads two = record {
    of_raw = λ d bs r f l. absurd (false≢true r);
    of_simple = λ o bs r f l. at_code (operands-plain e o.0 (bare_plain o.0 r)) at_end;
    of_address = λ n bs w m r f l. at_code refl (at_fixed w m at_end);
    of_literal = λ n bs m r f l. at_code (operands-plain e (0x30 + n) (literal_plain (0x30 + n) (omega arith) (omega arith))) at_end;
    of_unsigned = λ n bs m r f l. at_code refl (at_unsigned f at_end);
    of_signed = λ z bs r f l. at_code refl (at_signed f at_end);
    of_constant_type = λ base n d bs is m r f l.
        at_code (either_code e _ (ltb e.version 5) 0xa4 0xf4 refl refl) (at_unsigned (low base n is) (at_short (omega arith) at_end));
    of_frame_offset = λ z bs r f l. at_code refl (at_signed f at_end);
    of_breg = λ q z bs m r f l. at_code (operands_breg e (0x70 + q.0) (in_range 0x70 0x8f (0x70 + q.0) (omega arith) (omega arith))) (at_signed f.1 at_end);
    of_bregx = λ q z bs m r f l. at_code refl (at_unsigned (let k = f.0 in omega arith) (at_signed f.1 at_end));
    of_register_type = λ q base n bs is r f l.
        at_code (either_code e _ (ltb e.version 5) 0xa5 0xf5 refl refl) (at_unsigned (omega arith) (at_unsigned (low base n is) at_end));
    of_dup = λ i bs z r f l. at_code refl at_end;
    of_over = λ i bs z r f l. at_code refl at_end;
    of_pick = λ i bs m r f l. at_code refl (at_fixed refl (omega arith) at_end);
    of_deref = λ space bs r f l. at_code (either_code e _ space 0x06 0x18 refl refl) at_end;
    of_deref_size = λ space size bs r f l. at_code (either_code e _ space 0x94 0x95 refl refl) (at_fixed refl (omega arith) at_end);
    of_deref_type = λ space size base n bs is r f l.
        at_code (either_code e _ space (by_version e 0xa6 0xf6) 0xa7 (either_code e _ (ltb e.version 5) 0xa6 0xf6 refl refl) refl)
        (at_fixed refl (omega arith) (at_unsigned (low base n is) at_end));
    of_plus = λ n bs r f l. at_code refl (at_unsigned f at_end);
    of_skip = λ target z bs is r f l. at_code refl (at_displacement (two target z is) at_end);
    of_branch = λ target z bs is r f l. at_code refl (at_displacement (two target z is) at_end);
    of_call = λ entry n bs m r f l. at_code refl (at_fixed refl m at_end);
    of_call_ref = λ to owner entry bs is r f l. at_code refl (at_reference (word_width e.format) at_end);
    of_variable = λ to owner entry bs is r f l. at_code refl (at_reference (word_width e.format) at_end);
    of_convert = λ base n bs is r f l. at_code (either_code e _ (ltb e.version 5) 0xa8 0xf7 refl refl) (at_unsigned (based base n is) at_end);
    of_reinterpret = λ base n bs is r f l. at_code (either_code e _ (ltb e.version 5) 0xa9 0xf9 refl refl) (at_unsigned (based base n is) at_end);
    of_register = λ q bs m r f l. at_code (operands-plain e (0x50 + q.0) (literal_plain (0x50 + q.0) (omega arith) (omega arith))) at_end;
    of_regx = λ q bs m r f l. at_code refl (at_unsigned (omega arith) at_end);
    of_implicit_value = λ d bs r f l. at_code refl (at_block (omega arith) at_end);
    of_implicit_pointer = λ to owner entry z bs is w r f l.
        at_code (either_code e _ (ltb e.version 5) 0xa0 0xf2 refl refl) (at_reference w (at_signed f at_end));
    of_piece = λ n bs r f l. at_code refl (at_unsigned f at_end);
    of_bit_piece = λ n k bs r f l. at_code refl (at_unsigned f.0 (at_unsigned f.1 at_end));
    of_parameter = λ entry n bs m r f l. at_code refl (at_fixed refl m at_end);
  }

  abbrev FormedTree : Tree → Tokens → Type 0
  FormedTree t a = readable t ≡ true → Fits t → size_of a < 2 ^ 64 → WellFormed e [] a

  formed_plain : (hs : List ℕ) (after : ℕ) (o : Operation) (bs : List ℕ) (t : Tree) (x r : Tokens) → encode_op e s (displaced hs after) o bs ≡ Ok x
      → FormedTree t r → FormedTree (plain o bs t) (joined x r)
  formed_plain hs after o bs t x r is k read f l =
      let both = and_parts (readable_kind (kind_of o)) (readable t) read in
      let size = size_joined x r in
      let front : FormedOp o bs x = by_rows e s (displaced hs after) FormedOp (formed_rows (displaced hs after) (displaced-fits hs after)) o bs x is in
      formed_joined e r (k both.1 f.1 (omega arith)) (front both.0 f.0 (omega arith))

  formed_nest : (y t : Tree) (x r : Tokens) → FormedTree y x → FormedTree t r → FormedTree (nest y t) (code (by_version e 0xa3 0xf3) (nested x r))
  unfolding operands lookup table size_of
  formed_nest y t x r j k read f l =
      let both = and_parts (readable y) (readable t) read in
      at_code (either_code e (nested_operations ∷ []) (ltb e.version 5) 0xa3 0xf3 refl refl)
      (at_nested (omega arith) (j both.0 f.0 (omega arith)) (k both.1 f.1 (omega arith)))

  formed_tree : (hs : List ℕ) (p : ℕ) (t : Tree) (a : Tokens) → encode_tree e s hs p t ≡ Ok a → FormedTree t a
  formed_tree hs p end a h = value_is (FormedTree end) done a h (λ r f l. at_end)
  formed_tree hs p (plain o bs t) a h =
      first_step (encode_op e s (displaced hs (after_branch p)) o bs) (λ x. and_then (encode_tree e s hs (p + extent_op e s o bs) t) (λ r. Ok (joined x r)))
      (FormedTree (plain o bs t) a) a h
      (λ x is k. last_step (encode_tree e s hs (p + extent_op e s o bs) t) (joined x) (FormedTree (plain o bs t)) a k
      (λ r ir. formed_plain hs (after_branch p) o bs t x r is (formed_tree hs (p + extent_op e s o bs) t r ir)))
  formed_tree hs p (nest y t) a h =
      first_step (encode_tree e s (starts e s 0 y) 0 y)
      (λ x. and_then (encode_tree e s hs (p + extent_nested e s y) t) (λ r. Ok (code (by_version e 0xa3 0xf3) (nested x r)))) (FormedTree (nest y t) a) a h
      (λ x is k. last_step (encode_tree e s hs (p + extent_nested e s y) t) (λ r. code (by_version e 0xa3 0xf3) (nested x r)) (FormedTree (nest y t)) a k
      (λ r ir. formed_nest y t x r (formed_tree (starts e s 0 y) 0 y x is) (formed_tree hs (p + extent_nested e s y) t r ir)))

pub encoded_well_formed : (e : Encoding) (s : Scope) (t : Tree) (a : Tokens) → encode e s t ≡ Ok a → readable t ≡ true → Fits t → Low s
    → size_of a < 2 ^ 64 → WellFormed e [] a
encoded_well_formed e s t a h r f low l =
    first_step (size_tree e s t) (λ size. encode_tree e s (starts e s 0 t) 0 t) (WellFormed e [] a) a h
    (λ n is k. formed_tree e s low (starts e s 0 t) 0 t a k r f l)
