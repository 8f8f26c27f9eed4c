-- The rules as a table: every operation that is encoded is one of these rows. A property of encoded operations is proved row by row.
use Rattle.std.proofs.Common.{◌≡◌, ℕ, ◌+◌, ◌^◌, ◌<◌, ◌≤◌, Bool, true, false, cond, eqb, ltb, leb, List, length, ℤ, Ok, Err, Option, Result, refl, arith}
use Rattle.std.proofs.lemmas.Bool.{ltb-true, ltb-false, leb-true, eqb-true, eqb-false}
use Rattle.common.specs.Formats.{word_size}
use Rattle.common.specs.declared.address.Address.{Address as AnAddress}
use Rattle.common.specs.declared.address.Address.TheVariants as address
use Rattle.common.specs.declared.constants.DwOp.{DwOp}
use Rattle.common.specs.declared.encoding.Encoding.{Encoding}
use Rattle.common.specs.declared.encoding.Register.{Register as RegisterNumber}
use Rattle.common.specs.declared.error.Error.{Error}
use Rattle.common.specs.declared.error.Error.TheVariants.{ValueTooLarge, UnsupportedWordSize}
use Rattle.dwarf.specs.Fixed.{is_width, in_width}
use Rattle.dwarf.specs.Tokens.{Tokens, done, code, unsigned, signed, fixed, displacement, block, short, reference, raw}
use Rattle.op.specs.declared.operation.Data.{Data}
use Rattle.op.specs.declared.operation.DebugInfoRef.{DebugInfoRef}
use Rattle.op.specs.declared.operation.DebugInfoRef.TheVariants.{Symbol, Entry}
use Rattle.op.specs.declared.operation.Operation.{Operation}
use Rattle.op.specs.declared.operation.Operation.TheVariants.{
  Raw,
  Simple,
  Address,
  UnsignedConstant,
  SignedConstant,
  ConstantType,
  FrameOffset,
  RegisterOffset,
  RegisterType,
  Pick,
  Deref,
  DerefSize,
  DerefType,
  PlusConstant,
  Skip,
  Branch,
  Call,
  CallRef,
  VariableValue,
  Convert,
  Reinterpret,
  EntryValue,
  Register,
  ImplicitValue,
  ImplicitPointer,
  Piece,
  BitPiece,
  ParameterRef,
}
use Rattle.rules.specs.Results.{and_then}
use Rattle.rules.specs.Encode.{encode_op}
use Rattle.rules.specs.Operands.{by_version, short_data_of, referred}
use Rattle.rules.specs.Scope.{Scope, in_frame, in_unit, base_of, base_or_generic}
use Rattle.rules.specs.Sizes.{pointer_size}
use Rattle.rules.proofs.Results.{value_is, first_step, last_step}

-- what is to be shown of an operation, its data and its tokens, for each row
pub record Rows (e : Encoding) (s : Scope) (leads : Option ℕ → Result ℤ Error) (P : Operation → List ℕ → Tokens → Type 0) : Type 0 where
  pub of_raw : (d : Data) (bs : List ℕ) → P (Raw d) bs (raw bs done)
  pub of_simple : (o : DwOp) (bs : List ℕ) → P (Simple o) bs (code o.0 done)
  pub of_address : (n : ℕ) (bs : List ℕ) → is_width e.address_size ≡ true → n < 256 ^ e.address_size →
      P (Address (address.Constant n)) bs (code 0x03 (fixed e.address_size n done))
  pub of_literal : (n : ℕ) (bs : List ℕ) → n < 32 → P (UnsignedConstant n) bs (code (0x30 + n) done)
  pub of_unsigned : (n : ℕ) (bs : List ℕ) → 32 ≤ n → P (UnsignedConstant n) bs (code 0x10 (unsigned n done))
  pub of_signed : (z : ℤ) (bs : List ℕ) → P (SignedConstant z) bs (code 0x11 (signed z done))
  pub of_constant_type : (base n : ℕ) (d : Data) (bs : List ℕ) → base_of s base ≡ Ok n → length bs ≤ 255 →
      P (ConstantType base d) bs (code (by_version e 0xa4 0xf4) (unsigned n (short bs done)))
  pub of_frame_offset : (z : ℤ) (bs : List ℕ) → P (FrameOffset z) bs (code 0x91 (signed z done))
  pub of_breg : (r : RegisterNumber) (z : ℤ) (bs : List ℕ) → r.0 < 32 → P (RegisterOffset r z) bs (code (0x70 + r.0) (signed z done))
  pub of_bregx : (r : RegisterNumber) (z : ℤ) (bs : List ℕ) → 32 ≤ r.0 → P (RegisterOffset r z) bs (code 0x92 (unsigned r.0 (signed z done)))
  pub of_register_type : (r : RegisterNumber) (base n : ℕ) (bs : List ℕ) → base_of s base ≡ Ok n →
      P (RegisterType r base) bs (code (by_version e 0xa5 0xf5) (unsigned r.0 (unsigned n done)))
  pub of_dup : (i : ℕ) (bs : List ℕ) → i ≡ 0 → P (Pick i) bs (code 0x12 done)
  pub of_over : (i : ℕ) (bs : List ℕ) → i ≡ 1 → P (Pick i) bs (code 0x14 done)
  pub of_pick : (i : ℕ) (bs : List ℕ) → 2 ≤ i → P (Pick i) bs (code 0x15 (fixed 1 i done))
  pub of_deref : (space : Bool) (bs : List ℕ) → P (Deref space) bs (code (cond space 0x18 0x06) done)
  pub of_deref_size : (space : Bool) (size : ℕ) (bs : List ℕ) → P (DerefSize space size) bs (code (cond space 0x95 0x94) (fixed 1 size done))
  pub of_deref_type : (space : Bool) (size base n : ℕ) (bs : List ℕ) → base_of s base ≡ Ok n →
      P (DerefType space size base) bs (code (cond space 0xa7 (by_version e 0xa6 0xf6)) (fixed 1 size (unsigned n done)))
  pub of_plus : (n : ℕ) (bs : List ℕ) → P (PlusConstant n) bs (code 0x23 (unsigned n done))
  pub of_skip : (target : Option ℕ) (z : ℤ) (bs : List ℕ) → leads target ≡ Ok z → P (Skip target) bs (code 0x2f (displacement z done))
  pub of_branch : (target : Option ℕ) (z : ℤ) (bs : List ℕ) → leads target ≡ Ok z → P (Branch target) bs (code 0x28 (displacement z done))
  pub of_call : (entry n : ℕ) (bs : List ℕ) → n < 256 ^ 4 → P (Call entry) bs (code 0x99 (fixed 4 n done))
  pub of_call_ref : (to : DebugInfoRef) (owner entry : ℕ) (bs : List ℕ) → to ≡ Entry owner entry →
      P (CallRef to) bs (code 0x9a (reference (word_size e.format) owner entry done))
  pub of_variable : (to : DebugInfoRef) (owner entry : ℕ) (bs : List ℕ) → to ≡ Entry owner entry →
      P (VariableValue to) bs (code 0xfd (reference (word_size e.format) owner entry done))
  pub of_convert : (base : Option ℕ) (n : ℕ) (bs : List ℕ) → base_or_generic s base ≡ Ok n →
      P (Convert base) bs (code (by_version e 0xa8 0xf7) (unsigned n done))
  pub of_reinterpret : (base : Option ℕ) (n : ℕ) (bs : List ℕ) → base_or_generic s base ≡ Ok n →
      P (Reinterpret base) bs (code (by_version e 0xa9 0xf9) (unsigned n done))
  pub of_register : (r : RegisterNumber) (bs : List ℕ) → r.0 < 32 → P (Register r) bs (code (0x50 + r.0) done)
  pub of_regx : (r : RegisterNumber) (bs : List ℕ) → 32 ≤ r.0 → P (Register r) bs (code 0x90 (unsigned r.0 done))
  pub of_implicit_value : (d : Data) (bs : List ℕ) → P (ImplicitValue d) bs (code 0x9e (block bs done))
  pub of_implicit_pointer : (to : DebugInfoRef) (owner entry : ℕ) (z : ℤ) (bs : List ℕ) → to ≡ Entry owner entry → is_width (pointer_size e) ≡ true →
      P (ImplicitPointer to z) bs (code (by_version e 0xa0 0xf2) (reference (pointer_size e) owner entry (signed z done)))
  pub of_piece : (n : ℕ) (bs : List ℕ) → P (Piece n) bs (code 0x93 (unsigned n done))
  pub of_bit_piece : (n k : ℕ) (bs : List ℕ) → P (BitPiece n k) bs (code 0x9d (unsigned n (unsigned k done)))
  pub of_parameter : (entry n : ℕ) (bs : List ℕ) → n < 256 ^ 4 → P (ParameterRef entry) bs (code 0xfa (fixed 4 n done))

-- one of two forms, by a test
chosen : (Q : Tokens → Type 0) (n bound : ℕ) (x y : Tokens) → (n < bound → Q x) → (bound ≤ n → Q y) → Q (cond (ltb n bound) x y)
chosen Q n bound x y k l = go (ltb n bound) refl
  where
    go : (b : Bool) → ltb n bound ≡ b → Q (cond b x y)
    go true h = k (ltb-true n bound h)
    go false h = l (ltb-false n bound h)

-- a number that is not refused has a width that holds it
in_width_lem : (Q : Type 0) (width n m : ℕ) → in_width width n ≡ Ok m → (n ≡ m → is_width width ≡ true → m < 256 ^ width → Q) → Q
in_width_lem Q width n m h k = go (is_width width) refl h
  where
    fits : is_width width ≡ true → (b : Bool) → ltb n (256 ^ width) ≡ b → cond b (Ok n) (Err ValueTooLarge) ≡ Ok m → Q
    fits w true l g = let e : n ≡ m = value_is (λ x. n ≡ x) n m g refl in let l' = ltb-true n (256 ^ width) l in k e w (omega arith)
    fits w false l g = absurd (cc)

    go : (b : Bool) → is_width width ≡ b → cond b (cond (ltb n (256 ^ width)) (Ok n) (Err ValueTooLarge)) (Err (UnsupportedWordSize width)) ≡ Ok m → Q
    go true w g = fits w (ltb n (256 ^ width)) refl g
    go false w g = absurd (cc)

-- a reference that is not refused is to an entry, in a width that is supported
referred_is : (Q : Tokens → Type 0) (s : Scope) (width : ℕ) (to : DebugInfoRef) (rest a : Tokens) → referred s width to rest ≡ Ok a →
    ((owner entry : ℕ) → to ≡ Entry owner entry → is_width width ≡ true → Q (reference width owner entry rest)) → Q a
referred_is Q s width (Symbol symbol) rest a h k = absurd (cc)
referred_is Q in_frame width (Entry owner entry) rest a h k = absurd (cc)
referred_is Q (in_unit start offsets) width (Entry owner entry) rest a h k = go (is_width width) refl h
  where
    go : (b : Bool) → is_width width ≡ b → cond b (Ok (reference width owner entry rest)) (Err (UnsupportedWordSize width)) ≡ Ok a → Q a
    go true fits g = value_is Q (reference width owner entry rest) a g (k owner entry refl fits)
    go false odd g = absurd (cc)

-- data that is not refused has a length of one byte
short_data : (Q : Type 0) (bs ds : List ℕ) → short_data_of bs ≡ Ok ds → (bs ≡ ds → length bs ≤ 255 → Q) → Q
short_data Q bs ds h k = go (leb (length bs) 255) refl h
  where
    go : (b : Bool) → leb (length bs) 255 ≡ b → cond b (Ok bs) (Err ValueTooLarge) ≡ Ok ds → Q
    go true fits g = k (value_is (λ xs. bs ≡ xs) bs ds g refl) (leb-true (length bs) 255 fits)
    go false long g = absurd (cc)

module _ (e : Encoding) (s : Scope) (leads : Option ℕ → Result ℤ Error) (P : Operation → List ℕ → Tokens → Type 0) (rows : Rows e s leads P) where
  address_row : (x : AnAddress) (bs : List ℕ) (a : Tokens) → encode_op e s leads (Address x) bs ≡ Ok a → P (Address x) bs a
  address_row (address.Constant n) bs a h =
      last_step (in_width e.address_size n) (λ m. code 0x03 (fixed e.address_size m done)) (P (Address (address.Constant n)) bs) a h
      (λ m is. in_width_lem (P (Address (address.Constant n)) bs (code 0x03 (fixed e.address_size m done))) e.address_size n m is
      (λ same w l. rw same (rows.of_address m bs w l)))
  address_row (address.Symbol symbol addend) bs a h = absurd (cc)

  constant_type_row : (base : ℕ) (d : Data) (bs : List ℕ) (a : Tokens) → encode_op e s leads (ConstantType base d) bs ≡ Ok a → P (ConstantType base d) bs a
  constant_type_row base d bs a h =
      let c : ℕ = by_version e 0xa4 0xf4 in
      first_step (base_of s base) (λ n. and_then (short_data_of bs) (λ ds. Ok (code c (unsigned n (short ds done))))) (P (ConstantType base d) bs a) a h
      (λ n is k. last_step (short_data_of bs) (λ ds. code c (unsigned n (short ds done))) (P (ConstantType base d) bs) a k
      (λ ds id. short_data (P (ConstantType base d) bs (code c (unsigned n (short ds done)))) bs ds id
      (λ same l. rw (← same) (rows.of_constant_type base n d bs is l))))

  pick_row : (i : ℕ) (bs : List ℕ) → P (Pick i) bs (cond (eqb i 0) (code 0x12 done) (cond (eqb i 1) (code 0x14 done) (code 0x15 (fixed 1 i done))))
  pick_row i bs = go (eqb i 0) refl
    where
      some : (i ≡ 0 → ⊥) → (b : Bool) → eqb i 1 ≡ b → P (Pick i) bs (cond b (code 0x14 done) (code 0x15 (fixed 1 i done)))
      some z true h = rows.of_over i bs (eqb-true i 1 h)
      some z false h = let f = eqb-false i 1 h in rows.of_pick i bs (omega arith)

      go : (b : Bool) → eqb i 0 ≡ b → P (Pick i) bs (cond b (code 0x12 done) (cond (eqb i 1) (code 0x14 done) (code 0x15 (fixed 1 i done))))
      go true h = rows.of_dup i bs (eqb-true i 0 h)
      go false h = some (eqb-false i 0 h) (eqb i 1) refl

  -- an entry's offset in four bytes
  entry_row : (o : Operation) (entry c : ℕ) (bs : List ℕ) (a : Tokens) → and_then (and_then (base_of s entry) (in_width 4)) (λ n. Ok (code c (fixed 4 n done))) ≡ Ok a →
      ((n : ℕ) → n < 256 ^ 4 → P o bs (code c (fixed 4 n done))) → P o bs a
  entry_row o entry c bs a h k =
      last_step (and_then (base_of s entry) (in_width 4)) (λ n. code c (fixed 4 n done)) (P o bs) a h
      (λ n is. first_step (base_of s entry) (in_width 4) (P o bs (code c (fixed 4 n done))) n is
      (λ m im l. in_width_lem (P o bs (code c (fixed 4 n done))) 4 m n l (λ same w fits. k n fits)))

  -- a reference in front of other operands
  reference_row : (o : Operation) (width c : ℕ) (to : DebugInfoRef) (rest : Tokens) (bs : List ℕ) (a : Tokens) →
      and_then (referred s width to rest) (λ t. Ok (code c t)) ≡ Ok a →
      ((owner entry : ℕ) → to ≡ Entry owner entry → is_width width ≡ true → P o bs (code c (reference width owner entry rest))) → P o bs a
  reference_row o width c to rest bs a h k =
      last_step (referred s width to rest) (code c) (P o bs) a h (λ t is. referred_is (λ r. P o bs (code c r)) s width to rest t is k)

  pub by_rows : (o : Operation) (bs : List ℕ) (a : Tokens) → encode_op e s leads o bs ≡ Ok a → P o bs a
  by_rows (Raw d) bs a h = value_is (P (Raw d) bs) (raw bs done) a h (rows.of_raw d bs)
  by_rows (Simple o) bs a h = value_is (P (Simple o) bs) (code o.0 done) a h (rows.of_simple o bs)
  by_rows (Address x) bs a h = address_row x bs a h
  by_rows (UnsignedConstant n) bs a h =
      value_is (P (UnsignedConstant n) bs) (cond (ltb n 32) (code (0x30 + n) done) (code 0x10 (unsigned n done))) a h
      (chosen (P (UnsignedConstant n) bs) n 32 (code (0x30 + n) done) (code 0x10 (unsigned n done)) (rows.of_literal n bs) (rows.of_unsigned n bs))
  by_rows (SignedConstant z) bs a h = value_is (P (SignedConstant z) bs) (code 0x11 (signed z done)) a h (rows.of_signed z bs)
  by_rows (ConstantType base d) bs a h = constant_type_row base d bs a h
  by_rows (FrameOffset z) bs a h = value_is (P (FrameOffset z) bs) (code 0x91 (signed z done)) a h (rows.of_frame_offset z bs)
  by_rows (RegisterOffset r z) bs a h =
      let one : Tokens = code (0x70 + r.0) (signed z done) in
      let two : Tokens = code 0x92 (unsigned r.0 (signed z done)) in
      value_is (P (RegisterOffset r z) bs) (cond (ltb r.0 32) one two) a h
      (chosen (P (RegisterOffset r z) bs) r.0 32 one two (rows.of_breg r z bs) (rows.of_bregx r z bs))
  by_rows (RegisterType r base) bs a h =
      last_step (base_of s base) (λ n. code (by_version e 0xa5 0xf5) (unsigned r.0 (unsigned n done))) (P (RegisterType r base) bs) a h
      (λ n is. rows.of_register_type r base n bs is)
  by_rows (Pick i) bs a h =
      value_is (P (Pick i) bs) (cond (eqb i 0) (code 0x12 done) (cond (eqb i 1) (code 0x14 done) (code 0x15 (fixed 1 i done)))) a h (pick_row i bs)
  by_rows (Deref space) bs a h = value_is (P (Deref space) bs) (code (cond space 0x18 0x06) done) a h (rows.of_deref space bs)
  by_rows (DerefSize space size) bs a h =
      value_is (P (DerefSize space size) bs) (code (cond space 0x95 0x94) (fixed 1 size done)) a h (rows.of_deref_size space size bs)
  by_rows (DerefType space size base) bs a h =
      last_step (base_of s base) (λ n. code (cond space 0xa7 (by_version e 0xa6 0xf6)) (fixed 1 size (unsigned n done))) (P (DerefType space size base) bs) a h
      (λ n is. rows.of_deref_type space size base n bs is)
  by_rows (PlusConstant n) bs a h = value_is (P (PlusConstant n) bs) (code 0x23 (unsigned n done)) a h (rows.of_plus n bs)
  by_rows (Skip target) bs a h =
      last_step (leads target) (λ z. code 0x2f (displacement z done)) (P (Skip target) bs) a h (λ z is. rows.of_skip target z bs is)
  by_rows (Branch target) bs a h =
      last_step (leads target) (λ z. code 0x28 (displacement z done)) (P (Branch target) bs) a h (λ z is. rows.of_branch target z bs is)
  by_rows (Call entry) bs a h = entry_row (Call entry) entry 0x99 bs a h (λ n fits. rows.of_call entry n bs fits)
  by_rows (CallRef to) bs a h =
      reference_row (CallRef to) (word_size e.format) 0x9a to done bs a h (λ owner entry is w. rows.of_call_ref to owner entry bs is)
  by_rows (VariableValue to) bs a h =
      reference_row (VariableValue to) (word_size e.format) 0xfd to done bs a h (λ owner entry is w. rows.of_variable to owner entry bs is)
  by_rows (Convert base) bs a h =
      last_step (base_or_generic s base) (λ n. code (by_version e 0xa8 0xf7) (unsigned n done)) (P (Convert base) bs) a h
      (λ n is. rows.of_convert base n bs is)
  by_rows (Reinterpret base) bs a h =
      last_step (base_or_generic s base) (λ n. code (by_version e 0xa9 0xf9) (unsigned n done)) (P (Reinterpret base) bs) a h
      (λ n is. rows.of_reinterpret base n bs is)
  by_rows (EntryValue n) bs a h = absurd (cc)
  by_rows (Register r) bs a h =
      value_is (P (Register r) bs) (cond (ltb r.0 32) (code (0x50 + r.0) done) (code 0x90 (unsigned r.0 done))) a h
      (chosen (P (Register r) bs) r.0 32 (code (0x50 + r.0) done) (code 0x90 (unsigned r.0 done)) (rows.of_register r bs) (rows.of_regx r bs))
  by_rows (ImplicitValue d) bs a h = value_is (P (ImplicitValue d) bs) (code 0x9e (block bs done)) a h (rows.of_implicit_value d bs)
  by_rows (ImplicitPointer to z) bs a h =
      reference_row (ImplicitPointer to z) (pointer_size e) (by_version e 0xa0 0xf2) to (signed z done) bs a h
      (λ owner entry is w. rows.of_implicit_pointer to owner entry z bs is w)
  by_rows (Piece n) bs a h = value_is (P (Piece n) bs) (code 0x93 (unsigned n done)) a h (rows.of_piece n bs)
  by_rows (BitPiece n k) bs a h = value_is (P (BitPiece n k) bs) (code 0x9d (unsigned n (unsigned k done))) a h (rows.of_bit_piece n k bs)
  by_rows (ParameterRef entry) bs a h = entry_row (ParameterRef entry) entry 0xfa bs a h (λ n fits. rows.of_parameter entry n bs fits)
