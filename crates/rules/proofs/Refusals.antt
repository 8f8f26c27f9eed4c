-- Why an expression is refused.
use Rattle.std.proofs.Common.{◌≡◌, ℕ, suc, ◌+◌, ◌^◌, ◌<◌, ◌≤◌, Bool, true, false, cond, ltb, leb, List, length, get_or, ℤ, pos, ◌-ℤ◌, Some, None, Ok, Err, Option, Result, refl, ap, subst, arith}
use Rattle.std.proofs.lemmas.Bool.{lt-ltb}
use Rattle.common.specs.Errors.{number_of}
use Rattle.common.specs.Formats.{word_size}
use Rattle.common.specs.declared.address.Address.{Address as AnAddress}
use Rattle.common.specs.declared.address.Address.TheVariants as address
use Rattle.common.specs.declared.encoding.Encoding.{Encoding}
use Rattle.common.specs.declared.error.Error.{Error}
use Rattle.common.specs.declared.error.Error.TheVariants.{ValueTooLarge, UnsupportedWordSize}
use Rattle.dwarf.specs.Fixed.{is_width, in_width}
use Rattle.dwarf.specs.Leb.{uleb}
use Rattle.dwarf.specs.Bytes.{joined}
use Rattle.dwarf.specs.Tokens.{Tokens, done, code, unsigned, signed, fixed, displacement, short, nested, reference}
use Rattle.op.specs.declared.operation.DebugInfoRef.{DebugInfoRef}
use Rattle.op.specs.declared.operation.DebugInfoRef.TheVariants.{Symbol, Entry}
use Rattle.op.specs.declared.operation.Operation.{Operation}
use Rattle.op.specs.declared.operation.Operation.TheVariants.{
  Raw,
  Simple,
  Address,
  UnsignedConstant,
  SignedConstant,
  ConstantType,
  FrameOffset,
  RegisterOffset,
  RegisterType,
  Pick,
  Deref,
  DerefSize,
  DerefType,
  PlusConstant,
  Skip,
  Branch,
  Call,
  CallRef,
  VariableValue,
  Convert,
  Reinterpret,
  EntryValue,
  Register,
  ImplicitValue,
  ImplicitPointer,
  Piece,
  BitPiece,
  ParameterRef,
}
use Rattle.rules.specs.Results.{and_then, plus}
use Rattle.rules.specs.Claims.{RefusalsListed}
use Rattle.rules.specs.Encode.{encode_op, starts, encode_tree}
use Rattle.rules.specs.Kinds.{branch, kind_of}
use Rattle.rules.specs.Operands.{by_version, address_in, short_data_of, referred, in_two_bytes, after_branch, displaced}
use Rattle.rules.specs.Scope.{Scope, in_frame, in_unit, from_start, base_of, base_or_generic}
use Rattle.rules.specs.Sealed.{count_of, SealedKind, Sealed}
use Rattle.rules.specs.Sizes.{size_op, size_tree, nested_size, extent_op, extent_nested, pointer_size}
use Rattle.rules.specs.Tree.{Tree, end, plain, nest}

-- whatever refusal an answer has is one of the first six
abbrev Listed : {X : Type 0} → Result X Error → Type 0
Listed (Ok x) = Unit {0}
Listed (Err refusal) = number_of refusal ≤ 6

listed_cond : {X : Type 0} (b : Bool) (x y : Result X Error) → Listed x → Listed y → Listed (cond b x y)
listed_cond true x y h k = h
listed_cond false x y h k = k

listed_then : {X Y : Type 0} (x : Result X Error) (f : X → Result Y Error) → Listed x → ((v : X) → Listed (f v)) → Listed (and_then x f)
listed_then (Ok v) f h k = k v
listed_then (Err refusal) f h k = h

listed_from : (start : ℕ) (offset : Option ℕ) → Listed (from_start start offset)
listed_from start None = omega arith
listed_from start (Some offset) = tt

listed_base : (s : Scope) (entry : ℕ) → Listed (base_of s entry)
listed_base in_frame entry = omega arith
listed_base (in_unit start offsets) entry = listed_from start (offsets entry)

listed_generic : (s : Scope) (base : Option ℕ) → Listed (base_or_generic s base)
listed_generic s None = tt
listed_generic s (Some entry) = listed_base s entry

listed_width : (width n : ℕ) → Listed (in_width width n)
listed_width width n =
    listed_cond (is_width width) (cond (ltb n (256 ^ width)) (Ok n) (Err ValueTooLarge)) (Err (UnsupportedWordSize width))
    (listed_cond (ltb n (256 ^ width)) (Ok n) (Err ValueTooLarge) tt (omega arith)) (omega arith)

listed_address : (width : ℕ) (a : AnAddress) → Listed (address_in width a)
listed_address width (address.Constant n) = listed_width width n
listed_address width (address.Symbol symbol addend) = omega arith

listed_short : (bs : List ℕ) → Listed (short_data_of bs)
listed_short bs = listed_cond (leb (length bs) 255) (Ok bs) (Err ValueTooLarge) tt (omega arith)

listed_referred : (s : Scope) (width : ℕ) (to : DebugInfoRef) (rest : Tokens) → Listed (referred s width to rest)
listed_referred s width (Symbol symbol) rest = omega arith
listed_referred in_frame width (Entry owner entry) rest = omega arith
listed_referred (in_unit start offsets) width (Entry owner entry) rest =
    listed_cond (is_width width) (Ok (reference width owner entry rest)) (Err (UnsupportedWordSize width)) tt (omega arith)

-- a branch to one of the places
listed_displaced : (hs : List ℕ) (after k : ℕ) → k < length hs → Listed (displaced hs after (Some k))
listed_displaced hs after k h =
    let to : ℕ = get_or hs k 0 in
    rw (lt-ltb k (length hs) h)
    (listed_cond (in_two_bytes (pos to -ℤ pos after)) (Ok (pos to -ℤ pos after)) (Err ValueTooLarge) tt (omega arith))

abbrev Leads : (Option ℕ → Result ℤ Error) → ℕ → Type 0
Leads leads n = (k : ℕ) → k ≤ n → Listed (leads (Some k))

listed_branch : (leads : Option ℕ → Result ℤ Error) (n c : ℕ) (target : Option ℕ) → Leads leads n → SealedKind n (branch target) →
    Listed (and_then (leads target) (λ z. Ok (code c (displacement z done))))
listed_branch leads n c None l h = absurd h
listed_branch leads n c (Some k) l h = listed_then (leads (Some k)) (λ z. Ok (code c (displacement z done))) (l k h) (λ z. tt)

listed_size : (e : Encoding) (s : Scope) (n : ℕ) (o : Operation) (bs : List ℕ) → SealedKind n (kind_of o) → Listed (size_op e s o bs)
listed_size e s n (Raw d) bs h = tt
listed_size e s n (Simple o) bs h = tt
listed_size e s n (Address a) bs h = tt
listed_size e s n (UnsignedConstant m) bs h = tt
listed_size e s n (SignedConstant z) bs h = tt
listed_size e s n (ConstantType base d) bs h = listed_then (base_of s base) (λ m. Ok (1 + (length (uleb m) + (1 + length bs)))) (listed_base s base) (λ m. tt)
listed_size e s n (FrameOffset z) bs h = tt
listed_size e s n (RegisterOffset r z) bs h = tt
listed_size e s n (RegisterType r base) bs h =
    listed_then (base_of s base) (λ m. Ok (1 + (length (uleb r.0) + length (uleb m)))) (listed_base s base) (λ m. tt)
listed_size e s n (Pick i) bs h = tt
listed_size e s n (Deref space) bs h = tt
listed_size e s n (DerefSize space size) bs h = tt
listed_size e s n (DerefType space size base) bs h = listed_then (base_of s base) (λ m. Ok (2 + length (uleb m))) (listed_base s base) (λ m. tt)
listed_size e s n (PlusConstant m) bs h = tt
listed_size e s n (Skip target) bs h = tt
listed_size e s n (Branch target) bs h = tt
listed_size e s n (Call entry) bs h = tt
listed_size e s n (CallRef entry) bs h = tt
listed_size e s n (VariableValue entry) bs h = tt
listed_size e s n (Convert base) bs h = listed_then (base_or_generic s base) (λ m. Ok (1 + length (uleb m))) (listed_generic s base) (λ m. tt)
listed_size e s n (Reinterpret base) bs h = listed_then (base_or_generic s base) (λ m. Ok (1 + length (uleb m))) (listed_generic s base) (λ m. tt)
listed_size e s n (EntryValue m) bs h = absurd h
listed_size e s n (Register r) bs h = tt
listed_size e s n (ImplicitValue d) bs h = tt
listed_size e s n (ImplicitPointer entry z) bs h = tt
listed_size e s n (Piece m) bs h = tt
listed_size e s n (BitPiece m k) bs h = tt
listed_size e s n (ParameterRef entry) bs h = tt

-- an operation's steps, and then tokens
listed_op : {X : Type 0} (x : Result X Error) (F : X → Tokens) → Listed x → Listed (and_then x (λ v. Ok (F v)))
listed_op x F h = listed_then x (λ v. Ok (F v)) h (λ v. tt)

listed_entry : (s : Scope) (entry : ℕ) → Listed (and_then (base_of s entry) (in_width 4))
listed_entry s entry = listed_then (base_of s entry) (in_width 4) (listed_base s entry) (listed_width 4)

listed_encoded : (e : Encoding) (s : Scope) (leads : Option ℕ → Result ℤ Error) (n : ℕ) (o : Operation) (bs : List ℕ) → Leads leads n →
    SealedKind n (kind_of o) → Listed (encode_op e s leads o bs)
listed_encoded e s leads n (Raw d) bs l h = tt
listed_encoded e s leads n (Simple o) bs l h = tt
listed_encoded e s leads n (Address a) bs l h =
    listed_op (address_in e.address_size a) (λ m. code 0x03 (fixed e.address_size m done)) (listed_address e.address_size a)
listed_encoded e s leads n (UnsignedConstant m) bs l h = tt
listed_encoded e s leads n (SignedConstant z) bs l h = tt
listed_encoded e s leads n (ConstantType base d) bs l h =
    let c : ℕ = by_version e 0xa4 0xf4 in
    listed_then (base_of s base) (λ m. and_then (short_data_of bs) (λ ds. Ok (code c (unsigned m (short ds done))))) (listed_base s base)
    (λ m. listed_op (short_data_of bs) (λ ds. code c (unsigned m (short ds done))) (listed_short bs))
listed_encoded e s leads n (FrameOffset z) bs l h = tt
listed_encoded e s leads n (RegisterOffset r z) bs l h = tt
listed_encoded e s leads n (RegisterType r base) bs l h =
    listed_op (base_of s base) (λ m. code (by_version e 0xa5 0xf5) (unsigned r.0 (unsigned m done))) (listed_base s base)
listed_encoded e s leads n (Pick i) bs l h = tt
listed_encoded e s leads n (Deref space) bs l h = tt
listed_encoded e s leads n (DerefSize space size) bs l h = tt
listed_encoded e s leads n (DerefType space size base) bs l h =
    listed_op (base_of s base) (λ m. code (cond space 0xa7 (by_version e 0xa6 0xf6)) (fixed 1 size (unsigned m done))) (listed_base s base)
listed_encoded e s leads n (PlusConstant m) bs l h = tt
listed_encoded e s leads n (Skip target) bs l h = listed_branch leads n 0x2f target l h
listed_encoded e s leads n (Branch target) bs l h = listed_branch leads n 0x28 target l h
listed_encoded e s leads n (Call entry) bs l h =
    listed_op (and_then (base_of s entry) (in_width 4)) (λ m. code 0x99 (fixed 4 m done)) (listed_entry s entry)
listed_encoded e s leads n (CallRef entry) bs l h =
    listed_op (referred s (word_size e.format) entry done) (code 0x9a) (listed_referred s (word_size e.format) entry done)
listed_encoded e s leads n (VariableValue entry) bs l h =
    listed_op (referred s (word_size e.format) entry done) (code 0xfd) (listed_referred s (word_size e.format) entry done)
listed_encoded e s leads n (Convert base) bs l h =
    listed_op (base_or_generic s base) (λ m. code (by_version e 0xa8 0xf7) (unsigned m done)) (listed_generic s base)
listed_encoded e s leads n (Reinterpret base) bs l h =
    listed_op (base_or_generic s base) (λ m. code (by_version e 0xa9 0xf9) (unsigned m done)) (listed_generic s base)
listed_encoded e s leads n (EntryValue m) bs l h = absurd h
listed_encoded e s leads n (Register r) bs l h = tt
listed_encoded e s leads n (ImplicitValue d) bs l h = tt
listed_encoded e s leads n (ImplicitPointer entry z) bs l h =
    listed_op (referred s (pointer_size e) entry (signed z done)) (code (by_version e 0xa0 0xf2)) (listed_referred s (pointer_size e) entry (signed z done))
listed_encoded e s leads n (Piece m) bs l h = tt
listed_encoded e s leads n (BitPiece m k) bs l h = tt
listed_encoded e s leads n (ParameterRef entry) bs l h =
    listed_op (and_then (base_of s entry) (in_width 4)) (λ m. code 0xfa (fixed 4 m done)) (listed_entry s entry)

listed_plus : (x y : Result ℕ Error) → Listed x → Listed y → Listed (plus x y)
listed_plus x y h k = listed_then x (λ m. and_then y (λ n. Ok (m + n))) h (λ m. listed_then y (λ n. Ok (m + n)) k (λ n. tt))

listed_sizes : (e : Encoding) (s : Scope) (n : ℕ) (t : Tree) → Sealed n t → Listed (size_tree e s t)
listed_sizes e s n end h = tt
listed_sizes e s n (plain o bs t) h = listed_plus (size_op e s o bs) (size_tree e s t) (listed_size e s n o bs h.0) (listed_sizes e s n t h.1)
listed_sizes e s n (nest y t) h =
    listed_plus (nested_size (size_tree e s y)) (size_tree e s t)
    (listed_then (size_tree e s y) (λ m. Ok (1 + (length (uleb m) + m))) (listed_sizes e s (count_of y) y h.0) (λ m. tt)) (listed_sizes e s n t h.1)

-- there is a place for each operation, and one for the end
pub length-starts : (e : Encoding) (s : Scope) (p : ℕ) (t : Tree) → length (starts e s p t) ≡ suc (count_of t)
length-starts e s p end = refl
length-starts e s p (plain o bs t) = ap suc (length-starts e s (p + extent_op e s o bs) t)
length-starts e s p (nest y t) = ap suc (length-starts e s (p + extent_nested e s y) t)

listed_tree : (e : Encoding) (s : Scope) (hs : List ℕ) (n p : ℕ) (t : Tree) → length hs ≡ suc n → Sealed n t → Listed (encode_tree e s hs p t)
listed_tree e s hs n p end l h = tt
listed_tree e s hs n p (plain o bs t) l h =
    listed_then (encode_op e s (displaced hs (after_branch p)) o bs) (λ x. and_then (encode_tree e s hs (p + extent_op e s o bs) t) (λ r. Ok (joined x r)))
    (listed_encoded e s (displaced hs (after_branch p)) n o bs (λ k b. listed_displaced hs (after_branch p) k (omega arith)) h.0)
    (λ x. listed_op (encode_tree e s hs (p + extent_op e s o bs) t) (joined x) (listed_tree e s hs n (p + extent_op e s o bs) t l h.1))
listed_tree e s hs n p (nest y t) l h =
    listed_then (encode_tree e s (starts e s 0 y) 0 y)
    (λ x. and_then (encode_tree e s hs (p + extent_nested e s y) t) (λ r. Ok (code (by_version e 0xa3 0xf3) (nested x r))))
    (listed_tree e s (starts e s 0 y) (count_of y) 0 y (length-starts e s 0 y) h.0)
    (λ x. listed_op (encode_tree e s hs (p + extent_nested e s y) t) (λ r. code (by_version e 0xa3 0xf3) (nested x r))
    (listed_tree e s hs n (p + extent_nested e s y) t l h.1))

pub refusals_listed : RefusalsListed
refusals_listed e s t refusal h k =
    subst Listed k
    (listed_then (size_tree e s t) (λ size. encode_tree e s (starts e s 0 t) 0 t) (listed_sizes e s (count_of t) t h)
    (λ size. listed_tree e s (starts e s 0 t) (count_of t) 0 t (length-starts e s 0 t) h))
