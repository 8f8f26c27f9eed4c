-- The rules: what operations are encoded as (DWARF 5, sections 2.5, 2.6 and 7.7.1, and GNU's codes), or the first refusal.
use Rattle.std.specs.Prelude.{ℕ, ◌+◌, cond, List, [], ◌∷◌, ℤ, Ok, Err, Option, Result, ◌==◌, nat_lt}
use Rattle.common.specs.Formats.{word_size}
use Rattle.common.specs.declared.encoding.Encoding.{Encoding}
use Rattle.common.specs.declared.error.Error.{Error}
use Rattle.common.specs.declared.error.Error.TheVariants.{NoExpression}
use Rattle.dwarf.specs.Fixed.{in_width}
use Rattle.dwarf.specs.Bytes.{joined}
use Rattle.dwarf.specs.Tokens.{Tokens, done, code, unsigned, signed, fixed, displacement, block, short, nested, raw}
use Rattle.op.specs.declared.operation.Operation.{Operation}
use Rattle.op.specs.declared.operation.Operation.TheVariants.{
  Raw,
  Simple,
  Address,
  UnsignedConstant,
  SignedConstant,
  ConstantType,
  FrameOffset,
  RegisterOffset,
  RegisterType,
  Pick,
  Deref,
  DerefSize,
  DerefType,
  PlusConstant,
  Skip,
  Branch,
  Call,
  CallRef,
  VariableValue,
  Convert,
  Reinterpret,
  EntryValue,
  Register,
  ImplicitValue,
  ImplicitPointer,
  Piece,
  BitPiece,
  ParameterRef,
}
use Rattle.rules.specs.Results.{and_then}
use Rattle.rules.specs.Scope.{Scope, base_of, base_or_generic}
use Rattle.rules.specs.Tree.{Tree, end, plain, nest}
use Rattle.rules.specs.Sizes.{pointer_size, size_tree, extent_op, extent_nested}
use Rattle.rules.specs.Operands.{by_version, address_in, short_data_of, referred, after_branch, displaced}

-- an operation that nests nothing, given its data; `leads` gives a branch's displacement; `nest` stands for an entry value
abbrev pub encode_op : Encoding → Scope → (Option ℕ → Result ℤ Error) → Operation → List ℕ → Result Tokens Error
encode_op e s leads (Raw d) bs = Ok (raw bs done)
encode_op e s leads (Simple o) bs = Ok (code o.0 done)
encode_op e s leads (Address a) bs = and_then (address_in e.address_size a) (λ n. Ok (code 0x03 (fixed e.address_size n done)))
encode_op e s leads (UnsignedConstant n) bs = Ok (cond (nat_lt n 32) (code (0x30 + n) done) (code 0x10 (unsigned n done)))
encode_op e s leads (SignedConstant z) bs = Ok (code 0x11 (signed z done))
encode_op e s leads (ConstantType base d) bs =
    and_then (base_of s base) (λ n. and_then (short_data_of bs) (λ ds. Ok (code (by_version e 0xa4 0xf4) (unsigned n (short ds done)))))
encode_op e s leads (FrameOffset z) bs = Ok (code 0x91 (signed z done))
encode_op e s leads (RegisterOffset r z) bs =
    Ok (cond (nat_lt r.0 32) (code (0x70 + r.0) (signed z done)) (code 0x92 (unsigned r.0 (signed z done))))
encode_op e s leads (RegisterType r base) bs =
    and_then (base_of s base) (λ n. Ok (code (by_version e 0xa5 0xf5) (unsigned r.0 (unsigned n done))))
encode_op e s leads (Pick i) bs = Ok (cond (i == 0) (code 0x12 done) (cond (i == 1) (code 0x14 done) (code 0x15 (fixed 1 i done))))
encode_op e s leads (Deref space) bs = Ok (code (cond space 0x18 0x06) done)
encode_op e s leads (DerefSize space size) bs = Ok (code (cond space 0x95 0x94) (fixed 1 size done))
encode_op e s leads (DerefType space size base) bs =
    and_then (base_of s base) (λ n. Ok (code (cond space 0xa7 (by_version e 0xa6 0xf6)) (fixed 1 size (unsigned n done))))
encode_op e s leads (PlusConstant n) bs = Ok (code 0x23 (unsigned n done))
encode_op e s leads (Skip target) bs = and_then (leads target) (λ z. Ok (code 0x2f (displacement z done)))
encode_op e s leads (Branch target) bs = and_then (leads target) (λ z. Ok (code 0x28 (displacement z done)))
encode_op e s leads (Call entry) bs = and_then (and_then (base_of s entry) (in_width 4)) (λ n. Ok (code 0x99 (fixed 4 n done)))
encode_op e s leads (CallRef entry) bs = and_then (referred s (word_size e.format) entry done) (λ a. Ok (code 0x9a a))
encode_op e s leads (VariableValue entry) bs = and_then (referred s (word_size e.format) entry done) (λ a. Ok (code 0xfd a))
encode_op e s leads (Convert base) bs = and_then (base_or_generic s base) (λ n. Ok (code (by_version e 0xa8 0xf7) (unsigned n done)))
encode_op e s leads (Reinterpret base) bs = and_then (base_or_generic s base) (λ n. Ok (code (by_version e 0xa9 0xf9) (unsigned n done)))
encode_op e s leads (EntryValue n) bs = Err NoExpression
encode_op e s leads (Register r) bs = Ok (cond (nat_lt r.0 32) (code (0x50 + r.0) done) (code 0x90 (unsigned r.0 done)))
encode_op e s leads (ImplicitValue d) bs = Ok (code 0x9e (block bs done))
encode_op e s leads (ImplicitPointer entry z) bs =
    and_then (referred s (pointer_size e) entry (signed z done)) (λ a. Ok (code (by_version e 0xa0 0xf2) a))
encode_op e s leads (Piece n) bs = Ok (code 0x93 (unsigned n done))
encode_op e s leads (BitPiece n k) bs = Ok (code 0x9d (unsigned n (unsigned k done)))
encode_op e s leads (ParameterRef entry) bs = and_then (and_then (base_of s entry) (in_width 4)) (λ n. Ok (code 0xfa (fixed 4 n done)))

-- where the operations of an expression begin, the first of them at p, and last where the expression ends
abbrev pub starts : Encoding → Scope → ℕ → Tree → List ℕ
starts e s p end = p ∷ []
starts e s p (plain o bs t) = p ∷ starts e s (p + extent_op e s o bs) t
starts e s p (nest y t) = p ∷ starts e s (p + extent_nested e s y) t

-- operations in their order, the next of them at p; hs: where the operations of their expression begin
abbrev pub encode_tree : Encoding → Scope → List ℕ → ℕ → Tree → Result Tokens Error
encode_tree e s hs p end = Ok done
encode_tree e s hs p (plain o bs t) =
    and_then (encode_op e s (displaced hs (after_branch p)) o bs) (λ a. and_then (encode_tree e s hs (p + extent_op e s o bs) t) (λ r. Ok (joined a r)))
encode_tree e s hs p (nest y t) =
    and_then (encode_tree e s (starts e s 0 y) 0 y)
    (λ a. and_then (encode_tree e s hs (p + extent_nested e s y) t) (λ r. Ok (code (by_version e 0xa3 0xf3) (nested a r))))

-- an expression: first all its sizes are taken, then its operations are encoded
abbrev pub encode : Encoding → Scope → Tree → Result Tokens Error
encode e s t = and_then (size_tree e s t) (λ size. encode_tree e s (starts e s 0 t) 0 t)
