-- How many bytes operations take (DWARF 5, sections 2.5, 2.6 and 7.7.1), or the refusal of a base type without an offset.
use Rattle.std.specs.Prelude.{ℕ, ◌+◌, cond, List, length, Ok, Err, Result, ◌==◌, nat_lt}
use Rattle.common.specs.Formats.{word_size}
use Rattle.common.specs.declared.encoding.Encoding.{Encoding}
use Rattle.common.specs.declared.error.Error.{Error}
use Rattle.common.specs.declared.error.Error.TheVariants.{NoExpression}
use Rattle.dwarf.specs.Leb.{uleb, sleb}
use Rattle.op.specs.declared.operation.Operation.{Operation}
use Rattle.op.specs.declared.operation.Operation.TheVariants.{
  Raw,
  Simple,
  Address,
  UnsignedConstant,
  SignedConstant,
  ConstantType,
  FrameOffset,
  RegisterOffset,
  RegisterType,
  Pick,
  Deref,
  DerefSize,
  DerefType,
  PlusConstant,
  Skip,
  Branch,
  Call,
  CallRef,
  VariableValue,
  Convert,
  Reinterpret,
  EntryValue,
  Register,
  ImplicitValue,
  ImplicitPointer,
  Piece,
  BitPiece,
  ParameterRef,
}
use Rattle.rules.specs.Results.{and_then, plus, amount}
use Rattle.rules.specs.Scope.{Scope, base_of, base_or_generic}
use Rattle.rules.specs.Tree.{Tree, end, plain, nest}

-- the width of an implicit pointer's reference, which version 2 has as wide as an address
abbrev pub pointer_size : Encoding → ℕ
pointer_size e = cond (e.version == 2) e.address_size (word_size e.format)

-- the bytes of an operation that nests nothing, given its data; `nest` stands for an entry value
abbrev pub size_op : Encoding → Scope → Operation → List ℕ → Result ℕ Error
size_op e s (Raw d) bs = Ok (length bs)
size_op e s (Simple o) bs = Ok 1
size_op e s (Address a) bs = Ok (1 + e.address_size)
size_op e s (UnsignedConstant n) bs = Ok (cond (nat_lt n 32) 1 (1 + length (uleb n)))
size_op e s (SignedConstant z) bs = Ok (1 + length (sleb z))
size_op e s (ConstantType base d) bs = and_then (base_of s base) (λ n. Ok (1 + (length (uleb n) + (1 + length bs))))
size_op e s (FrameOffset z) bs = Ok (1 + length (sleb z))
size_op e s (RegisterOffset r z) bs = Ok (cond (nat_lt r.0 32) (1 + length (sleb z)) (1 + (length (uleb r.0) + length (sleb z))))
size_op e s (RegisterType r base) bs = and_then (base_of s base) (λ n. Ok (1 + (length (uleb r.0) + length (uleb n))))
size_op e s (Pick i) bs = Ok (cond (nat_lt i 2) 1 2)
size_op e s (Deref space) bs = Ok 1
size_op e s (DerefSize space size) bs = Ok 2
size_op e s (DerefType space size base) bs = and_then (base_of s base) (λ n. Ok (2 + length (uleb n)))
size_op e s (PlusConstant n) bs = Ok (1 + length (uleb n))
size_op e s (Skip target) bs = Ok 3
size_op e s (Branch target) bs = Ok 3
size_op e s (Call entry) bs = Ok 5
size_op e s (CallRef entry) bs = Ok (1 + word_size e.format)
size_op e s (VariableValue entry) bs = Ok (1 + word_size e.format)
size_op e s (Convert base) bs = and_then (base_or_generic s base) (λ n. Ok (1 + length (uleb n)))
size_op e s (Reinterpret base) bs = and_then (base_or_generic s base) (λ n. Ok (1 + length (uleb n)))
size_op e s (EntryValue n) bs = Err NoExpression
size_op e s (Register r) bs = Ok (cond (nat_lt r.0 32) 1 (1 + length (uleb r.0)))
size_op e s (ImplicitValue d) bs = Ok (1 + (length (uleb (length bs)) + length bs))
size_op e s (ImplicitPointer entry z) bs = Ok (1 + (pointer_size e + length (sleb z)))
size_op e s (Piece n) bs = Ok (1 + length (uleb n))
size_op e s (BitPiece n k) bs = Ok (1 + (length (uleb n) + length (uleb k)))
size_op e s (ParameterRef entry) bs = Ok 5

-- the bytes of an entry value whose expression takes so many: code, length, expression
abbrev pub nested_size : Result ℕ Error → Result ℕ Error
nested_size size = and_then size (λ n. Ok (1 + (length (uleb n) + n)))

-- the bytes of an expression, or its first refusal
abbrev pub size_tree : Encoding → Scope → Tree → Result ℕ Error
size_tree e s end = Ok 0
size_tree e s (plain o bs t) = plus (size_op e s o bs) (size_tree e s t)
size_tree e s (nest y t) = plus (nested_size (size_tree e s y)) (size_tree e s t)

-- the bytes of an operation where no size is refused
abbrev pub extent_op : Encoding → Scope → Operation → List ℕ → ℕ
extent_op e s o bs = amount (size_op e s o bs)

-- the bytes of an entry value of an expression where no size is refused
abbrev pub extent_nested : Encoding → Scope → Tree → ℕ
extent_nested e s y = amount (nested_size (size_tree e s y))
