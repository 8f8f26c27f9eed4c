-- What tells branches, and operations that may not be readable, from the others.
use Rattle.std.specs.Prelude.{ℕ, Option}
use Rattle.op.specs.declared.operation.Operation.{Operation}
use Rattle.op.specs.declared.operation.Operation.TheVariants.{
  Raw,
  Simple,
  Address,
  UnsignedConstant,
  SignedConstant,
  ConstantType,
  FrameOffset,
  RegisterOffset,
  RegisterType,
  Pick,
  Deref,
  DerefSize,
  DerefType,
  PlusConstant,
  Skip,
  Branch,
  Call,
  CallRef,
  VariableValue,
  Convert,
  Reinterpret,
  EntryValue,
  Register,
  ImplicitValue,
  ImplicitPointer,
  Piece,
  BitPiece,
  ParameterRef,
}

pub data Kind : Type 0 where
  -- bytes as they are given
  given : Kind
  -- a code that is given, without operands
  bare : ℕ → Kind
  -- a branch, with the operation that it names
  branch : Option ℕ → Kind
  -- an entry value, with the number of its expression
  nesting : ℕ → Kind
  -- any other
  other : Kind

-- the kind of an operation
abbrev pub kind_of : Operation → Kind
kind_of (Raw d) = given
kind_of (Simple o) = bare o.0
kind_of (Address a) = other
kind_of (UnsignedConstant n) = other
kind_of (SignedConstant z) = other
kind_of (ConstantType base d) = other
kind_of (FrameOffset z) = other
kind_of (RegisterOffset r z) = other
kind_of (RegisterType r base) = other
kind_of (Pick i) = other
kind_of (Deref space) = other
kind_of (DerefSize space size) = other
kind_of (DerefType space size base) = other
kind_of (PlusConstant n) = other
kind_of (Skip target) = branch target
kind_of (Branch target) = branch target
kind_of (Call entry) = other
kind_of (CallRef entry) = other
kind_of (VariableValue entry) = other
kind_of (Convert base) = other
kind_of (Reinterpret base) = other
kind_of (EntryValue n) = nesting n
kind_of (Register r) = other
kind_of (ImplicitValue d) = other
kind_of (ImplicitPointer entry z) = other
kind_of (Piece n) = other
kind_of (BitPiece n k) = other
kind_of (ParameterRef entry) = other
