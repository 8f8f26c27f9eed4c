-- The range of an operation's operands: every operation that a program holds has them in range.
use Rattle.std.specs.Prelude.{ℕ, ◌^◌, ◌<◌}
use Rattle.std.specs.List.{AllByRecursion}
use Rattle.op.specs.declared.operation.Operation.{Operation}
use Rattle.op.specs.declared.operation.Operation.TheVariants.{
  Raw,
  Simple,
  Address,
  UnsignedConstant,
  SignedConstant,
  ConstantType,
  FrameOffset,
  RegisterOffset,
  RegisterType,
  Pick,
  Deref,
  DerefSize,
  DerefType,
  PlusConstant,
  Skip,
  Branch,
  Call,
  CallRef,
  VariableValue,
  Convert,
  Reinterpret,
  EntryValue,
  Register,
  ImplicitValue,
  ImplicitPointer,
  Piece,
  BitPiece,
  ParameterRef,
}
use Rattle.dwarf.specs.Leb.{magnitude}
use Rattle.rules.specs.Tree.{Store, Tree, end, plain, nest, tree_of}

-- unsigned numbers of 64 bits, signed ones of 64 bits, registers of 16 bits, indices and sizes of 8 bits
abbrev pub FitsOperation : Operation → Type 0
FitsOperation (Raw d) = Unit {0}
FitsOperation (Simple o) = Unit {0}
FitsOperation (Address a) = Unit {0}
FitsOperation (UnsignedConstant n) = n < 2 ^ 64
FitsOperation (SignedConstant z) = magnitude z < 2 ^ 63
FitsOperation (ConstantType base d) = Unit {0}
FitsOperation (FrameOffset z) = magnitude z < 2 ^ 63
FitsOperation (RegisterOffset r z) = (r.0 < 2 ^ 16) × (magnitude z < 2 ^ 63)
FitsOperation (RegisterType r base) = r.0 < 2 ^ 16
FitsOperation (Pick i) = i < 2 ^ 8
FitsOperation (Deref space) = Unit {0}
FitsOperation (DerefSize space size) = size < 2 ^ 8
FitsOperation (DerefType space size base) = size < 2 ^ 8
FitsOperation (PlusConstant n) = n < 2 ^ 64
FitsOperation (Skip target) = Unit {0}
FitsOperation (Branch target) = Unit {0}
FitsOperation (Call entry) = Unit {0}
FitsOperation (CallRef entry) = Unit {0}
FitsOperation (VariableValue entry) = Unit {0}
FitsOperation (Convert base) = Unit {0}
FitsOperation (Reinterpret base) = Unit {0}
FitsOperation (EntryValue n) = Unit {0}
FitsOperation (Register r) = r.0 < 2 ^ 16
FitsOperation (ImplicitValue d) = Unit {0}
FitsOperation (ImplicitPointer entry z) = magnitude z < 2 ^ 63
FitsOperation (Piece n) = n < 2 ^ 64
FitsOperation (BitPiece n k) = (n < 2 ^ 64) × (k < 2 ^ 64)
FitsOperation (ParameterRef entry) = Unit {0}

-- so in an expression, nested ones too
abbrev pub Fits : Tree → Type 0
Fits end = Unit {0}
Fits (plain o bytes t) = FitsOperation o × Fits t
Fits (nest y t) = Fits y × Fits t

-- the expressions of tables whose operations have their operands in range
abbrev pub TreesFit : Type 0
TreesFit = (levels : ℕ) (b : Store) (n : ℕ) → AllByRecursion FitsOperation b.operations → Fits (tree_of levels b n)
