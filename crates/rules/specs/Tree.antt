-- Expressions as trees, from the tables in which they are kept.
use Rattle.std.specs.Prelude.{ℕ, zero, suc, List, [], ◌∷◌, take, drop, slice_index_or}
use Rattle.op.specs.declared.operation.Data.{Data}
use Rattle.op.specs.declared.operation.Operation.{Operation}
use Rattle.op.specs.declared.operation.Operation.TheVariants.{
  Raw,
  Simple,
  Address,
  UnsignedConstant,
  SignedConstant,
  ConstantType,
  FrameOffset,
  RegisterOffset,
  RegisterType,
  Pick,
  Deref,
  DerefSize,
  DerefType,
  PlusConstant,
  Skip,
  Branch,
  Call,
  CallRef,
  VariableValue,
  Convert,
  Reinterpret,
  EntryValue,
  Register,
  ImplicitValue,
  ImplicitPointer,
  Piece,
  BitPiece,
  ParameterRef,
}

-- an expression in the tables: its first operation, and how many it has
pub record Expression : Type 0 where
  pub start : ℕ
  pub count : ℕ

-- the tables: operations, data bytes and expressions
pub record Store : Type 0 where
  pub operations : List Operation
  pub bytes : List ℕ
  pub expressions : List Expression

-- Operations in a row, nested expressions in place.
pub data Tree : Type 0 where
  -- no more operations
  end : Tree
  -- an operation that nests nothing, its data bytes (`[]` where it has none), and what follows
  plain : Operation → List ℕ → Tree → Tree
  -- an entry value: the expression that it nests, and what follows
  nest : Tree → Tree → Tree

-- What an operation brings along.
pub data Shape : Type 0 where
  -- data bytes
  single : Operation → List ℕ → Shape
  -- a nested expression, by its number
  nesting : ℕ → Shape

-- the bytes at a place in the tables
abbrev pub bytes_at : Store → Data → List ℕ
bytes_at b d = take d.len (drop d.start b.bytes)

-- what an operation of the tables brings along
abbrev pub shape : Store → Operation → Shape
shape b (Raw d) = single (Raw d) (bytes_at b d)
shape b (Simple o) = single (Simple o) []
shape b (Address a) = single (Address a) []
shape b (UnsignedConstant n) = single (UnsignedConstant n) []
shape b (SignedConstant z) = single (SignedConstant z) []
shape b (ConstantType base d) = single (ConstantType base d) (bytes_at b d)
shape b (FrameOffset z) = single (FrameOffset z) []
shape b (RegisterOffset r z) = single (RegisterOffset r z) []
shape b (RegisterType r base) = single (RegisterType r base) []
shape b (Pick i) = single (Pick i) []
shape b (Deref space) = single (Deref space) []
shape b (DerefSize space size) = single (DerefSize space size) []
shape b (DerefType space size base) = single (DerefType space size base) []
shape b (PlusConstant n) = single (PlusConstant n) []
shape b (Skip target) = single (Skip target) []
shape b (Branch target) = single (Branch target) []
shape b (Call entry) = single (Call entry) []
shape b (CallRef entry) = single (CallRef entry) []
shape b (VariableValue entry) = single (VariableValue entry) []
shape b (Convert base) = single (Convert base) []
shape b (Reinterpret base) = single (Reinterpret base) []
shape b (EntryValue n) = nesting n
shape b (Register r) = single (Register r) []
shape b (ImplicitValue d) = single (ImplicitValue d) (bytes_at b d)
shape b (ImplicitPointer entry z) = single (ImplicitPointer entry z) []
shape b (Piece n) = single (Piece n) []
shape b (BitPiece n k) = single (BitPiece n k) []
shape b (ParameterRef entry) = single (ParameterRef entry) []

-- an operation in front of a tree; `inner` gives the tree of a nested expression
abbrev pub grow : (ℕ → Tree) → Shape → Tree → Tree
grow inner (single o bs) t = plain o bs t
grow inner (nesting n) t = nest (inner n) t

-- the tree of operations in a row
abbrev pub rows : (ℕ → Tree) → Store → List Operation → Tree
rows inner b [] = end
rows inner b (o ∷ os) = grow inner (shape b o) (rows inner b os)

-- the expression of a number
abbrev pub expression_at : Store → ℕ → Expression
expression_at b n = slice_index_or b.expressions n (record { start = 0; count = 0 })

-- the operations of an expression
abbrev pub operations_of : Store → Expression → List Operation
operations_of b x = take x.count (drop x.start b.operations)

-- the tree of an expression, by its number, so many levels deep
unfoldable pub tree_of : ℕ → Store → ℕ → Tree
tree_of zero b n = end
tree_of (suc levels) b n = rows (tree_of levels b) b (operations_of b (expression_at b n))

-- the tree of an expression that nests others at most 16 deep
abbrev pub expression_tree : Store → ℕ → Tree
expression_tree b n = tree_of 17 b n
