-- What the book's rules ask of an operation.
use Rattle.std.specs.Prelude.{ℕ, Bool, true, false, cond, List, Some, None, Option, nat_lt}
use Rattle.std.specs.List.{list_any}
use Rattle.op.specs.declared.operation.Data.{Data}
use Rattle.op.specs.declared.operation.DebugInfoRef.{DebugInfoRef}
use Rattle.op.specs.declared.operation.DebugInfoRef.TheVariants.{Symbol, Entry}
use Rattle.op.specs.declared.operation.Operation.{Operation}
use Rattle.op.specs.declared.operation.Operation.TheVariants as op
use Rattle.book_state.specs.declared.shape.Shape.{Shape}
use Rattle.book_state.specs.declared.shape.Shape.TheVariants.{Plain, Holding, Branching, Nesting}

-- what an operation refers to inside its book
abbrev pub shape : Operation → Shape
shape (op.Raw d) = Holding d
shape (op.Simple c) = Plain
shape (op.Address a) = Plain
shape (op.UnsignedConstant v) = Plain
shape (op.SignedConstant v) = Plain
shape (op.ConstantType b d) = Holding d
shape (op.FrameOffset o) = Plain
shape (op.RegisterOffset r o) = Plain
shape (op.RegisterType r b) = Plain
shape (op.Pick i) = Plain
shape (op.Deref sp) = Plain
shape (op.DerefSize sp n) = Plain
shape (op.DerefType sp n b) = Plain
shape (op.PlusConstant v) = Plain
shape (op.Skip t) = Branching t
shape (op.Branch t) = Branching t
shape (op.Call e) = Plain
shape (op.CallRef e) = Plain
shape (op.VariableValue e) = Plain
shape (op.Convert b) = Plain
shape (op.Reinterpret b) = Plain
shape (op.EntryValue m) = Nesting m
shape (op.Register r) = Plain
shape (op.ImplicitValue d) = Holding d
shape (op.ImplicitPointer e o) = Plain
shape (op.Piece n) = Plain
shape (op.BitPiece n o) = Plain
shape (op.ParameterRef e) = Plain

-- a unit keeps 128 entries
abbrev pub entry_fits : ℕ → Bool
entry_fits e = nat_lt e 128

-- a base type, where there is one
abbrev pub base_fits : Option ℕ → Bool
base_fits None = true
base_fits (Some e) = entry_fits e

-- a section keeps eight units
abbrev pub ref_fits : DebugInfoRef → Bool
ref_fits (Symbol n) = true
ref_fits (Entry u e) = cond (nat_lt u 8) (entry_fits e) false

-- whether each unit and entry that an operation names can exist
abbrev pub entries_fit : Operation → Bool
entries_fit (op.Raw d) = true
entries_fit (op.Simple c) = true
entries_fit (op.Address a) = true
entries_fit (op.UnsignedConstant v) = true
entries_fit (op.SignedConstant v) = true
entries_fit (op.ConstantType b d) = entry_fits b
entries_fit (op.FrameOffset o) = true
entries_fit (op.RegisterOffset r o) = true
entries_fit (op.RegisterType r b) = entry_fits b
entries_fit (op.Pick i) = true
entries_fit (op.Deref sp) = true
entries_fit (op.DerefSize sp n) = true
entries_fit (op.DerefType sp n b) = entry_fits b
entries_fit (op.PlusConstant v) = true
entries_fit (op.Skip t) = true
entries_fit (op.Branch t) = true
entries_fit (op.Call e) = entry_fits e
entries_fit (op.CallRef e) = ref_fits e
entries_fit (op.VariableValue e) = ref_fits e
entries_fit (op.Convert b) = base_fits b
entries_fit (op.Reinterpret b) = base_fits b
entries_fit (op.EntryValue m) = true
entries_fit (op.Register r) = true
entries_fit (op.ImplicitValue d) = true
entries_fit (op.ImplicitPointer e o) = ref_fits e
entries_fit (op.Piece n) = true
entries_fit (op.BitPiece n o) = true
entries_fit (op.ParameterRef e) = entry_fits e

-- a branch with its target set; any other operation as it is
abbrev pub aimed_at : ℕ → Operation → Operation
aimed_at target (op.Raw d) = op.Raw d
aimed_at target (op.Simple c) = op.Simple c
aimed_at target (op.Address a) = op.Address a
aimed_at target (op.UnsignedConstant v) = op.UnsignedConstant v
aimed_at target (op.SignedConstant v) = op.SignedConstant v
aimed_at target (op.ConstantType b d) = op.ConstantType b d
aimed_at target (op.FrameOffset o) = op.FrameOffset o
aimed_at target (op.RegisterOffset r o) = op.RegisterOffset r o
aimed_at target (op.RegisterType r b) = op.RegisterType r b
aimed_at target (op.Pick i) = op.Pick i
aimed_at target (op.Deref sp) = op.Deref sp
aimed_at target (op.DerefSize sp n) = op.DerefSize sp n
aimed_at target (op.DerefType sp n b) = op.DerefType sp n b
aimed_at target (op.PlusConstant v) = op.PlusConstant v
aimed_at target (op.Skip t) = op.Skip (Some target)
aimed_at target (op.Branch t) = op.Branch (Some target)
aimed_at target (op.Call e) = op.Call e
aimed_at target (op.CallRef e) = op.CallRef e
aimed_at target (op.VariableValue e) = op.VariableValue e
aimed_at target (op.Convert b) = op.Convert b
aimed_at target (op.Reinterpret b) = op.Reinterpret b
aimed_at target (op.EntryValue m) = op.EntryValue m
aimed_at target (op.Register r) = op.Register r
aimed_at target (op.ImplicitValue d) = op.ImplicitValue d
aimed_at target (op.ImplicitPointer e o) = op.ImplicitPointer e o
aimed_at target (op.Piece n) = op.Piece n
aimed_at target (op.BitPiece n o) = op.BitPiece n o
aimed_at target (op.ParameterRef e) = op.ParameterRef e

-- a branch without a target
abbrev pub unset : Shape → Bool
unset Plain = false
unset (Holding d) = false
unset (Branching (Some t)) = false
unset (Branching None) = true
unset (Nesting m) = false

-- whether a branch among the operations has no target
abbrev pub any_unset : List Operation → Bool
any_unset xs = list_any (λ x. unset (shape x)) xs

-- where the bytes of a raw operation lie
abbrev pub raw_place : Operation → Option Data
raw_place (op.Raw d) = Some d
raw_place (op.Simple c) = None
raw_place (op.Address a) = None
raw_place (op.UnsignedConstant v) = None
raw_place (op.SignedConstant v) = None
raw_place (op.ConstantType b d) = None
raw_place (op.FrameOffset o) = None
raw_place (op.RegisterOffset r o) = None
raw_place (op.RegisterType r b) = None
raw_place (op.Pick i) = None
raw_place (op.Deref sp) = None
raw_place (op.DerefSize sp n) = None
raw_place (op.DerefType sp n b) = None
raw_place (op.PlusConstant v) = None
raw_place (op.Skip t) = None
raw_place (op.Branch t) = None
raw_place (op.Call e) = None
raw_place (op.CallRef e) = None
raw_place (op.VariableValue e) = None
raw_place (op.Convert b) = None
raw_place (op.Reinterpret b) = None
raw_place (op.EntryValue m) = None
raw_place (op.Register r) = None
raw_place (op.ImplicitValue d) = None
raw_place (op.ImplicitPointer e o) = None
raw_place (op.Piece n) = None
raw_place (op.BitPiece n o) = None
raw_place (op.ParameterRef e) = None
