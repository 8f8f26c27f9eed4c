-- The reference that an operation sets down.
use Rattle.std.specs.Prelude.{ℕ, ◌+◌, List, [], ◌∷◌}
use Rattle.common.specs.Formats.{word_size}
use Rattle.common.specs.declared.encoding.Encoding.{Encoding}
use Rattle.common.specs.declared.fixup.DebugInfoFixup.{DebugInfoFixup}
use Rattle.op.specs.declared.operation.DebugInfoRef.{DebugInfoRef}
use Rattle.op.specs.declared.operation.DebugInfoRef.TheVariants.{Symbol, Entry}
use Rattle.op.specs.declared.operation.Operation.{Operation}
use Rattle.op.specs.declared.operation.Operation.TheVariants as op
use Rattle.rules.specs.Sizes.{pointer_size}

-- a reference to an entry at an offset; a symbol has none
abbrev pub entry_row : ℕ → ℕ → DebugInfoRef → List DebugInfoFixup
entry_row offset width (Symbol symbol) = []
entry_row offset width (Entry unit entry) = record { offset = offset; width = width; unit = unit; entry = entry } ∷ []

-- the reference of an operation whose code stands at an offset
abbrev pub row_of : Encoding → ℕ → Operation → List DebugInfoFixup
row_of e at (op.Raw d) = []
row_of e at (op.Simple c) = []
row_of e at (op.Address a) = []
row_of e at (op.UnsignedConstant v) = []
row_of e at (op.SignedConstant v) = []
row_of e at (op.ConstantType t d) = []
row_of e at (op.FrameOffset o) = []
row_of e at (op.RegisterOffset r o) = []
row_of e at (op.RegisterType r t) = []
row_of e at (op.Pick i) = []
row_of e at (op.Deref sp) = []
row_of e at (op.DerefSize sp n) = []
row_of e at (op.DerefType sp n t) = []
row_of e at (op.PlusConstant v) = []
row_of e at (op.Skip t) = []
row_of e at (op.Branch t) = []
row_of e at (op.Call entry) = []
row_of e at (op.CallRef to) = entry_row (at + 1) (word_size e.format) to
row_of e at (op.VariableValue to) = entry_row (at + 1) (word_size e.format) to
row_of e at (op.Convert t) = []
row_of e at (op.Reinterpret t) = []
row_of e at (op.EntryValue m) = []
row_of e at (op.Register r) = []
row_of e at (op.ImplicitValue d) = []
row_of e at (op.ImplicitPointer to o) = entry_row (at + 1) (pointer_size e) to
row_of e at (op.Piece n) = []
row_of e at (op.BitPiece n o) = []
row_of e at (op.ParameterRef entry) = []
