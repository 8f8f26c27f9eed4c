-- The bytes of an operation up to its data, and its data.
use Rattle.std.specs.Prelude.{ℕ, Bool, List, [], ◌∷◌, ◌++◌, length}
use Rattle.dwarf.specs.Bytes.{size_of}
use Rattle.dwarf.specs.Fixed.{fixed_bytes, twos_complement}
use Rattle.dwarf.specs.Leb.{uleb, sleb}
use Rattle.dwarf.specs.Tokens.{Tokens, done, code, unsigned, signed, fixed, displacement, block, short, nested, reference, raw}
use Rattle.op.specs.declared.operation.Operation.{Operation}
use Rattle.op.specs.declared.operation.Operation.TheVariants as op

-- the bytes of an operation up to its data, behind others: data come last, and raw bytes and nested operations have none in front
abbrev pub front : Bool → List ℕ → Tokens → List ℕ
front big before done = before
front big before (code c ts) = front big (before ++ (c ∷ [])) ts
front big before (unsigned n ts) = front big (before ++ uleb n) ts
front big before (signed z ts) = front big (before ++ sleb z) ts
front big before (fixed width n ts) = front big (before ++ fixed_bytes big width n) ts
front big before (displacement z ts) = front big (before ++ fixed_bytes big 2 (twos_complement 2 z)) ts
front big before (block bytes ts) = before ++ uleb (length bytes)
front big before (short bytes ts) = before ++ (length bytes ∷ [])
front big before (nested inner ts) = before ++ uleb (size_of inner)
front big before (reference width unit entry ts) = front big (before ++ fixed_bytes big width 0) ts
front big before (raw bytes ts) = before

-- the data of an operation that holds some
abbrev pub data_in : Operation → List ℕ → List ℕ
data_in (op.Raw d) bs = bs
data_in (op.Simple c) bs = []
data_in (op.Address a) bs = []
data_in (op.UnsignedConstant v) bs = []
data_in (op.SignedConstant v) bs = []
data_in (op.ConstantType t d) bs = bs
data_in (op.FrameOffset o) bs = []
data_in (op.RegisterOffset r o) bs = []
data_in (op.RegisterType r t) bs = []
data_in (op.Pick i) bs = []
data_in (op.Deref sp) bs = []
data_in (op.DerefSize sp n) bs = []
data_in (op.DerefType sp n t) bs = []
data_in (op.PlusConstant v) bs = []
data_in (op.Skip t) bs = []
data_in (op.Branch t) bs = []
data_in (op.Call e) bs = []
data_in (op.CallRef e) bs = []
data_in (op.VariableValue e) bs = []
data_in (op.Convert t) bs = []
data_in (op.Reinterpret t) bs = []
data_in (op.EntryValue m) bs = []
data_in (op.Register r) bs = []
data_in (op.ImplicitValue d) bs = bs
data_in (op.ImplicitPointer e o) bs = []
data_in (op.Piece n) bs = []
data_in (op.BitPiece n o) bs = []
data_in (op.ParameterRef e) bs = []
