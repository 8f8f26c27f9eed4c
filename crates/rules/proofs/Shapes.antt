-- The two shapes of an operation, and the trees that are made of them.
use Rattle.std.proofs.Common.{◌≡◌, ℕ, suc, List, [], ◌∷◌, length, refl, ap}
use Rattle.op.specs.declared.operation.Operation.{Operation}
use Rattle.op.specs.declared.operation.Operation.TheVariants.{
  Raw,
  Simple,
  Address,
  UnsignedConstant,
  SignedConstant,
  ConstantType,
  FrameOffset,
  RegisterOffset,
  RegisterType,
  Pick,
  Deref,
  DerefSize,
  DerefType,
  PlusConstant,
  Skip,
  Branch,
  Call,
  CallRef,
  VariableValue,
  Convert,
  Reinterpret,
  EntryValue,
  Register,
  ImplicitValue,
  ImplicitPointer,
  Piece,
  BitPiece,
  ParameterRef,
}
use Rattle.rules.specs.Kinds.{Kind, given, bare, branch, nesting as nests, other, kind_of}
use Rattle.rules.specs.Sealed.{count_of, SealedKind, Sealed}
use Rattle.rules.specs.Tree.{Store, bytes_at, Shape, single, nesting, shape, Tree, grow, rows}

-- a kind other than an entry value
abbrev pub Flat : Kind → Type 0
Flat given = Unit {0}
Flat (bare c) = Unit {0}
Flat (branch target) = Unit {0}
Flat (nests n) = ⊥
Flat other = Unit {0}

-- an operation that nests nothing brings itself along, an entry value the number of its expression
pub data Shaped : Operation → Shape → Type 0 where
  is_single : (o : Operation) (bs : List ℕ) → Flat (kind_of o) → Shaped o (single o bs)
  is_nesting : (n : ℕ) → Shaped (EntryValue n) (nesting n)

pub shaped : (b : Store) (o : Operation) → Shaped o (shape b o)
shaped b (Raw d) = Shaped.is_single (Raw d) (bytes_at b d) tt
shaped b (Simple o) = Shaped.is_single (Simple o) [] tt
shaped b (Address a) = Shaped.is_single (Address a) [] tt
shaped b (UnsignedConstant n) = Shaped.is_single (UnsignedConstant n) [] tt
shaped b (SignedConstant z) = Shaped.is_single (SignedConstant z) [] tt
shaped b (ConstantType base d) = Shaped.is_single (ConstantType base d) (bytes_at b d) tt
shaped b (FrameOffset z) = Shaped.is_single (FrameOffset z) [] tt
shaped b (RegisterOffset r z) = Shaped.is_single (RegisterOffset r z) [] tt
shaped b (RegisterType r base) = Shaped.is_single (RegisterType r base) [] tt
shaped b (Pick i) = Shaped.is_single (Pick i) [] tt
shaped b (Deref space) = Shaped.is_single (Deref space) [] tt
shaped b (DerefSize space size) = Shaped.is_single (DerefSize space size) [] tt
shaped b (DerefType space size base) = Shaped.is_single (DerefType space size base) [] tt
shaped b (PlusConstant n) = Shaped.is_single (PlusConstant n) [] tt
shaped b (Skip target) = Shaped.is_single (Skip target) [] tt
shaped b (Branch target) = Shaped.is_single (Branch target) [] tt
shaped b (Call entry) = Shaped.is_single (Call entry) [] tt
shaped b (CallRef entry) = Shaped.is_single (CallRef entry) [] tt
shaped b (VariableValue entry) = Shaped.is_single (VariableValue entry) [] tt
shaped b (Convert base) = Shaped.is_single (Convert base) [] tt
shaped b (Reinterpret base) = Shaped.is_single (Reinterpret base) [] tt
shaped b (EntryValue n) = Shaped.is_nesting n
shaped b (Register r) = Shaped.is_single (Register r) [] tt
shaped b (ImplicitValue d) = Shaped.is_single (ImplicitValue d) (bytes_at b d) tt
shaped b (ImplicitPointer entry z) = Shaped.is_single (ImplicitPointer entry z) [] tt
shaped b (Piece n) = Shaped.is_single (Piece n) [] tt
shaped b (BitPiece n k) = Shaped.is_single (BitPiece n k) [] tt
shaped b (ParameterRef entry) = Shaped.is_single (ParameterRef entry) [] tt

-- one operation for each of the row
pub count-rows : (inner : ℕ → Tree) (b : Store) (os : List Operation) → count_of (rows inner b os) ≡ length os
count-rows inner b [] = refl
count-rows inner b (o ∷ os) = grown (shape b o) (count-rows inner b os)
  where
    grown : (x : Shape) → count_of (rows inner b os) ≡ length os → count_of (grow inner x (rows inner b os)) ≡ suc (length os)
    grown (single p bs) e = ap suc e
    grown (nesting n) e = ap suc e

-- an operation of a sealed expression of n operations; `inner` gives the tree of a nested expression
abbrev pub SealedOp : (ℕ → Tree) → ℕ → Kind → Type 0
SealedOp inner n given = Unit {0}
SealedOp inner n (bare c) = Unit {0}
SealedOp inner n (branch target) = SealedKind n (branch target)
SealedOp inner n (nests m) = Sealed (count_of (inner m)) (inner m)
SealedOp inner n other = Unit {0}

abbrev pub SealedAll : (ℕ → Tree) → ℕ → List Operation → Type 0
SealedAll inner n [] = Unit {0}
SealedAll inner n (o ∷ os) = SealedOp inner n (kind_of o) × SealedAll inner n os

sealed_kind : (inner : ℕ → Tree) (n : ℕ) (k : Kind) → Flat k → SealedOp inner n k → SealedKind n k
sealed_kind inner n given f h = tt
sealed_kind inner n (bare c) f h = tt
sealed_kind inner n (branch target) f h = h
sealed_kind inner n (nests m) f h = f
sealed_kind inner n other f h = tt

sealed-grow : (inner : ℕ → Tree) (n : ℕ) (t : Tree) {o : Operation} {x : Shape} → Shaped o x → SealedOp inner n (kind_of o) → Sealed n t →
    Sealed n (grow inner x t)
sealed-grow inner n t (Shaped.is_single o bs f) h k = (sealed_kind inner n (kind_of o) f h, k)
sealed-grow inner n t (Shaped.is_nesting m) h k = (h, k)

-- the tree of sealed operations is sealed
pub sealed-rows : (inner : ℕ → Tree) (b : Store) (n : ℕ) (os : List Operation) → SealedAll inner n os → Sealed n (rows inner b os)
sealed-rows inner b n [] h = tt
sealed-rows inner b n (o ∷ os) h = sealed-grow inner n (rows inner b os) (shaped b o) h.0 (sealed-rows inner b n os h.1)
