-- Operations that nest nothing.
use Rattle.std.proofs.Common.{◌≡◌, ℕ, ◌⊎◌, List, ℤ, Ok, Option, Result, sym, refl, ap, ◌∙◌, ⊎_elim}
use Rattle.common.specs.declared.encoding.Encoding.{Encoding}
use Rattle.common.specs.declared.error.Error.{Error}
use Rattle.dwarf.specs.Tokens.{done, code, displacement}
use Rattle.op.specs.declared.operation.Operation.{Operation}
use Rattle.op.specs.declared.operation.Operation.TheVariants as op
use Rattle.book_state.specs.Operations.{shape}
use Rattle.book_state.specs.State.{State}
use Rattle.book_tree.specs.Store.{store_of}
use Rattle.operation.specs.Fronts.{data_in}
use Rattle.rules.specs.Encode.{encode_op}
use Rattle.rules.specs.Results.{and_then}
use Rattle.rules.specs.Scope.{Scope}
use Rattle.rules.specs.Tree as tree
use Rattle.emit.specs.Held.{data_at}

-- an operation brings its data along
pub single-shape : (b : State) (x : Operation) → ((m : ℕ) → x ≡ op.EntryValue m → ⊥) → tree.shape (store_of b) x ≡ tree.single x (data_at b (shape x))
single-shape b (op.Raw d) n = refl
single-shape b (op.Simple c) n = refl
single-shape b (op.Address a) n = refl
single-shape b (op.UnsignedConstant v) n = refl
single-shape b (op.SignedConstant v) n = refl
single-shape b (op.ConstantType t d) n = refl
single-shape b (op.FrameOffset o) n = refl
single-shape b (op.RegisterOffset r o) n = refl
single-shape b (op.RegisterType r t) n = refl
single-shape b (op.Pick i) n = refl
single-shape b (op.Deref sp) n = refl
single-shape b (op.DerefSize sp k) n = refl
single-shape b (op.DerefType sp k t) n = refl
single-shape b (op.PlusConstant v) n = refl
single-shape b (op.Skip t) n = refl
single-shape b (op.Branch t) n = refl
single-shape b (op.Call v) n = refl
single-shape b (op.CallRef v) n = refl
single-shape b (op.VariableValue v) n = refl
single-shape b (op.Convert t) n = refl
single-shape b (op.Reinterpret t) n = refl
single-shape b (op.EntryValue m) n = absurd (n m refl)
single-shape b (op.Register r) n = refl
single-shape b (op.ImplicitValue d) n = refl
single-shape b (op.ImplicitPointer v o) n = refl
single-shape b (op.Piece v) n = refl
single-shape b (op.BitPiece v o) n = refl
single-shape b (op.ParameterRef v) n = refl

-- and only its data
pub data_held : (b : State) (x : Operation) → data_in x (data_at b (shape x)) ≡ data_at b (shape x)
data_held b (op.Raw d) = refl
data_held b (op.Simple c) = refl
data_held b (op.Address a) = refl
data_held b (op.UnsignedConstant v) = refl
data_held b (op.SignedConstant v) = refl
data_held b (op.ConstantType t d) = refl
data_held b (op.FrameOffset o) = refl
data_held b (op.RegisterOffset r o) = refl
data_held b (op.RegisterType r t) = refl
data_held b (op.Pick i) = refl
data_held b (op.Deref sp) = refl
data_held b (op.DerefSize sp k) = refl
data_held b (op.DerefType sp k t) = refl
data_held b (op.PlusConstant v) = refl
data_held b (op.Skip t) = refl
data_held b (op.Branch t) = refl
data_held b (op.Call v) = refl
data_held b (op.CallRef v) = refl
data_held b (op.VariableValue v) = refl
data_held b (op.Convert t) = refl
data_held b (op.Reinterpret t) = refl
data_held b (op.EntryValue m) = refl
data_held b (op.Register r) = refl
data_held b (op.ImplicitValue d) = refl
data_held b (op.ImplicitPointer v o) = refl
data_held b (op.Piece v) = refl
data_held b (op.BitPiece v o) = refl
data_held b (op.ParameterRef v) = refl

module _ (e : Encoding) (s : Scope) (leads : Option ℕ → Result ℤ Error) (x : Operation) (bs : List ℕ) (t : Option ℕ) (r : Result ℤ Error) (h : r ≡ leads t) where
  leads_skip : x ≡ op.Skip t → and_then r (λ z. encode_op e s (λ _. Ok z) x bs) ≡ encode_op e s leads x bs
  leads_skip q =
      ap (λ (y : Operation). and_then r (λ z. encode_op e s (λ _. Ok z) y bs)) q
      ∙ (ap (λ (d : Result ℤ Error). and_then d (λ z. Ok (code 0x2f (displacement z done)))) h ∙ sym (ap (λ (y : Operation). encode_op e s leads y bs) q))

  leads_branch : x ≡ op.Branch t → and_then r (λ z. encode_op e s (λ _. Ok z) x bs) ≡ encode_op e s leads x bs
  leads_branch q =
      ap (λ (y : Operation). and_then r (λ z. encode_op e s (λ _. Ok z) y bs)) q
      ∙ (ap (λ (d : Result ℤ Error). and_then d (λ z. Ok (code 0x28 (displacement z done)))) h ∙ sym (ap (λ (y : Operation). encode_op e s leads y bs) q))

  -- a branch is encoded with its displacement
  pub leads_branching : (x ≡ op.Skip t) ⊎ (x ≡ op.Branch t) → and_then r (λ z. encode_op e s (λ _. Ok z) x bs) ≡ encode_op e s leads x bs
  leads_branching q = ⊎_elim leads_skip leads_branch q
