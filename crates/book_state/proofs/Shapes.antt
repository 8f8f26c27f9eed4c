-- What follows from an operation's shape.
use Rattle.std.proofs.Common.{◌≡◌, ℕ, ◌+◌, ◌≤◌, min, Bool, true, false, List, [], ◌∷◌, length, set, Some, None, sym, refl, ap, arith}
use Rattle.std.proofs.lemmas.Bool.{leb-true, le-leb, ltb-true}
use Rattle.std.proofs.lemmas.List.{get_or-set_other}
use Rattle.op.specs.declared.operation.Data.{Data}
use Rattle.op.specs.declared.operation.Operation.{Operation}
use Rattle.op.specs.declared.operation.Operation.TheVariants as op
use Rattle.book_state.specs.declared.expression.Expression.{Expression}
use Rattle.book_state.specs.declared.shape.Shape.{Shape}
use Rattle.book_state.specs.declared.shape.Shape.TheVariants.{Plain, Holding, Branching, Nesting}
use Rattle.book_state.specs.Operations.{shape, entries_fit, aimed_at, unset, raw_place}
use Rattle.book_state.specs.State.{State, expression_of, no_expression, depth_by, data_by, nested_by, weight_by}
use Rattle.book_state.specs.Calls.{unmarked}
use Rattle.book_state.specs.Whole.{in_order, target_in, Bare}

-- more data and more operations
pub order_more : (u v k c c' : ℕ) (missing : Bool) → u ≤ v → c ≤ c' → (h : Shape) → in_order u missing k c h ≡ true → in_order v missing k c' h ≡ true
order_more u v k c c' missing lu lc Plain e = refl
order_more u v k c c' missing lu lc (Holding d) e = let a = leb-true (d.start + d.len) u e in le-leb (d.start + d.len) v (omega arith)
order_more u v k c c' missing lu lc (Branching (Some t)) e = let a = leb-true t c e in le-leb t c' (omega arith)
order_more u v k c c' missing lu lc (Branching None) e = e
order_more u v k c c' missing lu lc (Nesting m) e = e

-- no target is missing
pub order_closed : (u k c : ℕ) (h : Shape) → in_order u true k c h ≡ true → unset h ≡ false → in_order u false k c h ≡ true
order_closed u k c Plain e f = refl
order_closed u k c (Holding d) e f = e
order_closed u k c (Branching (Some t)) e f = e
order_closed u k c (Branching None) e f = sym f
order_closed u k c (Nesting m) e f = e

pub unset_is : (h : Shape) → unset h ≡ true → h ≡ Branching None
unset_is Plain e = cc
unset_is (Holding d) e = cc
unset_is (Branching (Some t)) e = cc
unset_is (Branching None) e = refl
unset_is (Nesting m) e = cc

module _ (bs : List ℕ) (s : State) (few : length bs ≤ 65535) where
  pub bare_order : (h : Shape) → Bare bs s h → (k c : ℕ) → in_order (s.byte_count + length bs) true k c h ≡ true
  bare_order Plain b k c = refl
  bare_order (Holding d) b k c =
      let p : d.start ≡ s.byte_count = ap (λ (x : Data). x.start) b in
      let q : d.len ≡ min (length bs) 65535 = ap (λ (x : Data). x.len) b in
      le-leb (d.start + d.len) (s.byte_count + length bs) (omega arith)
  bare_order (Branching t) b k c = ap (target_in true c) b.0
  bare_order (Nesting m) b k c = absurd b

  pub bare_flat : (h : Shape) → Bare bs s h → (m : ℕ) → h ≡ Nesting m → ⊥
  bare_flat Plain b m e = cc
  bare_flat (Holding d) b m e = cc
  bare_flat (Branching t) b m e = cc
  bare_flat (Nesting n) b m e = b

  pub bare_data : (h : Shape) → Bare bs s h → data_by h ≡ length bs
  bare_data Plain b = sym b
  bare_data (Holding d) b = let q : d.len ≡ min (length bs) 65535 = ap (λ (x : Data). x.len) b in omega arith
  bare_data (Branching t) b = sym b.1
  bare_data (Nesting m) b = absurd b

  pub bare_depth : (es : List Expression) (h : Shape) → Bare bs s h → depth_by es h ≡ 0
  bare_depth es Plain b = refl
  bare_depth es (Holding d) b = refl
  bare_depth es (Branching t) b = refl
  bare_depth es (Nesting m) b = absurd b

  pub bare_nested : (es : List Expression) (h : Shape) → Bare bs s h → nested_by es h ≡ 0
  bare_nested es Plain b = refl
  bare_nested es (Holding d) b = refl
  bare_nested es (Branching t) b = refl
  bare_nested es (Nesting m) b = absurd b

-- only the marks of the expressions differ
module _ (es es' : List Expression) (kept : (k : ℕ) → unmarked (expression_of es' k) ≡ unmarked (expression_of es k)) where
  pub depth_kept : (h : Shape) → depth_by es' h ≡ depth_by es h
  depth_kept Plain = refl
  depth_kept (Holding d) = refl
  depth_kept (Branching t) = refl
  depth_kept (Nesting m) = ap (λ (e : Expression). e.depth + 1) (kept m)

  pub nested_kept : (h : Shape) → nested_by es' h ≡ nested_by es h
  nested_kept Plain = refl
  nested_kept (Holding d) = refl
  nested_kept (Branching t) = refl
  nested_kept (Nesting m) = ap (λ (e : Expression). e.weight) (kept m)

  pub weight_kept : (h : Shape) → weight_by es' h ≡ weight_by es h
  weight_kept h = ap (λ n. 266 + data_by h + n) (nested_kept h)

-- one more expression, of number c
module _ (es : List Expression) (c : ℕ) (e : Expression) where
  pub depth_old : (u k n : ℕ) (missing : Bool) (h : Shape) → k ≤ c → in_order u missing k n h ≡ true → depth_by (set es c e) h ≡ depth_by es h
  depth_old u k n missing Plain l o = refl
  depth_old u k n missing (Holding d) l o = refl
  depth_old u k n missing (Branching t) l o = refl
  depth_old u k n missing (Nesting m) l o = let b = ltb-true m k o in
      ap (λ (x : Expression). x.depth + 1) (get_or-set_other es c m e no_expression (omega arith))

  pub weight_old : (u k n : ℕ) (missing : Bool) (h : Shape) → k ≤ c → in_order u missing k n h ≡ true → weight_by (set es c e) h ≡ weight_by es h
  weight_old u k n missing Plain l o = refl
  weight_old u k n missing (Holding d) l o = refl
  weight_old u k n missing (Branching t) l o = refl
  weight_old u k n missing (Nesting m) l o = let b = ltb-true m k o in
      ap (λ (x : Expression). weight_by (x ∷ []) (Nesting 0)) (get_or-set_other es c m e no_expression (omega arith))

-- a branch that gets its target
pub aimed-shape : (t : ℕ) (x : Operation) → unset (shape x) ≡ true → shape (aimed_at t x) ≡ Branching (Some t)
aimed-shape t (op.Raw d) h = cc
aimed-shape t (op.Simple c) h = cc
aimed-shape t (op.Address a) h = cc
aimed-shape t (op.UnsignedConstant v) h = cc
aimed-shape t (op.SignedConstant v) h = cc
aimed-shape t (op.ConstantType b d) h = cc
aimed-shape t (op.FrameOffset o) h = cc
aimed-shape t (op.RegisterOffset r o) h = cc
aimed-shape t (op.RegisterType r b) h = cc
aimed-shape t (op.Pick i) h = cc
aimed-shape t (op.Deref sp) h = cc
aimed-shape t (op.DerefSize sp n) h = cc
aimed-shape t (op.DerefType sp n b) h = cc
aimed-shape t (op.PlusConstant v) h = cc
aimed-shape t (op.Skip t₁) h = refl
aimed-shape t (op.Branch t₁) h = refl
aimed-shape t (op.Call e) h = cc
aimed-shape t (op.CallRef e) h = cc
aimed-shape t (op.VariableValue e) h = cc
aimed-shape t (op.Convert b) h = cc
aimed-shape t (op.Reinterpret b) h = cc
aimed-shape t (op.EntryValue m) h = cc
aimed-shape t (op.Register r) h = cc
aimed-shape t (op.ImplicitValue d) h = cc
aimed-shape t (op.ImplicitPointer e o) h = cc
aimed-shape t (op.Piece n) h = cc
aimed-shape t (op.BitPiece n o) h = cc
aimed-shape t (op.ParameterRef e) h = cc

pub aimed-named : (t : ℕ) (x : Operation) → entries_fit (aimed_at t x) ≡ entries_fit x
aimed-named t (op.Raw d) = refl
aimed-named t (op.Simple c) = refl
aimed-named t (op.Address a) = refl
aimed-named t (op.UnsignedConstant v) = refl
aimed-named t (op.SignedConstant v) = refl
aimed-named t (op.ConstantType b d) = refl
aimed-named t (op.FrameOffset o) = refl
aimed-named t (op.RegisterOffset r o) = refl
aimed-named t (op.RegisterType r b) = refl
aimed-named t (op.Pick i) = refl
aimed-named t (op.Deref sp) = refl
aimed-named t (op.DerefSize sp n) = refl
aimed-named t (op.DerefType sp n b) = refl
aimed-named t (op.PlusConstant v) = refl
aimed-named t (op.Skip t₁) = refl
aimed-named t (op.Branch t₁) = refl
aimed-named t (op.Call e) = refl
aimed-named t (op.CallRef e) = refl
aimed-named t (op.VariableValue e) = refl
aimed-named t (op.Convert b) = refl
aimed-named t (op.Reinterpret b) = refl
aimed-named t (op.EntryValue m) = refl
aimed-named t (op.Register r) = refl
aimed-named t (op.ImplicitValue d) = refl
aimed-named t (op.ImplicitPointer e o) = refl
aimed-named t (op.Piece n) = refl
aimed-named t (op.BitPiece n o) = refl
aimed-named t (op.ParameterRef e) = refl

pub raw_shape : (x : Operation) (d : Data) → raw_place x ≡ Some d → shape x ≡ Holding d
raw_shape (op.Raw d₁) d h = cc
raw_shape (op.Simple c) d h = cc
raw_shape (op.Address a) d h = cc
raw_shape (op.UnsignedConstant v) d h = cc
raw_shape (op.SignedConstant v) d h = cc
raw_shape (op.ConstantType b d₁) d h = cc
raw_shape (op.FrameOffset o) d h = cc
raw_shape (op.RegisterOffset r o) d h = cc
raw_shape (op.RegisterType r b) d h = cc
raw_shape (op.Pick i) d h = cc
raw_shape (op.Deref sp) d h = cc
raw_shape (op.DerefSize sp n) d h = cc
raw_shape (op.DerefType sp n b) d h = cc
raw_shape (op.PlusConstant v) d h = cc
raw_shape (op.Skip t) d h = cc
raw_shape (op.Branch t) d h = cc
raw_shape (op.Call e) d h = cc
raw_shape (op.CallRef e) d h = cc
raw_shape (op.VariableValue e) d h = cc
raw_shape (op.Convert b) d h = cc
raw_shape (op.Reinterpret b) d h = cc
raw_shape (op.EntryValue m) d h = cc
raw_shape (op.Register r) d h = cc
raw_shape (op.ImplicitValue d₁) d h = cc
raw_shape (op.ImplicitPointer e o) d h = cc
raw_shape (op.Piece n) d h = cc
raw_shape (op.BitPiece n o) d h = cc
raw_shape (op.ParameterRef e) d h = cc
