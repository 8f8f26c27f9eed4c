-- What an operation brings along, by what it refers to inside its book.
use Rattle.std.proofs.Common.{◌≡◌, ℕ, zero, suc, ◌+◌, ◌<◌, ◌≤◌, true, false, List, [], ◌∷◌, map, length, get_or, drop, sym, refl, ap, ◌∙◌, arith, length-drop}
use Rattle.std.proofs.lemmas.List.{length-take-le}
use Rattle.std.proofs.lemmas.Bool.{leb-true, ltb-true}
use Rattle.op.specs.declared.operation.Data.{Data}
use Rattle.op.specs.declared.operation.Operation.{Operation}
use Rattle.op.specs.declared.operation.Operation.TheVariants as op
use Rattle.book_state.specs.declared.expression.Expression.{Expression}
use Rattle.book_state.specs.declared.shape.Shape.{Shape}
use Rattle.book_state.specs.declared.shape.Shape.TheVariants.{Plain, Holding, Branching, Nesting}
use Rattle.book_state.specs.Operations.{shape}
use Rattle.book_state.specs.State.{State, op_at, expression_at, no_expression}
use Rattle.book_state.specs.Whole.{Whole, in_order}
use Rattle.rules.specs.Tree as tree
use Rattle.book_tree.specs.Store.{row_of, store_of, InBook}

-- the data of an operation of a shape
abbrev pub data_by : tree.Store → Shape → List ℕ
data_by b Plain = []
data_by b (Holding d) = tree.bytes_at b d
data_by b (Branching t) = []
data_by b (Nesting m) = []

abbrev pub brought : tree.Store → Operation → Shape → tree.Shape
brought b x Plain = tree.single x []
brought b x (Holding d) = tree.single x (tree.bytes_at b d)
brought b x (Branching t) = tree.single x []
brought b x (Nesting m) = tree.nesting m

pub shape_is : (b : tree.Store) (x : Operation) → tree.shape b x ≡ brought b x (shape x)
shape_is b (op.Raw d) = refl
shape_is b (op.Simple c) = refl
shape_is b (op.Address a) = refl
shape_is b (op.UnsignedConstant v) = refl
shape_is b (op.SignedConstant v) = refl
shape_is b (op.ConstantType t d) = refl
shape_is b (op.FrameOffset o) = refl
shape_is b (op.RegisterOffset r o) = refl
shape_is b (op.RegisterType r t) = refl
shape_is b (op.Pick i) = refl
shape_is b (op.Deref sp) = refl
shape_is b (op.DerefSize sp n) = refl
shape_is b (op.DerefType sp n t) = refl
shape_is b (op.PlusConstant v) = refl
shape_is b (op.Skip t) = refl
shape_is b (op.Branch t) = refl
shape_is b (op.Call e) = refl
shape_is b (op.CallRef e) = refl
shape_is b (op.VariableValue e) = refl
shape_is b (op.Convert t) = refl
shape_is b (op.Reinterpret t) = refl
shape_is b (op.EntryValue m) = refl
shape_is b (op.Register r) = refl
shape_is b (op.ImplicitValue d) = refl
shape_is b (op.ImplicitPointer e o) = refl
shape_is b (op.Piece n) = refl
shape_is b (op.BitPiece n o) = refl
shape_is b (op.ParameterRef e) = refl

pub row_at : (xs : List Expression) (k : ℕ) → get_or (map row_of xs) k (record { start = 0; count = 0 }) ≡ row_of (get_or xs k no_expression)
row_at [] k = refl
row_at (x ∷ xs) zero = refl
row_at (x ∷ xs) (suc k) = row_at xs k

-- data inside a book are as many as they are said to be
pub data_length : (s : State) (d : Data) → d.start + d.len ≤ length s.bytes → length (tree.bytes_at (store_of s) d) ≡ d.len
data_length s d h = length-take-le d.len (drop d.start s.bytes) (simp length-drop (omega arith))

in_order_lem : (s : State) (k count : ℕ) (h : Shape) → s.byte_start ≤ length s.bytes → k < s.sealed_count → in_order s.byte_start false k count h ≡ true → InBook s h
in_order_lem s k count Plain l n e = tt
in_order_lem s k count (Holding d) l n e = let a = leb-true (d.start + d.len) s.byte_start e in omega arith
in_order_lem s k count (Branching t) l n e = tt
in_order_lem s k count (Nesting m) l n e = let a = ltb-true m k e in omega arith

-- operations of sealed expressions
module _ (s : State) (w : Whole s) (k : ℕ) (there : k < s.sealed_count) where
  pub inside_book : (i : ℕ) → i < (expression_at s k).count → InBook s (shape (op_at s ((expression_at s k).start + i)))
  inside_book i l =
      let a = w.counted.bytes_within in let b = w.counted.bytes_since in
      in_order_lem s k (expression_at s k).count (shape (op_at s ((expression_at s k).start + i))) (omega arith) there (w.closed k i there l)

  pub nested_before : (i m : ℕ) → i < (expression_at s k).count → shape (op_at s ((expression_at s k).start + i)) ≡ Nesting m → m < k
  nested_before i m l e =
      ltb-true m k (ap (in_order s.byte_start false k (expression_at s k).count) (sym e) ∙ w.closed k i there l)

  pub within : (expression_at s k).start + (expression_at s k).count ≤ length s.operations
  within = let a = w.ends k there in let b = w.counted.since in let d = w.counted.ops_within in omega arith

  pub within_4096 : (expression_at s k).start + (expression_at s k).count ≤ 4096
  within_4096 = let a = w.ends k there in let b = w.counted.since in let d = w.counted.ops_within in omega arith
