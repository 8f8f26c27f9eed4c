-- The tree of a sealed expression, operation by operation: no level is cut off.
use Rattle.std.proofs.Common.{◌≡◌, ℕ, zero, suc, ◌+◌, ◌<◌, ◌≤◌, max, List, [], ◌∷◌, length, get_or, drop, sym, refl, ap, ◌∙◌, subst, arith, add-one, drop-cons}
use Rattle.op.specs.declared.operation.Operation.{Operation}
use Rattle.book_state.specs.declared.shape.Shape.{Shape}
use Rattle.book_state.specs.declared.shape.Shape.TheVariants.{Plain, Holding, Branching, Nesting}
use Rattle.book_state.specs.Operations.{shape}
use Rattle.book_state.specs.State.{State, op_at, no_operation, expression_at, operations_of, depth_by, gathered}
use Rattle.book_state.specs.Whole.{Whole}
use Rattle.book_state.proofs.Slices.{length-slice, slice_at, slice_more, slice_all}
use Rattle.rules.specs.Tree as tree
use Rattle.book_tree.specs.Store.{InBook, store_of, tree_in}
use Rattle.book_tree.proofs.Shapes.{brought, shape_is, row_at, inside_book, nested_before, within}

-- two ways to give nested trees that agree where operations nest
grow_same : (f g : ℕ → tree.Tree) (b : tree.Store) (x : Operation) (h : Shape) (t : tree.Tree) → ((m : ℕ) → h ≡ Nesting m → f m ≡ g m) →
    tree.grow f (brought b x h) t ≡ tree.grow g (brought b x h) t
grow_same f g b x Plain t a = refl
grow_same f g b x (Holding d) t a = refl
grow_same f g b x (Branching k) t a = refl
grow_same f g b x (Nesting m) t a = ap (λ (y : tree.Tree). tree.nest y t) (a m refl)

rows_same : (f g : ℕ → tree.Tree) (b : tree.Store) (xs : List Operation) → ((i m : ℕ) → i < length xs → shape (get_or xs i no_operation) ≡ Nesting m → f m ≡ g m) →
    tree.rows f b xs ≡ tree.rows g b xs
rows_same f g b [] a = refl
rows_same f g b (x ∷ xs) a =
    ap (λ h. tree.grow f h (tree.rows f b xs)) (shape_is b x)
    ∙ (grow_same f g b x (shape x) (tree.rows f b xs) (λ m e. a zero m (omega arith) e)
    ∙ (ap (λ h. tree.grow g h (tree.rows f b xs)) (sym (shape_is b x))
    ∙ ap (tree.grow g (tree.shape b x)) (rows_same f g b xs (λ i m l e. a (suc i) m (omega arith) e))))

depth_in : (d : ℕ) (f : Operation → ℕ) (xs : List Operation) (i : ℕ) → i < length xs → gathered max f xs ≤ d → f (get_or xs i no_operation) ≤ d
depth_in d f [] i l h = absurd (omega arith)
depth_in d f (x ∷ xs) zero l h = omega arith
depth_in d f (x ∷ xs) (suc i) l h = depth_in d f xs i (omega arith) (omega arith)

module _ (s : State) (w : Whole s) where
  pub operations_are : (k : ℕ) → tree.operations_of (store_of s) (tree.expression_at (store_of s) k) ≡ operations_of s k
  operations_are k = ap (tree.operations_of (store_of s)) (row_at s.expressions k)

  pub length_operations : (k : ℕ) → k < s.sealed_count → length (operations_of s k) ≡ (expression_at s k).count
  length_operations k l = length-slice s.operations (expression_at s k).start (expression_at s k).count (within s w k l)

  pub operation_at : (k i : ℕ) → i < (expression_at s k).count → get_or (operations_of s k) i no_operation ≡ op_at s ((expression_at s k).start + i)
  operation_at k i l = slice_at s.operations (expression_at s k).start (expression_at s k).count i no_operation l

  -- a nested expression is sealed, and less deep
  module _ (k i m : ℕ) (there : k < s.sealed_count) (l : i < length (operations_of s k)) (e : shape (get_or (operations_of s k) i no_operation) ≡ Nesting m) where
    in_count : i < (expression_at s k).count
    in_count = let n = length_operations k there in omega arith

    pub nested_there : m < s.sealed_count
    nested_there = let a = nested_before s w k there i m in_count (ap shape (sym (operation_at k i in_count)) ∙ e) in omega arith

    pub nested_lower : (expression_at s m).depth < (expression_at s k).depth
    nested_lower =
        let a : depth_by s.expressions (shape (get_or (operations_of s k) i no_operation)) ≤ (expression_at s k).depth =
        depth_in (expression_at s k).depth (λ x. depth_by s.expressions (shape x)) (operations_of s k) i l (let d = w.deep k there in omega arith) in
        let b : depth_by s.expressions (shape (get_or (operations_of s k) i no_operation)) ≡ (expression_at s m).depth + 1 = ap (depth_by s.expressions) e in
        omega arith

  tree_suc : (n k : ℕ) → tree.tree_of (suc n) (store_of s) k ≡ tree.rows (tree.tree_of n (store_of s)) (store_of s) (operations_of s k)
  unfolding tree.tree_of
  tree_suc n k = ap (tree.rows (tree.tree_of n (store_of s)) (store_of s)) (operations_are k)

  -- more levels than there are make no difference
  levels_same : (n n' k : ℕ) → k < s.sealed_count → (expression_at s k).depth < n → (expression_at s k).depth < n' →
      tree.tree_of n (store_of s) k ≡ tree.tree_of n' (store_of s) k
  levels_same zero n' k there l h = absurd (omega arith)
  levels_same (suc n) zero k there l h = absurd (omega arith)
  levels_same (suc n) (suc n') k there l h =
      tree_suc n k
      ∙ (rows_same (tree.tree_of n (store_of s)) (tree.tree_of n' (store_of s)) (store_of s) (operations_of s k)
      (λ i m q e. let a = nested_lower k i m there q e in levels_same n n' m (nested_there k i m there q e) (omega arith) (omega arith))
      ∙ sym (tree_suc n' k))

  -- the tree of an expression is its operations in a row, with the trees of those that it nests
  pub tree_is : (k : ℕ) → k < s.sealed_count → tree_in s k ≡ tree.rows (tree_in s) (store_of s) (operations_of s k)
  tree_is k there =
      tree_suc 16 k
      ∙ rows_same (tree.tree_of 16 (store_of s)) (tree_in s) (store_of s) (operations_of s k)
      (λ i m q e. let a = nested_lower k i m there q e in let d = w.counted.shallow k in levels_same 16 17 m (nested_there k i m there q e) (omega arith) (omega arith))

  -- an operation is no deeper than its expression
  pub depth_at : (k i : ℕ) → k < s.sealed_count → i < (expression_at s k).count →
      depth_by s.expressions (shape (op_at s ((expression_at s k).start + i))) ≤ (expression_at s k).depth
  depth_at k i there l =
      let n = length_operations k there in
      let d = w.deep k there in
      subst (λ (x : Operation). depth_by s.expressions (shape x) ≤ (expression_at s k).depth) (operation_at k i l)
      (depth_in (expression_at s k).depth (λ x. depth_by s.expressions (shape x)) (operations_of s k) i (omega arith) (omega arith))

  -- the operations that are left, one on and at the end
  pub operations_more : (k i : ℕ) → k < s.sealed_count → i < (expression_at s k).count →
      drop i (operations_of s k) ≡ op_at s ((expression_at s k).start + i) ∷ drop (i + 1) (operations_of s k)
  operations_more k i there l = slice_more s.operations (expression_at s k).start (expression_at s k).count (within s w k there) i no_operation l

  pub operations_all : (k i : ℕ) → k < s.sealed_count → (expression_at s k).count ≤ i → drop i (operations_of s k) ≡ []
  operations_all k i there l = slice_all s.operations (expression_at s k).start (expression_at s k).count (within s w k there) i l

  -- the operations of an expression, gone over as a list: each stands in the book where the expression has it
  module _ (k : ℕ) (there : k < s.sealed_count) (xs : List Operation) (are : xs ≡ operations_of s k) where
    pub items_rows : tree_in s k ≡ tree.rows (tree_in s) (store_of s) xs
    items_rows = tree_is k there ∙ ap (tree.rows (tree_in s) (store_of s)) (sym are)

    pub items_count : length xs ≡ (expression_at s k).count
    items_count = ap length are ∙ length_operations k there

    module _ (i : ℕ) (l : i < length xs) where
      pub item_counted : i < (expression_at s k).count
      item_counted = let n = items_count in omega arith

      pub item_at : get_or xs i no_operation ≡ op_at s ((expression_at s k).start + i)
      item_at = ap (λ (ys : List Operation). get_or ys i no_operation) are ∙ operation_at k i item_counted

      pub item_inside : InBook s (shape (get_or xs i no_operation))
      item_inside = subst (λ (x : Operation). InBook s (shape x)) (sym item_at) (inside_book s w k there i item_counted)

      pub item_depth : depth_by s.expressions (shape (get_or xs i no_operation)) ≤ (expression_at s k).depth
      item_depth = subst (λ (x : Operation). depth_by s.expressions (shape x) ≤ (expression_at s k).depth) (sym item_at) (depth_at k i there item_counted)

      pub item_then : drop i xs ≡ get_or xs i no_operation ∷ drop (i + 1) xs
      item_then = rw (add-one, drop-cons xs i no_operation l) refl

      pub item_next : drop i xs ≡ op_at s ((expression_at s k).start + i) ∷ drop (i + 1) xs
      item_next = item_then ∙ ap (λ (x : Operation). x ∷ drop (i + 1) xs) item_at
