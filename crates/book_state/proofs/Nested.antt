-- A nested expression is less deep and weighs less than the one that holds it.
use Rattle.std.proofs.Common.{◌≡◌, ℕ, zero, suc, ◌+◌, ◌<◌, ◌≤◌, max, List, [], ◌∷◌, length, get_or, ap, ◌∙◌, arith}
use Rattle.op.specs.declared.operation.Operation.{Operation}
use Rattle.book_state.specs.declared.shape.Shape.TheVariants.{Nesting}
use Rattle.book_state.specs.Operations.{shape}
use Rattle.book_state.specs.State.{State, op_at, expression_at, operations_of, no_operation, gathered, depth_by, weight_by}
use Rattle.book_state.specs.Whole.{Whole}
use Rattle.book_state.proofs.Slices.{length-slice, slice_at}

max_member : (f : Operation → ℕ) (xs : List Operation) (i : ℕ) → i < length xs → f (get_or xs i no_operation) ≤ gathered max f xs
max_member f [] i l = absurd (omega arith)
max_member f (x ∷ xs) zero l = omega arith
max_member f (x ∷ xs) (suc i) l = let h = max_member f xs i (omega arith) in omega arith

sum_member : (f : Operation → ℕ) (xs : List Operation) (i : ℕ) → i < length xs → f (get_or xs i no_operation) ≤ gathered ◌+◌ f xs
sum_member f [] i l = absurd (omega arith)
sum_member f (x ∷ xs) zero l = omega arith
sum_member f (x ∷ xs) (suc i) l = let h = sum_member f xs i (omega arith) in omega arith

module _ (s : State) (w : Whole s) (k i m : ℕ) (lk : k < s.sealed_count) (li : i < (expression_at s k).count)
    (e : shape (op_at s ((expression_at s k).start + i)) ≡ Nesting m) where
  member : shape (get_or (operations_of s k) i no_operation) ≡ Nesting m
  member = ap shape (slice_at s.operations (expression_at s k).start (expression_at s k).count i no_operation li) ∙ e

  inside : i < length (operations_of s k)
  inside = let c = w.counted in let h = w.ends k lk in let n = length-slice s.operations (expression_at s k).start (expression_at s k).count (omega arith) in omega arith

  pub nested_shallower : (expression_at s m).depth < (expression_at s k).depth
  nested_shallower =
      let a = max_member (λ x. depth_by s.expressions (shape x)) (operations_of s k) i inside in
      let b = ap (depth_by s.expressions) member in
      omega (arith, w.deep k lk)

  pub nested_lighter : (expression_at s m).weight + 266 ≤ (expression_at s k).weight
  nested_lighter =
      let a = sum_member (λ x. weight_by s.expressions (shape x)) (operations_of s k) i inside in
      let b = ap (weight_by s.expressions) member in
      omega (arith, w.weighed k lk)
