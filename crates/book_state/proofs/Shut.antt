-- A draft is sealed.
use Rattle.std.proofs.Common.{◌≡◌, ℕ, ◌+◌, ◌-◌, ◌<◌, ◌≤◌, max, Bool, true, false, List, [], length, get_or, set, sym, refl, ap, ◌∙◌, subst, ⊎_elim, arith, length-set}
use Rattle.std.proofs.lemmas.List.{get_or-set_same, get_or-set_other}
use Rattle.std.proofs.lemmas.List.Folds.{list_any_at}
use Rattle.std.proofs.lemmas.Bool.{cases_eq, cases_Bool}
use Rattle.op.specs.declared.operation.Operation.{Operation}
use Rattle.book_state.specs.declared.expression.Expression.{Expression}
use Rattle.book_state.specs.declared.shape.Shape.TheVariants.{Nesting}
use Rattle.book_state.specs.Operations.{shape, unset, any_unset}
use Rattle.book_state.specs.State.{State, op_at, expression_at, no_expression, no_operation, slice, draft, depth_by, depth_of, data_of, weight_by, weight_of}
use Rattle.book_state.specs.Calls.{new_expression, shut}
use Rattle.book_state.specs.Whole.{Counted, in_order, Ends, Ordered, Closed, Flagged, Used, Deep, Weighed}
use Rattle.book_state.proofs.Kept.{Kept}
use Rattle.book_state.proofs.Slices.{length-slice, slice_at, slice_none, slice_same}
use Rattle.book_state.proofs.Shapes.{order_more, order_closed, depth_old, weight_old}
use Rattle.book_state.proofs.Roots.{roots_push}

all_set : (xs : List Operation) (i : ℕ) → any_unset xs ≡ false → i < length xs → unset (shape (get_or xs i no_operation)) ≡ false
all_set xs i e l = ⊎_elim (λ t. let h = list_any_at (λ x. unset (shape x)) xs i no_operation l t in cc) (λ f. f) (cases_Bool (unset (shape (get_or xs i no_operation))))

module _ (s : State) (o : s.drafting ≡ true) (u : any_unset (draft s) ≡ false) (w : Kept s) where
  room : s.sealed_count < 1024
  room = w.whole.counted.room o

  new : expression_at (shut s) s.sealed_count ≡ new_expression s
  new = let c = w.whole.counted.table in let r = room in get_or-set_same s.expressions s.sealed_count (new_expression s) no_expression (omega arith)

  old : (k : ℕ) → (k ≡ s.sealed_count → ⊥) → expression_at (shut s) k ≡ expression_at s k
  old k ne = get_or-set_other s.expressions s.sealed_count k (new_expression s) no_expression ne

  -- a fact of every expression
  each : (P : ℕ → Expression → Type 0) → ((k : ℕ) → P k (expression_at s k)) → P s.sealed_count (new_expression s) → (k : ℕ) → P k (expression_at (shut s) k)
  each P h n k = ⊎_elim
      (λ e. subst (λ (j : ℕ). P j (expression_at (shut s) j)) (sym e) (subst (P s.sealed_count) (sym new) n))
      (λ ne. subst (P k) (sym (old k ne)) (h k))
      (cases_eq k s.sealed_count)

  -- a fact of every sealed expression
  every : (P : ℕ → Expression → Type 0) → ((k : ℕ) → k < s.sealed_count → P k (expression_at s k)) → P s.sealed_count (new_expression s) →
      (k : ℕ) → k < s.sealed_count + 1 → P k (expression_at (shut s) k)
  every P h n k l = ⊎_elim
      (λ e. subst (λ (j : ℕ). P j (expression_at (shut s) j)) (sym e) (subst (P s.sealed_count) (sym new) n))
      (λ ne. subst (P k) (sym (old k ne)) (h k (omega arith)))
      (cases_eq k s.sealed_count)

  weight_bound : weight_of s.expressions (draft s) ≤ 1155071
  weight_bound = let c = w.whole.counted in omega (arith, w.whole.total)

  counted : Counted (shut s)
  counted = let c = w.whole.counted in let r = room in record {
    ops_within = c.ops_within;
    bytes_within = c.bytes_within;
    since = omega arith;
    bytes_since = omega arith;
    sealed_within = omega arith;
    table = simp length-set c.table;
    room = λ e. absurd (cc);
    idle = λ e. (refl, refl);
    light = each (λ k e. e.weight ≤ 1155071) c.light weight_bound;
    shallow = each (λ k e. e.depth ≤ 16) c.shallow w.whole.low;
  }

  ends : Ends (shut s)
  ends = let c = w.whole.counted in every (λ k e. e.start + e.count ≤ s.op_count) (λ k l. let h = w.whole.ends k l in omega arith) (omega arith)

  ordered : Ordered (shut s)
  ordered j k l h = every (λ m e. j < m → (expression_at (shut s) j).start + (expression_at (shut s) j).count ≤ e.start)
      (λ m lm lj. subst (λ (e : Expression). e.start + e.count ≤ (expression_at s m).start) (sym (old j (λ q. omega arith))) (w.ordered j m lj lm))
      (λ lj. subst (λ (e : Expression). e.start + e.count ≤ s.start) (sym (old j (λ q. omega arith))) (w.whole.ends j lj))
      k h l

  was_set : (i : ℕ) → i < s.op_count - s.start → unset (shape (op_at s (s.start + i))) ≡ false
  was_set i l =
      let c = w.whole.counted in
      let n : length (draft s) ≡ s.op_count - s.start = length-slice s.operations s.start (s.op_count - s.start) (omega arith) in
      ap (λ x. unset (shape x)) (sym (slice_at s.operations s.start (s.op_count - s.start) i no_operation l)) ∙ all_set (draft s) i u (omega arith)

  closed : Closed (shut s)
  closed k i l = every (λ j e. i < e.count → in_order s.byte_count false j e.count (shape (op_at s (e.start + i))) ≡ true)
      (λ j lj h. let c = w.whole.counted in order_more s.byte_start s.byte_count j (expression_at s j).count (expression_at s j).count false c.bytes_since (omega arith) (shape (op_at s ((expression_at s j).start + i))) (w.whole.closed j i lj h))
      (λ h. order_closed s.byte_count s.sealed_count (s.op_count - s.start) (shape (op_at s (s.start + i))) (w.whole.drafted (s.start + i) (omega arith) (omega arith)) (was_set i h))
      k l

  flagged : Flagged (shut s)
  flagged p m l e = let f = w.whole.flagged p m l e in let g = f.0 in (omega arith, ap (λ (x : Expression). x.nested) (old m (λ q. omega arith)) ∙ f.1)

  used : Used (shut s)
  used = each (λ m e. e.nested ≡ true → ∥ ((p : ℕ) × (p < s.op_count) × (shape (op_at s p) ≡ Nesting m)) ∥₁) w.whole.used (λ h. absurd (cc))

  -- operations in order measure as before
  module _ (k a n v c : ℕ) (missing : Bool) (lk : k ≤ s.sealed_count) (within : a + n ≤ length s.operations)
      (order : (i : ℕ) → i < n → in_order v missing k c (shape (op_at s (a + i))) ≡ true) where
    depth_same : depth_of s.expressions (slice s.operations a n) ≡ depth_of (set s.expressions s.sealed_count (new_expression s)) (slice s.operations a n)
    depth_same = slice_same max (λ x. depth_by s.expressions (shape x)) (λ x. depth_by (set s.expressions s.sealed_count (new_expression s)) (shape x)) no_operation s.operations s.operations a n within within
        (λ i l. sym (depth_old s.expressions s.sealed_count (new_expression s) v k c missing (shape (op_at s (a + i))) lk (order i l)))

    weight_same : weight_of s.expressions (slice s.operations a n) ≡ weight_of (set s.expressions s.sealed_count (new_expression s)) (slice s.operations a n)
    weight_same = slice_same ◌+◌ (λ x. weight_by s.expressions (shape x)) (λ x. weight_by (set s.expressions s.sealed_count (new_expression s)) (shape x)) no_operation s.operations s.operations a n within within
        (λ i l. sym (weight_old s.expressions s.sealed_count (new_expression s) v k c missing (shape (op_at s (a + i))) lk (order i l)))

  sealed-within : (k : ℕ) → k < s.sealed_count → (expression_at s k).start + (expression_at s k).count ≤ length s.operations
  sealed-within k l = let e = w.whole.ends k l in let c = w.whole.counted in omega arith

  draft-within : s.start + (s.op_count - s.start) ≤ length s.operations
  draft-within = let c = w.whole.counted in omega arith

  draft_order : (i : ℕ) → i < s.op_count - s.start → in_order s.byte_count true s.sealed_count (s.op_count - s.start) (shape (op_at s (s.start + i))) ≡ true
  draft_order i l = w.whole.drafted (s.start + i) (omega arith) (omega arith)

  deep : Deep (shut s)
  deep = every (λ k e. e.depth ≡ depth_of (set s.expressions s.sealed_count (new_expression s)) (slice s.operations e.start e.count))
      (λ k l. w.whole.deep k l ∙ depth_same k (expression_at s k).start (expression_at s k).count s.byte_start (expression_at s k).count false (omega arith) (sealed-within k l) (λ i h. w.whole.closed k i l h))
      (depth_same s.sealed_count s.start (s.op_count - s.start) s.byte_count (s.op_count - s.start) true (omega arith) draft-within draft_order)

  weighed : Weighed (shut s)
  weighed = every (λ k e. e.weight ≡ weight_of (set s.expressions s.sealed_count (new_expression s)) (slice s.operations e.start e.count))
      (λ k l. w.whole.weighed k l ∙ weight_same k (expression_at s k).start (expression_at s k).count s.byte_start (expression_at s k).count false (omega arith) (sealed-within k l) (λ i h. w.whole.closed k i l h))
      (weight_same s.sealed_count s.start (s.op_count - s.start) s.byte_count (s.op_count - s.start) true (omega arith) draft-within draft_order)

  empty : draft (shut s) ≡ []
  empty = slice_none s.operations s.op_count (s.op_count - s.op_count) (omega arith)

  pub keep-shut : Kept (shut s)
  keep-shut =
      let c = w.whole.counted in let r = room in
      let a = ap (depth_of (shut s).expressions) empty in
      let b = ap data_of empty in
      let d = ap (weight_of (shut s).expressions) empty in
      let t = roots_push s.expressions s.sealed_count (new_expression s) (omega arith) in
      record {
        whole = record {
          counted = counted;
          ends = ends;
          closed = closed;
          drafted = λ p l h. absurd (omega arith);
          named = w.whole.named;
          flagged = flagged;
          used = used;
          once = w.whole.once;
          deep = deep;
          weighed = weighed;
          low = omega arith;
          held = omega arith;
          total = omega (arith, w.whole.total);
        };
        ordered = ordered;
      }
