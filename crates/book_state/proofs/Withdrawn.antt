-- A draft is discarded.
use Rattle.std.proofs.Common.{◌≡◌, ℕ, ◌+◌, ◌-◌, ◌*◌, ◌<◌, ◌≤◌, max, true, false, List, [], length, get_or, take, sym, refl, ap, ◌∙◌, subst, ⊎_elim, arith}
use mathlib.Core.Logic.{∥∥₁_map}
use Rattle.std.proofs.lemmas.Bool.{cases_lt, cases_Bool}
use Rattle.op.specs.declared.operation.Operation.{Operation}
use Rattle.book_state.specs.declared.expression.Expression.{Expression}
use Rattle.book_state.specs.declared.shape.Shape.TheVariants.{Nesting}
use Rattle.book_state.specs.Operations.{shape}
use Rattle.book_state.specs.State.{State, op_at, expression_of, expression_at, no_operation, slice, draft, depth_by, depth_of, data_of, weight_by, weight_of}
use Rattle.book_state.specs.Calls.{unmarked, freed, withdrawn}
use Rattle.book_state.specs.Whole.{Counted, in_order, roots, Used}
use Rattle.book_state.proofs.Kept.{Kept}
use Rattle.book_state.proofs.Slices.{length-slice, slice_at, slice_none, gathered_ext}
use Rattle.book_state.proofs.Shapes.{depth_kept, weight_kept}
use Rattle.book_state.proofs.Roots.{kept_freed, length-freed, other_freed, stays_all, freed_all, roots-freed, weight_parts}

module _ (s : State) (w : Kept s) where
  kept : (k : ℕ) → unmarked (expression_of (freed (draft s) s.expressions) k) ≡ unmarked (expression_at s k)
  kept = kept_freed (draft s) s.expressions

  long : length (draft s) ≡ s.op_count - s.start
  long = let c = w.whole.counted in length-slice s.operations s.start (s.op_count - s.start) (omega arith)

  in_draft : (i : ℕ) → i < length (draft s) → get_or (draft s) i no_operation ≡ op_at s (s.start + i)
  in_draft i l = let n = long in slice_at s.operations s.start (s.op_count - s.start) i no_operation (omega arith)

  keep_flag : (p m : ℕ) → p < s.start → shape (op_at s p) ≡ Nesting m → expression_at (withdrawn s) m ≡ expression_at s m
  keep_flag p m l e = let c = w.whole.counted in let n = long in
      other_freed (draft s) s.expressions m (λ i li f. w.whole.once p (s.start + i) m (omega arith) (omega arith) e (ap shape (sym (in_draft i li)) ∙ f))

  -- what is still marked was marked, and no operation of the draft nests it
  was_marked : (m : ℕ) → (expression_at (withdrawn s) m).nested ≡ true → (expression_at s m).nested ≡ true
  was_marked m h = ⊎_elim (λ e. e)
      (λ e. let f : (expression_at (withdrawn s) m).nested ≡ false = stays_all (draft s) s.expressions m e in absurd (cc))
      (cases_Bool (expression_at s m).nested)

  used : Used (withdrawn s)
  used m h = ∥∥₁_map (w.whole.used m (was_marked m h)) (λ q. let c = w.whole.counted in let n = long in let l = q.1 in
      let g = (w.whole.flagged q.0 m l q.2).0 in
      ⊎_elim
      (λ lt. (q.0, lt, q.2))
      (λ ge. let i : s.start + (q.0 - s.start) ≡ q.0 = omega arith in
      let li : q.0 - s.start < length (draft s) = omega arith in
      let f : (expression_at (withdrawn s) m).nested ≡ false =
      freed_all (draft s) s.expressions m (q.0 - s.start) (omega arith) li (ap shape (in_draft (q.0 - s.start) li ∙ ap (op_at s) i) ∙ q.2) in
      absurd (cc))
      (cases_lt q.0 s.start))

  freed-roots : roots (take s.sealed_count (freed (draft s) s.expressions)) ≡ 266 * s.start + s.byte_start
  freed-roots = let c = w.whole.counted in let n = long in
      let r = roots-freed (draft s) s.expressions s.sealed_count (omega arith)
      (λ i m l e. w.whole.flagged (s.start + i) m (omega arith) (ap shape (sym (in_draft i l)) ∙ e))
      (λ i j m l h e f. w.whole.once (s.start + i) (s.start + j) m (omega arith) (omega arith) (ap shape (sym (in_draft i (omega arith))) ∙ e) (ap shape (sym (in_draft j h)) ∙ f)) in
      omega (arith, w.whole.total, w.whole.held, weight_parts s.expressions (draft s))

  empty : draft (withdrawn s) ≡ []
  empty = slice_none s.operations s.start (s.start - s.start) (omega arith)

  depth_same : (xs : List Operation) → depth_of (freed (draft s) s.expressions) xs ≡ depth_of s.expressions xs
  depth_same = gathered_ext max (λ y. depth_by (freed (draft s) s.expressions) (shape y)) (λ y. depth_by s.expressions (shape y))
      (λ y. depth_kept s.expressions (freed (draft s) s.expressions) kept (shape y))

  weight_same : (xs : List Operation) → weight_of (freed (draft s) s.expressions) xs ≡ weight_of s.expressions xs
  weight_same = gathered_ext ◌+◌ (λ y. weight_by (freed (draft s) s.expressions) (shape y)) (λ y. weight_by s.expressions (shape y))
      (λ y. weight_kept s.expressions (freed (draft s) s.expressions) kept (shape y))

  counted : Counted (withdrawn s)
  counted = let c = w.whole.counted in record {
    ops_within = omega arith;
    bytes_within = omega (arith, c.bytes_within);
    since = omega arith;
    bytes_since = omega arith;
    sealed_within = c.sealed_within;
    table = length-freed (draft s) s.expressions ∙ c.table;
    room = λ e. absurd (cc);
    idle = λ e. (refl, refl);
    light = λ k. subst (λ (e : Expression). e.weight ≤ 1155071) (sym (kept k)) (c.light k);
    shallow = λ k. subst (λ (e : Expression). e.depth ≤ 16) (sym (kept k)) (c.shallow k);
  }

  pub keep-withdrawn : Kept (withdrawn s)
  keep-withdrawn =
      let c = w.whole.counted in
      let a = ap (depth_of (withdrawn s).expressions) empty in
      let b = ap data_of empty in
      let d = ap (weight_of (withdrawn s).expressions) empty in
      record {
        whole = record {
          counted = counted;
          ends = λ k l. subst (λ (e : Expression). e.start + e.count ≤ s.start) (sym (kept k)) (w.whole.ends k l);
          closed = λ k i l. subst (λ (e : Expression). i < e.count → in_order s.byte_start false k e.count (shape (op_at s (e.start + i))) ≡ true) (sym (kept k)) (λ h. w.whole.closed k i l h);
          drafted = λ p l h. absurd (omega arith);
          named = λ p l. w.whole.named p (omega arith);
          flagged = λ p m l e. let f = w.whole.flagged p m (omega arith) e in (f.0, ap (λ (x : Expression). x.nested) (keep_flag p m l e) ∙ f.1);
          used = used;
          once = λ p q m l h e f. w.whole.once p q m l (omega arith) e f;
          deep = λ k l. subst (λ (e : Expression). e.depth ≡ depth_of (freed (draft s) s.expressions) (slice s.operations e.start e.count)) (sym (kept k))
              (w.whole.deep k l ∙ sym (depth_same (slice s.operations (expression_at s k).start (expression_at s k).count)));
          weighed = λ k l. subst (λ (e : Expression). e.weight ≡ weight_of (freed (draft s) s.expressions) (slice s.operations e.start e.count)) (sym (kept k))
              (w.whole.weighed k l ∙ sym (weight_same (slice s.operations (expression_at s k).start (expression_at s k).count)));
          low = omega arith;
          held = omega arith;
          total = omega (arith, freed-roots);
        };
        ordered = λ j k l h. subst (λ (e : Expression). e.start + e.count ≤ (expression_at (withdrawn s) k).start) (sym (kept j)) (subst (λ (e : Expression). (expression_at s j).start + (expression_at s j).count ≤ e.start) (sym (kept k)) (w.ordered j k l h));
      }
