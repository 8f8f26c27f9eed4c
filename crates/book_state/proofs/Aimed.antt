-- A branch of the draft gets its target.
use Rattle.std.proofs.Common.{◌≡◌, ℕ, ◌+◌, ◌-◌, ◌<◌, ◌≤◌, max, true, false, Some, None, sym, refl, ap, ◌∙◌, subst, ⊎_elim, arith, length-set}
use mathlib.Core.Logic.{∥∥₁_map}
use Rattle.std.proofs.lemmas.List.{get_or-set_same, get_or-set_other}
use Rattle.std.proofs.lemmas.Bool.{cases_eq, le-leb}
use Rattle.op.specs.declared.operation.Operation.{Operation}
use Rattle.book_state.specs.declared.shape.Shape.{Shape}
use Rattle.book_state.specs.declared.shape.Shape.TheVariants.{Branching, Nesting}
use Rattle.book_state.specs.Operations.{shape, entries_fit, aimed_at, unset}
use Rattle.book_state.specs.State.{State, op_at, expression_at, no_operation, slice, draft, gathered, depth_by, depth_of, data_by, weight_by, weight_of}
use Rattle.book_state.specs.Calls.{aimed}
use Rattle.book_state.specs.Whole.{in_order, Closed, Drafted, Named, Flagged, Used, Once}
use Rattle.book_state.proofs.Kept.{Kept}
use Rattle.book_state.proofs.Slices.{slice_behind, slice_same}
use Rattle.book_state.proofs.Shapes.{unset_is, aimed-shape, aimed-named}

module _ (b t : ℕ) (s : State) (lb : b < s.op_count - s.start) (u : unset (shape (op_at s (s.start + b))) ≡ true) (lt : t ≤ s.op_count - s.start) (w : Kept s) where
  here : shape (op_at (aimed b t s) (s.start + b)) ≡ Branching (Some t)
  here = let c = w.whole.counted in
      ap shape (get_or-set_same s.operations (s.start + b) (aimed_at t (op_at s (s.start + b))) no_operation (omega arith)) ∙ aimed-shape t (op_at s (s.start + b)) u

  there : (p : ℕ) → (p ≡ s.start + b → ⊥) → op_at (aimed b t s) p ≡ op_at s p
  there p ne = get_or-set_other s.operations (s.start + b) p (aimed_at t (op_at s (s.start + b))) no_operation ne

  not_nested : (p m : ℕ) → p ≡ s.start + b → shape (op_at (aimed b t s) p) ≡ Nesting m → ⊥
  not_nested p m q e =
      let k : Branching (Some t) ≡ Nesting m = sym here ∙ (sym (ap (λ j. shape (op_at (aimed b t s) j)) q) ∙ e) in cc

  closed : Closed (aimed b t s)
  closed k i hk hi =
      let e = w.whole.ends k hk in
      subst (λ (x : Operation). in_order s.byte_start false k (expression_at s k).count (shape x) ≡ true) (sym (there ((expression_at s k).start + i) (λ q. omega arith))) (w.whole.closed k i hk hi)

  drafted : Drafted (aimed b t s)
  drafted p l h = ⊎_elim
      (λ e. subst (λ (z : Shape). in_order s.byte_count true s.sealed_count (s.op_count - s.start) z ≡ true) (sym (ap (λ j. shape (op_at (aimed b t s) j)) e ∙ here)) (le-leb t (s.op_count - s.start) lt))
      (λ ne. subst (λ (x : Operation). in_order s.byte_count true s.sealed_count (s.op_count - s.start) (shape x) ≡ true) (sym (there p ne)) (w.whole.drafted p l h))
      (cases_eq p (s.start + b))

  named : Named (aimed b t s)
  named p h = ⊎_elim
      (λ e. let c = w.whole.counted in let lp : s.start + b < s.op_count = omega arith in
      ap entries_fit (ap (op_at (aimed b t s)) e ∙ get_or-set_same s.operations (s.start + b) (aimed_at t (op_at s (s.start + b))) no_operation (omega arith))
      ∙ (aimed-named t (op_at s (s.start + b)) ∙ w.whole.named (s.start + b) lp))
      (λ ne. ap entries_fit (there p ne) ∙ w.whole.named p h)
      (cases_eq p (s.start + b))

  flagged : Flagged (aimed b t s)
  flagged p m h e = ⊎_elim (λ q. absurd (not_nested p m q e)) (λ ne. w.whole.flagged p m h (ap shape (sym (there p ne)) ∙ e)) (cases_eq p (s.start + b))

  used : Used (aimed b t s)
  used m h = ∥∥₁_map (w.whole.used m h) (λ q.
      let other : q.0 ≡ s.start + b → ⊥ = λ e.
      let k : Branching None ≡ Nesting m = sym (unset_is (shape (op_at s (s.start + b))) u) ∙ (sym (ap (λ j. shape (op_at s j)) e) ∙ q.2) in cc in
      (q.0, q.1, ap shape (there q.0 other) ∙ q.2))

  once : Once (aimed b t s)
  once p q m l h e f = ⊎_elim (λ g. not_nested p m g e)
      (λ np. ⊎_elim (λ g. not_nested q m g f) (λ nq. w.whole.once p q m l h (ap shape (sym (there p np)) ∙ e) (ap shape (sym (there q nq)) ∙ f)) (cases_eq q (s.start + b)))
      (cases_eq p (s.start + b))

  -- what does not depend on targets is gathered as before
  gathered-aimed : (join : ℕ → ℕ → ℕ) (f : Shape → ℕ) → f (Branching (Some t)) ≡ f (Branching None) →
      gathered join (λ x. f (shape x)) (draft (aimed b t s)) ≡ gathered join (λ x. f (shape x)) (draft s)
  gathered-aimed join f e = let c = w.whole.counted in
      slice_same join (λ x. f (shape x)) (λ x. f (shape x)) no_operation (aimed b t s).operations s.operations s.start (s.op_count - s.start)
      (simp length-set (omega arith)) (omega arith)
      (λ i l. ⊎_elim
      (λ q. ap f (ap (λ j. shape (op_at (aimed b t s) j)) q ∙ here) ∙ (e ∙ sym (ap f (ap (λ j. shape (op_at s j)) q ∙ unset_is (shape (op_at s (s.start + b))) u))))
      (λ ne. ap (λ x. f (shape x)) (there (s.start + i) ne))
      (cases_eq (s.start + i) (s.start + b)))

  sealed-aimed : (k : ℕ) → k < s.sealed_count → slice (aimed b t s).operations (expression_at s k).start (expression_at s k).count ≡ slice s.operations (expression_at s k).start (expression_at s k).count
  sealed-aimed k l = let e = w.whole.ends k l in slice_behind s.operations (expression_at s k).start (expression_at s k).count (s.start + b) (aimed_at t (op_at s (s.start + b))) (omega arith)

  pub keep-aimed : Kept (aimed b t s)
  keep-aimed =
      let c = w.whole.counted in
      let d = gathered-aimed max (depth_by s.expressions) refl in
      let g = gathered-aimed ◌+◌ data_by refl in
      let v = gathered-aimed ◌+◌ (weight_by s.expressions) refl in
      record {
        whole = record {
          counted = record {
            ops_within = simp length-set c.ops_within;
            bytes_within = c.bytes_within;
            since = c.since;
            bytes_since = c.bytes_since;
            sealed_within = c.sealed_within;
            table = c.table;
            room = c.room;
            idle = c.idle;
            light = c.light;
            shallow = c.shallow;
          };
          ends = w.whole.ends;
          closed = closed;
          drafted = drafted;
          named = named;
          flagged = flagged;
          used = used;
          once = once;
          deep = λ k l. w.whole.deep k l ∙ sym (ap (depth_of s.expressions) (sealed-aimed k l));
          weighed = λ k l. w.whole.weighed k l ∙ sym (ap (weight_of s.expressions) (sealed-aimed k l));
          low = omega (arith, w.whole.low);
          held = omega (arith, w.whole.held);
          total = omega (arith, w.whole.total);
        };
        ordered = w.ordered;
      }
