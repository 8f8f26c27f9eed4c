-- An entry value of a sealed expression is added to a draft.
use Rattle.std.proofs.Common.{◌≡◌, ℕ, ◌+◌, ◌-◌, ◌*◌, ◌<◌, ◌≤◌, min, max, true, false, List, [], length, take, set, sym, refl, ap, ◌∙◌, subst, ⊎_elim, arith, length-set}
use Rattle.std.proofs.lemmas.List.{get_or-set_same, get_or-set_other}
use Rattle.std.proofs.lemmas.Bool.{cases_eq, lt-ltb}
use Rattle.op.specs.declared.operation.Operation.{Operation}
use Rattle.op.specs.declared.operation.Operation.TheVariants as op
use Rattle.book_state.specs.declared.expression.Expression.{Expression}
use Rattle.book_state.specs.declared.shape.Shape.TheVariants.{Nesting}
use Rattle.book_state.specs.Operations.{shape}
use Rattle.book_state.specs.State.{State, op_at, expression_of, expression_at, no_expression, slice, draft, depth_by, depth_of, data_by, data_of, weight_by, weight_of}
use Rattle.book_state.specs.Calls.{pushed, marked, unmarked, taken}
use Rattle.book_state.specs.Whole.{Counted, in_order, roots, Closed, Flagged, Used, Once}
use Rattle.book_state.proofs.Kept.{Kept}
use Rattle.book_state.proofs.Slices.{gathered_ext, sum_push, max_push}
use Rattle.book_state.proofs.Shapes.{depth_kept, weight_kept}
use Rattle.book_state.proofs.Pushed.{last, before, pushed-counted, pushed-closed, pushed_drafted, pushed-named, pushed_used, draft-pushed, sealed-pushed}
use Rattle.book_state.proofs.Roots.{roots_mark, kept_mark}

module _ (n : ℕ) (s : State) (o : s.drafting ≡ true) (ln : n < s.sealed_count) (free : (expression_at s n).nested ≡ false) (deep : (expression_at s n).depth < 16)
    (fits : s.op_count < min (length s.operations) 4096) (w : Kept s) where
  none : 0 ≤ min (length s.bytes) 65535 - s.byte_count
  none = omega arith

  here : n < length s.expressions
  here = let c = w.whole.counted in omega arith

  kept : (k : ℕ) → unmarked (expression_of (set s.expressions n (marked (expression_at s n))) k) ≡ unmarked (expression_at s k)
  kept = kept_mark s.expressions n here

  counted : Counted (taken n (expression_at s n) s)
  counted = let c = pushed-counted (op.EntryValue n) [] s o fits none w in record {
    ops_within = c.ops_within;
    bytes_within = c.bytes_within;
    since = c.since;
    bytes_since = c.bytes_since;
    sealed_within = c.sealed_within;
    table = simp length-set c.table;
    room = c.room;
    idle = c.idle;
    light = λ k. subst (λ (e : Expression). e.weight ≤ 1155071) (sym (kept k)) (c.light k);
    shallow = λ k. subst (λ (e : Expression). e.depth ≤ 16) (sym (kept k)) (c.shallow k);
  }

  closed : Closed (taken n (expression_at s n) s)
  closed k i l = subst (λ (e : Expression). i < e.count → in_order s.byte_start false k e.count (shape (op_at (pushed (op.EntryValue n) [] s) (e.start + i))) ≡ true) (sym (kept k))
      (λ h. pushed-closed (op.EntryValue n) [] s o fits none w k i l h)

  is_n : (p m : ℕ) → p ≡ s.op_count → shape (op_at (pushed (op.EntryValue n) [] s) p) ≡ Nesting m → n ≡ m
  is_n p m q e =
      let k : Nesting n ≡ Nesting m = ap shape (sym (ap (op_at (pushed (op.EntryValue n) [] s)) q ∙ last (op.EntryValue n) [] s o fits none w)) ∙ e in cc

  mark : (expression_at (taken n (expression_at s n) s) n).nested ≡ true
  mark = ap (λ (e : Expression). e.nested) (get_or-set_same s.expressions n (marked (expression_at s n)) no_expression here)

  flag : (m : ℕ) → (expression_at s m).nested ≡ true → (expression_at (taken n (expression_at s n) s) m).nested ≡ true
  flag m h = ⊎_elim
      (λ e. ap (λ j. (expression_at (taken n (expression_at s n) s) j).nested) e ∙ mark)
      (λ ne. ap (λ (e : Expression). e.nested) (get_or-set_other s.expressions n m (marked (expression_at s n)) no_expression ne) ∙ h)
      (cases_eq m n)

  flagged : Flagged (taken n (expression_at s n) s)
  flagged p m h e = ⊎_elim
      (λ q. let i = is_n p m q e in (omega arith, ap (λ j. (expression_at (taken n (expression_at s n) s) j).nested) (sym i) ∙ mark))
      (λ ne. let lt : p < s.op_count = omega arith in let f = w.whole.flagged p m lt (ap shape (sym (before (op.EntryValue n) [] s o fits none w p lt)) ∙ e) in (f.0, flag m f.1))
      (cases_eq p s.op_count)

  used : Used (taken n (expression_at s n) s)
  used m h = ⊎_elim
      (λ e. ∣ (s.op_count, omega arith, ap shape (last (op.EntryValue n) [] s o fits none w) ∙ ap Nesting (sym e)) ∣₁)
      (λ ne. pushed_used (op.EntryValue n) [] s o fits none w m (ap (λ (e : Expression). e.nested) (sym (get_or-set_other s.expressions n m (marked (expression_at s n)) no_expression ne)) ∙ h))
      (cases_eq m n)

  unused : (p : ℕ) → p < s.op_count → shape (op_at s p) ≡ Nesting n → ⊥
  unused p l e = let f = (w.whole.flagged p n l e).1 in cc

  once : Once (taken n (expression_at s n) s)
  once p q m l h e f = ⊎_elim
      (λ g. let i = is_n q m g f in let lp : p < s.op_count = omega arith in
      unused p lp (ap shape (sym (before (op.EntryValue n) [] s o fits none w p lp)) ∙ (e ∙ ap Nesting (sym i))))
      (λ ne. let lq : q < s.op_count = omega arith in let lp : p < s.op_count = omega arith in
      w.whole.once p q m l lq (ap shape (sym (before (op.EntryValue n) [] s o fits none w p lp)) ∙ e) (ap shape (sym (before (op.EntryValue n) [] s o fits none w q lq)) ∙ f))
      (cases_eq q s.op_count)

  depth_same : (xs : List Operation) → depth_of (set s.expressions n (marked (expression_at s n))) xs ≡ depth_of s.expressions xs
  depth_same = gathered_ext max (λ y. depth_by (set s.expressions n (marked (expression_at s n))) (shape y)) (λ y. depth_by s.expressions (shape y))
      (λ y. depth_kept s.expressions (set s.expressions n (marked (expression_at s n))) kept (shape y))

  weight_same : (xs : List Operation) → weight_of (set s.expressions n (marked (expression_at s n))) xs ≡ weight_of s.expressions xs
  weight_same = gathered_ext ◌+◌ (λ y. weight_by (set s.expressions n (marked (expression_at s n))) (shape y)) (λ y. weight_by s.expressions (shape y))
      (λ y. weight_kept s.expressions (set s.expressions n (marked (expression_at s n))) kept (shape y))

  low : depth_of (set s.expressions n (marked (expression_at s n))) (draft (pushed (op.EntryValue n) [] s)) ≤ 16
  low =
      let a = ap (depth_of s.expressions) (draft-pushed (op.EntryValue n) [] s o fits none w) in
      let b = max_push (λ y. depth_by s.expressions (shape y)) (draft s) (op.EntryValue n) in
      omega (arith, w.whole.low, depth_same (draft (pushed (op.EntryValue n) [] s)))

  held : s.byte_start + data_of (draft (pushed (op.EntryValue n) [] s)) ≡ s.byte_count + 0
  held =
      let a = ap data_of (draft-pushed (op.EntryValue n) [] s o fits none w) in
      let b = sum_push (λ y. data_by (shape y)) (draft s) (op.EntryValue n) in
      omega (arith, w.whole.held)

  total : roots (take s.sealed_count (set s.expressions n (marked (expression_at s n)))) + weight_of (set s.expressions n (marked (expression_at s n))) (draft (pushed (op.EntryValue n) [] s))
      ≡ 266 * (s.op_count + 1) + (s.byte_count + 0)
  total =
      let c = w.whole.counted in
      let a = ap (weight_of s.expressions) (draft-pushed (op.EntryValue n) [] s o fits none w) in
      let b = sum_push (λ y. weight_by s.expressions (shape y)) (draft s) (op.EntryValue n) in
      let r = roots_mark s.expressions s.sealed_count n ln (omega arith) free in
      omega (arith, w.whole.total, weight_same (draft (pushed (op.EntryValue n) [] s)))

  pub keep_taken : Kept (taken n (expression_at s n) s)
  keep_taken = record {
    whole = record {
      counted = counted;
      ends = λ k l. subst (λ (e : Expression). e.start + e.count ≤ s.start) (sym (kept k)) (w.whole.ends k l);
      closed = closed;
      drafted = pushed_drafted (op.EntryValue n) [] s o fits none w (lt-ltb n s.sealed_count ln);
      named = pushed-named (op.EntryValue n) [] s o fits none w refl;
      flagged = flagged;
      used = used;
      once = once;
      deep = λ k l. subst (λ (e : Expression). e.depth ≡ depth_of (set s.expressions n (marked (expression_at s n))) (slice (set s.operations s.op_count (op.EntryValue n)) e.start e.count)) (sym (kept k))
          (w.whole.deep k l ∙ (sym (ap (depth_of s.expressions) (sealed-pushed (op.EntryValue n) [] s o fits none w k l)) ∙ sym (depth_same (slice (set s.operations s.op_count (op.EntryValue n)) (expression_at s k).start (expression_at s k).count))));
      weighed = λ k l. subst (λ (e : Expression). e.weight ≡ weight_of (set s.expressions n (marked (expression_at s n))) (slice (set s.operations s.op_count (op.EntryValue n)) e.start e.count)) (sym (kept k))
          (w.whole.weighed k l ∙ (sym (ap (weight_of s.expressions) (sealed-pushed (op.EntryValue n) [] s o fits none w k l)) ∙ sym (weight_same (slice (set s.operations s.op_count (op.EntryValue n)) (expression_at s k).start (expression_at s k).count))));
      low = low;
      held = held;
      total = total;
    };
    ordered = λ j k l h. subst (λ (e : Expression). e.start + e.count ≤ (expression_at (taken n (expression_at s n) s) k).start) (sym (kept j)) (subst (λ (e : Expression). (expression_at s j).start + (expression_at s j).count ≤ e.start) (sym (kept k)) (w.ordered j k l h));
  }
