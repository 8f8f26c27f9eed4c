-- An operation and its data are added to a draft.
use Rattle.std.proofs.Common.{◌≡◌, ℕ, ◌+◌, ◌-◌, ◌<◌, ◌≤◌, min, true, false, List, [], ◌∷◌, ◌++◌, length, set, sym, ap, ◌∙◌, subst, ⊎_elim, arith, length-append, length-drop, length-set, length-take}
use mathlib.Core.Logic.{∥∥₁_map}
use Rattle.std.proofs.lemmas.List.{get_or-set_same, get_or-set_other}
use Rattle.std.proofs.lemmas.Bool.{cases_eq}
use Rattle.op.specs.declared.operation.Operation.{Operation}
use Rattle.book_state.specs.declared.shape.Shape.TheVariants.{Nesting}
use Rattle.book_state.specs.Operations.{shape, entries_fit}
use Rattle.book_state.specs.State.{State, op_at, expression_at, no_operation, slice, draft, depth_by, depth_of, data_by, data_of, weight_by, weight_of}
use Rattle.book_state.specs.Calls.{overwritten, pushed}
use Rattle.book_state.specs.Whole.{Counted, in_order, Bare, Closed, Drafted, Named, Flagged, Once}
use Rattle.book_state.proofs.Kept.{Kept}
use Rattle.book_state.proofs.Slices.{slice_behind, slice_push, sum_push, max_push}
use Rattle.book_state.proofs.Shapes.{order_more, bare_order, bare_flat, bare_data, bare_depth, bare_nested}

pub length-overwritten : (xs : List ℕ) (at : ℕ) (ys : List ℕ) → at + length ys ≤ length xs → length (overwritten xs at ys) ≡ length xs
length-overwritten xs at ys l = simp (length-append, length-take, length-drop) (omega arith)

module _ (x : Operation) (bs : List ℕ) (s : State) (o : s.drafting ≡ true) (fits : s.op_count < min (length s.operations) 4096)
    (room : length bs ≤ min (length s.bytes) 65535 - s.byte_count) (w : Kept s) where
  pub last : op_at (pushed x bs s) s.op_count ≡ x
  last = get_or-set_same s.operations s.op_count x no_operation (omega arith)

  pub before : (p : ℕ) → p < s.op_count → op_at (pushed x bs s) p ≡ op_at s p
  before p l = get_or-set_other s.operations s.op_count p x no_operation (omega arith)

  pub pushed_bytes : length (pushed x bs s).bytes ≡ length s.bytes
  pushed_bytes = let c = w.whole.counted.bytes_within in length-overwritten s.bytes s.byte_count bs (omega arith)

  pub pushed-counted : Counted (pushed x bs s)
  pushed-counted = let c = w.whole.counted in let n = pushed_bytes in record {
    ops_within = simp length-set (omega arith);
    bytes_within = omega (arith, c.bytes_within);
    since = omega arith;
    bytes_since = omega arith;
    sealed_within = c.sealed_within;
    table = c.table;
    room = c.room;
    idle = λ e. absurd (cc);
    light = c.light;
    shallow = c.shallow;
  }

  pub pushed-closed : Closed (pushed x bs s)
  pushed-closed k i hk hi =
      let e = w.whole.ends k hk in let c = w.whole.counted.since in
      subst (λ (y : Operation). in_order s.byte_start false k (expression_at s k).count (shape y) ≡ true) (sym (before ((expression_at s k).start + i) (omega arith))) (w.whole.closed k i hk hi)

  pub pushed_drafted : in_order (s.byte_count + length bs) true s.sealed_count (s.op_count + 1 - s.start) (shape x) ≡ true → Drafted (pushed x bs s)
  pushed_drafted fine p l h = ⊎_elim
      (λ e. subst (λ (y : Operation). in_order (s.byte_count + length bs) true s.sealed_count (s.op_count + 1 - s.start) (shape y) ≡ true) (sym (ap (op_at (pushed x bs s)) e ∙ last)) fine)
      (λ ne. let lt : p < s.op_count = omega arith in
      subst (λ (y : Operation). in_order (s.byte_count + length bs) true s.sealed_count (s.op_count + 1 - s.start) (shape y) ≡ true) (sym (before p lt))
      (order_more s.byte_count (s.byte_count + length bs) s.sealed_count (s.op_count - s.start) (s.op_count + 1 - s.start) true (omega arith) (omega arith) (shape (op_at s p)) (w.whole.drafted p l lt)))
      (cases_eq p s.op_count)

  pub pushed-named : entries_fit x ≡ true → Named (pushed x bs s)
  pushed-named fine p h = ⊎_elim
      (λ e. ap entries_fit (ap (op_at (pushed x bs s)) e ∙ last) ∙ fine)
      (λ ne. let lt : p < s.op_count = omega arith in ap entries_fit (before p lt) ∙ w.whole.named p lt)
      (cases_eq p s.op_count)

  pub pushed_used : (m : ℕ) → (expression_at s m).nested ≡ true → ∥ ((p : ℕ) × (p < s.op_count + 1) × (shape (op_at (pushed x bs s) p) ≡ Nesting m)) ∥₁
  pushed_used m h = ∥∥₁_map (w.whole.used m h) (λ q. let l = q.1 in (q.0, omega arith, ap shape (before q.0 l) ∙ q.2))

  -- the draft, one operation longer
  pub draft-pushed : draft (pushed x bs s) ≡ draft s ++ x ∷ []
  draft-pushed = let c = w.whole.counted.since in slice_push s.operations s.start s.op_count x c (omega arith)

  -- sealed expressions have the operations that they had
  pub sealed-pushed : (k : ℕ) → k < s.sealed_count → slice (set s.operations s.op_count x) (expression_at s k).start (expression_at s k).count ≡ slice s.operations (expression_at s k).start (expression_at s k).count
  sealed-pushed k l = let e = w.whole.ends k l in let c = w.whole.counted.since in slice_behind s.operations (expression_at s k).start (expression_at s k).count s.op_count x (omega arith)

module _ (x : Operation) (bs : List ℕ) (s : State) (o : s.drafting ≡ true) (fits : s.op_count < min (length s.operations) 4096)
    (room : length bs ≤ min (length s.bytes) 65535 - s.byte_count) (names : entries_fit x ≡ true) (bare : Bare bs s (shape x)) (w : Kept s) where
  few : length bs ≤ 65535
  few = omega arith

  flagged : Flagged (pushed x bs s)
  flagged p m h e = ⊎_elim
      (λ q. absurd (bare_flat bs s few (shape x) bare m (ap shape (sym (ap (op_at (pushed x bs s)) q ∙ last x bs s o fits room w)) ∙ e)))
      (λ ne. let lt : p < s.op_count = omega arith in w.whole.flagged p m lt (ap shape (sym (before x bs s o fits room w p lt)) ∙ e))
      (cases_eq p s.op_count)

  once : Once (pushed x bs s)
  once p q m l h e f = ⊎_elim
      (λ g. bare_flat bs s few (shape x) bare m (ap shape (sym (ap (op_at (pushed x bs s)) g ∙ last x bs s o fits room w)) ∙ f))
      (λ ne. let lt : q < s.op_count = omega arith in let lp : p < s.op_count = omega arith in
      w.whole.once p q m l lt (ap shape (sym (before x bs s o fits room w p lp)) ∙ e) (ap shape (sym (before x bs s o fits room w q lt)) ∙ f))
      (cases_eq q s.op_count)

  low : depth_of s.expressions (draft (pushed x bs s)) ≤ 16
  low =
      let a = ap (depth_of s.expressions) (draft-pushed x bs s o fits room w) in
      let b = max_push (λ y. depth_by s.expressions (shape y)) (draft s) x in
      omega (arith, w.whole.low, bare_depth bs s few s.expressions (shape x) bare)

  held : s.byte_start + data_of (draft (pushed x bs s)) ≡ s.byte_count + length bs
  held =
      let a = ap data_of (draft-pushed x bs s o fits room w) in
      let b = sum_push (λ y. data_by (shape y)) (draft s) x in
      omega (arith, w.whole.held, bare_data bs s few (shape x) bare)

  weight : weight_of s.expressions (draft (pushed x bs s)) ≡ weight_of s.expressions (draft s) + 266 + length bs
  weight =
      let a = ap (weight_of s.expressions) (draft-pushed x bs s o fits room w) in
      let b = sum_push (λ y. weight_by s.expressions (shape y)) (draft s) x in
      omega (arith, bare_data bs s few (shape x) bare, bare_nested bs s few s.expressions (shape x) bare)

  pub keep-pushed : Kept (pushed x bs s)
  keep-pushed = record {
    whole = record {
      counted = pushed-counted x bs s o fits room w;
      ends = w.whole.ends;
      closed = pushed-closed x bs s o fits room w;
      drafted = pushed_drafted x bs s o fits room w (bare_order bs s few (shape x) bare s.sealed_count (s.op_count + 1 - s.start));
      named = pushed-named x bs s o fits room w names;
      flagged = flagged;
      used = pushed_used x bs s o fits room w;
      once = once;
      deep = λ k l. w.whole.deep k l ∙ sym (ap (depth_of s.expressions) (sealed-pushed x bs s o fits room w k l));
      weighed = λ k l. w.whole.weighed k l ∙ sym (ap (weight_of s.expressions) (sealed-pushed x bs s o fits room w k l));
      low = low;
      held = held;
      total = omega (arith, weight, w.whole.total);
    };
    ordered = w.ordered;
  }
