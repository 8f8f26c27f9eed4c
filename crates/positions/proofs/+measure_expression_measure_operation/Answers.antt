use Rattle.std.proofs.Common.{◌≡◌, ℕ, ◌+◌, ◌<◌, List, length, drop, get_or, set, sym, refl, ap, ◌∙◌, subst, arith, rules}
use borrow.Author.Count.{below_more}
use Rattle.std.proofs.lemmas.List.{drop_all, length-set}
use Rattle.std.proofs.lemmas.Result.{err_from_is_err_and}
use Rattle.book_tables.specs.View.{view}
use Rattle.book_state.specs.Operations.{shape}
use Rattle.book_state.specs.State.{no_operation, op_at, expression_at, operations_of, weight_of, weight_by}
use Rattle.op.specs.declared.operation.Operation.{Operation}
use Rattle.rules.specs.Encode.{starts}
use Rattle.rules.specs.Sizes.{size_tree}
use Rattle.unit.specs.Offsets.{scope_of}
use Rattle.book_tree.specs.Store.{tree_in}
use Rattle.book_tree.proofs.Shapes.{within_4096}
use Rattle.book_tree.proofs.Trees.{items_rows, item_counted, item_at, item_inside, item_depth, item_then}
use Rattle.book_tree.proofs.Sums.{rows_size, plus_start, size_more, size_stop, size_all}
use Rattle.positions.specs.Ends.{EndsAt, FilledBy}
use Rattle.positions.proofs.Starts.{starts_next, next_begins}
use Rattle.positions.proofs.Filling.{keeps_then, written, written_keeps, filled_keeps, filled_is}
use Rattle.positions.proofs.+measure_expression_measure_operation.Goals as goal

pub measure_expression-loop-i-init : goal.measure_expression-loop-i-init
measure_expression-loop-i-init t c =
    let b = view c.args.tables.now in let w = c.requires.whole in let k = c.args.number in
    let e = c.args.context.encoding in let s = scope_of c.args.context.unit_offsets in
    let xs = c.operations-op-items.result.now in let are = c.operations-op-items.ensures.value in
    let n = w.weighed k c.requires.there in
    let m : weight_of b.expressions xs ≡ weight_of b.expressions (operations_of b k) = ap (weight_of b.expressions) are in (
      plus_start (rows_size e s b xs),
      omega arith,
      sym (ap (starts e s 0) (items_rows b w k c.requires.there xs are)),
      λ p h. h,
      λ j l. absurd (omega arith),
      λ j l. absurd (omega arith),
      refl,
      refl,
    )

pub measure_expression-measure_operation-requires : goal.measure_expression-measure_operation-requires
measure_expression-measure_operation-requires t c =
    let b = view c.args.tables.now in let w = c.requires.whole in
    let xs = c.operations-op-items.result.now in let are = c.operations-op-items.ensures.value in
    let d = item_depth b w c.args.number c.requires.there xs are c.loop-i.i c.loop-i-test.true in
    (search rules, (w, (c.requires.ordered, item_inside b w c.args.number c.requires.there xs are c.loop-i.i c.loop-i-test.true)))

pub measure_expression-returns-in_err-size-clause-value : goal.measure_expression-returns-in_err-size-clause-value
measure_expression-returns-in_err-size-clause-value t c =
    let b = view c.args.tables.now in let w = c.requires.whole in let k = c.args.number in
    let e = c.args.context.encoding in let s = scope_of c.args.context.unit_offsets in
    let xs = c.operations-op-items.result.now in let are = c.operations-op-items.ensures.value in let i = c.loop-i.i in
    let p = err_from_is_err_and c.from_residual.result c.from_residual.ensures.1 in
    rw (p.1, p.2)
    (size_stop e s b (drop i xs) c.loop-i.size _ _ _ c.in_err-size.field-0.0 (item_then b w k c.requires.there xs are i c.loop-i-test.true) c.in_err-size.ensures.value c.loop-i.invariant.0
    ∙ sym (ap (size_tree e s) (items_rows b w k c.requires.there xs are)))

pub measure_expression-returns-in_err-size-clause-keeps : goal.measure_expression-returns-in_err-size-clause-keeps
measure_expression-returns-in_err-size-clause-keeps t c =
    keeps_then c.args.context.encoding (scope_of c.args.context.unit_offsets) (view c.args.tables.now) c.args.ends.now.places.now c.loop-i.ends.places.now
    c.measure_operation.new.ends.places.now c.loop-i.invariant.3 c.in_err-size.ensures.keeps

pub measure_expression-loop-i-preserved : goal.measure_expression-loop-i-preserved
measure_expression-loop-i-preserved t c =
    let b = view c.args.tables.now in let w = c.requires.whole in let k = c.args.number in
    let o = c.requires.ordered in let there = c.requires.there in
    let e = c.args.context.encoding in let s = scope_of c.args.context.unit_offsets in
    let xs = c.operations-op-items.result.now in let are = c.operations-op-items.ensures.value in let i = c.loop-i.i in
    let st = (expression_at b k).start in let n = c.in_ok-size.field-0 in let x = c.loop-i.size + n in
    let is : c.expression-start.result.start ≡ st = ap (λ y. y.start) c.expression-start.ensures.value in
    let l = item_counted b w k there xs are i c.loop-i-test.true in
    let at = item_at b w k there xs are i c.loop-i-test.true in
    let m = item_then b w k there xs are i c.loop-i-test.true in
    let h : weight_of b.expressions (drop i xs) ≡ weight_by b.expressions (shape (get_or xs i no_operation)) + weight_of b.expressions (drop (i + 1) xs) = ap (weight_of b.expressions) m in
    let light = c.in_ok-size.ensures.light in
    let heavy = w.counted.light k in
    let within = within_4096 b w k there in
    let inv = c.loop-i.invariant in let inv1 = inv.1 in
    let all = starts e s 0 (tree_in b k) in
    let next = next_begins e s b all i c.loop-i.size n (drop i xs) _ _ m c.in_ok-size.ensures.value inv.2 in
    let T0 = c.loop-i.ends.places.now in let T1 = c.measure_operation.new.ends.places.now in
    let wide : st + i < length T1 = omega (arith, c.measure_operation.new.ends.wide) in
    let T2 : List ℕ = set T1 (st + i) x in
    let k01 = c.in_ok-size.ensures.keeps in
    let k12 = written_keeps e s b o k there T1 i x wide l (sym next) (omega arith) in
    let k02 = keeps_then e s b T0 T1 T2 k01 k12 in
    let here = written e s b o k there T1 i x wide l (sym next) (omega arith) in
    let held = subst (λ (y : Operation). FilledBy e s b T1 y) at c.in_ok-size.ensures.filled in
    rw is (
      size_more e s b (drop i xs) c.loop-i.size _ _ _ n m c.in_ok-size.ensures.value inv.0,
      omega arith,
      starts_next e s b all i c.loop-i.size n (drop i xs) _ _ m c.in_ok-size.ensures.value inv.2,
      keeps_then e s b c.args.ends.now.places.now T0 T2 inv.3 k02,
      below_more (λ j. EndsAt e s b T2 (st + j)) i (λ j h. k02 (st + j) (inv.4 j h)) here,
      below_more (λ j. FilledBy e s b T2 (op_at b (st + j))) i (λ j h v r. filled_keeps e s b T0 T2 v k02 (inv.5 j h v r))
          (λ v r. filled_keeps e s b T1 T2 v k12 (held v r)),
      length-set T1 (st + i) x ∙ (c.in_ok-size.ensures.long ∙ inv.6),
      c.in_ok-size.ensures.lender ∙ inv.7,
    )

pub measure_expression-returns-clause-value : goal.measure_expression-returns-clause-value
measure_expression-returns-clause-value t c =
    let b = view c.args.tables.now in let w = c.requires.whole in
    let e = c.args.context.encoding in let s = scope_of c.args.context.unit_offsets in
    let xs = c.operations-op-items.result.now in let i = c.loop-i.i in
    size_all e s b (drop i xs) c.loop-i.size _ (drop_all i xs c.loop-i-test.false) c.loop-i.invariant.0
    ∙ sym (ap (size_tree e s) (items_rows b w c.args.number c.requires.there xs c.operations-op-items.ensures.value))

pub measure_expression-returns-clause-filled : goal.measure_expression-returns-clause-filled
measure_expression-returns-clause-filled t c =
    let b = view c.args.tables.now in let w = c.requires.whole in let k = c.args.number in
    let e = c.args.context.encoding in let s = scope_of c.args.context.unit_offsets in
    let n = c.operations-op-items.ensures.count in
    let done = c.loop-i-test.false in
    filled_is e s b c.loop-i.ends.places.now k (λ j h. c.loop-i.invariant.4 j (omega arith)) (λ j h. c.loop-i.invariant.5 j (omega arith))

pub measure_operation-overflow_add-result-in-EntryValue : goal.measure_operation-overflow_add-result-in-EntryValue
measure_operation-overflow_add-result-in-EntryValue t c =
    let h = c.requires.whole.counted.light c.in-EntryValue.number in
    let l = c.in_ok-length.ensures.light in
    record { fits = omega (arith, c.uleb128_size.ensures.small) }
