use Rattle.std.proofs.Common.{◌≡◌, ◌∙◌, ◌+◌, drop, get_or, sym, ap, arith, rules}
use Rattle.std.proofs.lemmas.List.{drop_all}
use Rattle.std.proofs.lemmas.Result.{err_from_is_err_and}
use Rattle.book_state.specs.Operations.{shape}
use Rattle.book_state.specs.State.{no_operation, operations_of, weight_of, weight_by}
use Rattle.book_tables.specs.View.{view}
use Rattle.rules.specs.Sizes.{size_tree}
use Rattle.unit.specs.Offsets.{scope_of}
use Rattle.book_tree.proofs.Trees.{items_rows, item_inside, item_then, item_depth}
use Rattle.book_tree.proofs.Sums.{rows_size, plus_start, size_more, size_stop, size_all}
use Rattle.size.proofs.+expression_size_operation_size.Goals as goal

pub expression_size-loop-op-init : goal.expression_size-loop-op-init
expression_size-loop-op-init t c =
    let b = view c.args.tables.now in let w = c.requires.whole in let xs = c.operations-op-items.result.now in
    let n = w.weighed c.args.number c.requires.there in
    let m : weight_of b.expressions xs ≡ weight_of b.expressions (operations_of b c.args.number) = ap (weight_of b.expressions) c.operations-op-items.ensures.value in
    (plus_start (rows_size c.args.context.encoding (scope_of c.args.context.unit_offsets) b xs), omega arith)

pub expression_size-overflow_add-size : goal.expression_size-overflow_add-size
expression_size-overflow_add-size t c =
    let b = view c.args.tables.now in let w = c.requires.whole in let xs = c.operations-op-items.result.now in let i = c.loop-op.op-index in
    let m = item_then b w c.args.number c.requires.there xs c.operations-op-items.ensures.value i c.loop-op-test.true in
    let n : weight_of b.expressions (drop i xs) ≡ weight_by b.expressions (shape (get_or xs i no_operation)) + weight_of b.expressions (drop (i + 1) xs) = ap (weight_of b.expressions) m in
    let l = c.in_ok-size.ensures.light in
    let h = w.counted.light c.args.number in
    record { fits = omega (arith, c.loop-op.invariant.1) }

pub expression_size-operation_size-requires : goal.expression_size-operation_size-requires
expression_size-operation_size-requires t c =
    let b = view c.args.tables.now in let w = c.requires.whole in let xs = c.operations-op-items.result.now in let i = c.loop-op.op-index in
    let d = item_depth b w c.args.number c.requires.there xs c.operations-op-items.ensures.value i c.loop-op-test.true in
    (search rules, (w, item_inside b w c.args.number c.requires.there xs c.operations-op-items.ensures.value i c.loop-op-test.true))

pub expression_size-returns-in_err-size-clause-value : goal.expression_size-returns-in_err-size-clause-value
expression_size-returns-in_err-size-clause-value t c =
    let b = view c.args.tables.now in let w = c.requires.whole in let xs = c.operations-op-items.result.now in let i = c.loop-op.op-index in
    let e = c.args.context.encoding in let s = scope_of c.args.context.unit_offsets in
    let k = c.args.number in let are = c.operations-op-items.ensures.value in
    let p = err_from_is_err_and c.from_residual.result c.from_residual.ensures.1 in
    rw (p.1, p.2)
    (size_stop e s b (drop i xs) c.loop-op.size _ _ _ c.in_err-size.field-0.0 (item_then b w k c.requires.there xs are i c.loop-op-test.true) c.in_err-size.ensures.value c.loop-op.invariant.0
    ∙ sym (ap (size_tree e s) (items_rows b w k c.requires.there xs are)))

pub expression_size-loop-op-preserved : goal.expression_size-loop-op-preserved
expression_size-loop-op-preserved t c =
    let b = view c.args.tables.now in let w = c.requires.whole in let xs = c.operations-op-items.result.now in let i = c.loop-op.op-index in
    let e = c.args.context.encoding in let s = scope_of c.args.context.unit_offsets in
    let m = item_then b w c.args.number c.requires.there xs c.operations-op-items.ensures.value i c.loop-op-test.true in
    let n : weight_of b.expressions (drop i xs) ≡ weight_by b.expressions (shape (get_or xs i no_operation)) + weight_of b.expressions (drop (i + 1) xs) = ap (weight_of b.expressions) m in
    let l = c.in_ok-size.ensures.light in
    (size_more e s b (drop i xs) c.loop-op.size _ _ _ c.in_ok-size.field-0 m c.in_ok-size.ensures.value c.loop-op.invariant.0, omega (arith, c.loop-op.invariant.1))

pub expression_size-returns-clause-value : goal.expression_size-returns-clause-value
expression_size-returns-clause-value t c =
    let b = view c.args.tables.now in let w = c.requires.whole in let xs = c.operations-op-items.result.now in let i = c.loop-op.op-index in
    let e = c.args.context.encoding in let s = scope_of c.args.context.unit_offsets in
    size_all e s b (drop i xs) c.loop-op.size _ (drop_all i xs c.loop-op-test.false) c.loop-op.invariant.0
    ∙ sym (ap (size_tree e s) (items_rows b w c.args.number c.requires.there xs c.operations-op-items.ensures.value))

pub operation_size-overflow_add-result-in-EntryValue-2 : goal.operation_size-overflow_add-result-in-EntryValue-2
operation_size-overflow_add-result-in-EntryValue-2 t c =
    let b = view c.args.tables.now in let w = c.requires.whole in
    let h = w.counted.light c.in-EntryValue.number in
    let l = c.in_ok-length-in-EntryValue.ensures.light in
    record { fits = omega (arith, c.uleb128_size-in-EntryValue.ensures.small) }
