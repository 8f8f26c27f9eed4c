use Rattle.std.proofs.Common.{◌≡◌, ℕ, ◌+◌, ◌<◌, get_or, drop, Ok, Err, sym, ap, ◌∙◌, subst, arith, rules}
use Rattle.std.proofs.lemmas.Result.{err_from_is_err_and}
use Rattle.op.specs.declared.operation.Operation.{Operation}
use Rattle.book_tables.specs.View.{view}
use Rattle.book_state.specs.declared.shape.Shape.TheVariants.{Nesting}
use Rattle.book_state.specs.Operations.{shape}
use Rattle.book_state.specs.State.{no_operation, expression_at, operations_of, depth_by, weight_of, weight_by}
use Rattle.rules.specs.Encode.{encode_tree, starts}
use Rattle.rules.specs.Results.{plus}
use Rattle.rules.specs.Tree as tree
use Rattle.unit.specs.Offsets.{scope_of}
use Rattle.book_tree.specs.Store.{InBook, store_of, tree_in}
use Rattle.book_tree.proofs.Shapes.{inside_book}
use Rattle.book_tree.proofs.Sums.{plus_start}
use Rattle.book_tree.proofs.Trees.{items_rows, item_counted, item_at, item_depth, item_then, item_next}
use Rattle.positions.proofs.Filling.{filled-own, filled_inner}
use Rattle.positions.proofs.Reading.{next_at}
use Rattle.positions.proofs.Starts.{starts_first}
use Rattle.checking.specs.Counts.{counted, encode_by}
use Rattle.checking.proofs.Encoded.{rows_encode, count_more, count_stop}
use Rattle.checking.proofs.Counting.{made_le, branch-counted, plain-count}
use Rattle.checking.proofs.+check_expression_check_operation.Goals as goal

pub check_expression-loop-index-init : goal.check_expression-loop-index-init
check_expression-loop-index-init t c =
    let b = view c.args.tables.now in let w = c.requires.whole in let k = c.args.number in
    let e = c.args.context.encoding in let s = scope_of c.args.context.unit_offsets in
    let xs = c.operations-op-items.result.now in let are = c.operations-op-items.ensures.value in
    let hs = starts e s 0 (tree_in b k) in
    let n = w.weighed k c.requires.there in
    let m : weight_of b.expressions xs ≡ weight_of b.expressions (operations_of b k) = ap (weight_of b.expressions) are in (
      plus_start (counted (rows_encode e s b hs (get_or hs 0 0) xs))
          ∙ (ap (λ (p : ℕ). counted (rows_encode e s b hs p xs)) (starts_first e s 0 (tree_in b k))
          ∙ ap (λ t. counted (encode_tree e s hs 0 t)) (sym (items_rows b w k c.requires.there xs are))),
      omega arith,
    )

pub check_expression-check_operation-requires : goal.check_expression-check_operation-requires
check_expression-check_operation-requires t c =
    let b = view c.args.tables.now in let w = c.requires.whole in let k = c.args.number in let i = c.loop-index.index in
    let xs = c.operations-op-items.result.now in let are = c.operations-op-items.ensures.value in
    let d = item_depth b w k c.requires.there xs are i c.loop-index-test.true in
    (search rules, (w, (c.requires.there, (item_counted b w k c.requires.there xs are i c.loop-index-test.true, (item_at b w k c.requires.there xs are i c.loop-index-test.true, (c.requires.wide, c.requires.filled))))))

pub check_expression-returns-in_err-count-clause-value : goal.check_expression-returns-in_err-count-clause-value
check_expression-returns-in_err-count-clause-value t c =
    let b = view c.args.tables.now in let w = c.requires.whole in let k = c.args.number in
    let e = c.args.context.encoding in let s = scope_of c.args.context.unit_offsets in
    let xs = c.operations-op-items.result.now in let i = c.loop-index.index in
    let hs = starts e s 0 (tree_in b k) in
    let p = err_from_is_err_and c.from_residual.result c.from_residual.ensures.1 in
    let m = item_next b w k c.requires.there xs c.operations-op-items.ensures.value i c.loop-index-test.true in
    rw (p.1, p.2) (count_stop e s b hs (get_or hs i 0) (drop i xs) c.loop-index.count _ _ _ c.in_err-count.field-0.0 m c.in_err-count.ensures.value c.loop-index.invariant.0)

pub check_expression-overflow_add-count : goal.check_expression-overflow_add-count
check_expression-overflow_add-count t c =
    let b = view c.args.tables.now in let w = c.requires.whole in let k = c.args.number in
    let xs = c.operations-op-items.result.now in let i = c.loop-index.index in
    let m = item_then b w k c.requires.there xs c.operations-op-items.ensures.value i c.loop-index-test.true in
    let n : weight_of b.expressions (drop i xs) ≡ weight_by b.expressions (shape (get_or xs i no_operation)) + weight_of b.expressions (drop (i + 1) xs) = ap (weight_of b.expressions) m in
    let f = c.in_ok-count.ensures.few in
    let h = w.counted.light k in
    record { fits = omega (arith, c.loop-index.invariant.1) }

pub check_expression-loop-index-preserved : goal.check_expression-loop-index-preserved
check_expression-loop-index-preserved t c =
    let b = view c.args.tables.now in let w = c.requires.whole in let k = c.args.number in
    let e = c.args.context.encoding in let s = scope_of c.args.context.unit_offsets in
    let xs = c.operations-op-items.result.now in let are = c.operations-op-items.ensures.value in let i = c.loop-index.index in
    let hs = starts e s 0 (tree_in b k) in
    let then = item_then b w k c.requires.there xs are i c.loop-index-test.true in
    let n : weight_of b.expressions (drop i xs) ≡ weight_by b.expressions (shape (get_or xs i no_operation)) + weight_of b.expressions (drop (i + 1) xs) = ap (weight_of b.expressions) then in
    let f = c.in_ok-count.ensures.few in
    let m = item_next b w k c.requires.there xs are i c.loop-index-test.true in
    let next = next_at e s b w k c.requires.there i (item_counted b w k c.requires.there xs are i c.loop-index-test.true) in (
      ap (λ (p : ℕ). plus (Ok (c.loop-index.count + c.in_ok-count.field-0)) (counted (rows_encode e s b hs p (drop (i + 1) xs)))) next
          ∙ count_more e s b hs (get_or hs i 0) (drop i xs) c.loop-index.count _ _ _ c.in_ok-count.field-0 m c.in_ok-count.ensures.value c.loop-index.invariant.0,
      omega (arith, c.loop-index.invariant.1),
    )

pub check_operation-check_expression-requires : goal.check_operation-check_expression-requires
check_operation-check_expression-requires t c =
    let b = view c.args.tables.now in let w = c.requires.whole in let k = c.args.number in let i = c.args.index in
    let m = c.in-EntryValue.inner in
    let q : shape c.args.op ≡ Nesting m = ap shape c.in-EntryValue.is in
    let d : depth_by b.expressions (shape c.args.op) ≡ (expression_at b m).depth + 1 = ap (depth_by b.expressions) q in
    let at = ap shape (sym c.requires.here) ∙ q in
    let h : m < b.sealed_count = subst (InBook b) at (inside_book b w k c.requires.there i c.requires.inside) in
    (search rules, (w, (h, (c.requires.wide, filled_inner c.args.context.encoding (scope_of c.args.context.unit_offsets) b c.args.ends.now k c.requires.filled i m c.requires.inside at))))

pub check_operation-displacement-requires-clause-small : goal.check_operation-displacement-requires-clause-small
check_operation-displacement-requires-clause-small t c =
    let b = view c.args.tables.now in let k = c.args.number in
    λ j l. (filled-own c.args.context.encoding (scope_of c.args.context.unit_offsets) b c.args.ends.now k c.requires.filled j l k c.requires.there (omega arith) (omega arith)).1

pub check_operation-returns-in_err-displacement-in-Skip-clause-value : goal.check_operation-returns-in_err-displacement-in-Skip-clause-value
check_operation-returns-in_err-displacement-in-Skip-clause-value t c =
    let b = view c.args.tables.now in let w = c.requires.whole in let k = c.args.number in
    let e = c.args.context.encoding in let s = scope_of c.args.context.unit_offsets in
    let p = err_from_is_err_and c.from_residual.result c.from_residual.ensures.1 in
    rw (p.1, p.2)
    (branch-counted e s b w k c.args.index c.requires.there c.requires.inside c.args.op c.requires.here c.in-Skip.target c.in-Skip.is (Err c.in_err-displacement-in-Skip.field-0.0)
    (c.in_err-displacement-in-Skip.ensures e s (filled-own e s b c.args.ends.now k c.requires.filled)))

pub check_operation-returns-in_ok-displacement-in-Skip-clause-value : goal.check_operation-returns-in_ok-displacement-in-Skip-clause-value
check_operation-returns-in_ok-displacement-in-Skip-clause-value t c =
    let b = view c.args.tables.now in let w = c.requires.whole in let k = c.args.number in
    let e = c.args.context.encoding in let s = scope_of c.args.context.unit_offsets in
    branch-counted e s b w k c.args.index c.requires.there c.requires.inside c.args.op c.requires.here c.in-Skip.target c.in-Skip.is (Ok c.in_ok-displacement-in-Skip.field-0)
    (c.in_ok-displacement-in-Skip.ensures e s (filled-own e s b c.args.ends.now k c.requires.filled))

pub check_operation-returns-in_default : goal.check_operation-returns-in_default
check_operation-returns-in_default t c =
    let b = view c.args.tables.now in let w = c.requires.whole in let k = c.args.number in let i = c.args.index in
    let e = c.args.context.encoding in let s = scope_of c.args.context.unit_offsets in
    let hs = starts e s 0 (tree_in b k) in let x = c.args.op in
    let inside : InBook b (shape x) = subst (λ (y : Operation). InBook b (shape y)) (sym c.requires.here) (inside_book b w k c.requires.there i c.requires.inside) in
    record {
      value =
          plain-count e s b hs (get_or hs i 0) x c.check_plain.result inside c.in_default.not-EntryValue c.in_default.not-Skip c.in_default.not-Branch c.check_plain.ensures.value
          ∙ ap (λ y. counted (encode_by e s hs (get_or hs i 0) (tree_in b) (tree.shape (store_of b) y))) c.requires.here;
      few = made_le c.check_plain.result 1 (weight_by b.expressions (shape x)) (omega arith) c.check_plain.ensures.few;
    }
