use Rattle.std.proofs.Common.{◌≡◌, ◌+◌, ◌*◌, ◌≤◌, get_or, drop, Ok}
use Rattle.book_state.specs.Operations.{shape}
use Rattle.book_state.specs.State.{expression_at, depth_by, weight_of}
use Rattle.book_tables.specs.View.{view}
use Rattle.book_tree.specs.Store.{tree_in}
use Rattle.rules.specs.Encode.{encode_tree, starts}
use Rattle.rules.specs.Results.{plus}
use Rattle.unit.specs.Offsets.{scope_of}
use Rattle.checking.specs.Counts.{counted}
use Rattle.checking.proofs.Encoded.{rows_encode}
use Rattle.checking.proofs.+check_expression_check_operation.Given as goal

abbrev pub decreases-check_expression : goal.decreases-check_expression
decreases-check_expression l = 2 * (expression_at (view l.tables.now) l.number).depth + 1

abbrev pub decreases-check_operation : goal.decreases-check_operation
decreases-check_operation l = 2 * depth_by l.tables.now.expressions (shape l.op)

-- what is counted and what is left make up the count, and are no more than the expression's weight
abbrev pub invariant-check_expression-loop-index : goal.invariant-check_expression-loop-index
invariant-check_expression-loop-index l =
    let e = l.context.encoding in let s = scope_of l.context.unit_offsets in let b = view l.tables in
    let hs = starts e s 0 (tree_in b l.number) in
    (plus (Ok l.count) (counted (rows_encode e s b hs (get_or hs l.index 0) (drop l.index l.op-items))) ≡ counted (encode_tree e s hs 0 (tree_in b l.number)))
    × (l.count + weight_of b.expressions (drop l.index l.op-items) ≤ (expression_at b l.number).weight)
