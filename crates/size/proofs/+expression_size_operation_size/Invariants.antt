use Rattle.std.proofs.Common.{◌≡◌, ◌+◌, ◌*◌, ◌≤◌, drop, Ok}
use Rattle.book_state.specs.Operations.{shape}
use Rattle.book_state.specs.State.{expression_at, depth_by, weight_of}
use Rattle.book_tables.specs.View.{view}
use Rattle.book_tree.proofs.Sums.{rows_size}
use Rattle.rules.specs.Results.{plus}
use Rattle.unit.specs.Offsets.{scope_of}
use Rattle.size.proofs.+expression_size_operation_size.Given as goal

-- the depth of the expression falls
abbrev pub decreases-expression_size : goal.decreases-expression_size
decreases-expression_size l = 2 * (expression_at (view l.tables.now) l.number).depth + 1

abbrev pub decreases-operation_size : goal.decreases-operation_size
decreases-operation_size l = 2 * depth_by l.tables.now.expressions (shape l.op)

-- what is counted and what is left make up the size, and weigh no more than the expression
abbrev pub invariant-expression_size-loop-op : goal.invariant-expression_size-loop-op
invariant-expression_size-loop-op l =
    let e = l.context.encoding in let s = scope_of l.context.unit_offsets in let b = view l.tables in
    (plus (Ok l.size) (rows_size e s b (drop l.op-index l.op-items)) ≡ rows_size e s b l.op-items)
    × (l.size + weight_of b.expressions (drop l.op-index l.op-items) ≤ (expression_at b l.number).weight)
