use Rattle.std.proofs.Common.{◌≡◌, ℕ, ◌+◌, ◌*◌, ◌<◌, ◌≤◌, length, drop, Ok}
use Rattle.book_state.specs.Operations.{shape}
use Rattle.book_state.specs.State.{op_at, expression_at, depth_by, weight_of}
use Rattle.book_tables.specs.View.{view}
use Rattle.book_tree.specs.Store.{tree_in}
use Rattle.book_tree.proofs.Sums.{rows_size}
use Rattle.rules.specs.Encode.{starts}
use Rattle.rules.specs.Results.{plus}
use Rattle.unit.specs.Offsets.{scope_of}
use Rattle.positions.specs.Ends.{EndsAt, FilledBy, Keeps}
use Rattle.positions.proofs.Starts.{row_starts}
use Rattle.positions.proofs.+measure_expression_measure_operation.Given as goal

abbrev pub decreases-measure_expression : goal.decreases-measure_expression
decreases-measure_expression l = 2 * (expression_at (view l.tables.now) l.number).depth + 1

abbrev pub decreases-measure_operation : goal.decreases-measure_operation
decreases-measure_operation l = 2 * depth_by l.tables.now.expressions (shape l.op)

-- what is counted and what is left make up the size and weigh no more than the expression; the next operation begins where the
-- count says; the table has the ends of those before it, and it stays the same table, of the same length
abbrev pub invariant-measure_expression-loop-i : goal.invariant-measure_expression-loop-i
invariant-measure_expression-loop-i l =
    let e = l.context.encoding in let s = scope_of l.context.unit_offsets in let b = view l.tables in let st = (expression_at b l.number).start in
    (plus (Ok l.size) (rows_size e s b (drop l.i l.op-items)) ≡ rows_size e s b l.op-items)
    × (l.size + weight_of b.expressions (drop l.i l.op-items) ≤ (expression_at b l.number).weight)
    × (row_starts e s b l.size (drop l.i l.op-items) ≡ drop l.i (starts e s 0 (tree_in b l.number)))
    × Keeps e s b l.initial.ends.places.now l.ends.places.now
    × ((j : ℕ) → j < l.i → EndsAt e s b l.ends.places.now (st + j))
    × ((j : ℕ) → j < l.i → FilledBy e s b l.ends.places.now (op_at b (st + j)))
    × (length l.ends.places.now ≡ length l.initial.ends.places.now)
    × (l.ends.places.ghost_name ≡ l.initial.ends.places.ghost_name)
