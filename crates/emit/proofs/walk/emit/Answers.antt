use Rattle.std.proofs.Common.{◌≡◌, take, ap, ◌∙◌, arith}
use Rattle.book_tables.specs.View.{view}
use Rattle.book_state.specs.State.{expression_at}
use Rattle.unit.specs.Offsets.{scope_of}
use Rattle.emit.proofs.Turns.{moved-popped, come_done}
use Rattle.emit.proofs.walk.emit.Goals as goal

pub walk-smaller : goal.walk-smaller
walk-smaller g c =
    let b = view c.args.tables.now in let i = c.walk.invariant in
    let n : c.expression.result.count ≡ (expression_at b c.walk.cursor.top.number).count = ap (λ x. x.count) c.expression.ensures.value in
    (moved-popped c.args.context.encoding (scope_of c.args.context.unit_offsets) b c.args.ends.now c.requires.whole c.walk.cursor i.0.ready (omega (arith, c.if-top-expression.false))
    (g.W.Writer.means c.walk.w) c.walk.rows c.walk.count c.leave.new.self i.0 c.if-cursor-gt0.true c.leave.ensures).less

pub walk-preserved : goal.walk-preserved
walk-preserved g c =
    let b = view c.args.tables.now in let i = c.walk.invariant in
    let n : c.expression.result.count ≡ (expression_at b c.walk.cursor.top.number).count = ap (λ x. x.count) c.expression.ensures.value in
    let m = moved-popped c.args.context.encoding (scope_of c.args.context.unit_offsets) b c.args.ends.now c.requires.whole c.walk.cursor i.0.ready (omega (arith, c.if-top-expression.false))
    (g.W.Writer.means c.walk.w) c.walk.rows c.walk.count c.leave.new.self i.0 c.if-cursor-gt0.true c.leave.ensures in
    (m.on, m.came ∙ i.1, i.2, i.3)

pub returns-else-cursor-gt0-clause-came : goal.returns-else-cursor-gt0-clause-came
returns-else-cursor-gt0-clause-came g c =
    let b = view c.args.tables.now in let i = c.walk.invariant in
    let n : c.expression.result.count ≡ (expression_at b c.walk.cursor.top.number).count = ap (λ x. x.count) c.expression.ensures.value in
    let none : c.walk.cursor.level ≡ 0 = omega (arith, c.if-cursor-gt0.false) in
    come_done c.args.context.encoding (scope_of c.args.context.unit_offsets) b c.args.ends.now c.requires.whole c.walk.cursor i.0.ready (omega (arith, c.if-top-expression.false))
    (g.W.Writer.means c.walk.w) (take c.walk.count c.walk.rows) none ∙ i.1
