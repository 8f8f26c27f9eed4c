use Rattle.std.proofs.Common.{◌≡◌, ℕ, ◌+◌, get_or, ap, ◌∙◌, arith}
use Rattle.book_tables.specs.View.{view}
use Rattle.book_state.specs.State.{expression_at}
use Rattle.book_tree.specs.Store.{tree_in}
use Rattle.rules.specs.Encode.{starts}
use Rattle.rules.specs.Operands.{displacement_from}
use Rattle.positions.proofs.Reading.{read_past, read_target}
use Rattle.positions.proofs.branch.displacement.Goals as goal

pub returns-then-target-expression : goal.returns-then-target-expression
returns-then-target-expression c e s own =
    let b = view c.args.tables.now in let k = c.args.number in
    let n : c.expression.result.count ≡ (expression_at b k).count = ap (λ x. x.count) c.expression.ensures.value in
    read_past e s b c.requires.whole k c.requires.there (get_or (starts e s 0 (tree_in b k)) (c.args.index + 1) 0) c.args.target c.in_ok-target.target c.in_ok-target.ensures.ok_part
    (omega (arith, c.if-target-expression.true))

pub returns : goal.returns
returns c e s own =
    let b = view c.args.tables.now in let k = c.args.number in
    let n : c.expression.result.count ≡ (expression_at b k).count = ap (λ x. x.count) c.expression.ensures.value in
    let after = get_or (starts e s 0 (tree_in b k)) (c.args.index + 1) 0 in
    c.distance.ensures
    ∙ (ap (λ (n : ℕ). displacement_from n c.end_of-to.result) (c.end_of-from.ensures.value e s own)
    ∙ read_target e s b c.requires.whole k c.requires.there after c.args.target c.in_ok-target.target c.in_ok-target.ensures.ok_part (omega (arith, c.if-target-expression.false)) c.end_of-to.result (c.end_of-to.ensures.value e s own))
