use Rattle.std.proofs.Common.{◌≡◌, ◌+◌, ◌-◌, ◌≤◌, get_or, ap, ◌∙◌, subst, arith}
use Rattle.book_tables.specs.View.{view}
use Rattle.book_state.specs.State.{expression_at}
use Rattle.positions.proofs.Reading.{first_read, target_read}
use Rattle.positions.proofs.end_of.Goals as goal

pub returns-then-count-eq0-clause-value : goal.returns-then-count-eq0-clause-value
returns-then-count-eq0-clause-value c e s own =
    let b = view c.args.tables.now in
    first_read e s b c.requires.whole c.args.number c.requires.there c.args.count c.if-count-eq0.true

pub returns-clause-value : goal.returns-clause-value
returns-clause-value c e s own =
    let b = view c.args.tables.now in let n = c.args.count in let ne = c.if-count-eq0.false in
    ap (λ x. get_or c.args.ends.now (x.start + n - 1) 0) c.expression.ensures.value
    ∙ target_read e s b c.requires.whole c.args.number c.requires.there c.args.ends.now own n (omega arith) c.requires.inside

pub returns-clause-small : goal.returns-clause-small
returns-clause-small c most h =
    let n = c.args.count in let ne = c.if-count-eq0.false in
    let st : c.expression.result.start ≡ (expression_at (view c.args.tables.now) c.args.number).start = ap (λ x. x.start) c.expression.ensures.value in
    let i = c.requires.inside in
    let v : (expression_at (view c.args.tables.now) c.args.number).start + (n - 1) ≡ c.expression.result.start + n - 1 = omega arith in
    subst (λ p. get_or c.args.ends.now p 0 ≤ most) v (h (n - 1) (omega arith))
