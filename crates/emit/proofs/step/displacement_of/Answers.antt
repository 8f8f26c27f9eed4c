use Rattle.std.proofs.Common.{◌≡◌, ℕ, ◌⊎◌, Ok, ap, ◌∙◌, subst}
use Rattle.op.specs.declared.operation.Operation.{Operation}
use Rattle.op.specs.declared.operation.Operation.TheVariants as op
use Rattle.book_state.specs.Operations.{shape}
use Rattle.book_tables.specs.View.{view}
use Rattle.checking.proofs.Counting.{after_three}
use Rattle.rules.specs.Encode.{encode_op}
use Rattle.rules.specs.Operands.{after_branch, displaced}
use Rattle.rules.specs.Results.{and_then}
use Rattle.emit.specs.Held.{data_at}
use Rattle.emit.specs.Walk.{starts_of, next_start}
use Rattle.emit.proofs.Plain.{leads_branching}
use Rattle.emit.proofs.step.displacement_of.Goals as goal

pub returns-in-Skip : goal.returns-in-Skip
returns-in-Skip c = λ e s own.
    let b = view c.args.tables.now in let w = c.requires.whole in let at = c.args.at in let t = c.in-Skip.target in
    let hs = starts_of e s b at.number in let leads = displaced hs (after_branch (next_start e s b at)) in
    let is = subst (λ (y : Operation). (y ≡ op.Skip t) ⊎ (y ≡ op.Branch t)) c.requires.here c.in-Skip.is in
    let three = after_three e s b w at.number at.next t c.requires.there c.requires.more is in
    subst (λ (y : Operation). and_then c.displacement.result (λ z. encode_op e s (λ _. Ok z) y (data_at b (shape y))) ≡ encode_op e s leads y (data_at b (shape y))) c.requires.here
    (leads_branching e s leads c.args.op (data_at b (shape c.args.op)) t c.displacement.result
    (c.displacement.ensures e s own ∙ ap (λ (n : ℕ). displaced hs n t) three) c.in-Skip.is)
