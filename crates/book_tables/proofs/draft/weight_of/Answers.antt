use Rattle.std.proofs.Common.{◌≡◌, ◌∙◌, rules}
use Rattle.std.proofs.iter.runs.Made.{chains}
use Rattle.std.specs.List.{sum_by}
use Rattle.book_state.specs.Operations.{shape}
use Rattle.book_state.specs.State.{weight_by}
use Rattle.book_tables.proofs.Gathered.{gathered_sum}
use Rattle.book_tables.proofs.draft.weight_of.Goals as goal

pub returns : goal.returns
returns c =
    let e : c.sum.result ≡ sum_by (λ x. weight_by c.args.expressions.now (shape x)) c.args.operations.now = search (rules, chains) in
    e ∙ gathered_sum (λ x. weight_by c.args.expressions.now (shape x)) c.args.operations.now
