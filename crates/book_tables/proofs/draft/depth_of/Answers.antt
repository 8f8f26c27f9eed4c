use Rattle.std.proofs.Common.{◌∙◌, ap, sym, Option, ℕ, rules}
use borrow.Author.Tests.{tests}
use Rattle.std.proofs.lemmas.Iterator.{YieldsList-from_slice, YieldsList-from_map}
use Rattle.std.proofs.lemmas.Iterator.Adapters.{option_map_id}
use Rattle.std.proofs.lemmas.Iterator.Consumers.{max_from_yields_List}
use Rattle.std.specs.Option.{unwrap_or}
use Rattle.book_state.specs.Operations.{shape}
use Rattle.book_state.specs.State.{depth_by}
use Rattle.book_tables.proofs.Gathered.{gathered_max}
use Rattle.book_tables.proofs.draft.depth_of.Goals as goal

pub returns : goal.returns
returns c =
    let m = max_from_yields_List _ c.max.result c.max.ensures.ran
    (YieldsList-from_map _ (λ x. depth_by c.args.expressions.now (shape x)) (YieldsList-from_slice c.args.operations.now cc) c.map-depths.ensures.closure (λ x r q k. search (rules, tests))) in
    c.unwrap_or.ensures ∙ (ap (λ (o : Option ℕ). unwrap_or o 0) (sym (option_map_id c.max.result) ∙ m) ∙ gathered_max (λ x. depth_by c.args.expressions.now (shape x)) c.args.operations.now)
