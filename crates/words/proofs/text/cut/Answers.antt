use Rattle.std.proofs.Common.{◌≡◌, sym, rules}
use borrow.Author.Tests.{tests}
use Rattle.std.specs.List.{position}
use Rattle.std.proofs.lemmas.Iterator.{YieldsList-from_slice}
use Rattle.std.proofs.lemmas.Iterator.Search.{position_from_yields_List}
use Rattle.words.proofs.Splitting.{cut_end}
use Rattle.words.proofs.text.cut.Goals as goal

pub returns : goal.returns
returns g c test h =
    let found : c.position.result ≡ position test c.args.text.now = position_from_yields_List test _ _ c.position.result c.position.ensures.ran (YieldsList-from_slice _ c.iter.ensures.rest) (λ x b q k. search (rules, tests, h)) in
    cut_end test c.args.text.now c.position.result c.unwrap_or-end.result c.min-next.result (sym found) c.unwrap_or-end.ensures c.min-next.ensures
