use Rattle.std.proofs.Common.{◌≡◌, ◌∙◌, sym, rules}
use borrow.Author.Tests.{tests}
use Rattle.std.specs.List.{position}
use Rattle.std.proofs.lemmas.Iterator.{YieldsList-from_slice}
use Rattle.std.proofs.lemmas.Iterator.Search.{position_from_yields_List}
use Rattle.words.specs.Text.{blank, printed}
use Rattle.words.proofs.Splitting.{words_none, words_more}
use Rattle.words.proofs.text.next_word.Goals as goal

pub returns-in_err-start : goal.returns-in_err-start
returns-in_err-start c =
    let found : c.position.result ≡ position printed c.args.text.now = position_from_yields_List printed _ _ c.position.result c.position.ensures.ran (YieldsList-from_slice _ c.iter.ensures.rest) (λ x b q k. search (rules, tests)) in
    rw c.from_residual.ensures (words_none c.args.text.now (sym found ∙ c.in_err-start.was))

pub returns : goal.returns
returns c =
    let found : c.position.result ≡ position printed c.args.text.now = position_from_yields_List printed _ _ c.position.result c.position.ensures.ran (YieldsList-from_slice _ c.iter.ensures.rest) (λ x b q k. search (rules, tests)) in
    words_more c.args.text.now c.in_ok-start.start _ _ (sym found ∙ c.in_ok-start.was) (c.cut.ensures blank (λ c r e. e))
