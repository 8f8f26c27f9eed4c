use Rattle.std.proofs.Common.{◌≡◌, false, codes, refl, sym, ◌∙◌}
use Rattle.std.specs.Str.{bytes_eq}
use Rattle.std.proofs.lemmas.Bool.{cond-false}
use Rattle.words.proofs.Pairs.{denoted_all}
use Rattle.words.proofs.hex.Hex.parse.Goals as goal

pub returns : goal.returns
returns c =
    let other : bytes_eq c.args.word.now (codes "-") ≡ false = cc in
    rw (c.then_some.ensures, c.are_pairs.ensures) (denoted_all (record { digits = c.args.word }) _ refl ∙ sym (cond-false _ _ _ other))
