use Rattle.std.proofs.Common.{◌^◌, ◌<◌, length, ap, ◌∙◌, arith, rules, false-eqb}
use Rattle.words.proofs.Numerals.{after, after_start, read_all}
use Rattle.words.proofs.number.numeral_in.Goals as goal

pub returns : goal.returns
returns c =
    let cs = c.args.digits.now in
    let some : 0 < length cs = omega (arith, false-eqb (length cs) 0 c.if-is_empty.ensures) in
    read_all _ _ (2 ^ 64) c.args.base _ (λ n x v h k. search rules) c.iter.result c.try_fold.new.self c.try_fold.result c.requires (omega arith) c.try_fold.ensures.ran ∙ ap (after (2 ^ 64) c.args.base 0) c.iter.ensures.rest ∙ after_start (2 ^ 64) c.args.base cs some
