use Rattle.std.proofs.Common.{◌≡◌, rules, codes, refl}
use Rattle.std.proofs.lemmas.Slice.Eq.{text_from_reads}
use Rattle.script.proofs.operand.order.Goals as goal

pub returns-in-little : goal.returns-in-little
returns-in-little c =
    let e : c.args.word.now ≡ codes "little" = search (rules, text_from_reads) in
    rw e refl
