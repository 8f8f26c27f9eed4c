use Rattle.std.proofs.Common.{arith, rules}
use borrow.Author.Tests.{tests}
use Rattle.words.proofs.Numerals.{filtered}
use Rattle.words.proofs.number.unsigned.Goals as goal

pub returns : goal.returns
returns c = filtered c.args.most _ _ _ (omega arith) c.plain_number.ensures (search (rules, tests))
