use Rattle.std.proofs.Common.{arith}
use Rattle.dwarf.specs.Leb.{uleb}
use Rattle.dwarf.proofs.Uleb.{uleb_most}
use Rattle.leb128.proofs.uleb128_size.Goals as goal

pub returns-clause-value : goal.returns-clause-value
unfolding uleb
returns-clause-value c = c.count.ensures

pub returns-clause-small : goal.returns-clause-small
returns-clause-small c = let m = uleb_most c.args.val in let e = returns-clause-value c in omega arith
