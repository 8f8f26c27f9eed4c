use Rattle.std.proofs.Common.{length, ap, ◌∙◌, arith, w64}
use Rattle.std.proofs.lemmas.Int.{to_z-of_z}
use Rattle.dwarf.specs.Leb.{sgroups, sleb}
use Rattle.dwarf.proofs.Sleb.{sleb_most}
use Rattle.leb128.proofs.sleb128_size.Goals as goal

pub returns-clause-value : goal.returns-clause-value
unfolding sleb
returns-clause-value c = c.count.ensures ∙ ap (λ z. length (sgroups 9 z)) (to_z-of_z w64 c.args.val c.ranges.val)

pub returns-clause-small : goal.returns-clause-small
returns-clause-small c = let m = sleb_most c.args.val in let e = returns-clause-value c in omega arith
