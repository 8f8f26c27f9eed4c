use Rattle.std.proofs.Common.{◌^◌, ◌<◌, ℤ, pos, negsuc, ap, ◌∙◌, w64, SFits}
use Rattle.std.proofs.lemmas.Int.{to_z-of_z}
use Rattle.dwarf.specs.Leb.{sgroups, sleb, magnitude}
use Rattle.dwarf.proofs.Sleb.{sleb_reads_back, sleb_shortest}
use Rattle.leb128.proofs.Leb128.signed.Goals as goal

magnitude-fits : (z : ℤ) → SFits w64 z → magnitude z < 2 ^ 63
magnitude-fits (pos n) f = f.sfits
magnitude-fits (negsuc m) f = f.sfits

pub returns-clause-value : goal.returns-clause-value
unfolding sleb
returns-clause-value c = c.encode.ensures ∙ ap (sgroups 9) (to_z-of_z w64 c.args.val c.ranges.val)

pub returns-clause-reads_back : goal.returns-clause-reads_back
returns-clause-reads_back c = rw (returns-clause-value c) (sleb_reads_back c.args.val (magnitude-fits c.args.val c.ranges.val))

pub returns-clause-shortest : goal.returns-clause-shortest
returns-clause-shortest c = rw (returns-clause-value c) (sleb_shortest c.args.val)
