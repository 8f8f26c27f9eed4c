use Rattle.dwarf.specs.Leb.{uleb}
use Rattle.dwarf.proofs.Uleb.{uleb_reads_back, uleb_shortest}
use Rattle.leb128.proofs.Leb128.unsigned.Goals as goal

pub returns-clause-value : goal.returns-clause-value
unfolding uleb
returns-clause-value c = c.encode.ensures

pub returns-clause-reads_back : goal.returns-clause-reads_back
returns-clause-reads_back c = rw (returns-clause-value c) (uleb_reads_back c.args.val c.ranges.val.fits)

pub returns-clause-shortest : goal.returns-clause-shortest
returns-clause-shortest c = rw (returns-clause-value c) (uleb_shortest c.args.val)
