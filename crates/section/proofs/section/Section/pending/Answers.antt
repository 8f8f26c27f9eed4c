use Rattle.std.proofs.Common.{subst}
use Rattle.std.specs.Slice.{IsItemAt}
use Rattle.section_tables.specs.Rows.{rows_of}
use Rattle.section_tables.specs.View.{units_of}
use Rattle.section_tables.proofs.Steps.{pending_follows}
use Rattle.section.proofs.Carrying.{stepped}
use Rattle.section.proofs.section.Section.pending.Goals as goal

pub returns : goal.returns
returns g c =
    let t = c.args.self.now.tables in
    stepped
    (rw c.copied.ensures (pending_follows (g.W.Writer.means c.args.self.now.sink) (units_of t.units) (rows_of t.pending) c.args.index c.get.result
    (subst (λ ps. IsItemAt ps c.args.index c.get.result) c.pending_rows.ensures c.get.ensures.lookup)))
