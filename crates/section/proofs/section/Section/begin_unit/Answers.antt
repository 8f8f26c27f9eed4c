use Rattle.section_tables.specs.Rows.{rows_of}
use Rattle.section_tables.specs.View.{units_of}
use Rattle.section_tables.proofs.Steps.{begin_follows}
use Rattle.section.proofs.Carrying.{stepped}
use Rattle.section.proofs.section.Section.begin_unit.Goals as goal

pub returns-clause-step : goal.returns-clause-step
returns-clause-step g c =
    let t = c.args.self.now.tables in
    stepped
    (begin_follows (g.W.Writer.means c.args.self.now.sink) (rows_of t.pending) (units_of t.units) (units_of c.begin.new.self) c.args.encoding c.len.result c.begin.result c.len.ensures.value c.begin.ensures)
