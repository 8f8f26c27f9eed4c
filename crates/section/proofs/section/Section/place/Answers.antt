use Rattle.section_tables.specs.Rows.{rows_of}
use Rattle.section_tables.specs.View.{units_of}
use Rattle.section_tables.proofs.Steps.{place_follows}
use Rattle.section.proofs.Carrying.{stepped}
use Rattle.section.proofs.section.Section.place.Goals as goal

pub returns-clause-step : goal.returns-clause-step
returns-clause-step g c =
    let t = c.args.self.now.tables in
    stepped
    (place_follows (g.W.Writer.means c.args.self.now.sink) (rows_of t.pending) (units_of t.units) (units_of c.place.new.self) c.args.entry c.len.result c.place.result c.len.ensures.value c.place.ensures)
