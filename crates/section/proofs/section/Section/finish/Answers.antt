use Rattle.std.proofs.Common.{◌<◌, ◌≤◌, length, rules}
use Rattle.section_tables.specs.Rows.{rows_of}
use Rattle.section_tables.specs.View.{units_of}
use Rattle.section_tables.proofs.Steps.{finish_still, finish_follows}
use Rattle.section.proofs.Carrying.{stepped}
use Rattle.section.proofs.section.Section.finish.Goals as goal

pub returns-then-not-is_empty : goal.returns-then-not-is_empty
returns-then-not-is_empty g c =
    let t = c.args.self.now.tables in
    let some : 0 < length (rows_of t.pending) = search rules in
    stepped (finish_still (g.W.Writer.means c.args.self.now.sink) (units_of t.units) (rows_of t.pending) some)

pub returns : goal.returns
returns g c =
    let t = c.args.self.now.tables in
    let none : length (rows_of t.pending) ≤ 0 = search rules in
    stepped (finish_follows (g.W.Writer.means c.args.self.now.sink) (units_of t.units) (rows_of t.pending) c.len.result none c.len.ensures.value)
