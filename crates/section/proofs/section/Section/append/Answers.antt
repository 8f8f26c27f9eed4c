use Rattle.std.proofs.Common.{Ok}
use Rattle.section_tables.specs.Rows.{rows_of}
use Rattle.section_tables.proofs.Insides.{inside-appended}
use Rattle.section_tables.proofs.Steps.{append_follows}
use Rattle.section.proofs.Carrying.{stepped}
use Rattle.section.proofs.section.Section.append.Goals as goal

pub invariant_of-self : goal.invariant_of-self
invariant_of-self g c =
    let s = c.args.self.now in
    record {
      inside = inside-appended (g.W.Writer.means s.sink) (g.W.Writer.means c.write.new.self) (Ok c.args.bytes.now) (rows_of s.tables.pending) c.write.ensures.after s.inside;
    }

pub returns-clause-step : goal.returns-clause-step
returns-clause-step g c =
    stepped (append_follows (g.W.Writer.means c.args.self.now.sink) (g.W.Writer.means c.write.new.self) c.args.self.now.tables c.args.bytes.now c.write.result c.write.ensures.answer c.write.ensures.after)
