use Rattle.std.proofs.Common.{take, rules}
use Rattle.book.specs.Holds.{holds}
use Rattle.expression.specs.Sealed.{tree_at}
use Rattle.emit.specs.Written.{written, Wrote}
use Rattle.rules.specs.Scope.{in_frame}
use Rattle.section_tables.specs.Rows.{rows_of}
use Rattle.section_tables.specs.View.{units_of}
use Rattle.section_tables.proofs.Lookups.{rows_long}
use Rattle.section_tables.proofs.Widths.{wide-written, rise-written, inside-written}
use Rattle.section_tables.proofs.Writing.{frame_follows}
use Rattle.section.proofs.Carrying.{stepped}
use Rattle.section.proofs.section.Section.write_frame.Goals as goal

pub invariant_of-self : goal.invariant_of-self
invariant_of-self g c =
    let s = c.args.self.now in
    let t = s.tables in
    let k = g.W.Writer.means s.sink in
    let x = tree_at (holds c.args.book.now) c.args.number in
    let w = c.write_expression in
    let rows = take w.new.count w.new.rows in
    let wrote : Wrote (written k t.pending.count c.args.encoding in_frame x) k (g.W.Writer.means w.new.w) (rows_of t.pending) rows w.result = search rules in (
      (
        wide-written k t.pending.count c.args.encoding in_frame (rows_of t.pending) x rows wrote.down t.widths,
        (rise-written k t.pending.count c.args.encoding in_frame (rows_of t.pending) x rows wrote.down t.widths s.inside t.order, tt),
      ),
      (inside-written k t.pending.count c.args.encoding in_frame (rows_of t.pending) x rows wrote.down t.widths s.inside (g.W.Writer.means w.new.w) wrote.after, tt),
    )

pub returns-clause-step : goal.returns-clause-step
returns-clause-step g c =
    let t = c.args.self.now.tables in
    let w = c.write_expression in
    stepped
    (frame_follows (g.W.Writer.means c.args.self.now.sink) (g.W.Writer.means w.new.w) (rows_of t.pending) (take w.new.count w.new.rows) t.pending.count (rows_long t.pending)
    (tree_at (holds c.args.book.now) c.args.number) (units_of t.units) c.args.encoding w.result t.pending.used (rw c.frame.ensures at w.ensures.wrote))
