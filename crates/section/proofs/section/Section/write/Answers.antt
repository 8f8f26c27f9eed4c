use Rattle.std.proofs.Common.{◌≡◌, Err, take, refl, rules}
use Rattle.unit.specs.Offsets.{unit_scope}
use Rattle.book.specs.Holds.{holds}
use Rattle.expression.specs.Sealed.{tree_at}
use Rattle.section_tables.specs.Rows.{rows_of}
use Rattle.section_tables.specs.View.{units_of}
use Rattle.section_tables.proofs.Lookups.{rows_long}
use Rattle.section_tables.proofs.Widths.{wide-written, rise-written, inside-written}
use Rattle.section_tables.proofs.Writing.{write_none, write_follows}
use Rattle.section.proofs.Carrying.{stepped}
use Rattle.section.proofs.section.Section.write.Goals as goal

pub returns-in_err-last-clause-step : goal.returns-in_err-last-clause-step
returns-in_err-last-clause-step g c =
    let t = c.args.self.now.tables in
    let k = g.W.Writer.means c.args.self.now.sink in
    let refused : c.from_residual.result ≡ Err c.in_err-last.field-0.0 = search rules in
    stepped
    (write_none k k (rows_of t.pending) (rows_of t.pending) t.pending.count (rows_long t.pending) (tree_at (holds c.args.book.now) c.args.number)
    (units_of t.units) c.in_err-last.field-0.0 c.from_residual.result c.in_err-last.ensures refused)

pub invariant_of-tables-2 : goal.invariant_of-tables-2
invariant_of-tables-2 g c =
    let s = c.args.self.now in
    let t = s.tables in
    let k = g.W.Writer.means s.sink in
    let x = tree_at (holds c.args.book.now) c.args.number in
    let last = c.in_ok-last.last.now in
    let w = c.write_expression in
    let wrote = rw c.unit.ensures at w.ensures.wrote in
    record {
      widths = wide-written k t.pending.count last.encoding (unit_scope last) (rows_of t.pending) x (take w.new.count w.new.rows) wrote.down t.widths;
      order = rise-written k t.pending.count last.encoding (unit_scope last) (rows_of t.pending) x (take w.new.count w.new.rows) wrote.down t.widths s.inside t.order;
    }

pub invariant_of-self-2 : goal.invariant_of-self-2
invariant_of-self-2 g c =
    let s = c.args.self.now in
    let t = s.tables in
    let last = c.in_ok-last.last.now in
    let w = c.write_expression in
    let wrote = rw c.unit.ensures at w.ensures.wrote in
    record {
      inside = inside-written (g.W.Writer.means s.sink) t.pending.count last.encoding (unit_scope last) (rows_of t.pending) (tree_at (holds c.args.book.now) c.args.number)
          (take w.new.count w.new.rows) wrote.down t.widths s.inside (g.W.Writer.means w.new.w) wrote.after;
    }

pub returns-clause-step : goal.returns-clause-step
returns-clause-step g c =
    let t = c.args.self.now.tables in
    let w = c.write_expression in
    stepped
    (write_follows (g.W.Writer.means c.args.self.now.sink) (g.W.Writer.means w.new.w) (rows_of t.pending) (take w.new.count w.new.rows) t.pending.count (rows_long t.pending)
    (tree_at (holds c.args.book.now) c.args.number) (units_of t.units) c.in_ok-last.last.now w.result w.result c.in_ok-last.ensures refl (rw c.unit.ensures at w.ensures.wrote))
