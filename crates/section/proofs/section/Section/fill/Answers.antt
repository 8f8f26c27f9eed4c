use Rattle.std.proofs.Common.{◌≡◌, Err, length, get_or, sym, ap, ◌∙◌, rules}
use Rattle.common.specs.declared.error.Error.TheVariants.{NotPlaced, NotPending}
use Rattle.dwarf.specs.Fixed.{udata}
use Rattle.section_tables.specs.Rows.{no_row, rows_of}
use Rattle.section_tables.specs.View.{units_of}
use Rattle.section_tables.proofs.Insides.{inside-freed, inside-patched}
use Rattle.section_tables.proofs.Filling.{fill_none, fill_unplaced, fill_large, fill_follows}
use Rattle.section.proofs.Carrying.{stepped}
use Rattle.section.proofs.section.Section.fill.Goals as goal

pub returns-in_err-index-clause-step : goal.returns-in_err-index-clause-step
returns-in_err-index-clause-step g c =
    let t = c.args.self.now.tables in
    let refused : c.from_residual.result ≡ Err NotPending = search rules in
    stepped
    (fill_none (g.W.Writer.means c.args.self.now.sink) (units_of t.units) (rows_of t.pending) c.len-size.result c.args.offset c.len-size.ensures.value c.from_residual.result refused
    c.find.result c.in_err-index.ensures.ok_part c.find.ensures)

pub returns-in_err-target-clause-step : goal.returns-in_err-target-clause-step
returns-in_err-target-clause-step g c =
    let t = c.args.self.now.tables in
    let refused : c.from_residual-in_err-target.result ≡ Err NotPlaced = search rules in
    stepped
    (fill_unplaced (g.W.Writer.means c.args.self.now.sink) (units_of t.units) (rows_of t.pending) c.len-size.result c.args.offset c.len-size.ensures.value c.in_ok-index.index c.find.result c.in_ok-index.ensures.ok_part c.find.ensures t.widths
    c.from_residual-in_err-target.result refused (sym (rw c.pending_rows.ensures at c.entry_offset-entry.ensures) ∙ c.in_err-target.ensures.ok_part))

pub returns-in_err-write_udata_at-clause-step : goal.returns-in_err-write_udata_at-clause-step
returns-in_err-write_udata_at-clause-step g c =
    let t = c.args.self.now.tables in
    let e : c.from_residual-in_err-write_udata_at.result ≡ c.write_udata_at.result = search rules in
    stepped
    (fill_large (g.W.Writer.means c.args.self.now.sink) (units_of t.units) (rows_of t.pending) c.len-size.result c.args.offset c.len-size.ensures.value c.in_ok-index.index c.find.result c.in_ok-index.ensures.ok_part c.find.ensures t.widths
    c.in_ok-target.target (sym (rw c.pending_rows.ensures at c.entry_offset-entry.ensures) ∙ c.in_ok-target.ensures.ok_part)
    c.from_residual-in_err-write_udata_at.result (g.W.Writer.means c.write_udata_at.new.w)
    (e ∙ (rw c.pending_rows.ensures at c.write_udata_at.ensures.answer)) (rw c.pending_rows.ensures at c.write_udata_at.ensures.after)
    c.in_err-write_udata_at.field-0.0 (e ∙ c.in_err-write_udata_at.was))

pub invariant_of-self-2 : goal.invariant_of-self-2
invariant_of-self-2 g c =
    let s = c.args.self.now in
    let k = g.W.Writer.means s.sink in
    let k' = g.W.Writer.means c.write_udata_at.new.w in
    record {
      inside = inside-freed (length k'.content) (rows_of s.tables.pending) (rows_of c.close.new.self.pending) c.in_ok-index.index c.close.ensures.rows
          (inside-patched k k' c.args.offset (udata k.big c.in_ok-target.target (get_or (rows_of s.tables.pending) c.in_ok-index.index no_row).width) (rows_of s.tables.pending)
          (rw c.pending_rows.ensures at c.write_udata_at.ensures.after) s.inside);
    }

pub returns-clause-step : goal.returns-clause-step
returns-clause-step g c =
    let t = c.args.self.now.tables in
    let same : units_of c.close.new.self.units ≡ units_of t.units = ap units_of c.close.ensures.units in
    stepped
    (rw same (fill_follows (g.W.Writer.means c.args.self.now.sink) (units_of t.units) (rows_of t.pending) c.len-size.result c.args.offset c.len-size.ensures.value c.in_ok-index.index c.find.result c.in_ok-index.ensures.ok_part c.find.ensures t.widths
    c.in_ok-target.target (sym (rw c.pending_rows.ensures at c.entry_offset-entry.ensures) ∙ c.in_ok-target.ensures.ok_part)
    c.write_udata_at.result (g.W.Writer.means c.write_udata_at.new.w)
    (rw c.pending_rows.ensures at c.write_udata_at.ensures.answer) (rw c.pending_rows.ensures at c.write_udata_at.ensures.after)
    c.in_ok-write_udata_at.field-0 (rows_of c.close.new.self.pending) c.in_ok-write_udata_at.was c.close.ensures.rows))
