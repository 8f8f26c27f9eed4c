use Rattle.std.proofs.Common.{◌+◌, ◌≤◌, length, rules}
use Rattle.book_state.proofs.Raw.{raw_inside}
use Rattle.book_tables.specs.View.{view}
use Rattle.book_tables.proofs.tables.Tables.as_raw.Goals as goal

pub slice_bounds-result-end-2 : goal.slice_bounds-result-end-2
slice_bounds-result-end-2 c =
    let t = c.in_ok-expression.ensures.there in
    let h : c.in_ok-data.data.start + c.in_ok-data.data.len ≤ length c.args.self.now.bytes.now =
    raw_inside (view c.args.self.now) c.requires c.args.number c.in_ok-expression.expression c.in_ok-data.data t.0 t.2 c.if-expression-ne1.false c.in_ok-data.ensures in
    search rules
