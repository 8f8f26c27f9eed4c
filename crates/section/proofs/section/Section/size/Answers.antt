use Rattle.std.proofs.Common.{◌≡◌, rules}
use Rattle.book.specs.Holds.{holds}
use Rattle.expression.specs.Sealed.{tree_at, size_at}
use Rattle.rules.specs.Results.{and_then}
use Rattle.unit.specs.Offsets.{unit_scope}
use Rattle.section_tables.specs.Rows.{rows_of}
use Rattle.section_tables.specs.View.{units_of, last_of}
use Rattle.section_tables.proofs.Asking.{size_follows}
use Rattle.section.proofs.Carrying.{stepped}
use Rattle.section.proofs.section.Section.size.Goals as goal

pub returns-in_err-last : goal.returns-in_err-last
returns-in_err-last g c =
    let t = c.args.self.now.tables in
    let x = tree_at (holds c.args.book.now) c.args.number in
    let answer : c.from_residual.result ≡ and_then (last_of (units_of t.units)) (λ u. size_at u.encoding (unit_scope u) x) = search rules in
    stepped (size_follows (g.W.Writer.means c.args.self.now.sink) (units_of t.units) (rows_of t.pending) x c.from_residual.result answer)

pub returns : goal.returns
returns g c =
    let t = c.args.self.now.tables in
    let x = tree_at (holds c.args.book.now) c.args.number in
    let answer : c.size_of.result ≡ and_then (last_of (units_of t.units)) (λ u. size_at u.encoding (unit_scope u) x) = search rules in
    stepped (size_follows (g.W.Writer.means c.args.self.now.sink) (units_of t.units) (rows_of t.pending) x c.size_of.result answer)
