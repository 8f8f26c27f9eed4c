use Rattle.std.proofs.Common.{◌≡◌, rules}
use Rattle.rules.specs.Scope.{in_frame}
use Rattle.book.specs.Holds.{holds}
use Rattle.expression.specs.Sealed.{tree_at, size_at}
use Rattle.section_tables.specs.View.{view}
use Rattle.section_tables.proofs.Asking.{frame_size_follows}
use Rattle.section.proofs.Carrying.{stepped}
use Rattle.section.proofs.section.Section.size_frame.Goals as goal

pub returns : goal.returns
returns g c =
    let x = tree_at (holds c.args.book.now) c.args.number in
    let answer : c.size_of.result ≡ size_at c.args.encoding in_frame x = search rules in
    stepped (frame_size_follows (view (g.W.Writer.means c.args.self.now.sink) c.args.self.now.tables) x c.args.encoding c.size_of.result answer)
