use Rattle.std.proofs.Common.{◌≡◌, length, take}
use Rattle.book_tables.specs.View.{view}
use Rattle.unit.specs.Offsets.{scope_of}
use Rattle.writer.specs.Meaning.{Keeps}
use Rattle.emit.specs.Walk.{begin, come, left, to_do, Walking}
use Rattle.emit.proofs.walk.emit.Given as goal

abbrev pub decreases-walk : goal.decreases-walk
decreases-walk g l = to_do (view l.tables) l.cursor

-- the sink and the rows come to what the whole expression makes of them
abbrev pub invariant-walk : goal.invariant-walk
invariant-walk g l =
    let e = l.context.encoding in let s = scope_of l.context.unit_offsets in let b = view l.tables in
    Walking e s b l.ends (g.W.Writer.means l.w) l.rows l.count l.cursor
    × (come (g.W.Writer.means l.w) (take l.count l.rows) (left e s b l.cursor)
    ≡ come (g.W.Writer.means l.initial.w) (take l.initial.count l.initial.rows) (left e s b (begin l.number)))
    × (length l.rows ≡ length l.initial.rows)
    × Keeps (g.W.Writer.memory l.initial.w) (g.W.Writer.memory l.w) (length (g.W.Writer.means l.w).content)
