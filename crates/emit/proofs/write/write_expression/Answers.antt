use Rattle.std.proofs.Common.{List, take, Ok, Err, sym, ap, ◌∙◌, subst, arith}
use Rattle.common.specs.declared.error.Error.TheVariants.{NoRoom, TooManyReferences}
use Rattle.common.specs.declared.fixup.DebugInfoFixup.{DebugInfoFixup}
use Rattle.book_state.specs.State.{State}
use Rattle.book_state.specs.Whole.{Whole}
use Rattle.book_tables.specs.View.{view}
use Rattle.expression.specs.Sealed.{tree_at}
use Rattle.unit.specs.Offsets.{scope_of}
use Rattle.emit.specs.Walk.{come}
use Rattle.emit.specs.Written.{written, Wrote}
use Rattle.emit.proofs.Outcomes.{wrote_refused, wrote_all, size_known, written_many, written_full, written-fits, left-begin, walking_begin}
use Rattle.emit.proofs.write.write_expression.Goals as goal

pub overflow_add-count : goal.overflow_add-count
overflow_add-count g c =
    let b = view c.tables-tables.result.now in
    let w : Whole b = subst Whole (sym c.tables-tables.ensures) c.args.book.now.whole in
    let l = w.counted.light c.args.number in
    let few = c.in_ok-references.ensures.few in
    record { fits = omega (arith, c.requires.used) }

pub returns-then-count-references-gt512-clause-wrote : goal.returns-then-count-references-gt512-clause-wrote
returns-then-count-references-gt512-clause-wrote g c =
    let b = view c.tables-tables.result.now in let e = c.args.context.encoding in let s = scope_of c.args.context.unit_offsets in
    let k = g.W.Writer.means c.args.w.now in let n = c.args.count.now in let rows : List DebugInfoFixup = take n c.args.rows.now in
    subst (λ (y : State). Wrote (written k n e s (tree_at y c.args.number)) k k rows rows (Err TooManyReferences)) c.tables-tables.ensures
    (wrote_refused _ k rows TooManyReferences
    (written_many e s b c.args.number c.if-number-tables.false c.in_ok-size.size c.in_ok-references.references
    c.in_ok-size.ensures.value c.in_ok-references.ensures.value k n c.if-count-references-gt512.true))

pub returns-then-size-room-clause-wrote : goal.returns-then-size-room-clause-wrote
returns-then-size-room-clause-wrote g c =
    let b = view c.tables-tables.result.now in let e = c.args.context.encoding in let s = scope_of c.args.context.unit_offsets in
    let k = g.W.Writer.means c.args.w.now in let n = c.args.count.now in let rows : List DebugInfoFixup = take n c.args.rows.now in
    let v = c.room.ensures.value in let o = c.room.ensures.sound in
    subst (λ (y : State). Wrote (written k n e s (tree_at y c.args.number)) k k rows rows (Err NoRoom)) c.tables-tables.ensures
    (wrote_refused _ k rows NoRoom
    (written_full e s b c.args.number c.if-number-tables.false c.in_ok-size.size c.in_ok-references.references
    c.in_ok-size.ensures.value c.in_ok-references.ensures.value k n c.if-count-references-gt512.false (omega (arith, c.if-size-room.true, v, o.within))))

pub emit-requires-clause-walking : goal.emit-requires-clause-walking
emit-requires-clause-walking g c =
    let b = view c.tables-tables.result.now in let e = c.args.context.encoding in let s = scope_of c.args.context.unit_offsets in
    let k = g.W.Writer.means c.args.w.now in let n = c.args.count.now in
    let w : Whole b = subst Whole (sym c.tables-tables.ensures) c.args.book.now.whole in
    let v = c.room.ensures.value in let o = c.room.ensures.sound in
    walking_begin e s b c.args.number c.if-number-tables.false c.in_ok-size.size c.in_ok-references.references
    c.in_ok-size.ensures.value c.in_ok-references.ensures.value w c.measure_expression.new.ends.places.now k c.args.rows.now n
    c.in_ok-size.ensures.filled c.requires.table c.if-count-references-gt512.false (omega (arith, c.if-size-room.false, v, o.within))

pub returns-clause-wrote : goal.returns-clause-wrote
returns-clause-wrote g c =
    let b = view c.tables-tables.result.now in let e = c.args.context.encoding in let s = scope_of c.args.context.unit_offsets in
    let k = g.W.Writer.means c.args.w.now in let n = c.args.count.now in let rows : List DebugInfoFixup = take n c.args.rows.now in
    let k' = g.W.Writer.means c.emit.new.w in let rows' : List DebugInfoFixup = take c.emit.new.count c.emit.new.rows in
    let there = c.if-number-tables.false in
    let w : Whole b = subst Whole (sym c.tables-tables.ensures) c.args.book.now.whole in
    let v = c.room.ensures.value in let o = c.room.ensures.sound in
    let x = c.in_ok-size.ensures.value in let y = c.in_ok-references.ensures.value in
    let size = c.in_ok-size.size in let refs = c.in_ok-references.references in
    subst (λ (z : State). Wrote (written k n e s (tree_at z c.args.number)) k k' rows rows' (Ok size)) c.tables-tables.ensures
    (wrote_all _ k k' rows rows' size _
    (written-fits e s b c.args.number there size refs x y k n c.if-count-references-gt512.false (omega (arith, c.if-size-room.false, v, o.within)))
    (size_known e s b c.args.number there size refs x y)
    (c.emit.ensures.came ∙ ap (come k rows) (left-begin e s b c.args.number there size refs x y w)))
