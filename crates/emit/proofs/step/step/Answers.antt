use Rattle.std.proofs.Common.{◌≡◌, ℕ, ◌<◌, List, get_or, sym, refl, ap, ◌∙◌, arith}
use Rattle.op.specs.declared.operation.Operation.{Operation}
use Rattle.op.specs.declared.operation.Operation.TheVariants as op
use Rattle.book_tables.specs.View.{view}
use Rattle.book_state.specs.State.{State, no_operation, expression_at, operations_of}
use Rattle.book_state.specs.Whole.{Whole}
use Rattle.book_tree.proofs.Shapes.{within_4096}
use Rattle.book_tree.proofs.Trees.{operation_at}
use Rattle.positions.proofs.Filling.{filled-own}
use Rattle.unit.specs.Offsets.{scope_of}
use Rattle.emit.specs.declared.cursor.Open.{Open}
use Rattle.emit.specs.Walk.{starts_of, next_op}
use Rattle.emit.proofs.Turns.{checked_plain, room_plain, free_plain, moved_plain, inner, filled_there, level_free, size_there, room_nested, moved-nested}
use Rattle.emit.proofs.step.step.Goals as goal

-- the operation that comes next, read from those of its expression
read : (b : State) (w : Whole b) (f : Open) → f.next < (expression_at b f.number).count → (xs : List Operation) → xs ≡ operations_of b f.number → get_or xs f.next no_operation ≡ next_op b f
read b w f more xs are = ap (λ (ys : List Operation). get_or ys f.next no_operation) are ∙ operation_at b w f.number f.next more

pub expression-requires-clause-there : goal.expression-requires-clause-there
expression-requires-clause-there g c =
    let b = view c.args.tables.now in let w = c.requires.whole in
    let e = c.args.context.encoding in let s = scope_of c.args.context.unit_offsets in
    let is = sym (read b w c.args.cursor.now.top c.requires.more c.operations.result.now c.operations.ensures.value) ∙ c.in-EntryValue.is in
    inner e s b c.args.ends.now w c.args.cursor.now c.requires.walking.ready c.requires.more c.in-EntryValue.number is

pub end_of-size-requires-clause-there : goal.end_of-size-requires-clause-there
end_of-size-requires-clause-there g c =
    let b = view c.args.tables.now in let w = c.requires.whole in
    let e = c.args.context.encoding in let s = scope_of c.args.context.unit_offsets in
    let is = sym (read b w c.args.cursor.now.top c.requires.more c.operations.result.now c.operations.ensures.value) ∙ c.in-EntryValue.is in
    inner e s b c.args.ends.now w c.args.cursor.now c.requires.walking.ready c.requires.more c.in-EntryValue.number is

pub put_nested-requires : goal.put_nested-requires
put_nested-requires g c =
    let b = view c.args.tables.now in let w = c.requires.whole in let m = c.in-EntryValue.number in
    let e = c.args.context.encoding in let s = scope_of c.args.context.unit_offsets in
    let r = c.requires.walking.ready in
    let is = sym (read b w c.args.cursor.now.top c.requires.more c.operations.result.now c.operations.ensures.value) ∙ c.in-EntryValue.is in
    let f = filled_there e s b c.args.ends.now w c.args.cursor.now r c.requires.more m is in
    let i = size_there e s b c.args.ends.now w c.args.cursor.now r c.requires.more m is c.end_of-size.result
    (c.end_of-size.ensures.value e s (filled-own e s b c.args.ends.now m f) ∙ ap (λ x. get_or (starts_of e s b m) x.count 0) c.expression.ensures.value) in
    room_nested e s b c.args.ends.now w c.args.cursor.now r c.requires.more m is (g.W.Writer.means c.args.w.now) c.end_of-size.result c.requires.walking.room i

pub enter-requires-clause-most : goal.enter-requires-clause-most
enter-requires-clause-most g c =
    let b = view c.args.tables.now in let w = c.requires.whole in
    let e = c.args.context.encoding in let s = scope_of c.args.context.unit_offsets in
    let is = sym (read b w c.args.cursor.now.top c.requires.more c.operations.result.now c.operations.ensures.value) ∙ c.in-EntryValue.is in
    level_free e s b c.args.ends.now w c.args.cursor.now c.requires.walking.ready c.requires.more c.in-EntryValue.number is

pub enter-requires-clause-bounded : goal.enter-requires-clause-bounded
enter-requires-clause-bounded g c =
    let b = view c.args.tables.now in
    let n = within_4096 b c.requires.whole c.args.cursor.now.top.number c.requires.walking.ready.top.there in
    omega (arith, c.requires.more)

pub write_plain-requires : goal.write_plain-requires
write_plain-requires g c =
    let b = view c.args.tables.now in let w = c.requires.whole in
    let e = c.args.context.encoding in let s = scope_of c.args.context.unit_offsets in
    let r = c.requires.walking.ready in let k = g.W.Writer.means c.args.w.now in
    let at = read b w c.args.cursor.now.top c.requires.more c.operations.result.now c.operations.ensures.value in
    let plain : (m : ℕ) → next_op b c.args.cursor.now.top ≡ op.EntryValue m → ⊥ = λ m h. c.in_default.not-EntryValue m (at ∙ h) in
    record {
      whole = w;
      there = r.top.there;
      more = c.requires.more;
      here = at;
      plain = c.in_default.not-EntryValue;
      wide = c.requires.wide;
      filled = r.top.filled;
      checked = checked_plain e s b c.args.ends.now w c.args.cursor.now r c.requires.more plain;
      room = room_plain e s b c.args.ends.now w c.args.cursor.now r c.requires.more plain k c.requires.walking.room;
      free = free_plain e s b c.args.ends.now w c.args.cursor.now r c.requires.more plain _ c.args.count.now _ c.requires.walking.free;
    }

pub returns-in_ok-put_nested-in-EntryValue-clause-moved : goal.returns-in_ok-put_nested-in-EntryValue-clause-moved
returns-in_ok-put_nested-in-EntryValue-clause-moved g c =
    let b = view c.args.tables.now in let w = c.requires.whole in let m = c.in-EntryValue.number in
    let e = c.args.context.encoding in let s = scope_of c.args.context.unit_offsets in
    let r = c.requires.walking.ready in
    let is = sym (read b w c.args.cursor.now.top c.requires.more c.operations.result.now c.operations.ensures.value) ∙ c.in-EntryValue.is in
    let f = filled_there e s b c.args.ends.now w c.args.cursor.now r c.requires.more m is in
    let i = size_there e s b c.args.ends.now w c.args.cursor.now r c.requires.more m is c.end_of-size.result
    (c.end_of-size.ensures.value e s (filled-own e s b c.args.ends.now m f) ∙ ap (λ x. get_or (starts_of e s b m) x.count 0) c.expression.ensures.value) in
    moved-nested e s b c.args.ends.now w c.args.cursor.now r c.requires.more m is
    (g.W.Writer.means c.args.w.now) (g.W.Writer.means c.put_nested.new.w) c.args.rows.now c.args.count.now c.end_of-size.result c.enter.new.self
    c.requires.walking i c.put_nested.ensures.after c.enter.ensures

pub returns-in_ok-write_plain-in_default : goal.returns-in_ok-write_plain-in_default
returns-in_ok-write_plain-in_default g c =
    let b = view c.args.tables.now in let w = c.requires.whole in
    let e = c.args.context.encoding in let s = scope_of c.args.context.unit_offsets in
    let a = c.write_plain.ensures in
    let at = read b w c.args.cursor.now.top c.requires.more c.operations.result.now c.operations.ensures.value in
    let plain : (m : ℕ) → next_op b c.args.cursor.now.top ≡ op.EntryValue m → ⊥ = λ m h. c.in_default.not-EntryValue m (at ∙ h) in
    record {
      answer = refl;
      moved = moved_plain e s b c.args.ends.now w c.args.cursor.now c.requires.walking.ready c.requires.more plain
          (g.W.Writer.means c.args.w.now) (g.W.Writer.means c.write_plain.new.w) c.args.rows.now c.write_plain.new.rows c.args.count.now c.write_plain.new.count
          c.requires.walking a.after a.rows a.count a.long;
      memory = a.memory;
    }
