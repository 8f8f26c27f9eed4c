use Rattle.std.proofs.Common.{◌≡◌, ℕ, ◌+◌, List, ◌++◌, length, take, ℤ, Ok, sym, refl, ap, ◌∙◌, subst, arith, w16, to_z, of_z, rules}
use Rattle.std.specs.Option.{option_to_list}
use Rattle.common.specs.declared.fixup.DebugInfoFixup.{DebugInfoFixup}
use Rattle.dwarf.specs.Bytes.{bytes_of}
use Rattle.dwarf.specs.References.{references}
use Rattle.dwarf.specs.Tokens.{Tokens}
use Rattle.book_tables.specs.View.{view}
use Rattle.op.specs.declared.operation.Operation.{Operation}
use Rattle.book_state.specs.Operations.{shape}
use Rattle.book_tree.specs.Store.{InBook}
use Rattle.book_tree.proofs.Shapes.{inside_book}
use Rattle.operation.specs.Rows.{row_of}
use Rattle.positions.proofs.Filling.{filled-own}
use Rattle.unit.specs.Offsets.{scope_of}
use Rattle.emit.specs.Walk.{grown, tokens_at, leads_to}
use Rattle.emit.proofs.Known.{not_led, tokens_are, room_known, row_is}
use Rattle.emit.proofs.step.write_plain.Goals as goal

pub displacement_of-requires-clause-small : goal.displacement_of-requires-clause-small
displacement_of-requires-clause-small g c =
    let b = view c.args.tables.now in let k = c.args.at.number in
    λ i l. (filled-own c.args.context.encoding (scope_of c.args.context.unit_offsets) b c.args.ends.now k c.requires.filled i l k c.requires.there (omega arith) (omega arith)).1

pub returns-in_err-displacement : goal.returns-in_err-displacement
returns-in_err-displacement g c =
    let b = view c.args.tables.now in let e = c.args.context.encoding in let s = scope_of c.args.context.unit_offsets in
    absurd (not_led e s b c.args.at c.in_err-displacement.field-0.0
    (c.in_err-displacement.ensures e s (filled-own e s b c.args.ends.now c.args.at.number c.requires.filled)) c.requires.checked)

pub data_of-requires : goal.data_of-requires
data_of-requires g c =
    let b = view c.args.tables.now in let w = c.requires.whole in
    subst (λ (x : Operation). InBook b (shape x)) (sym c.requires.here) (inside_book b w c.args.at.number c.requires.there c.args.at.next c.requires.more)

pub put_operation-requires-clause-room : goal.put_operation-requires-clause-room
put_operation-requires-clause-room g c =
    let b = view c.args.tables.now in let e = c.args.context.encoding in let s = scope_of c.args.context.unit_offsets in let at = c.args.at in
    let ds = c.data_of.result.now in
    let z = c.in_ok-displacement.displacement in
    let same : to_z w16 (of_z w16 z) ≡ z = search rules in
    let led = subst (λ (y : ℤ). leads_to e s b at (Ok y)) (sym same) (c.in_ok-displacement.ensures e s (filled-own e s b c.args.ends.now at.number c.requires.filled)) in
    room_known e s b at c.args.op c.requires.here ds c.data_of.ensures (to_z w16 (of_z w16 z)) led c.requires.checked (g.W.Writer.means c.args.w.now) c.requires.room

pub put_row-requires : goal.put_row-requires
put_row-requires g c =
    let b = view c.args.tables.now in let e = c.args.context.encoding in let s = scope_of c.args.context.unit_offsets in let at = c.args.at in
    let led = c.in_ok-displacement.ensures e s (filled-own e s b c.args.ends.now at.number c.requires.filled) in
    let row = row_is e s b at c.args.op c.requires.here c.data_of.result.now c.data_of.ensures c.in_ok-displacement.displacement led c.requires.checked in
    let n = length (g.W.Writer.means c.args.w.now).content in
    let l : length (option_to_list c.reference_of.result) ≡ length (references n (tokens_at e s b at)) =
    ap length (c.reference_of.ensures ∙ (ap (λ (m : ℕ). row_of e m c.args.op) c.len-offset.ensures.value ∙ row n)) in
    omega (arith, c.requires.free)

pub returns : goal.returns
returns g c =
    let b = view c.args.tables.now in let e = c.args.context.encoding in let s = scope_of c.args.context.unit_offsets in let at = c.args.at in
    let k = g.W.Writer.means c.args.w.now in
    let ds = c.data_of.result.now in
    let z = c.in_ok-displacement.displacement in
    let same : to_z w16 (of_z w16 z) ≡ z = search rules in
    let led = c.in_ok-displacement.ensures e s (filled-own e s b c.args.ends.now at.number c.requires.filled) in
    let led' = subst (λ (y : ℤ). leads_to e s b at (Ok y)) (sym same) led in
    let n = length (g.W.Writer.means c.args.w.now).content in
    let r : option_to_list c.reference_of.result ≡ references n (tokens_at e s b at) =
    c.reference_of.ensures ∙ (ap (λ (m : ℕ). row_of e m c.args.op) c.len-offset.ensures.value ∙ row_is e s b at c.args.op c.requires.here ds c.data_of.ensures z led c.requires.checked n) in
    record {
      answer = refl;
      after = c.put_operation.ensures.after ∙ ap (λ (t : Tokens). grown k (bytes_of k.big t)) (tokens_are e s b at c.args.op c.requires.here ds c.data_of.ensures (to_z w16 (of_z w16 z)) led' c.requires.checked);
      rows = c.put_row.ensures.after ∙ ap (λ (l : List DebugInfoFixup). take c.args.count.now c.args.rows.now ++ l) r;
      count = c.put_row.ensures.value ∙ ap (λ (l : List DebugInfoFixup). c.args.count.now + length l) r;
      long = c.put_row.ensures.long;
      memory = c.put_operation.ensures.memory;
    }
