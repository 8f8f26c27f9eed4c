use Rattle.std.proofs.Common.{◌≡◌, [], ℤ, Ok, subst, w16}
use Rattle.std.proofs.lemmas.Int.{to_z-of_z}
use Rattle.head.specs.Heads.{held}
use Rattle.operation.specs.Fronts.{front}
use Rattle.rules.specs.Encode.{encode_op}
use Rattle.rules.specs.Results.{and_then}
use Rattle.unit.specs.Offsets.{scope_of}
use Rattle.emit.proofs.Putting.{room_head, room_rest, put_both}
use Rattle.emit.proofs.put.put_operation.Goals as goal

pub put-requires : goal.put-requires
put-requires g c =
    let q = subst (λ (z : ℤ). Ok (held c.in_ok-head.head) ≡ and_then (encode_op c.args.context.encoding (scope_of c.args.context.unit_offsets) (λ _. Ok z) c.args.op c.args.data.now) (λ a. Ok (front (g.W.Endian.Endianity.big c.endian.result) [] a)))
    (to_z-of_z w16 c.args.displacement c.ranges.displacement) c.in_ok-head.ensures in
    room_head c.args.context.encoding (scope_of c.args.context.unit_offsets) c.args.displacement c.args.op c.args.data.now (g.W.Writer.means c.args.w.now) (g.W.Endian.Endianity.big c.endian.result)
    c.endian.ensures c.in_ok-head.head c.requires.known c.requires.held q c.bytes.result.now c.bytes.ensures c.requires.room

pub put-requires-2 : goal.put-requires-2
put-requires-2 g c =
    let q = subst (λ (z : ℤ). Ok (held c.in_ok-head.head) ≡ and_then (encode_op c.args.context.encoding (scope_of c.args.context.unit_offsets) (λ _. Ok z) c.args.op c.args.data.now) (λ a. Ok (front (g.W.Endian.Endianity.big c.endian.result) [] a)))
    (to_z-of_z w16 c.args.displacement c.ranges.displacement) c.in_ok-head.ensures in
    room_rest c.args.context.encoding (scope_of c.args.context.unit_offsets) c.args.displacement c.args.op c.args.data.now (g.W.Writer.means c.args.w.now) (g.W.Endian.Endianity.big c.endian.result)
    c.endian.ensures c.in_ok-head.head c.requires.known c.requires.held q c.bytes.result.now c.bytes.ensures c.requires.room
    (g.W.Writer.means c.put.new.w) c.put.ensures.after

pub returns-clause-after : goal.returns-clause-after
returns-clause-after g c =
    let q = subst (λ (z : ℤ). Ok (held c.in_ok-head.head) ≡ and_then (encode_op c.args.context.encoding (scope_of c.args.context.unit_offsets) (λ _. Ok z) c.args.op c.args.data.now) (λ a. Ok (front (g.W.Endian.Endianity.big c.endian.result) [] a)))
    (to_z-of_z w16 c.args.displacement c.ranges.displacement) c.in_ok-head.ensures in
    put_both c.args.context.encoding (scope_of c.args.context.unit_offsets) c.args.displacement c.args.op c.args.data.now (g.W.Writer.means c.args.w.now) (g.W.Endian.Endianity.big c.endian.result)
    c.endian.ensures c.in_ok-head.head c.requires.known c.requires.held q c.bytes.result.now c.bytes.ensures
    (g.W.Writer.means c.put.new.w) (g.W.Writer.means c.put-2.new.w) c.put.ensures.after c.put-2.ensures.after
