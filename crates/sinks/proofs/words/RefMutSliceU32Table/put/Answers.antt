use Rattle.std.proofs.Common.{◌+◌, length, get_or, take, set, ap, ◌∙◌, arith, length-take}
use Rattle.sinks.specs.Words.{spread}
use Rattle.sinks.proofs.Replaced.{put_more, put-length}
use Rattle.sinks.proofs.Spread.{length-spread}
use Rattle.sinks.proofs.words.RefMutSliceU32Table.put.Goals as goal

pub put_byte-requires : goal.put_byte-requires
put_byte-requires c =
    let t = spread c.args.self.now.now in
    let bs = take c.loop-i.i c.args.more.now in
    let f = length-take c.loop-i.i c.args.more.now in
    let l = put-length t bs c.args.at (omega (arith, c.requires)) in
    omega (arith, c.requires, ap length c.loop-i.invariant.0, length-spread c.loop-i.self.now)

pub loop-i-preserved : goal.loop-i-preserved
loop-i-preserved c =
    let t = spread c.args.self.now.now in
    let bs = c.args.more.now in
    let i = c.loop-i.i in
    let l = length-spread c.args.self.now.now in (
      c.put_byte.ensures ∙ ap (λ x. set x (c.args.at + i) (get_or bs i 0)) c.loop-i.invariant.0 ∙ put_more t bs c.args.at i (omega arith) (omega (arith, c.requires)),
      c.loop-i.invariant.1,
    )
