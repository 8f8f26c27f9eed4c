use Rattle.std.proofs.Common.{min, arith, length-take}
use Rattle.sinks.proofs.Lending.{patches}
use Rattle.sinks.proofs.sink.TableSinkWriter.write_at.Goals as goal

pub returns : goal.returns
returns g c =
    let s = c.args.self.now in
    let t = g.T.Table.bytes s.table in
    let l = length-take (min s.len g.T.Table.most) t in
    patches t _ c.args.bytes.now g.T.Table.most s.len c.args.offset (g.T.Table.lender s.table) (g.T.Table.lender c.put.new.self) (g.E.Endianity.big s.endian)
    c.put.ensures.value c.put.ensures.lender (omega (arith, s.within))
