use Rattle.std.proofs.Common.{arith}
use Rattle.sinks.proofs.Spread.{length-spread}
use Rattle.sinks.proofs.words.RefMutSliceU32Table.capacity.Goals as goal

pub returns : goal.returns
returns c = let l = length-spread c.args.self.now.now in omega arith
