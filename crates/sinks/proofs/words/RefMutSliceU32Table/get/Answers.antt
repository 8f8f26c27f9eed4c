use Rattle.std.proofs.Common.{arith}
use Rattle.sinks.proofs.Spread.{length-spread}
use Rattle.sinks.proofs.words.RefMutSliceU32Table.get.Goals as goal

pub get_byte-requires : goal.get_byte-requires
get_byte-requires c = let l = length-spread c.args.self.now.now in omega (arith, c.requires)
