use Rattle.std.proofs.Common.{arith}
use Rattle.writer.proofs.fixed.write_fixed_at.Goals as goal

pub bytes-requires : goal.bytes-requires
bytes-requires g c = let n = g.met.T.Fixed.narrow in omega arith

pub shared_whole_as_slice-write_at : goal.shared_whole_as_slice-write_at
shared_whole_as_slice-write_at g c = let n = g.met.T.Fixed.narrow in omega arith
