use Rattle.std.proofs.Common.{arith}
use Rattle.writer.proofs.fixed.write_fixed.Goals as goal

pub bytes-requires : goal.bytes-requires
bytes-requires g c = let n = g.met.T.Fixed.narrow in omega arith

pub shared_whole_as_slice-write : goal.shared_whole_as_slice-write
shared_whole_as_slice-write g c = let n = g.met.T.Fixed.narrow in omega arith
