use Rattle.std.proofs.Common.{arith}
use Rattle.sinks.proofs.Spread.{byte_got}
use Rattle.sinks.proofs.words.get_byte.Goals as goal

pub returns : goal.returns
returns c = byte_got c.args.table.now c.to_be_bytes-bytes.result c.args.at (omega arith) c.to_be_bytes-bytes.ensures
