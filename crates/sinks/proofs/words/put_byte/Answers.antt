use Rattle.std.proofs.Common.{arith}
use Rattle.sinks.proofs.Spread.{byte_put}
use Rattle.sinks.proofs.words.put_byte.Goals as goal

pub returns : goal.returns
returns c = byte_put c.args.table.now c.to_be_bytes-bytes.result c.args.at c.args.b c.from_be_bytes.result (omega arith) (omega arith) c.to_be_bytes-bytes.ensures c.from_be_bytes.ensures
