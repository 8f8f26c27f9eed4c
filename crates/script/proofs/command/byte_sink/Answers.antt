use Rattle.std.proofs.Common.{rules}
use Rattle.script.specs.Commands.{byte_sink}
use Rattle.words.specs.Text.{words_in}
use Rattle.script.proofs.Counts.{double_at}
use Rattle.script.proofs.command.byte_sink.Goals as goal

pub returns : goal.returns
returns c =
    let d = double_at byte_sink (words_in c.args.text.now) c.in_ok-capacity.capacity.now c.in_ok-capacity.endian.now c.in_ok-capacity.ensures in
    rw (← d) (search rules)
