use Rattle.std.proofs.Common.{rules}
use Rattle.script.specs.Commands.{book_lengths}
use Rattle.words.specs.Text.{words_in}
use Rattle.script.proofs.Counts.{double_at}
use Rattle.script.proofs.command.book.Goals as goal

pub returns-in_err-number-2 : goal.returns-in_err-number-2
returns-in_err-number-2 c =
    let d = double_at book_lengths (words_in c.args.text.now) c.in_ok-operations.operations.now c.in_ok-operations.data.now c.in_ok-operations.ensures in
    rw (← d) (search rules)

pub returns : goal.returns
returns c =
    let d = double_at book_lengths (words_in c.args.text.now) c.in_ok-operations.operations.now c.in_ok-operations.data.now c.in_ok-operations.ensures in
    rw (← d) (search rules)
