use Rattle.std.proofs.Common.{◌<◌, length, arith, rules, length-drop, false-eqb}
use Rattle.words.specs.Text.{line_feed}
use Rattle.words.proofs.Splitting.{pieces_more}
use Rattle.words.proofs.text.next_line.Goals as goal

pub returns : goal.returns
returns c =
    let cs = c.args.text.now in
    let some : 0 < length cs = omega (arith, false-eqb (length cs) 0 c.if-is_empty.ensures) in
    let cut = c.cut.ensures line_feed (λ x r e. search rules) in
    record { lines = pieces_more line_feed cs _ _ some cut; shorter = grind (arith, length-drop, cut.after) }
