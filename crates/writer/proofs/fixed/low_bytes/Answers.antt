use Rattle.std.proofs.Common.{sym, ◌∙◌}
use Rattle.common.specs.Held.{held}
use Rattle.writer.proofs.Low.{cut_first, cut_last}
use Rattle.writer.proofs.fixed.low_bytes.Goals as goal

pub returns-then-is_big_endian : goal.returns-then-is_big_endian
returns-then-is_big_endian g c =
    cut_last _ (held c.new-low.result) c.bytes-all.result _ c.args.val c.args.width c.new-low.ensures.value c.bytes-all.ensures c.requires
    (sym c.is_big_endian.ensures ∙ c.if-is_big_endian.true) c.extend.ensures.value

pub returns-else-is_big_endian : goal.returns-else-is_big_endian
returns-else-is_big_endian g c =
    cut_first _ (held c.new-low.result) c.bytes-all.result _ c.args.val c.args.width c.new-low.ensures.value c.bytes-all.ensures c.requires
    (sym c.is_big_endian.ensures ∙ c.if-is_big_endian.false) c.extend-else-is_big_endian.ensures.value
