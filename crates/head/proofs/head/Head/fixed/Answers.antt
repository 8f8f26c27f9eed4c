use Rattle.std.proofs.Common.{ℕ, ◌+◌, List, length, ap, ◌∙◌}
use Rattle.dwarf.proofs.Widths.{length_fixed}
use Rattle.head.proofs.head.Head.fixed.Goals as goal

pub returns-clause-size : goal.returns-clause-size
returns-clause-size g c =
    c.with.ensures.size
    ∙ ap (λ (n : ℕ). c.args.self.0.len + n) (ap (λ (l : List ℕ). length l) (c.as_slice.ensures ∙ c.low_bytes.ensures) ∙ length_fixed (g.E.Endianity.big c.args.endian) c.args.width _)
