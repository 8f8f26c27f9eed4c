use Rattle.std.proofs.Common.{◌≡◌, true, false, sym, ◌∙◌}
use native.Mathlib.Nat.{div-div-eq-div-mul}
use Rattle.writer.proofs.fixed.U128Fixed16.bytes.Goals as goal

pub returns-then-is_big_endian : goal.returns-then-is_big_endian
returns-then-is_big_endian g c = let b : g.E.Endianity.big c.args.endian ≡ true = sym c.is_big_endian.ensures ∙ c.if-is_big_endian.true in simp (b, div-div-eq-div-mul) c.to_be_bytes.ensures

pub returns-else-is_big_endian : goal.returns-else-is_big_endian
returns-else-is_big_endian g c = let b : g.E.Endianity.big c.args.endian ≡ false = sym c.is_big_endian.ensures ∙ c.if-is_big_endian.false in simp (b, div-div-eq-div-mul) c.to_le_bytes.ensures
