use Rattle.std.proofs.Common.{◌≡◌, Bool, true, false, [], ◌∷◌, refl, rules}
use Rattle.common.specs.declared.encoding.Format.TheVariants.{Dwarf64}
use Rattle.fields.specs.Fields.{no_length}
use Rattle.fields.proofs.append.write_initial_length.Goals as goal

-- either byte order gives the same twelve bytes
either_order : (big : Bool) → no_length big Dwarf64 ≡ 255 ∷ 255 ∷ 255 ∷ 255 ∷ 0 ∷ 0 ∷ 0 ∷ 0 ∷ 0 ∷ 0 ∷ 0 ∷ 0 ∷ []
either_order true = refl
either_order false = refl

pub returns-in_err-write-in-Dwarf64 : goal.returns-in_err-write-in-Dwarf64
returns-in_err-write-in-Dwarf64 g c = let e = either_order (g.W.Writer.means c.args.w.now).big in search rules
