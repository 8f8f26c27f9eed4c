-- Byte orders. Definitions say by a Bool whether the highest byte of a number comes first.
use Rattle.std.specs.Prelude.{Bool, true, false}
use Rattle.common.specs.declared.endianity.RunTimeEndian.{RunTimeEndian}
use Rattle.common.specs.declared.endianity.RunTimeEndian.TheVariants.{Little, Big}

-- whether an order that is chosen at run time puts the highest byte first
abbrev pub big_of : RunTimeEndian → Bool
big_of Little = false
big_of Big = true
