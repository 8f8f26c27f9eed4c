-- The examples, evaluated.
use Rattle.std.proofs.Common.{refl}
use Rattle.dwarf.specs.Leb.{read_groups, read_uleb, read_sgroups, read_sleb}
use Rattle.dwarf.specs.Fixed.{number, read_fixed}
use Rattle.dwarf.specs.Codes.{lookup, table, operands}
use Rattle.dwarf.specs.Reading.{read_counted, read_short, reading, read}
use Rattle.dwarf.specs.Examples.{ExamplesRead}

pub examples_read : ExamplesRead
unfolding read_groups read_uleb read_sgroups read_sleb number read_fixed lookup table operands read_counted read_short reading read
examples_read = record { locations_read = refl; others_read = refl; extensions_read = refl; unreadable_not = refl; odd_not = refl }
