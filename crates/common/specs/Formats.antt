-- The sizes that a DWARF format fixes (DWARF 5, sections 7.2.2 and 7.4).
use Rattle.std.specs.Prelude.{ℕ}
use Rattle.common.specs.declared.encoding.Format.{Format}
use Rattle.common.specs.declared.encoding.Format.TheVariants.{Dwarf32, Dwarf64}

-- the bytes of a section offset
abbrev pub word_size : Format → ℕ
word_size Dwarf32 = 4
word_size Dwarf64 = 8

-- the bytes of an initial length: in 64-bit DWARF four bytes ff come before it
abbrev pub initial_length_size : Format → ℕ
initial_length_size Dwarf32 = 4
initial_length_size Dwarf64 = 12
