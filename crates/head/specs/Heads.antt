-- The bytes of an operation before its data, and the width of a reference.
use Rattle.std.specs.Prelude.{ℕ, cond, List, Ok, Err, Result}
use Rattle.common.specs.declared.error.Error.{Error}
use Rattle.common.specs.declared.error.Error.TheVariants.{UnsupportedWordSize, InvalidReference}
use Rattle.common.specs.Held.{held as in_use}
use Rattle.dwarf.specs.Fixed.{is_width}
use Rattle.op.specs.declared.operation.DebugInfoRef.{DebugInfoRef}
use Rattle.op.specs.declared.operation.DebugInfoRef.TheVariants.{Symbol, Entry}
use Rattle.rules.specs.Scope.{Scope, in_frame, in_unit}
use Rattle.head.specs.declared.head.Head.{Head}

-- the bytes that a head holds
abbrev pub held : Head → List ℕ
held h = in_use h.0

abbrev pub bytes_in : Result Head Error → Result (List ℕ) Error
bytes_in (Ok h) = Ok (held h)
bytes_in (Err e) = Err e

-- the width of a reference to an entry; symbols, and entries in a frame expression, are refused before the width
abbrev pub set_down : Scope → DebugInfoRef → ℕ → Result ℕ Error
set_down s (Symbol symbol) width = Err InvalidReference
set_down in_frame (Entry unit entry) width = Err InvalidReference
set_down (in_unit start offsets) (Entry unit entry) width = cond (is_width width) (Ok width) (Err (UnsupportedWordSize width))
