-- The answer of a call that leaves room for an initial length.
use Rattle.std.specs.Prelude.{ℕ, Ok, Err, Result}
use Rattle.common.specs.declared.error.Error.{Error}
use Rattle.fields.specs.declared.append.InitialLengthOffset.{InitialLengthOffset}

-- the offset that is answered, or the refusal
abbrev pub offset_of : Result InitialLengthOffset Error → Result ℕ Error
offset_of (Ok o) = Ok o.0
offset_of (Err e) = Err e
