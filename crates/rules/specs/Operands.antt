-- Operands that depend on the encoding, on offsets or on other operations, with what refuses them.
use Rattle.std.specs.Prelude.{ℕ, ◌+◌, Bool, cond, List, length, ℤ, pos, negsuc, ◌-ℤ◌, Some, None, Ok, Err, Option, Result, nat_le, nat_lt, slice_index}
use Rattle.common.specs.declared.address.Address.{Address}
use Rattle.common.specs.declared.address.Address.TheVariants as address
use Rattle.common.specs.declared.encoding.Encoding.{Encoding}
use Rattle.common.specs.declared.error.Error.{Error}
use Rattle.common.specs.declared.error.Error.TheVariants.{ValueTooLarge, UnsupportedWordSize, InvalidAddress, InvalidReference, BadTarget, BranchOpen}
use Rattle.dwarf.specs.Fixed.{is_width, in_width}
use Rattle.dwarf.specs.Tokens.{Tokens, reference}
use Rattle.op.specs.declared.operation.DebugInfoRef.{DebugInfoRef}
use Rattle.op.specs.declared.operation.DebugInfoRef.TheVariants.{Symbol, Entry}
use Rattle.rules.specs.Results.{and_then}
use Rattle.rules.specs.Scope.{Scope, in_frame, in_unit}

-- a code of version 5 and above, and GNU's code for the versions below
abbrev pub by_version : Encoding → ℕ → ℕ → ℕ
by_version e new old = cond (nat_lt e.version 5) old new

-- an address that a width holds; a symbol has no number
abbrev pub address_in : ℕ → Address → Result ℕ Error
address_in width (address.Constant n) = in_width width n
address_in width (address.Symbol symbol addend) = Err InvalidAddress

-- data whose length fits one byte
abbrev pub short_data_of : List ℕ → Result (List ℕ) Error
short_data_of bs = cond (nat_le (length bs) 255) (Ok bs) (Err ValueTooLarge)

-- a reference to an entry, in front of other operands; symbols, and entries in a frame expression, are refused before the width
abbrev pub referred : Scope → ℕ → DebugInfoRef → Tokens → Result Tokens Error
referred s width (Symbol symbol) rest = Err InvalidReference
referred in_frame width (Entry owner entry) rest = Err InvalidReference
referred (in_unit start offsets) width (Entry owner entry) rest = cond (is_width width) (Ok (reference width owner entry rest)) (Err (UnsupportedWordSize width))

-- from -32,768 to 32,767: the numbers that two signed bytes hold
abbrev pub in_two_bytes : ℤ → Bool
in_two_bytes (pos n) = nat_lt n 32768
in_two_bytes (negsuc m) = nat_lt m 32768

-- where the operation begins that a branch names; the place after the last operation is the expression's end
abbrev pub target_at : List ℕ → Option ℕ → Result ℕ Error
target_at starts None = Err BranchOpen
target_at starts (Some k) = cond (nat_lt k (length starts)) (Ok (slice_index starts k)) (Err BadTarget)

-- a branch's displacement: the target's first byte less the place after the displacement
abbrev pub displacement_from : ℕ → ℕ → Result ℤ Error
displacement_from after to = cond (in_two_bytes (pos to -ℤ pos after)) (Ok (pos to -ℤ pos after)) (Err ValueTooLarge)

-- the place after a branch that begins at p: one byte of code, two of displacement
abbrev pub after_branch : ℕ → ℕ
after_branch p = p + 3

-- the displacement of a branch whose operands end at a place
abbrev pub displaced : List ℕ → ℕ → Option ℕ → Result ℤ Error
displaced starts after target = and_then (target_at starts target) (displacement_from after)
