-- The fields of a section: what each is in bytes, or why it is refused.
use Rattle.std.specs.Prelude.{ℕ, suc, ◌+◌, ◌-◌, ◌/◌, ◌^◌, Bool, cond, ◌||◌, List, [], ◌++◌, length, ℤ, pos, negsuc, Ok, Err, Result, ◌==◌, nat_lt}
use Rattle.common.specs.declared.error.Error.{Error}
use Rattle.common.specs.declared.error.Error.TheVariants.{ValueTooLarge, UnsupportedWordSize, InvalidAddress, NoRoom}
use Rattle.common.specs.declared.address.Address.{Address}
use Rattle.common.specs.declared.address.Address.TheVariants.{Constant, Symbol}
use Rattle.common.specs.declared.encoding.Format.{Format}
use Rattle.common.specs.declared.encoding.Format.TheVariants.{Dwarf32, Dwarf64}
use Rattle.dwarf.specs.Fixed.{fixed_bytes, udata}
use Rattle.writer.specs.Meaning.{Sink, fits}

-- an address: a symbol cannot be resolved
abbrev pub address_data : Bool → Address → ℕ → Result (List ℕ) Error
address_data big (Constant n) width = udata big n width
address_data big (Symbol symbol addend) width = Err InvalidAddress

-- whether two's complement in a width holds a number
abbrev pub in_signed : ℕ → ℤ → Bool
in_signed width (pos n) = nat_lt n (256 ^ width / 2)
in_signed width (negsuc m) = nat_lt m (256 ^ width / 2)

-- two's complement in a width, as an unsigned number
abbrev pub complement : ℕ → ℤ → ℕ
complement width (pos n) = n
complement width (negsuc m) = 256 ^ width - suc m

-- the widths of signed data
abbrev pub is_signed_width : ℕ → Bool
is_signed_width width = width == 1 || (width == 2 || (width == 4 || width == 8))

-- the bytes of a signed number in a width, or the refusal: first of the width, then of the number
abbrev pub sdata : Bool → ℤ → ℕ → Result (List ℕ) Error
sdata big z width =
    cond (is_signed_width width)
    (cond (in_signed width z) (Ok (fixed_bytes big width (complement width z))) (Err ValueTooLarge))
    (Err (UnsupportedWordSize width))

-- what stands before an initial length: in 64-bit DWARF four bytes ff
abbrev pub escape : Bool → Format → List ℕ
escape big Dwarf32 = []
escape big Dwarf64 = fixed_bytes big 4 0xffffffff

-- an initial length of 0, to be patched
abbrev pub no_length : Bool → Format → List ℕ
no_length big Dwarf32 = fixed_bytes big 4 0
no_length big Dwarf64 = fixed_bytes big 4 0xffffffff ++ fixed_bytes big 8 0

-- where the length itself stands, if its bytes fit
abbrev pub length_answer : Sink → Format → Result ℕ Error
length_answer s f = cond (fits s (length (no_length s.big f))) (Ok (length s.content + length (escape s.big f))) (Err NoRoom)

-- an initial length: 32-bit DWARF reserves 0xfffffff0 and above
abbrev pub length_data : Bool → Format → ℕ → Result (List ℕ) Error
length_data big Dwarf32 n = cond (nat_lt n 0xfffffff0) (Ok (fixed_bytes big 4 n)) (Err ValueTooLarge)
length_data big Dwarf64 n = Ok (fixed_bytes big 8 n)
