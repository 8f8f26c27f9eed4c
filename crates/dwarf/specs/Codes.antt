-- The codes of operations and the operands that follow each (DWARF 5, sections 2.5, 2.6 and 7.7.1, and the GNU extensions).
use Rattle.std.specs.Prelude.{ℕ, Bool, cond, ◌&&◌, ◌||◌, List, [], ◌∷◌, Some, None, Option, ◌==◌, nat_le}
use Rattle.common.specs.declared.encoding.Encoding.{Encoding}
use Rattle.common.specs.Formats.{word_size}

-- what an operand is
pub data Kind : Type 0 where
  -- a number in unsigned LEB128
  unsigned_number : Kind
  -- a number in signed LEB128
  signed_number : Kind
  -- a number in a width of bytes
  number_of : ℕ → Kind
  -- a branch's displacement, in two signed bytes
  branch_displacement : Kind
  -- data behind its length in unsigned LEB128
  counted_data : Kind
  -- data behind its length in one byte
  short_data : Kind
  -- operations behind their length in unsigned LEB128
  nested_operations : Kind

-- codes that have the same operands: the first, the last, and the operands in order
pub record Row : Type 0 where
  pub first : ℕ
  pub last : ℕ
  pub kinds : List Kind

-- the row of one code
abbrev one : ℕ → List Kind → Row
one c kinds = record { first = c; last = c; kinds = kinds }

-- the row of all codes from the first to the last
abbrev from_to : ℕ → ℕ → List Kind → Row
from_to a z kinds = record { first = a; last = z; kinds = kinds }

-- the bytes of the reference that an implicit pointer holds: in version 2 those of an address
abbrev pub pointer_width : Encoding → ℕ
pointer_width e = cond (e.version == 2) e.address_size (word_size e.format)

-- the codes that are read
unfoldable pub table : Encoding → List Row
table e =
    -- addr, deref
    one 0x03 (number_of e.address_size ∷ [])
    ∷ one 0x06 []
    -- constu, consts
    ∷ one 0x10 (unsigned_number ∷ [])
    ∷ one 0x11 (signed_number ∷ [])
    -- dup, drop, over
    ∷ from_to 0x12 0x14 []
    -- pick
    ∷ one 0x15 (number_of 1 ∷ [])
    -- swap, rot, xderef, abs, and, div, minus, mod, mul, neg, not, or, plus
    ∷ from_to 0x16 0x22 []
    -- plus_uconst
    ∷ one 0x23 (unsigned_number ∷ [])
    -- shl, shr, shra, xor
    ∷ from_to 0x24 0x27 []
    -- bra
    ∷ one 0x28 (branch_displacement ∷ [])
    -- eq, ge, gt, le, lt, ne
    ∷ from_to 0x29 0x2e []
    -- skip
    ∷ one 0x2f (branch_displacement ∷ [])
    -- lit0 to lit31, reg0 to reg31
    ∷ from_to 0x30 0x6f []
    -- breg0 to breg31
    ∷ from_to 0x70 0x8f (signed_number ∷ [])
    -- regx, fbreg, bregx, piece
    ∷ one 0x90 (unsigned_number ∷ [])
    ∷ one 0x91 (signed_number ∷ [])
    ∷ one 0x92 (unsigned_number ∷ signed_number ∷ [])
    ∷ one 0x93 (unsigned_number ∷ [])
    -- deref_size, xderef_size
    ∷ from_to 0x94 0x95 (number_of 1 ∷ [])
    -- nop, push_object_address
    ∷ from_to 0x96 0x97 []
    -- call4, call_ref
    ∷ one 0x99 (number_of 4 ∷ [])
    ∷ one 0x9a (number_of (word_size e.format) ∷ [])
    -- form_tls_address, call_frame_cfa
    ∷ from_to 0x9b 0x9c []
    -- bit_piece, implicit_value, stack_value
    ∷ one 0x9d (unsigned_number ∷ unsigned_number ∷ [])
    ∷ one 0x9e (counted_data ∷ [])
    ∷ one 0x9f []
    -- implicit_pointer
    ∷ one 0xa0 (number_of (pointer_width e) ∷ signed_number ∷ [])
    -- entry_value, const_type, regval_type
    ∷ one 0xa3 (nested_operations ∷ [])
    ∷ one 0xa4 (unsigned_number ∷ short_data ∷ [])
    ∷ one 0xa5 (unsigned_number ∷ unsigned_number ∷ [])
    -- deref_type, xderef_type
    ∷ from_to 0xa6 0xa7 (number_of 1 ∷ unsigned_number ∷ [])
    -- convert, reinterpret
    ∷ from_to 0xa8 0xa9 (unsigned_number ∷ [])
    -- GNU_implicit_pointer, GNU_entry_value, GNU_const_type, GNU_regval_type, GNU_deref_type
    ∷ one 0xf2 (number_of (pointer_width e) ∷ signed_number ∷ [])
    ∷ one 0xf3 (nested_operations ∷ [])
    ∷ one 0xf4 (unsigned_number ∷ short_data ∷ [])
    ∷ one 0xf5 (unsigned_number ∷ unsigned_number ∷ [])
    ∷ one 0xf6 (number_of 1 ∷ unsigned_number ∷ [])
    -- GNU_convert, GNU_reinterpret
    ∷ one 0xf7 (unsigned_number ∷ [])
    ∷ one 0xf9 (unsigned_number ∷ [])
    -- GNU_parameter_ref, GNU_variable_value
    ∷ one 0xfa (number_of 4 ∷ [])
    ∷ one 0xfd (number_of (word_size e.format) ∷ [])
    ∷ []

-- a code from the first to the last
abbrev pub within : ℕ → ℕ → ℕ → Bool
within a z c = nat_le a c && nat_le c z

-- the operands in the first of the rows that has the code
unfoldable pub lookup : List Row → ℕ → Option (List Kind)
lookup [] c = None
lookup (r ∷ rows) c = cond (within r.first r.last c) (Some r.kinds) (lookup rows c)

-- the operands that follow a code, or none where the code is not known
unfoldable pub operands : Encoding → ℕ → Option (List Kind)
operands e c = lookup (table e) c

-- the codes of operations without operands
abbrev pub is_plain : ℕ → Bool
is_plain c =
    within 0x06 0x06 c || (within 0x12 0x14 c || (within 0x16 0x22 c || (within 0x24 0x27 c || (within 0x29 0x2e c || (within 0x30 0x6f c || (within 0x96 0x97 c || (within 0x9b 0x9c c || within 0x9f 0x9f c)))))))
