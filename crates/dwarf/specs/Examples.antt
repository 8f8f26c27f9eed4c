-- Bytes, and the operations that DWARF says they are.
use Rattle.std.specs.Prelude.{◌≡◌, ℕ, Bool, true, false, List, [], ◌∷◌, map, pos, negsuc, Some, None, Option}
use Rattle.common.specs.declared.encoding.Format.TheVariants.{Dwarf32, Dwarf64}
use Rattle.common.specs.declared.encoding.Encoding.{Encoding}
use Rattle.dwarf.specs.Tokens.{Tokens, done, code, unsigned, signed, fixed, displacement, block, short, nested}
use Rattle.dwarf.specs.Reading.{read}

-- version 5 in 32-bit DWARF, with addresses of four bytes
abbrev small : Encoding
small = record { address_size = 4; format = Dwarf32; version = 5 }

-- version 2 in 64-bit DWARF, with addresses of two bytes
abbrev old : Encoding
old = record { address_size = 2; format = Dwarf64; version = 2 }

-- addresses of five bytes, a width that no data has
abbrev odd : Encoding
odd = record { address_size = 5; format = Dwarf32; version = 5 }

-- what the bytes of examples read as
abbrev pub readings : Bool → Encoding → List (List ℕ × Tokens) → List (Option Tokens)
readings big e xs = map (λ x. read big e x.0) xs

-- what they should read as
abbrev pub expected : List (List ℕ × Tokens) → List (Option Tokens)
expected xs = map (λ x. Some x.1) xs

-- the location descriptions of DWARF 5, section D.1.3
abbrev pub locations : List (List ℕ × Tokens)
locations =
    -- reg3; regx 54; addr 0x80d0045c; breg11 44; fbreg -50
    (0x53 ∷ [], code 0x53 done)
    ∷ (0x90 ∷ 54 ∷ [], code 0x90 (unsigned 54 done))
    ∷ (0x03 ∷ 0x5c ∷ 0x04 ∷ 0xd0 ∷ 0x80 ∷ [], code 0x03 (fixed 4 0x80d0045c done))
    ∷ (0x7b ∷ 44 ∷ [], code 0x7b (signed (pos 44) done))
    ∷ (0x91 ∷ 0x4e ∷ [], code 0x91 (signed (negsuc 49) done))
    -- bregx 54 32, deref; plus_uconst 4
    ∷ (0x92 ∷ 54 ∷ 32 ∷ 0x06 ∷ [], code 0x92 (unsigned 54 (signed (pos 32) (code 0x06 done))))
    ∷ (0x23 ∷ 4 ∷ [], code 0x23 (unsigned 4 done))
    -- reg3, piece 4, reg10, piece 2
    ∷ (0x53 ∷ 0x93 ∷ 4 ∷ 0x5a ∷ 0x93 ∷ 2 ∷ [], code 0x53 (code 0x93 (unsigned 4 (code 0x5a (code 0x93 (unsigned 2 done))))))
    -- breg1 0, breg2 0, plus, stack_value
    ∷ (0x71 ∷ 0 ∷ 0x72 ∷ 0 ∷ 0x22 ∷ 0x9f ∷ [], code 0x71 (signed (pos 0) (code 0x72 (signed (pos 0) (code 0x22 (code 0x9f done))))))
    -- entry_value of reg5, stack_value
    ∷ (0xa3 ∷ 1 ∷ 0x55 ∷ 0x9f ∷ [], code 0xa3 (nested (code 0x55 done) (code 0x9f done)))
    ∷ []

-- the other operations with operands
abbrev pub others : List (List ℕ × Tokens)
others =
    -- constu 200; consts -200; pick 2; bra -4; skip 1
    (0x10 ∷ 0xc8 ∷ 1 ∷ [], code 0x10 (unsigned 200 done))
    ∷ (0x11 ∷ 0xb8 ∷ 0x7e ∷ [], code 0x11 (signed (negsuc 199) done))
    ∷ (0x15 ∷ 2 ∷ [], code 0x15 (fixed 1 2 done))
    ∷ (0x28 ∷ 0xfc ∷ 0xff ∷ [], code 0x28 (displacement (negsuc 3) done))
    ∷ (0x2f ∷ 1 ∷ 0 ∷ 0x35 ∷ [], code 0x2f (displacement (pos 1) (code 0x35 done)))
    -- deref_size 2; call4 0x12; call_ref 0x123; bit_piece 3 5; implicit_value of two bytes
    ∷ (0x94 ∷ 2 ∷ [], code 0x94 (fixed 1 2 done))
    ∷ (0x99 ∷ 0x12 ∷ 0 ∷ 0 ∷ 0 ∷ [], code 0x99 (fixed 4 0x12 done))
    ∷ (0x9a ∷ 0x23 ∷ 1 ∷ 0 ∷ 0 ∷ [], code 0x9a (fixed 4 0x123 done))
    ∷ (0x9d ∷ 3 ∷ 5 ∷ [], code 0x9d (unsigned 3 (unsigned 5 done)))
    ∷ (0x9e ∷ 2 ∷ 0xaa ∷ 0xbb ∷ 0x96 ∷ [], code 0x9e (block (0xaa ∷ 0xbb ∷ []) (code 0x96 done)))
    -- implicit_pointer 0x123 -1; const_type 130 of one byte; regval_type 3 4; deref_type 2 4; convert 0
    ∷ (0xa0 ∷ 0x23 ∷ 1 ∷ 0 ∷ 0 ∷ 0x7f ∷ [], code 0xa0 (fixed 4 0x123 (signed (negsuc 0) done)))
    ∷ (0xa4 ∷ 0x82 ∷ 1 ∷ 1 ∷ 7 ∷ [], code 0xa4 (unsigned 130 (short (7 ∷ []) done)))
    ∷ (0xa5 ∷ 3 ∷ 4 ∷ [], code 0xa5 (unsigned 3 (unsigned 4 done)))
    ∷ (0xa6 ∷ 2 ∷ 4 ∷ [], code 0xa6 (fixed 1 2 (unsigned 4 done)))
    ∷ (0xa8 ∷ 0 ∷ [], code 0xa8 (unsigned 0 done))
    -- an entry value inside an entry value
    ∷ (0xa3 ∷ 4 ∷ 0xf3 ∷ 2 ∷ 0x75 ∷ 0x7f ∷ 0x9f ∷ [], code 0xa3 (nested (code 0xf3 (nested (code 0x75 (signed (negsuc 0) done)) done)) (code 0x9f done)))
    ∷ []

-- the GNU extensions, in version 2 and 64-bit DWARF with the highest byte first
abbrev pub extensions : List (List ℕ × Tokens)
extensions =
    -- GNU_implicit_pointer, of address size here; GNU_const_type; GNU_regval_type; GNU_deref_type
    (0xf2 ∷ 1 ∷ 2 ∷ 3 ∷ [], code 0xf2 (fixed 2 0x102 (signed (pos 3) done)))
    ∷ (0xf4 ∷ 9 ∷ 2 ∷ 1 ∷ 2 ∷ [], code 0xf4 (unsigned 9 (short (1 ∷ 2 ∷ []) done)))
    ∷ (0xf5 ∷ 3 ∷ 4 ∷ [], code 0xf5 (unsigned 3 (unsigned 4 done)))
    ∷ (0xf6 ∷ 2 ∷ 4 ∷ [], code 0xf6 (fixed 1 2 (unsigned 4 done)))
    -- GNU_convert; GNU_reinterpret; GNU_parameter_ref; GNU_variable_value; a branch
    ∷ (0xf7 ∷ 5 ∷ 0xf9 ∷ 0 ∷ [], code 0xf7 (unsigned 5 (code 0xf9 (unsigned 0 done))))
    ∷ (0xfa ∷ 0 ∷ 0 ∷ 1 ∷ 2 ∷ [], code 0xfa (fixed 4 0x102 done))
    ∷ (0xfd ∷ 0 ∷ 0 ∷ 0 ∷ 0 ∷ 0 ∷ 0 ∷ 1 ∷ 2 ∷ [], code 0xfd (fixed 8 0x102 done))
    ∷ (0x28 ∷ 0xff ∷ 0xfc ∷ [], code 0x28 (displacement (negsuc 3) done))
    ∷ []

-- bytes without a reading: a code that is not known, cut operands, a number above ten bytes, one above 64 bits, a nested block that ends inside an operand
abbrev pub unreadable : List (List ℕ)
unreadable =
    (0x07 ∷ []) ∷ (0x03 ∷ 1 ∷ 2 ∷ 3 ∷ []) ∷ (0x10 ∷ 0x80 ∷ []) ∷ (0x2f ∷ 1 ∷ []) ∷ (0x9e ∷ 2 ∷ 1 ∷ []) ∷ (0xa4 ∷ 1 ∷ []) ∷ (0xa3 ∷ 1 ∷ 0x9f ∷ 0x10 ∷ [])
    ∷ (0x10 ∷ 0x80 ∷ 0x80 ∷ 0x80 ∷ 0x80 ∷ 0x80 ∷ 0x80 ∷ 0x80 ∷ 0x80 ∷ 0x80 ∷ 0x80 ∷ 0 ∷ [])
    ∷ (0x10 ∷ 0x80 ∷ 0x80 ∷ 0x80 ∷ 0x80 ∷ 0x80 ∷ 0x80 ∷ 0x80 ∷ 0x80 ∷ 0x80 ∷ 2 ∷ []) ∷ (0xa3 ∷ 1 ∷ 0x10 ∷ 4 ∷ []) ∷ []

-- the examples read as they should
pub record ExamplesRead : Type 0 where
  pub locations_read : readings false small locations ≡ expected locations
  pub others_read : readings false small others ≡ expected others
  pub extensions_read : readings true old extensions ≡ expected extensions
  pub unreadable_not : map (λ bytes. read false small bytes) unreadable ≡ map (λ _. None) unreadable
  pub odd_not : read false odd (0x03 ∷ 1 ∷ 2 ∷ 3 ∷ 4 ∷ 5 ∷ []) ≡ None
