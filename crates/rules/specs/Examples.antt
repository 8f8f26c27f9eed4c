-- Worked examples, evaluated on the definitions.
use Rattle.std.specs.Prelude.{◌≡◌, ℕ, true, false, cond, List, [], ◌∷◌, length, replicate, pos, negsuc, Some, None, Ok, Err, Result, ◌==◌}
use Rattle.common.specs.declared.address.Address.TheVariants as address
use Rattle.common.specs.declared.encoding.Encoding.{Encoding}
use Rattle.common.specs.declared.encoding.Register.{Register as RegisterNumber}
use Rattle.common.specs.declared.encoding.Format.TheVariants.{Dwarf32, Dwarf64}
use Rattle.common.specs.declared.error.Error.{Error}
use Rattle.common.specs.declared.error.Error.TheVariants.{
  ValueTooLarge,
  UnsupportedWordSize,
  InvalidAddress,
  InvalidReference,
  UnsupportedExpressionForwardReference,
  UnsupportedCfiExpressionReference,
  BadTarget,
  BranchOpen,
}
use Rattle.dwarf.specs.Bytes.{bytes_of}
use Rattle.dwarf.specs.References.{references}
use Rattle.op.specs.declared.operation.DebugInfoRef.TheVariants as debug
use Rattle.op.specs.declared.operation.Operation.{Operation}
use Rattle.op.specs.declared.operation.Operation.TheVariants.{
  Raw,
  Simple,
  Address,
  UnsignedConstant,
  SignedConstant,
  ConstantType,
  FrameOffset,
  RegisterOffset,
  RegisterType,
  Pick,
  Deref,
  DerefSize,
  DerefType,
  PlusConstant,
  Skip,
  Branch,
  Call,
  CallRef,
  VariableValue,
  Convert,
  Reinterpret,
  EntryValue,
  Register,
  ImplicitValue,
  ImplicitPointer,
  Piece,
  BitPiece,
  ParameterRef,
}
use Rattle.rules.specs.Results.{and_then}
use Rattle.rules.specs.Encode.{encode}
use Rattle.rules.specs.Operands.{displacement_from}
use Rattle.rules.specs.Scope.{Scope, in_frame, in_unit}
use Rattle.rules.specs.Sizes.{size_tree}
use Rattle.rules.specs.Tree.{Store, Tree, end, plain, expression_tree}

-- a version, an address size, in 32-bit DWARF
abbrev pub dwarf32 : ℕ → ℕ → Encoding
dwarf32 version size = record { address_size = size; format = Dwarf32; version = version }

abbrev pub version5 : Encoding
version5 = dwarf32 5 4

-- a unit that starts at 100 in the section; of its entries just entry 3 is placed, 130 past the unit's start
abbrev pub unit100 : Scope
unit100 = in_unit 100 (λ entry. cond (entry == 3) (Some 230) None)

-- the bytes of an expression in that unit, little-endian
abbrev pub written : Encoding → Tree → Result (List ℕ) Error
written e t = and_then (encode e unit100 t) (λ a. Ok (bytes_of false a))

-- the bytes of a frame expression
abbrev pub framed : Encoding → Tree → Result (List ℕ) Error
framed e t = and_then (encode e in_frame t) (λ a. Ok (bytes_of false a))

abbrev pub dwarf64 : Encoding
dwarf64 = record { address_size = 8; format = Dwarf64; version = 5 }

-- a unit that starts at 0 and has every entry at an offset
abbrev pub entry_at : ℕ → Scope
entry_at offset = in_unit 0 (λ entry. Some offset)

-- a typed constant of so many bytes
abbrev pub typed : ℕ → Tree
typed n = plain (ConstantType 3 (record { start = 0; len = n })) (replicate n 0x07) end

-- operations without data in a row
abbrev pub row : List Operation → Tree
row [] = end
row (o ∷ os) = plain o [] (row os)

abbrev pub register : ℕ → RegisterNumber
register n = record { 0 = n }

-- one data byte 07; expression 0 calls entry 5 of unit 2; expression 1 is its entry value, then a stack value; expression 2 is a typed constant
abbrev pub store : Store
store = record {
  operations = CallRef (debug.Entry 2 5) ∷ EntryValue 0 ∷ Simple (record { 0 = 0x9f }) ∷ ConstantType 3 (record { start = 0; len = 1 }) ∷ [];
  bytes = 0x07 ∷ [];
  expressions = record { start = 0; count = 1 } ∷ record { start = 1; count = 2 } ∷ record { start = 3; count = 1 } ∷ [];
}

-- codes of their own, branches, bases and references
abbrev pub Forms : Type 0
Forms =
    (written version5 (row (UnsignedConstant 31 ∷ [])) ≡ Ok (0x4f ∷ []))
    × (written version5 (row (UnsignedConstant 32 ∷ [])) ≡ Ok (0x10 ∷ 0x20 ∷ []))
    × (written version5 (row (SignedConstant (negsuc 64) ∷ [])) ≡ Ok (0x11 ∷ 0xbf ∷ 0x7f ∷ []))
    × (written version5 (row (RegisterOffset (register 31) (pos 0) ∷ [])) ≡ Ok (0x8f ∷ 0x00 ∷ []))
    × (written version5 (row (RegisterOffset (register 32) (pos 0) ∷ [])) ≡ Ok (0x92 ∷ 0x20 ∷ 0x00 ∷ []))
    × (written version5 (row (Skip (Some 2) ∷ UnsignedConstant 5 ∷ [])) ≡ Ok (0x2f ∷ 0x01 ∷ 0x00 ∷ 0x35 ∷ []))
    × (written version5 (row (UnsignedConstant 5 ∷ Branch (Some 0) ∷ [])) ≡ Ok (0x35 ∷ 0x28 ∷ 0xfc ∷ 0xff ∷ []))
    × (and_then (encode version5 unit100 (row (UnsignedConstant 5 ∷ Branch (Some 0) ∷ []))) (λ a. Ok (bytes_of true a)) ≡ Ok (0x35 ∷ 0x28 ∷ 0xff ∷ 0xfc ∷ []))
    -- a base 130 past the unit's start
    × (written version5 (expression_tree store 2) ≡ Ok (0xa4 ∷ 0x82 ∷ 0x01 ∷ 0x01 ∷ 0x07 ∷ []))
    -- the reference stands 3 bytes after the start of the whole expression
    × (written version5 (expression_tree store 1) ≡ Ok (0xa3 ∷ 0x05 ∷ 0x9a ∷ 0x00 ∷ 0x00 ∷ 0x00 ∷ 0x00 ∷ 0x9f ∷ []))
    × (and_then (encode version5 unit100 (expression_tree store 1)) (λ a. Ok (references 0 a)) ≡ Ok (record { offset = 3; width = 4; unit = 2; entry = 5 } ∷ []))

-- the codes and operands of the others, and GNU's codes in version 4
abbrev pub Codes : Type 0
Codes =
    (written version5 (plain (Raw (record { start = 0; len = 2 })) (0xde ∷ 0xad ∷ []) end) ≡ Ok (0xde ∷ 0xad ∷ []))
    × (written version5 (row (Address (address.Constant 0x1234) ∷ [])) ≡ Ok (0x03 ∷ 0x34 ∷ 0x12 ∷ 0x00 ∷ 0x00 ∷ []))
    × (written version5 (row (FrameOffset (negsuc 15) ∷ PlusConstant 200 ∷ [])) ≡ Ok (0x91 ∷ 0x70 ∷ 0x23 ∷ 0xc8 ∷ 0x01 ∷ []))
    × (written version5 (row (Register (register 31) ∷ Register (register 32) ∷ [])) ≡ Ok (0x6f ∷ 0x90 ∷ 0x20 ∷ []))
    × (written version5 (row (Pick 0 ∷ Pick 1 ∷ Pick 2 ∷ [])) ≡ Ok (0x12 ∷ 0x14 ∷ 0x15 ∷ 0x02 ∷ []))
    × (written version5 (row (Deref false ∷ Deref true ∷ DerefSize false 2 ∷ DerefSize true 2 ∷ [])) ≡ Ok (0x06 ∷ 0x18 ∷ 0x94 ∷ 0x02 ∷ 0x95 ∷ 0x02 ∷ []))
    × (written version5 (row (Piece 4 ∷ BitPiece 3 5 ∷ [])) ≡ Ok (0x93 ∷ 0x04 ∷ 0x9d ∷ 0x03 ∷ 0x05 ∷ []))
    × (written version5 (plain (ImplicitValue (record { start = 0; len = 2 })) (0x01 ∷ 0x02 ∷ []) end) ≡ Ok (0x9e ∷ 0x02 ∷ 0x01 ∷ 0x02 ∷ []))
    × (written version5 (row (Call 3 ∷ ParameterRef 3 ∷ [])) ≡ Ok (0x99 ∷ 0x82 ∷ 0x00 ∷ 0x00 ∷ 0x00 ∷ 0xfa ∷ 0x82 ∷ 0x00 ∷ 0x00 ∷ 0x00 ∷ []))
    × (written version5 (row (VariableValue (debug.Entry 2 5) ∷ [])) ≡ Ok (0xfd ∷ 0x00 ∷ 0x00 ∷ 0x00 ∷ 0x00 ∷ []))
    × (written version5 (row (RegisterType (register 40) 3 ∷ [])) ≡ Ok (0xa5 ∷ 0x28 ∷ 0x82 ∷ 0x01 ∷ []))
    × (written version5 (row (DerefType false 2 3 ∷ DerefType true 2 3 ∷ [])) ≡ Ok (0xa6 ∷ 0x02 ∷ 0x82 ∷ 0x01 ∷ 0xa7 ∷ 0x02 ∷ 0x82 ∷ 0x01 ∷ []))
    × (written version5 (row (Convert (Some 3) ∷ Convert None ∷ [])) ≡ Ok (0xa8 ∷ 0x82 ∷ 0x01 ∷ 0xa8 ∷ 0x00 ∷ []))
    × (written version5 (row (Reinterpret (Some 3) ∷ Reinterpret None ∷ [])) ≡ Ok (0xa9 ∷ 0x82 ∷ 0x01 ∷ 0xa9 ∷ 0x00 ∷ []))
    × (written version5 (row (ImplicitPointer (debug.Entry 2 5) (negsuc 0) ∷ [])) ≡ Ok (0xa0 ∷ 0x00 ∷ 0x00 ∷ 0x00 ∷ 0x00 ∷ 0x7f ∷ []))
    × (written (dwarf32 4 4) (expression_tree store 1) ≡ Ok (0xf3 ∷ 0x05 ∷ 0x9a ∷ 0x00 ∷ 0x00 ∷ 0x00 ∷ 0x00 ∷ 0x9f ∷ []))
    × (written (dwarf32 4 4) (expression_tree store 2) ≡ Ok (0xf4 ∷ 0x82 ∷ 0x01 ∷ 0x01 ∷ 0x07 ∷ []))
    × (written (dwarf32 4 4) (row (RegisterType (register 40) 3 ∷ [])) ≡ Ok (0xf5 ∷ 0x28 ∷ 0x82 ∷ 0x01 ∷ []))
    × (written (dwarf32 4 4) (row (DerefType false 2 3 ∷ DerefType true 2 3 ∷ [])) ≡ Ok (0xf6 ∷ 0x02 ∷ 0x82 ∷ 0x01 ∷ 0xa7 ∷ 0x02 ∷ 0x82 ∷ 0x01 ∷ []))
    × (written (dwarf32 4 4) (row (Convert (Some 3) ∷ Reinterpret (Some 3) ∷ [])) ≡ Ok (0xf7 ∷ 0x82 ∷ 0x01 ∷ 0xf9 ∷ 0x82 ∷ 0x01 ∷ []))
    -- the reference of an implicit pointer is as wide as an address in version 2
    × (written (dwarf32 2 1) (row (ImplicitPointer (debug.Entry 2 5) (pos 0) ∷ [])) ≡ Ok (0xf2 ∷ 0x00 ∷ 0x00 ∷ []))
    × (written (dwarf32 3 1) (row (ImplicitPointer (debug.Entry 2 5) (pos 0) ∷ [])) ≡ Ok (0xf2 ∷ 0x00 ∷ 0x00 ∷ 0x00 ∷ 0x00 ∷ 0x00 ∷ []))

-- references in 64-bit DWARF
abbrev pub Wide : Type 0
Wide =
    (written dwarf64 (row (CallRef (debug.Entry 2 5) ∷ [])) ≡ Ok (0x9a ∷ 0x00 ∷ 0x00 ∷ 0x00 ∷ 0x00 ∷ 0x00 ∷ 0x00 ∷ 0x00 ∷ 0x00 ∷ []))
    × (written dwarf64 (row (ImplicitPointer (debug.Entry 2 5) (pos 0) ∷ []))
    ≡ Ok (0xa0 ∷ 0x00 ∷ 0x00 ∷ 0x00 ∷ 0x00 ∷ 0x00 ∷ 0x00 ∷ 0x00 ∷ 0x00 ∷ 0x00 ∷ []))

-- how far a branch leads, how much data a typed constant has, and which entry is called
abbrev pub Limits : Type 0
Limits =
    (displacement_from 3 32770 ≡ Ok (pos 32767))
    × (displacement_from 3 32771 ≡ Err ValueTooLarge)
    × (displacement_from 32768 0 ≡ Ok (negsuc 32767))
    × (displacement_from 32769 0 ≡ Err ValueTooLarge)
    × (written version5 (row (Skip (Some 1) ∷ [])) ≡ Ok (0x2f ∷ 0x00 ∷ 0x00 ∷ []))
    × (written version5 (row (Skip (Some 2) ∷ [])) ≡ Err BadTarget)
    × (written version5 (row (Skip None ∷ [])) ≡ Err BranchOpen)
    × (and_then (encode version5 unit100 (typed 255)) (λ a. Ok (length (bytes_of false a))) ≡ Ok 259)
    × (size_tree version5 unit100 (typed 256) ≡ Ok 260)
    × (written version5 (typed 256) ≡ Err ValueTooLarge)
    × (and_then (encode version5 (entry_at 4294967295) (row (Call 0 ∷ []))) (λ a. Ok (bytes_of false a)) ≡ Ok (0x99 ∷ 0xff ∷ 0xff ∷ 0xff ∷ 0xff ∷ []))
    × (and_then (encode version5 (entry_at 4294967296) (row (Call 0 ∷ []))) (λ a. Ok (bytes_of false a)) ≡ Err ValueTooLarge)

-- refusals and their order
abbrev pub Refusals : Type 0
Refusals =
    -- an address of 5 bytes has a size and is refused; a symbol is refused before the width, the width before the number
    (size_tree (dwarf32 5 5) unit100 (row (Address (address.Constant 1) ∷ [])) ≡ Ok 6)
    × (written (dwarf32 5 5) (row (Address (address.Constant 1) ∷ [])) ≡ Err (UnsupportedWordSize 5))
    × (written (dwarf32 5 5) (row (Address (address.Symbol 1 (pos 0)) ∷ [])) ≡ Err InvalidAddress)
    × (written (dwarf32 5 1) (row (Address (address.Constant 256) ∷ [])) ≡ Err ValueTooLarge)
    × (written (dwarf32 5 1) (row (Address (address.Constant 255) ∷ [])) ≡ Ok (0x03 ∷ 0xff ∷ []))
    -- sizes come first: a base that is not placed is refused before an address in front of it, an entry that is called is not
    × (written (dwarf32 5 5) (row (Address (address.Constant 1) ∷ Convert (Some 4) ∷ [])) ≡ Err UnsupportedExpressionForwardReference)
    × (written (dwarf32 5 5) (row (Address (address.Constant 1) ∷ Call 4 ∷ [])) ≡ Err (UnsupportedWordSize 5))
    × (written version5 (row (Call 4 ∷ [])) ≡ Err UnsupportedExpressionForwardReference)
    -- a symbol is no reference
    × (written version5 (row (CallRef (debug.Symbol 1) ∷ [])) ≡ Err InvalidReference)
    -- in a frame expression no entry has an offset, none is referred to, and the generic type is allowed
    × (framed version5 (row (Convert (Some 3) ∷ [])) ≡ Err UnsupportedCfiExpressionReference)
    × (framed version5 (row (ParameterRef 3 ∷ [])) ≡ Err UnsupportedCfiExpressionReference)
    × (framed version5 (row (Convert None ∷ [])) ≡ Ok (0xa8 ∷ 0x00 ∷ []))
    × (framed (dwarf32 2 5) (row (ImplicitPointer (debug.Entry 2 5) (pos 0) ∷ [])) ≡ Err InvalidReference)
    × (written (dwarf32 2 5) (row (ImplicitPointer (debug.Entry 2 5) (pos 0) ∷ [])) ≡ Err (UnsupportedWordSize 5))

abbrev pub Worked : Type 0
Worked = Forms × Codes × Wide × Limits × Refusals
