-- The numbers and names of the refusals.
use Rattle.std.specs.Prelude.{List, ◌≡◌, ℕ, codes}
use Rattle.common.specs.declared.error.Error.{Error}
use Rattle.common.specs.declared.error.Error.TheVariants.{
  ValueTooLarge,
  UnsupportedWordSize,
  InvalidAddress,
  InvalidReference,
  UnsupportedExpressionForwardReference,
  UnsupportedCfiExpressionReference,
  OffsetOutOfBounds,
  LengthOutOfBounds,
  NoRoom,
  TooManyReferences,
  TooManyUnits,
  NoUnit,
  BadEntry,
  AlreadyPlaced,
  AtUnitStart,
  NotPlaced,
  NotPending,
  StillPending,
  BookFull,
  DraftState,
  BadTarget,
  BranchOpen,
  NoExpression,
  InUse,
  TooDeep,
}

-- the number by which a refusal is known
abbrev pub number_of : Error → ℕ
number_of ValueTooLarge = 1
number_of (UnsupportedWordSize size) = 2
number_of InvalidAddress = 3
number_of InvalidReference = 4
number_of UnsupportedExpressionForwardReference = 5
number_of UnsupportedCfiExpressionReference = 6
number_of OffsetOutOfBounds = 7
number_of LengthOutOfBounds = 8
number_of NoRoom = 9
number_of TooManyReferences = 10
number_of TooManyUnits = 11
number_of NoUnit = 12
number_of BadEntry = 13
number_of AlreadyPlaced = 14
number_of AtUnitStart = 15
number_of NotPlaced = 16
number_of NotPending = 17
number_of StillPending = 18
number_of BookFull = 19
number_of DraftState = 20
number_of BadTarget = 21
number_of BranchOpen = 22
number_of NoExpression = 23
number_of InUse = 24
number_of TooDeep = 25

-- the name of a refusal
abbrev pub name_of : Error → List ℕ
name_of ValueTooLarge = codes "ValueTooLarge"
name_of (UnsupportedWordSize size) = codes "UnsupportedWordSize"
name_of InvalidAddress = codes "InvalidAddress"
name_of InvalidReference = codes "InvalidReference"
name_of UnsupportedExpressionForwardReference = codes "UnsupportedExpressionForwardReference"
name_of UnsupportedCfiExpressionReference = codes "UnsupportedCfiExpressionReference"
name_of OffsetOutOfBounds = codes "OffsetOutOfBounds"
name_of LengthOutOfBounds = codes "LengthOutOfBounds"
name_of NoRoom = codes "NoRoom"
name_of TooManyReferences = codes "TooManyReferences"
name_of TooManyUnits = codes "TooManyUnits"
name_of NoUnit = codes "NoUnit"
name_of BadEntry = codes "BadEntry"
name_of AlreadyPlaced = codes "AlreadyPlaced"
name_of AtUnitStart = codes "AtUnitStart"
name_of NotPlaced = codes "NotPlaced"
name_of NotPending = codes "NotPending"
name_of StillPending = codes "StillPending"
name_of BookFull = codes "BookFull"
name_of DraftState = codes "DraftState"
name_of BadTarget = codes "BadTarget"
name_of BranchOpen = codes "BranchOpen"
name_of NoExpression = codes "NoExpression"
name_of InUse = codes "InUse"
name_of TooDeep = codes "TooDeep"

-- a text is the name by which a refusal is printed
abbrev pub Named : Error → List ℕ → Type 0
Named e text = text ≡ name_of e
