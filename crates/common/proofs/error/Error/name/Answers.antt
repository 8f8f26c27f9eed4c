use mathlib.Core.Path.{◌≡◌, refl, sym, subst}
use mathlib.Core.List.{List}
use Prim.Native.Nat.{ℕ}
use Rattle.common.specs.declared.error.Error.{Error}
use Rattle.common.specs.Errors.{Named}
use Rattle.common.proofs.error.Error.name.Goals as goal

named : {e x : Error} (text : List ℕ) → e ≡ x → Named x text → Named e text
named text p h = subst (λ y. Named y text) (sym p) h

pub returns-in-AlreadyPlaced : goal.returns-in-AlreadyPlaced
returns-in-AlreadyPlaced c = named _ c.in-AlreadyPlaced.is refl

pub returns-in-AtUnitStart : goal.returns-in-AtUnitStart
returns-in-AtUnitStart c = named _ c.in-AtUnitStart.is refl

pub returns-in-BadEntry : goal.returns-in-BadEntry
returns-in-BadEntry c = named _ c.in-BadEntry.is refl

pub returns-in-BadTarget : goal.returns-in-BadTarget
returns-in-BadTarget c = named _ c.in-BadTarget.is refl

pub returns-in-BranchOpen : goal.returns-in-BranchOpen
returns-in-BranchOpen c = named _ c.in-BranchOpen.is refl

pub returns-in-DraftState : goal.returns-in-DraftState
returns-in-DraftState c = named _ c.in-DraftState.is refl

pub returns-in-InvalidAddress : goal.returns-in-InvalidAddress
returns-in-InvalidAddress c = named _ c.in-InvalidAddress.is refl

pub returns-in-LengthOutOfBounds : goal.returns-in-LengthOutOfBounds
returns-in-LengthOutOfBounds c = named _ c.in-LengthOutOfBounds.is refl

pub returns-in-NoExpression : goal.returns-in-NoExpression
returns-in-NoExpression c = named _ c.in-NoExpression.is refl

pub returns-in-TooManyUnits : goal.returns-in-TooManyUnits
returns-in-TooManyUnits c = named _ c.in-TooManyUnits.is refl

pub returns-in-UnsupportedWordSize : goal.returns-in-UnsupportedWordSize
returns-in-UnsupportedWordSize c = named _ c.in-UnsupportedWordSize.is refl

pub returns-in-ValueTooLarge : goal.returns-in-ValueTooLarge
returns-in-ValueTooLarge c = named _ c.in-ValueTooLarge.is refl

pub returns-in-UnsupportedExpressionForwardReference : goal.returns-in-UnsupportedExpressionForwardReference
returns-in-UnsupportedExpressionForwardReference c = named _ c.in-UnsupportedExpressionForwardReference.is refl

pub returns-in-UnsupportedCfiExpressionReference : goal.returns-in-UnsupportedCfiExpressionReference
returns-in-UnsupportedCfiExpressionReference c = named _ c.in-UnsupportedCfiExpressionReference.is refl
