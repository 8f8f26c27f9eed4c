-- What is known where an answer is no refusal.
use Rattle.std.proofs.Common.{◌≡◌, Ok, Err, Result, refl, subst}
use Rattle.common.specs.declared.error.Error.{Error}
use Rattle.rules.specs.Results.{and_then}

-- a refusal is no value
pub not_refused : {Y : Type 0} (P : Type 0) (refusal : Error) (y : Y) → ◌≡◌ {A = Result Y Error} (Err refusal) (Ok y) → P
not_refused P refusal y h = absurd (cc)

-- a value is what it equals
pub value_is : {Y : Type 0} (P : Y → Type 0) (x y : Y) → ◌≡◌ {A = Result Y Error} (Ok x) (Ok y) → P x → P y
value_is P x y h p = let e : x ≡ y = cc in subst P e p

-- the first of two steps was not refused
pub first_step : {X Y : Type 0} (x : Result X Error) (f : X → Result Y Error) (P : Type 0) (y : Y) → and_then x f ≡ Ok y →
    ((v : X) → x ≡ Ok v → f v ≡ Ok y → P) → P
first_step (Ok v) f P y h k = k v refl h
first_step (Err refusal) f P y h k = not_refused P refusal y h

-- a step whose value is used without further refusal
pub last_step : {X Y : Type 0} (x : Result X Error) (F : X → Y) (P : Y → Type 0) (y : Y) → and_then x (λ v. Ok (F v)) ≡ Ok y →
    ((v : X) → x ≡ Ok v → P (F v)) → P y
last_step (Ok v) F P y h k = value_is P (F v) y h (k v refl)
last_step (Err refusal) F P y h k = not_refused (P y) refusal y h
