-- Answers that may be refusals.
use Rattle.std.specs.Prelude.{ℕ, ◌+◌, Ok, Err, Result}
use Rattle.common.specs.declared.error.Error.{Error}

-- what follows on a value; a refusal is passed on unchanged
abbrev pub and_then : {X Y : Type 0} → Result X Error → (X → Result Y Error) → Result Y Error
and_then (Ok x) f = f x
and_then (Err refusal) f = Err refusal

-- the sum of two numbers, or the first refusal
abbrev pub plus : Result ℕ Error → Result ℕ Error → Result ℕ Error
plus first second = and_then first (λ m. and_then second (λ n. Ok (m + n)))

-- the number, or 0 where there is only a refusal
abbrev pub amount : Result ℕ Error → ℕ
amount (Ok n) = n
amount (Err refusal) = 0
