-- What a reader of bytes answers.
use Rattle.std.specs.Prelude.{◌≡◌, ℕ, ◌+◌, ◌<◌, ◌≤◌, cond, List, ◌++◌, length, take, drop, Some, None, Option, nat_le}
use Rattle.std.specs.List.{AllByRecursion}

-- what was read, and the bytes after it
pub record Got (A : Type 0) : Type 0 where
  pub value : A
  pub rest : List ℕ

-- the answer that a value was read and these bytes are left
abbrev pub got : {A : Type 0} → A → List ℕ → Option (Got A)
got a bytes = Some (record { value = a; rest = bytes })

-- the second answer, made from the first one's value; none where the first is none
abbrev pub and_then : {A B : Type 0} → Option A → (A → Option B) → Option B
and_then None next = None
and_then (Some a) next = next a

-- so many bytes as they stand; no answer where fewer are left
abbrev pub read_data : ℕ → List ℕ → Option (Got (List ℕ))
read_data count bytes = cond (nat_le count (length bytes)) (got (take count bytes) (drop count bytes)) None

-- the numbers are bytes
abbrev pub AllBytes : List ℕ → Type 0
AllBytes numbers = AllByRecursion (λ b. b < 256) numbers

-- the bytes read as the value, whatever bytes follow them
unfoldable pub ReadsBack : {A : Type 0} → (List ℕ → Option (Got A)) → List ℕ → A → Type 0
ReadsBack read bytes a = (rest : List ℕ) → read (bytes ++ rest) ≡ got a rest

-- no bytes that read as the value are fewer
unfoldable pub Shortest : {A : Type 0} → (List ℕ → Option (Got A)) → List ℕ → A → Type 0
Shortest read bytes a = (other rest : List ℕ) → read other ≡ got a rest → length bytes + length rest ≤ length other
