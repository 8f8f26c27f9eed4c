-- What a sink means, and what the calls that write to it answer and leave.
use Rattle.std.specs.Prelude.{◌≡◌, ℕ, ◌+◌, ◌≤◌, Bool, cond, List, ◌++◌, length, take, drop, Ok, Err, Result, nat_le}
use Rattle.common.specs.declared.error.Error.{Error}
use Rattle.common.specs.declared.error.Error.TheVariants.{NoRoom, OffsetOutOfBounds, LengthOutOfBounds}

-- the bytes written so far, how many there can be, and whether the highest byte of a number comes first
pub record Sink : Type 0 where
  pub content : List ℕ
  pub capacity : ℕ
  pub big : Bool

-- the bounds that every sink keeps
pub record Sound (s : Sink) : Type 0 where
  pub within : length s.content ≤ s.capacity
  pub bounded : s.capacity ≤ 2147483647

-- the memory under a sink: the ghost name of the reference that lends it, and what each cell holds
pub record Memory : Type 0 where
  pub lender : ℕ
  pub cell : ℕ → ℕ

abbrev pub no_memory : Memory
no_memory = record { lender = 0; cell = λ k. 0 }

-- the memory is lent by the same reference, and its cells from n on hold what they held
pub record Keeps (before after : Memory) (n : ℕ) : Type 0 where
  pub lent : after.lender ≡ before.lender
  pub rest : (k : ℕ) → n ≤ k → after.cell k ≡ before.cell k

-- a sink with other bytes
abbrev pub holding : Sink → List ℕ → Sink
holding s bytes = record { content = bytes; capacity = s.capacity; big = s.big }

-- whether so many bytes more fit
abbrev pub fits : Sink → ℕ → Bool
fits s n = nat_le (length s.content + n) s.capacity

-- the bytes of a range replaced
abbrev pub replaced : List ℕ → ℕ → List ℕ → List ℕ
replaced old at bytes = take at old ++ (bytes ++ drop (at + length bytes) old)

-- what is answered where bytes, or a refusal of them, are to be added at the end
abbrev pub append_answer : Sink → Result (List ℕ) Error → Result (Unit {0}) Error
append_answer s (Ok bytes) = cond (fits s (length bytes)) (Ok tt) (Err NoRoom)
append_answer s (Err e) = Err e

-- the sink after it
abbrev pub appended : Sink → Result (List ℕ) Error → Sink
appended s (Ok bytes) = holding s (cond (fits s (length bytes)) (s.content ++ bytes) s.content)
appended s (Err e) = s

-- what is answered where bytes, or a refusal of them, are to replace those from an offset on
abbrev pub patch_answer : Sink → ℕ → Result (List ℕ) Error → Result (Unit {0}) Error
patch_answer s at (Ok bytes) =
    cond (nat_le at (length s.content))
    (cond (nat_le (at + length bytes) (length s.content)) (Ok tt) (Err LengthOutOfBounds))
    (Err OffsetOutOfBounds)
patch_answer s at (Err e) = Err e

-- the sink after it
abbrev pub patched : Sink → ℕ → Result (List ℕ) Error → Sink
patched s at (Ok bytes) =
    holding s (cond (nat_le (at + length bytes) (length s.content)) (replaced s.content at bytes) s.content)
patched s at (Err e) = s

-- a call that adds bytes at the end, or refuses and changes nothing
pub record Appends (encoded : Result (List ℕ) Error) (s : Sink) (m : Memory) (r : Result (Unit {0}) Error) (s' : Sink) (m' : Memory) : Type 0 where
  pub answer : r ≡ append_answer s encoded
  pub after : s' ≡ appended s encoded
  pub memory : Keeps m m' (length s'.content)

-- a call that replaces bytes, or refuses and changes nothing
pub record Patches (at : ℕ) (encoded : Result (List ℕ) Error) (s : Sink) (m : Memory) (r : Result (Unit {0}) Error) (s' : Sink) (m' : Memory) : Type 0 where
  pub answer : r ≡ patch_answer s at encoded
  pub after : s' ≡ patched s at encoded
  pub memory : Keeps m m' (length s'.content)
