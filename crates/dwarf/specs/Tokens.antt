-- An encoded run of operations: codes and operands in the order in which they stand.
use Rattle.std.specs.Prelude.{ℕ, List, ℤ}

-- Each constructor puts one token in front of those that follow.
pub data Tokens : Type 0 where
  -- nothing more
  done : Tokens
  -- an operation's code, in one byte
  code : ℕ → Tokens → Tokens
  -- a number in unsigned LEB128
  unsigned : ℕ → Tokens → Tokens
  -- a number in signed LEB128
  signed : ℤ → Tokens → Tokens
  -- a number in a width of bytes: first the width, then the number
  fixed : ℕ → ℕ → Tokens → Tokens
  -- a branch's displacement, in two signed bytes
  displacement : ℤ → Tokens → Tokens
  -- data behind its length in unsigned LEB128
  block : List ℕ → Tokens → Tokens
  -- data behind its length in one byte
  short : List ℕ → Tokens → Tokens
  -- nested operations behind their length in unsigned LEB128
  nested : Tokens → Tokens → Tokens
  -- a reference to an entry: its width, the entry's unit, the entry
  reference : ℕ → ℕ → ℕ → Tokens → Tokens
  -- bytes given as they are
  raw : List ℕ → Tokens → Tokens
