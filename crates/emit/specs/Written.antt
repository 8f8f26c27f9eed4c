-- What writing an expression comes to.
use Rattle.std.specs.Prelude.{◌≡◌, ℕ, ◌+◌, cond, List, ◌++◌, length, Some, None, Ok, Err, Option, Result, nat_lt}
use Rattle.common.specs.declared.encoding.Encoding.{Encoding}
use Rattle.common.specs.declared.error.Error.{Error}
use Rattle.common.specs.declared.error.Error.TheVariants.{NoRoom, TooManyReferences, NoExpression}
use Rattle.common.specs.declared.fixup.DebugInfoFixup.{DebugInfoFixup}
use Rattle.dwarf.specs.Bytes.{bytes_of, size_of}
use Rattle.dwarf.specs.References.{references}
use Rattle.dwarf.specs.Tokens.{Tokens}
use Rattle.rules.specs.Encode.{encode}
use Rattle.rules.specs.Results.{and_then}
use Rattle.rules.specs.Scope.{Scope}
use Rattle.rules.specs.Tree.{Tree}
use Rattle.writer.specs.Meaning.{Sink, fits, holding}

-- encoded operations, where at most 512 references are pending with theirs, and where they fit
abbrev pub allowed : Sink → ℕ → Tokens → Result Tokens Error
allowed k pending a =
    cond (nat_lt 512 (pending + length (references (length k.content) a))) (Err TooManyReferences)
    (cond (fits k (size_of a)) (Ok a) (Err NoRoom))

-- what is written of a book's expression, or the first refusal, while so many references are pending
abbrev pub written : Sink → ℕ → Encoding → Scope → Option Tree → Result Tokens Error
written k pending e s None = Err NoExpression
written k pending e s (Some t) = and_then (encode e s t) (allowed k pending)

-- the sink and the references after it; a refusal changes nothing
abbrev pub grown_by : Sink → Result Tokens Error → Sink
grown_by k (Ok a) = holding k (k.content ++ bytes_of k.big a)
grown_by k (Err refusal) = k

abbrev pub set_down_by : Sink → List DebugInfoFixup → Result Tokens Error → List DebugInfoFixup
set_down_by k rows (Ok a) = rows ++ references (length k.content) a
set_down_by k rows (Err refusal) = rows

-- what is answered and left
pub record Wrote (o : Result Tokens Error) (k k' : Sink) (rows rows' : List DebugInfoFixup) (r : Result ℕ Error) : Type 0 where
  pub answer : r ≡ and_then o (λ a. Ok (size_of a))
  pub after : k' ≡ grown_by k o
  pub down : rows' ≡ set_down_by k rows o
