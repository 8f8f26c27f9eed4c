-- What a sink over a lent table means.
use Rattle.std.specs.Prelude.{ℕ, min, Bool, cond, List, [], length, take, Some, None, Option, nat_lt, slice_index}
use Rattle.writer.specs.Meaning.{Sink, Memory}

-- the sink over a table's bytes, of which the first n are written and at most `most` are used
abbrev pub lent : List ℕ → ℕ → ℕ → Bool → Sink
lent bytes most n big = record { content = take (min n most) bytes; capacity = min (length bytes) most; big = big }

-- the sink that is made over a table: nothing is written
abbrev pub made : List ℕ → ℕ → Bool → Sink
made bytes most big = record { content = []; capacity = min (length bytes) most; big = big }

-- the memory under it
abbrev pub under : ℕ → List ℕ → Memory
under lender bytes = record { lender = lender; cell = λ k. slice_index bytes k }

-- the byte at an offset, if one was written there
abbrev pub byte_at : Sink → ℕ → Option ℕ
byte_at s at = cond (nat_lt at (length s.content)) (Some (slice_index s.content at)) None
