-- What a sink over 16 bytes of its own means.
use Rattle.std.specs.Prelude.{ℕ, false, List}
use Rattle.writer.specs.Meaning.{Sink}

-- the sink whose bytes are given
abbrev pub owned : List ℕ → Sink
owned bytes = record { content = bytes; capacity = 16; big = false }
