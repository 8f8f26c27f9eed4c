-- Where a draft begins.
use Rattle.std.specs.Prelude.{ℕ, Some, None, Option}
use Rattle.book_tables.specs.declared.tables.DraftStart.{DraftStart}

-- the place of its first operation; without a draft, the end of those in use
abbrev pub first_operation : Option DraftStart → ℕ → ℕ
first_operation None end = end
first_operation (Some d) end = d.start

-- and that of its first byte of data
abbrev pub first_byte : Option DraftStart → ℕ → ℕ
first_byte None end = end
first_byte (Some d) end = d.byte_start
