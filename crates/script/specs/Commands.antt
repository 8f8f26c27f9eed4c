-- The commands of a script.
use Rattle.std.specs.Prelude.{ℕ, cond, List, [], ◌∷◌, Some, None, codes, Option}
use Rattle.std.specs.Option.{option_map}
use Rattle.std.specs.Str.{bytes_eq}
use Rattle.script.specs.declared.verb.Verb.{Verb}
use Rattle.script.specs.declared.verb.Verb.TheVariants as verb
use Rattle.script.specs.declared.command.SinkKind.{SinkKind}
use Rattle.script.specs.declared.command.SinkKind.TheVariants.{Bytes, Words}
use Rattle.script.specs.declared.command.BookLengths.{BookLengths}
use Rattle.script.specs.declared.command.Command.{Command}
use Rattle.script.specs.declared.command.Command.TheVariants.{New, Sink, Book, Hold, Append, Dump}
use Rattle.words.specs.Bytes.{hex_of, denoted}
use Rattle.script.specs.Operands.{alone, single, double, both, number64, order_of}
use Rattle.script.specs.Verbs.{verb_of}

-- what a command says, its bytes in a list
pub data Meant : Type 0 where
  fresh : Meant
  sink_made : SinkKind → Meant
  book_made : BookLengths → Meant
  held : List ℕ → Meant
  appended : List ℕ → Meant
  dumped : Meant

abbrev pub meant : Command → Meant
meant New = fresh
meant (Sink kind) = sink_made kind
meant (Book lengths) = book_made lengths
meant (Hold bytes) = held (denoted bytes)
meant (Append bytes) = appended (denoted bytes)
meant Dump = dumped

-- the first word of what is said
abbrev pub verb_for : Meant → Verb
verb_for fresh = verb.New
verb_for (sink_made kind) = verb.Sink
verb_for (book_made lengths) = verb.Book
verb_for (held bytes) = verb.Hold
verb_for (appended bytes) = verb.Append
verb_for dumped = verb.Dump

-- the buffer sink, of a capacity and an order
abbrev pub byte_sink : List ℕ → List ℕ → Option SinkKind
byte_sink capacity endian = both Bytes (number64 capacity) (order_of endian)

-- the word sink, of a count of words
abbrev pub word_sink : List ℕ → Option SinkKind
word_sink count = option_map Words (number64 count)

-- `bytes` and two words, or `words` and one
abbrev pub sink_of : List (List ℕ) → Option SinkKind
sink_of [] = None
sink_of (kind ∷ ws) =
    cond (bytes_eq kind (codes "bytes")) (double byte_sink ws) (cond (bytes_eq kind (codes "words")) (single word_sink ws) None)

-- the lengths of a book's two tables
abbrev pub book_lengths : List ℕ → List ℕ → Option BookLengths
book_lengths operations «data» = both (λ m n. record { operations = m; «data» = n }) (number64 operations) (number64 «data»)

-- the command of a verb and the words that follow it
abbrev pub command_of : Verb → List (List ℕ) → Option Meant
command_of verb.New ws = alone fresh ws
command_of verb.Sink ws = option_map sink_made (sink_of ws)
command_of verb.Book ws = option_map book_made (double book_lengths ws)
command_of verb.Hold ws = option_map held (single hex_of ws)
command_of verb.Append ws = option_map appended (single hex_of ws)
command_of verb.Dump ws = alone dumped ws

-- the command of a first word and those that follow it
abbrev pub spelled : Option Verb → List (List ℕ) → Option Meant
spelled None ws = None
spelled (Some v) ws = command_of v ws

-- the command of a line: none where it has no words
abbrev pub line_of : List (List ℕ) → Option (Option Meant)
line_of [] = Some None
line_of (w ∷ ws) = option_map Some (spelled (verb_of w) ws)
