-- The first words of commands.
use Rattle.std.specs.Prelude.{ℕ, cond, List, [], ◌∷◌, Some, None, codes, Option}
use Rattle.std.specs.Str.{bytes_eq}
use Rattle.script.specs.declared.verb.Part.{Part}
use Rattle.script.specs.declared.verb.Part.TheVariants as part
use Rattle.script.specs.declared.verb.Verb.{Verb}
use Rattle.script.specs.declared.verb.Verb.TheVariants.{New, Sink, Book, Hold, Append, Dump}

-- the word that a verb is written as
abbrev pub word_for : Verb → List ℕ
word_for New = codes "new"
word_for Sink = codes "sink"
word_for Book = codes "book"
word_for Hold = codes "hold"
word_for Append = codes "append"
word_for Dump = codes "dump"

-- the part of a script that a verb belongs to
abbrev pub part_of : Verb → Part
part_of New = part.New
part_of Sink = part.Sink
part_of Book = part.Book
part_of Hold = part.Hold
part_of Append = part.Call
part_of Dump = part.Call

-- all verbs
abbrev pub verbs : List Verb
verbs = New ∷ Sink ∷ Book ∷ Hold ∷ Append ∷ Dump ∷ []

-- the verb of a list that is written as a word
abbrev pub among : List ℕ → List Verb → Option Verb
among word [] = None
among word (v ∷ vs) = cond (bytes_eq word (word_for v)) (Some v) (among word vs)

-- the verb that a word writes
abbrev pub verb_of : List ℕ → Option Verb
verb_of word = among word verbs
