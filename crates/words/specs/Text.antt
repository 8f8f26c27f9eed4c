-- The text of a script: its lines and their words. Characters stand as their ASCII codes.
use Rattle.std.specs.Prelude.{◌≡◌, ℕ, ◌+◌, Bool, true, false, cond, not, ◌||◌, List, [], ◌∷◌, take, drop, Some, None, filter, Option, ◌==◌}
use Rattle.std.specs.List.{position_or_len}

-- what follows a prefix
abbrev pub stripped : List ℕ → List ℕ → Option (List ℕ)
stripped [] cs = Some cs
stripped (p ∷ ps) [] = None
stripped (p ∷ ps) (c ∷ cs) = cond (c == p) (stripped ps cs) None

-- a character before the first piece
abbrev pub glued : ℕ → List (List ℕ) → List (List ℕ)
glued c [] = (c ∷ []) ∷ []
glued c (p ∷ ps) = (c ∷ p) ∷ ps

-- what stands between separators; nothing stands after the last character
abbrev pub pieces : (ℕ → Bool) → List ℕ → List (List ℕ)
pieces separates [] = []
pieces separates (c ∷ cs) = cond (separates c) ([] ∷ pieces separates cs) (glued c (pieces separates cs))

-- a character that ends a line
abbrev pub line_feed : ℕ → Bool
line_feed c = c == 10

-- a character that starts a comment
abbrev pub hash : ℕ → Bool
hash c = c == 35

-- a space, a tab or a carriage return
abbrev pub blank : ℕ → Bool
blank c = c == 32 || (c == 9 || c == 13)

-- anything but a blank
abbrev pub printed : ℕ → Bool
printed c = not (blank c)

-- how many characters stand before the first that passes a test
abbrev pub reach : (ℕ → Bool) → List ℕ → ℕ
reach test text = position_or_len test text

-- a text, cut in two at the first character that passes a test, which falls away
pub record IsCut (test : ℕ → Bool) (text first rest : List ℕ) : Type 0 where
  pub before : first ≡ take (reach test text) text
  pub after : rest ≡ drop (reach test text + 1) text

-- the lines of a text end at a line feed, the last also at the text's end
abbrev pub lines_of : List ℕ → List (List ℕ)
lines_of text = pieces line_feed text

-- a line without its comment, which `#` starts
abbrev pub uncommented : List ℕ → List ℕ
uncommented line = take (reach hash line) line

abbrev pub filled : List ℕ → Bool
filled [] = false
filled (c ∷ cs) = true

-- the words of a text stand between blanks
abbrev pub words_in : List ℕ → List (List ℕ)
words_in text = filter filled (pieces blank text)

-- the words of a line
abbrev pub words_of : List ℕ → List (List ℕ)
words_of line = words_in (uncommented line)
