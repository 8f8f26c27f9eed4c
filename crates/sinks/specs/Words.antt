-- Bytes in a table of 32-bit words.
use Rattle.std.specs.Prelude.{ℕ, ◌/◌, ◌%◌, List, [], ◌∷◌, ◌++◌}

-- a word's four bytes, highest first
abbrev pub word_bytes : ℕ → List ℕ
word_bytes w = (w / 16777216 % 256) ∷ (w / 65536 % 256) ∷ (w / 256 % 256) ∷ (w % 256) ∷ []

-- the bytes of a table of words: byte i lies in word i / 4
unfoldable pub spread : List ℕ → List ℕ
spread [] = []
spread (w ∷ ws) = word_bytes w ++ spread ws
