-- The bytes that a word writes in hexadecimal digits.
use Rattle.std.specs.Prelude.{ℕ, ◌+◌, ◌*◌, cond, List, [], ◌∷◌, Some, None, codes, Option}
use Rattle.std.specs.Str.{bytes_eq}
use Rattle.words.specs.declared.hex.Hex.{Hex}
use Rattle.words.specs.Numbers.{hex_digit, onto}

-- the byte of two digits, the high one first
abbrev pub byte_of : Option ℕ → Option ℕ → Option ℕ
byte_of None low = None
byte_of (Some high) None = None
byte_of (Some high) (Some low) = Some (high * 16 + low)

-- the bytes of an even number of digits
abbrev pub bytes_in : List ℕ → Option (List ℕ)
bytes_in [] = Some []
bytes_in (high ∷ []) = None
bytes_in (high ∷ low ∷ cs) = onto (byte_of (hex_digit high) (hex_digit low)) (bytes_in cs)

-- a word that writes bytes: `-` stands for none
abbrev pub hex_of : List ℕ → Option (List ℕ)
hex_of word = cond (bytes_eq word (codes "-")) (Some []) (bytes_in word)

-- a byte before others, and nothing where it is none
abbrev pub ahead : Option ℕ → List ℕ → List ℕ
ahead None bs = []
ahead (Some b) bs = b ∷ bs

-- the bytes of the pairs of digits at the front
abbrev pub front_bytes : List ℕ → List ℕ
front_bytes [] = []
front_bytes (high ∷ []) = []
front_bytes (high ∷ low ∷ cs) = ahead (byte_of (hex_digit high) (hex_digit low)) (front_bytes cs)

-- the bytes that a word's digits stand for
abbrev pub denoted : Hex → List ℕ
denoted h = front_bytes h.digits.now
