-- The words that follow a command's first.
use Rattle.std.specs.Prelude.{ℕ, ◌-◌, ◌^◌, cond, List, [], ◌∷◌, Some, None, codes, Option}
use Rattle.std.specs.Str.{bytes_eq}
use Rattle.common.specs.declared.endianity.RunTimeEndian.{RunTimeEndian}
use Rattle.common.specs.declared.endianity.RunTimeEndian.TheVariants.{Little, Big}
use Rattle.words.specs.Numbers.{number_of}

-- what a command has without further words
abbrev pub alone : {A : Type 0} → A → List (List ℕ) → Option A
alone x [] = Some x
alone x (w ∷ ws) = None

-- what it has with just one more word
abbrev pub single : {A : Type 0} → (List ℕ → Option A) → List (List ℕ) → Option A
single f [] = None
single f (w ∷ ws) = elim (alone w ws) [ Some v ↦ f v | None ↦ None ]

-- what it has with just two more words
abbrev pub double : {A : Type 0} → (List ℕ → List ℕ → Option A) → List (List ℕ) → Option A
double f [] = None
double f (v ∷ ws) = single (f v) ws

-- two values, where both are there
abbrev pub both : {A B C : Type 0} → (A → B → C) → Option A → Option B → Option C
both f None y = None
both f (Some x) None = None
both f (Some x) (Some y) = Some (f x y)

-- a number of 64 bits
abbrev pub number64 : List ℕ → Option ℕ
number64 word = number_of (2 ^ 64 - 1) word

-- a byte order
abbrev pub order_of : List ℕ → Option RunTimeEndian
order_of word = cond (bytes_eq word (codes "little")) (Some Little) (cond (bytes_eq word (codes "big")) (Some Big) None)
