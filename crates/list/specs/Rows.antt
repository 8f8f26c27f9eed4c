-- A list in a table: the first `len` elements are in use, and the others keep what they held.
use Rattle.std.specs.Prelude.{ℕ, ◌+◌, ◌-◌, min, cond, List, ◌++◌, length, take, drop, Some, None, Option, nat_lt, slice_set}
use Rattle.std.specs.List.{slice_get}

-- one more element behind those in use, and how many these are then; nothing where the table has no more place
abbrev pub pushed : {X : Type 0} → List X → ℕ → X → Option ℕ × List X
pushed xs len x = cond (nat_lt len (length xs)) (Some (len + 1), slice_set xs len x) (None, xs)

-- the element at a place among those in use
abbrev pub item_at : {X : Type 0} → List X → ℕ → ℕ → Option X
item_at xs len i = slice_get (take len xs) i

-- a table of which n elements are in use, after the one at i went out: those before it, those behind it one place down, and from
-- the last place on what was there
abbrev pub closed : {X : Type 0} → List X → ℕ → ℕ → List X
closed xs n i = take i xs ++ drop (i + 1) (take n xs) ++ drop (n - 1) xs

-- the element at a place among those in use, and the table without it
abbrev pub removed : {X : Type 0} → List X → ℕ → ℕ → Option X × List X
removed xs len i = cond (nat_lt i (min len (length xs))) (item_at xs len i, closed xs (min len (length xs)) i) (None, xs)
