-- Parts of a table, and what is gathered over them.
use Rattle.std.proofs.Common.{◌≡◌, ℕ, zero, suc, ◌+◌, ◌-◌, ◌<◌, ◌≤◌, max, List, [], ◌∷◌, ◌++◌, length, get_or, take, drop, set, sym, refl, ap, ◌∙◌, arith, length-drop}
use Rattle.std.proofs.lemmas.List.{drop_more, get_or-take, get_or-drop, drop_all, length-take-le, drop-set-add, take-set-le, take_more_set}
use Rattle.op.specs.declared.operation.Operation.{Operation}
use Rattle.book_state.specs.State.{slice, gathered}

module _ {X : Type 0} (xs : List X) (start count : ℕ) (within : start + count ≤ length xs) where
  pub length-slice : length (slice xs start count) ≡ count
  length-slice = length-take-le count (drop start xs) (simp length-drop (omega arith))

  pub slice_more : (i : ℕ) (d : X) → i < count → drop i (slice xs start count) ≡ get_or xs (start + i) d ∷ drop (i + 1) (slice xs start count)
  slice_more i d l =
      let k = length-slice in
      let e : drop i (slice xs start count) ≡ get_or (slice xs start count) i d ∷ drop (i + 1) (slice xs start count) = drop_more (slice xs start count) i d (omega arith) in
      let a : get_or (slice xs start count) i d ≡ get_or (drop start xs) i d = get_or-take count (drop start xs) i d l in
      let b : get_or (drop start xs) i d ≡ get_or xs (start + i) d = get_or-drop start xs i d in
      cc

  pub slice_all : (i : ℕ) → count ≤ i → drop i (slice xs start count) ≡ []
  slice_all i l = let k = length-slice in drop_all i (slice xs start count) (omega arith)

pub slice_at : {X : Type 0} (xs : List X) (a n i : ℕ) (d : X) → i < n → get_or (slice xs a n) i d ≡ get_or xs (a + i) d
slice_at xs a n i d l = get_or-take n (drop a xs) i d l ∙ get_or-drop a xs i d

pub slice_none : {X : Type 0} (xs : List X) (a n : ℕ) → n ≡ 0 → slice xs a n ≡ []
slice_none xs a n e = ap (slice xs a) e

-- an element is written behind the part
pub slice_behind : {X : Type 0} (xs : List X) (a n p : ℕ) (x : X) → a + n ≤ p → slice (set xs p x) a n ≡ slice xs a n
slice_behind xs a n p x l =
    let e : a + (p - a) ≡ p = omega arith in
    ap (λ q. slice (set xs q x) a n) (sym e) ∙ (ap (take n) (drop-set-add a xs (p - a) x) ∙ take-set-le n (drop a xs) (p - a) x (omega arith))

-- an element is written right behind the part, which grows
pub slice_push : {X : Type 0} (xs : List X) (a p : ℕ) (x : X) → a ≤ p → p < length xs → slice (set xs p x) a (p + 1 - a) ≡ slice xs a (p - a) ++ x ∷ []
slice_push xs a p x l h =
    let e : a + (p - a) ≡ p = omega arith in
    let n : p + 1 - a ≡ p - a + 1 = omega arith in
    ap (slice (set xs p x) a) n ∙ (ap (λ q. slice (set xs q x) a (p - a + 1)) (sym e) ∙ (ap (take (p - a + 1)) (drop-set-add a xs (p - a) x)
    ∙ take_more_set (drop a xs) (p - a) x (simp length-drop (omega arith))))

pub gathered_same : (join : ℕ → ℕ → ℕ) (f g : Operation → ℕ) (d : Operation) (xs ys : List Operation) → length xs ≡ length ys →
    ((i : ℕ) → i < length xs → f (get_or xs i d) ≡ g (get_or ys i d)) → gathered join f xs ≡ gathered join g ys
gathered_same join f g d [] [] n h = refl
gathered_same join f g d [] (y ∷ ys) n h = absurd (omega arith)
gathered_same join f g d (x ∷ xs) [] n h = absurd (omega arith)
gathered_same join f g d (x ∷ xs) (y ∷ ys) n h =
    let a : f x ≡ g y = h zero (omega arith) in
    let b : gathered join f xs ≡ gathered join g ys = gathered_same join f g d xs ys (omega arith) (λ i l. h (suc i) (omega arith)) in
    cc

-- the same over a part of two tables
pub slice_same : (join : ℕ → ℕ → ℕ) (f g : Operation → ℕ) (d : Operation) (xs ys : List Operation) (a n : ℕ) → a + n ≤ length xs → a + n ≤ length ys →
    ((i : ℕ) → i < n → f (get_or xs (a + i) d) ≡ g (get_or ys (a + i) d)) → gathered join f (slice xs a n) ≡ gathered join g (slice ys a n)
slice_same join f g d xs ys a n lx ly h =
    let k = length-slice xs a n lx in let m = length-slice ys a n ly in
    gathered_same join f g d (slice xs a n) (slice ys a n) (omega arith)
    (λ i l. let q : i < n = omega arith in ap f (slice_at xs a n i d q) ∙ (h i q ∙ sym (ap g (slice_at ys a n i d q))))

pub gathered_ext : (join : ℕ → ℕ → ℕ) (f g : Operation → ℕ) → ((x : Operation) → f x ≡ g x) → (xs : List Operation) → gathered join f xs ≡ gathered join g xs
gathered_ext join f g h [] = refl
gathered_ext join f g h (x ∷ xs) = let a = h x in let b = gathered_ext join f g h xs in cc

pub sum_push : (f : Operation → ℕ) (xs : List Operation) (x : Operation) → gathered ◌+◌ f (xs ++ x ∷ []) ≡ gathered ◌+◌ f xs + f x
sum_push f [] x = omega arith
sum_push f (y ∷ xs) x = let h = sum_push f xs x in omega arith

pub max_push : (f : Operation → ℕ) (xs : List Operation) (x : Operation) → gathered max f (xs ++ x ∷ []) ≡ max (gathered max f xs) (f x)
max_push f [] x = omega arith
max_push f (y ∷ xs) x = let h = max_push f xs x in omega arith
