-- What is gathered over operations, in the library's words.
use Rattle.std.proofs.Common.{◌≡◌, ℕ, ◌+◌, max, List, [], ◌∷◌, map, refl, arith}
use Rattle.std.specs.List.{fold, reduce, sum_by}
use Rattle.std.specs.Option.{unwrap_or}
use Rattle.std.proofs.lemmas.List.Sums.{sum_by-cons}
use Rattle.op.specs.declared.operation.Operation.{Operation}
use Rattle.book_state.specs.State.{gathered}

pub gathered_sum : (f : Operation → ℕ) (xs : List Operation) → sum_by f xs ≡ gathered ◌+◌ f xs
gathered_sum f [] = refl
gathered_sum f (x ∷ xs) = omega (arith, gathered_sum f xs, sum_by-cons f x xs)

max_from : (f : Operation → ℕ) (n : ℕ) (xs : List Operation) → fold max n (map f xs) ≡ max n (gathered max f xs)
max_from f n [] = omega arith
max_from f n (x ∷ xs) = omega (arith, max_from f (max n (f x)) xs)

pub gathered_max : (f : Operation → ℕ) (xs : List Operation) → unwrap_or (reduce max (map f xs)) 0 ≡ gathered max f xs
gathered_max f [] = refl
gathered_max f (x ∷ xs) = max_from f (f x) xs
