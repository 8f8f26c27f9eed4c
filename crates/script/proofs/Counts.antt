-- Words, counted.
use Rattle.std.proofs.Common.{◌≡◌, ℕ, List, [], ◌∷◌, Some, Option}
use Rattle.script.specs.Operands.{double}

-- just two words are there
pub double_at : {A : Type 0} (f : List ℕ → List ℕ → Option A) (ws : List (List ℕ)) (v w : List ℕ) → ◌≡◌ {A = Option (List ℕ × List ℕ)} (Some (v, w)) (double (λ v w. Some (v, w)) ws) → f v w ≡ double f ws
double_at f [] v w e = cc
double_at f (a ∷ []) v w e = cc
double_at f (a ∷ b ∷ []) v w e =
    let k : ◌≡◌ {A = List ℕ × List ℕ} (v, w) (a, b) = cc in
    λ i. f (k i).0 (k i).1
double_at f (a ∷ b ∷ c ∷ ws) v w e = cc
