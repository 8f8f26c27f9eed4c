-- The draft's operations, from a place on.
use Rattle.std.proofs.Common.{◌≡◌, ℕ, suc, ◌+◌, ◌-◌, ◌<◌, ◌≤◌, List, ◌∷◌, length, get_or, take, drop, ap, ◌∙◌, arith}
use Rattle.std.proofs.lemmas.List.{drop_more}
use Rattle.book_state.specs.State.{slice}

pub slice_front : {X : Type 0} (xs : List X) (i n : ℕ) (d : X) → i < n → n ≤ length xs → slice xs i (n - i) ≡ get_or xs i d ∷ slice xs (i + 1) (n - (i + 1))
slice_front xs i n d l h =
    let e : n - i ≡ suc (n - (i + 1)) = omega arith in
    ap (λ k. take k (drop i xs)) e ∙ ap (take (suc (n - (i + 1)))) (drop_more xs i d (omega arith))
