-- Where operations begin, by the bytes of those before them.
use Rattle.std.proofs.Common.{◌≡◌, ℕ, suc, ◌+◌, List, [], ◌∷◌, ◌++◌, length, get_or, Ok, Err, Result, sym, refl, ap, ◌∙◌, arith}
use Rattle.common.specs.declared.encoding.Encoding.{Encoding}
use Rattle.common.specs.declared.error.Error.{Error}
use Rattle.op.specs.declared.operation.Operation.{Operation}
use Rattle.rules.specs.Results.{plus, amount}
use Rattle.rules.specs.Encode.{starts}
use Rattle.rules.specs.Passes.{extent}
use Rattle.rules.specs.Scope.{Scope}
use Rattle.rules.specs.Sizes.{size_op, nested_size, size_tree, extent_op, extent_nested}
use Rattle.rules.specs.Tree.{Store, Shape, single, nesting, shape, Tree, end, plain, nest, grow, rows}
use Rattle.rules.proofs.Results.{value_is}

-- a sum that is not refused is of two numbers that are not
pub plus-parts : (x y : Result ℕ Error) (n : ℕ) → plus x y ≡ Ok n → (x ≡ Ok (amount x)) × (y ≡ Ok (amount y)) × (n ≡ amount x + amount y)
plus-parts (Ok m) (Ok k) n h = (refl, refl, value_is (λ z. z ≡ m + k) (m + k) n h refl)
plus-parts (Ok m) (Err refusal) n h = absurd (cc)
plus-parts (Err refusal) y n h = absurd (cc)

-- where no size is refused, the extent is the size
pub extent_is : (e : Encoding) (s : Scope) (t : Tree) (n : ℕ) → size_tree e s t ≡ Ok n → extent e s t ≡ n
extent_is e s end n h = value_is (λ z. 0 ≡ z) 0 n h refl
extent_is e s (plain o bs t) n h =
    let p = plus-parts (size_op e s o bs) (size_tree e s t) n h in
    ap (λ (k : ℕ). extent_op e s o bs + k) (extent_is e s t (amount (size_tree e s t)) p.1) ∙ sym p.2
extent_is e s (nest y t) n h =
    let p = plus-parts (nested_size (size_tree e s y)) (size_tree e s t) n h in
    ap (λ (k : ℕ). extent_nested e s y + k) (extent_is e s t (amount (size_tree e s t)) p.1) ∙ sym p.2

-- an operation begins after the bytes of those before it in its row
pub starts_at : (e : Encoding) (s : Scope) (inner : ℕ → Tree) (b : Store) (p : ℕ) (xs ys : List Operation) →
    get_or (starts e s p (rows inner b (xs ++ ys))) (length xs) 0 ≡ p + extent e s (rows inner b xs)
starts_at e s inner b p [] ys = at_first (rows inner b ys)
  where
    at_first : (t : Tree) → get_or (starts e s p t) 0 0 ≡ p + 0
    at_first end = omega arith
    at_first (plain o bs t) = omega arith
    at_first (nest y t) = omega arith
starts_at e s inner b p (o ∷ xs) ys = grown (shape b o) (λ q. starts_at e s inner b q xs ys)
  where
    rest : Tree
    rest = rows inner b (xs ++ ys)

    before : Tree
    before = rows inner b xs

    grown : (x : Shape) → ((q : ℕ) → get_or (starts e s q rest) (length xs) 0 ≡ q + extent e s before) →
        get_or (starts e s p (grow inner x rest)) (suc (length xs)) 0 ≡ p + extent e s (grow inner x before)
    grown (single o bs) k = k (p + extent_op e s o bs) ∙ omega arith
    grown (nesting m) k = k (p + extent_nested e s (inner m)) ∙ omega arith
