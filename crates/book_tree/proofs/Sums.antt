-- Sizes of operations in a row.
use Rattle.std.proofs.Common.{◌≡◌, ℕ, ◌+◌, List, [], ◌∷◌, Ok, Err, Result, sym, refl, ap, ◌∙◌, add_assoc, arith}
use Rattle.common.specs.declared.encoding.Encoding.{Encoding}
use Rattle.common.specs.declared.error.Error.{Error}
use Rattle.op.specs.declared.operation.Operation.{Operation}
use Rattle.book_state.specs.State.{State}
use Rattle.rules.specs.Results.{plus}
use Rattle.rules.specs.Scope.{Scope}
use Rattle.rules.specs.Sizes.{size_tree}
use Rattle.rules.specs.Tree as tree
use Rattle.book_tree.specs.Store.{store_of, tree_in, size_by, size_in}

pub grow_size : (e : Encoding) (s : Scope) (inner : ℕ → tree.Tree) (h : tree.Shape) (t : tree.Tree) → size_tree e s (tree.grow inner h t) ≡ plus (size_by e s inner h) (size_tree e s t)
grow_size e s inner (tree.single o bs) t = refl
grow_size e s inner (tree.nesting n) t = refl

pub plus-plus : (t n : ℕ) (r : Result ℕ Error) → plus (Ok t) (plus (Ok n) r) ≡ plus (Ok (t + n)) r
plus-plus t n (Ok m) = ap Ok (sym (add_assoc t n m))
plus-plus t n (Err e) = refl

-- the bytes of operations in a row
abbrev pub rows_size : Encoding → Scope → State → List Operation → Result ℕ Error
rows_size e s b xs = size_tree e s (tree.rows (tree_in b) (store_of b) xs)

pub plus_start : (r : Result ℕ Error) → plus (Ok 0) r ≡ r
plus_start (Ok n) = let z : 0 + n ≡ n = omega arith in ap Ok z
plus_start (Err e) = refl

module _ (e : Encoding) (s : Scope) (b : State) (xs : List Operation) (t : ℕ) (r : Result ℕ Error) where
  -- the first operation's size is added
  pub size_more : (x : Operation) (ys : List Operation) (n : ℕ) → xs ≡ x ∷ ys → Ok n ≡ size_in e s b x →
      plus (Ok t) (rows_size e s b xs) ≡ r → plus (Ok (t + n)) (rows_size e s b ys) ≡ r
  size_more x ys n p k h =
      let a : rows_size e s b xs ≡ plus (size_in e s b x) (rows_size e s b ys) = ap (rows_size e s b) p ∙ grow_size e s (tree_in b) (tree.shape (store_of b) x) (tree.rows (tree_in b) (store_of b) ys) in
      sym (plus-plus t n (rows_size e s b ys)) ∙ (ap (λ y. plus (Ok t) (plus y (rows_size e s b ys))) k ∙ (ap (plus (Ok t)) (sym a) ∙ h))

  -- or refused
  pub size_stop : (x : Operation) (ys : List Operation) (z : Error) → xs ≡ x ∷ ys → Err z ≡ size_in e s b x →
      plus (Ok t) (rows_size e s b xs) ≡ r → Err z ≡ r
  size_stop x ys z p k h =
      let a : rows_size e s b xs ≡ plus (size_in e s b x) (rows_size e s b ys) = ap (rows_size e s b) p ∙ grow_size e s (tree_in b) (tree.shape (store_of b) x) (tree.rows (tree_in b) (store_of b) ys) in
      ap (λ y. plus (Ok t) (plus y (rows_size e s b ys))) k ∙ (ap (plus (Ok t)) (sym a) ∙ h)

  -- nothing is left
  pub size_all : xs ≡ [] → plus (Ok t) (rows_size e s b xs) ≡ r → Ok t ≡ r
  size_all p h = let z : t ≡ t + 0 = omega arith in ap Ok z ∙ (sym (ap (λ y. plus (Ok t) (rows_size e s b y)) p) ∙ h)
