-- Where the operations of an expression begin, one after another.
use Rattle.std.proofs.Common.{◌≡◌, ℕ, zero, suc, ◌+◌, ◌<◌, ◌≤◌, List, [], ◌∷◌, length, get_or, drop, Ok, sym, refl, ap, ◌∙◌, arith}
use Rattle.std.proofs.lemmas.List.{get_or-drop, drop-drop}
use Rattle.common.specs.declared.encoding.Encoding.{Encoding}
use Rattle.op.specs.declared.operation.Operation.{Operation}
use Rattle.book_state.specs.State.{State}
use Rattle.rules.specs.Encode.{starts}
use Rattle.rules.specs.Results.{amount}
use Rattle.rules.specs.Scope.{Scope}
use Rattle.rules.specs.Tree as tree
use Rattle.book_tree.specs.Store.{store_of, tree_in, size_by, size_in}

-- the first begins where the expression does
pub starts_first : (e : Encoding) (s : Scope) (p : ℕ) (t : tree.Tree) → get_or (starts e s p t) 0 0 ≡ p
starts_first e s p tree.end = refl
starts_first e s p (tree.plain o bs t) = refl
starts_first e s p (tree.nest y t) = refl

starts-grow : (e : Encoding) (s : Scope) (p : ℕ) (inner : ℕ → tree.Tree) (h : tree.Shape) (t : tree.Tree) →
    starts e s p (tree.grow inner h t) ≡ p ∷ starts e s (p + amount (size_by e s inner h)) t
starts-grow e s p inner (tree.single o bs) t = refl
starts-grow e s p inner (tree.nesting n) t = refl

-- the starts of operations in a row
abbrev pub row_starts : Encoding → Scope → State → ℕ → List Operation → List ℕ
row_starts e s b p xs = starts e s p (tree.rows (tree_in b) (store_of b) xs)

pub starts_more : (e : Encoding) (s : Scope) (b : State) (p n : ℕ) (xs ys : List Operation) (x : Operation) → xs ≡ x ∷ ys → Ok n ≡ size_in e s b x →
    row_starts e s b p xs ≡ p ∷ row_starts e s b (p + n) ys
starts_more e s b p n xs ys x q h =
    ap (row_starts e s b p) q ∙ (starts-grow e s p (tree_in b) (tree.shape (store_of b) x) (tree.rows (tree_in b) (store_of b) ys)
    ∙ ap (λ r. p ∷ row_starts e s b (p + amount r) ys) (sym h))

-- one operation on
module _ (e : Encoding) (s : Scope) (b : State) (all : List ℕ) (i p n : ℕ) (xs ys : List Operation) (x : Operation)
    (q : xs ≡ x ∷ ys) (h : Ok n ≡ size_in e s b x) (here : row_starts e s b p xs ≡ drop i all) where
  pub starts_next : row_starts e s b (p + n) ys ≡ drop (i + 1) all
  starts_next =
      let a : p ∷ row_starts e s b (p + n) ys ≡ drop i all = sym (starts_more e s b p n xs ys x q h) ∙ here in
      ap (λ (l : List ℕ). drop 1 l) a ∙ drop-drop 1 i all

  pub next_begins : get_or all (i + 1) 0 ≡ p + n
  next_begins =
      let z : i + 1 + 0 ≡ i + 1 = omega arith in
      sym (ap (λ k. get_or all k 0) z) ∙ (sym (get_or-drop (i + 1) all 0 0) ∙ (ap (λ (l : List ℕ). get_or l 0 0) (sym starts_next) ∙ starts_first e s (p + n) (tree.rows (tree_in b) (store_of b) ys)))

-- an expression has one start more than operations: its end
pub starts-length : (e : Encoding) (s : Scope) (b : State) (p : ℕ) (xs : List Operation) → length (row_starts e s b p xs) ≡ length xs + 1
starts-length e s b p [] = refl
starts-length e s b p (x ∷ xs) =
    let h = starts-length e s b (p + amount (size_in e s b x)) xs in
    let a : length (row_starts e s b p (x ∷ xs)) ≡ suc (length (row_starts e s b (p + amount (size_in e s b x)) xs)) =
    ap length (starts-grow e s p (tree_in b) (tree.shape (store_of b) x) (tree.rows (tree_in b) (store_of b) xs)) in
    omega arith

-- the operations from one on begin where the list of all from there on says
pub starts_from : (e : Encoding) (s : Scope) (b : State) (i p : ℕ) (xs : List Operation) → i ≤ length xs →
    row_starts e s b (get_or (row_starts e s b p xs) i 0) (drop i xs) ≡ drop i (row_starts e s b p xs)
starts_from e s b zero p xs l = ap (λ q. row_starts e s b q xs) (starts_first e s p (tree.rows (tree_in b) (store_of b) xs))
starts_from e s b (suc i) p [] l = absurd (omega arith)
starts_from e s b (suc i) p (x ∷ xs) l =
    let q : ℕ = p + amount (size_in e s b x) in
    let a : row_starts e s b p (x ∷ xs) ≡ p ∷ row_starts e s b q xs =
    starts-grow e s p (tree_in b) (tree.shape (store_of b) x) (tree.rows (tree_in b) (store_of b) xs) in
    ap (λ (l : List ℕ). row_starts e s b (get_or l (suc i) 0) (drop i xs)) a ∙ (starts_from e s b i q xs (omega arith) ∙ sym (ap (λ (l : List ℕ). drop (suc i) l) a))

-- an operation begins where the one before it ends
pub next_start : (e : Encoding) (s : Scope) (b : State) (i p : ℕ) (xs ys : List Operation) (x : Operation) → i < length xs → drop i xs ≡ x ∷ ys →
    get_or (row_starts e s b p xs) (i + 1) 0 ≡ get_or (row_starts e s b p xs) i 0 + amount (size_in e s b x)
next_start e s b i p xs ys x l q =
    let all = row_starts e s b p xs in
    let at = get_or (row_starts e s b p xs) i 0 in
    let a : drop i all ≡ at ∷ row_starts e s b (at + amount (size_in e s b x)) ys =
    sym (starts_from e s b i p xs (omega arith)) ∙ (ap (row_starts e s b at) q ∙ starts-grow e s at (tree_in b) (tree.shape (store_of b) x) (tree.rows (tree_in b) (store_of b) ys)) in
    sym (get_or-drop i all 1 0) ∙ (ap (λ (l : List ℕ). get_or l 1 0) a ∙ starts_first e s (at + amount (size_in e s b x)) (tree.rows (tree_in b) (store_of b) ys))
