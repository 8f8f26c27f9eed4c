-- Ends that are written into the table.
use Rattle.std.proofs.Common.{◌≡◌, ℕ, zero, suc, ◌+◌, ◌-◌, ◌<◌, ◌≤◌, List, length, get_or, set, sym, ap, ◌∙◌, subst, ⊎_elim, arith}
use Rattle.std.proofs.lemmas.List.{get_or-set_same, get_or-set_other}
use Rattle.std.proofs.lemmas.Bool.{cases_eq}
use Rattle.common.specs.declared.encoding.Encoding.{Encoding}
use Rattle.book_state.specs.declared.shape.Shape.TheVariants.{Nesting}
use Rattle.book_state.specs.Operations.{shape}
use Rattle.book_state.specs.State.{State, op_at, expression_at}
use Rattle.book_state.specs.Whole.{Ordered, heaviest}
use Rattle.rules.specs.Encode.{starts}
use Rattle.rules.specs.Scope.{Scope}
use Rattle.book_tree.specs.Store.{tree_in}
use Rattle.positions.specs.Ends.{EndsAt, filled_to, Filled, FilledBy, Keeps}

-- a place lies in one expression
pub one_owner : (b : State) → Ordered b → (j k p : ℕ) → j < b.sealed_count → k < b.sealed_count →
    (expression_at b j).start ≤ p → p < (expression_at b j).start + (expression_at b j).count →
    (expression_at b k).start ≤ p → p < (expression_at b k).start + (expression_at b k).count → j ≡ k
one_owner b o j k p hj hk a c d f = grind (arith, o j k, o k j)

module _ (e : Encoding) (s : Scope) (b : State) where
  pub keeps_then : (x y z : List ℕ) → Keeps e s b x y → Keeps e s b y z → Keeps e s b x z
  keeps_then x y z f g p h = g p (f p h)

  -- an end is written
  module _ (o : Ordered b) (k : ℕ) (there : k < b.sealed_count) (table : List ℕ) (i x : ℕ) (wide : (expression_at b k).start + i < length table)
      (l : i < (expression_at b k).count) (is : x ≡ get_or (starts e s 0 (tree_in b k)) (i + 1) 0) (light : x ≤ heaviest) where
    pub written : EndsAt e s b (set table ((expression_at b k).start + i) x) ((expression_at b k).start + i)
    written j h a c =
        let p = (expression_at b k).start + i in
        let q : k ≡ j = one_owner b o k j p there h (omega arith) (omega arith) a c in
        let w = get_or-set_same table p x 0 wide in
        let v : i ≡ p - (expression_at b k).start = omega arith in (
          w ∙ (is ∙ (ap (λ n. get_or (starts e s 0 (tree_in b k)) (n + 1) 0) v ∙ ap (λ n. get_or (starts e s 0 (tree_in b n)) (p - (expression_at b n).start + 1) 0) q)),
          omega arith,
        )

    pub written_keeps : Keeps e s b table (set table ((expression_at b k).start + i) x)
    written_keeps p h = ⊎_elim
        (λ q. subst (EndsAt e s b (set table ((expression_at b k).start + i) x)) (sym q) written)
        (λ ne j t a c. let w = get_or-set_other table ((expression_at b k).start + i) p x 0 ne in let v = h j t a c in let v1 = v.1 in (w ∙ v.0, omega arith))
        (cases_eq p ((expression_at b k).start + i))

  -- what is filled stays filled
  filled_to_keeps : (n : ℕ) (x y : List ℕ) (k : ℕ) → Keeps e s b x y → filled_to n e s b x k → filled_to n e s b y k
  unfolding filled_to
  filled_to_keeps zero x y k f h = λ i l. f ((expression_at b k).start + i) (h i l)
  filled_to_keeps (suc n) x y k f h = (λ i l. f ((expression_at b k).start + i) (h.0 i l), λ i m l q. filled_to_keeps n x y m f (h.1 i m l q))

  pub filled_keeps : (x y : List ℕ) (k : ℕ) → Keeps e s b x y → Filled e s b x k → Filled e s b y k
  filled_keeps x y k f h n = filled_to_keeps n x y k f (h n)

  -- an expression is filled where its operations are, and what they nest
  pub filled_is : (x : List ℕ) (k : ℕ) → ((i : ℕ) → i < (expression_at b k).count → EndsAt e s b x ((expression_at b k).start + i)) →
      ((i : ℕ) → i < (expression_at b k).count → FilledBy e s b x (op_at b ((expression_at b k).start + i))) → Filled e s b x k
  unfolding filled_to
  filled_is x k own inner zero = own
  filled_is x k own inner (suc n) = (own, λ i m l q. inner i l m q n)

  pub filled-own : (x : List ℕ) (k : ℕ) → Filled e s b x k → (i : ℕ) → i < (expression_at b k).count → EndsAt e s b x ((expression_at b k).start + i)
  unfolding filled_to
  filled-own x k h = h 0

  pub filled_inner : (x : List ℕ) (k : ℕ) → Filled e s b x k → (i m : ℕ) → i < (expression_at b k).count → shape (op_at b ((expression_at b k).start + i)) ≡ Nesting m → Filled e s b x m
  unfolding filled_to
  filled_inner x k h i m l q n = (h (suc n)).1 i m l q
