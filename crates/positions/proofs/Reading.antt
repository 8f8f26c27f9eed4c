-- A branch's places, read off the table.
use Rattle.std.proofs.Common.{◌≡◌, ℕ, ◌+◌, ◌-◌, ◌<◌, ◌≤◌, ltb, List, length, get_or, drop, Some, Ok, Err, Option, Result, sym, ap, ◌∙◌, arith}
use Rattle.std.proofs.lemmas.Bool.{cond-true, cond-false, lt-ltb, le-ltb}
use Rattle.common.specs.declared.encoding.Encoding.{Encoding}
use Rattle.common.specs.declared.error.Error.{Error}
use Rattle.common.specs.declared.error.Error.TheVariants.{BadTarget}
use Rattle.book_state.specs.State.{State, op_at, expression_at, operations_of}
use Rattle.book_state.specs.Whole.{Whole}
use Rattle.book_tree.specs.Store.{size_in, tree_in}
use Rattle.book_tree.proofs.Trees.{tree_is, length_operations, operations_more}
use Rattle.rules.specs.Encode.{starts}
use Rattle.rules.specs.Operands.{displaced, displacement_from}
use Rattle.rules.specs.Results.{and_then, amount}
use Rattle.rules.specs.Scope.{Scope}
use Rattle.positions.specs.Ends.{Own}
use Rattle.positions.proofs.Starts.{starts_first, starts-length, next_start}

module _ (e : Encoding) (s : Scope) (b : State) (w : Whole b) (k : ℕ) (there : k < b.sealed_count) where
  pub tree_starts : length (starts e s 0 (tree_in b k)) ≡ (expression_at b k).count + 1
  tree_starts =
      ap (λ t. length (starts e s 0 t)) (tree_is b w k there) ∙ (starts-length e s b 0 (operations_of b k) ∙ ap (λ n. n + 1) (length_operations b w k there))

  -- where an operation ends, the next begins
  pub end_read : (table : List ℕ) → Own e s b table k → (i : ℕ) → i < (expression_at b k).count →
      get_or table ((expression_at b k).start + i) 0 ≡ get_or (starts e s 0 (tree_in b k)) (i + 1) 0
  end_read table own i l =
      let v : (expression_at b k).start + i - (expression_at b k).start ≡ i = omega arith in
      (own i l k there (omega arith) (omega arith)).0 ∙ ap (λ n. get_or (starts e s 0 (tree_in b k)) (n + 1) 0) v

  module _ (after : ℕ) (target : Option ℕ) where
    pub read_past : (t : ℕ) → target ≡ Some t → (expression_at b k).count < t → Err BadTarget ≡ displaced (starts e s 0 (tree_in b k)) after target
    read_past t q l =
        let hs = starts e s 0 (tree_in b k) in
        let n = tree_starts in
        sym (ap (displaced hs after) q ∙ ap (λ (r : Result ℕ Error). and_then r (displacement_from after)) (cond-false (ltb t (length hs)) (Ok (get_or hs t 0)) (Err BadTarget) (le-ltb t (length hs) (omega arith))))

    pub read_target : (t : ℕ) → target ≡ Some t → t ≤ (expression_at b k).count → (to : ℕ) → to ≡ get_or (starts e s 0 (tree_in b k)) t 0 →
        displacement_from after to ≡ displaced (starts e s 0 (tree_in b k)) after target
    read_target t q l to h =
        let hs = starts e s 0 (tree_in b k) in
        let n = tree_starts in
        sym (ap (displaced hs after) q
        ∙ (ap (λ (r : Result ℕ Error). and_then r (displacement_from after)) (cond-true (ltb t (length hs)) (Ok (get_or hs t 0)) (Err BadTarget) (lt-ltb t (length hs) (omega arith)))
        ∙ ap (displacement_from after) (sym h)))

  pub first_read : (t : ℕ) → t ≡ 0 → 0 ≡ get_or (starts e s 0 (tree_in b k)) t 0
  first_read t z = sym (ap (λ n. get_or (starts e s 0 (tree_in b k)) n 0) z ∙ starts_first e s 0 (tree_in b k))

  pub target_read : (table : List ℕ) → Own e s b table k → (t : ℕ) → 0 < t → t ≤ (expression_at b k).count →
      get_or table ((expression_at b k).start + t - 1) 0 ≡ get_or (starts e s 0 (tree_in b k)) t 0
  target_read table own t l h =
      let v : (expression_at b k).start + t - 1 ≡ (expression_at b k).start + (t - 1) = omega arith in
      let u : t - 1 + 1 ≡ t = omega arith in
      ap (λ n. get_or table n 0) v ∙ (end_read table own (t - 1) (omega arith) ∙ ap (λ n. get_or (starts e s 0 (tree_in b k)) n 0) u)

  -- an operation begins where the one before it ends
  pub next_at : (i : ℕ) → i < (expression_at b k).count →
      get_or (starts e s 0 (tree_in b k)) (i + 1) 0 ≡ get_or (starts e s 0 (tree_in b k)) i 0 + amount (size_in e s b (op_at b ((expression_at b k).start + i)))
  next_at i l =
      let xs = operations_of b k in let x = op_at b ((expression_at b k).start + i) in
      let n = length_operations b w k there in
      let t = tree_is b w k there in
      ap (λ y. get_or (starts e s 0 y) (i + 1) 0) t
      ∙ (next_start e s b i 0 xs (drop (i + 1) xs) x (omega arith) (operations_more b w k i there l) ∙ sym (ap (λ y. get_or (starts e s 0 y) i 0 + amount (size_in e s b x)) t))
