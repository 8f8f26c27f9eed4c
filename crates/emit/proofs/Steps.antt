-- What is left, one operation on.
use Rattle.std.proofs.Common.{◌≡◌, ℕ, ◌+◌, ◌<◌, ◌≤◌, List, length, get_or, drop, Ok, Err, Result, sym, refl, ap, ◌∙◌, arith}
use Rattle.common.specs.declared.encoding.Encoding.{Encoding}
use Rattle.common.specs.declared.error.Error.{Error}
use Rattle.dwarf.specs.Bytes.{joined}
use Rattle.dwarf.specs.Tokens.{done, code, nested}
use Rattle.op.specs.declared.operation.Operation.{Operation}
use Rattle.book_state.specs.State.{State, op_at, expression_at, operations_of}
use Rattle.book_state.specs.Whole.{Whole}
use Rattle.book_tree.specs.Store.{store_of, tree_in, size_by, size_in}
use Rattle.book_tree.proofs.Trees.{tree_is, operations_more, operations_all, length_operations}
use Rattle.positions.proofs.Starts.{starts_first, next_start}
use Rattle.rules.specs.Encode.{starts}
use Rattle.rules.specs.Operands.{by_version}
use Rattle.rules.specs.Passes.{check_op, check_tree, tokens_op, tokens_tree}
use Rattle.rules.specs.Results.{and_then, amount}
use Rattle.rules.specs.Scope.{Scope}
use Rattle.rules.specs.Tree as tree
use Rattle.rules.proofs.Results.{not_refused}
use Rattle.emit.specs.declared.cursor.Open.{Open}
use Rattle.emit.specs.Walk.{starts_of, rest_of, left_of, work}

-- two checks that both pass
pub both_pass : (x y : Result (Unit {0}) Error) → and_then x (λ u. y) ≡ Ok tt → (x ≡ Ok tt) × (y ≡ Ok tt)
both_pass (Ok u) y h = (refl, h)
both_pass (Err z) y h = not_refused ((Err z ≡ Ok tt) × (y ≡ Ok tt)) z tt h

module _ (e : Encoding) (s : Scope) (b : State) (w : Whole b) (f : Open) (there : f.number < b.sealed_count) (more : f.next < (expression_at b f.number).count) where
  here : Operation
  here = op_at b ((expression_at b f.number).start + f.next)

  then : Open
  then = record { number = f.number; next = f.next + 1 }

  rest_more : rest_of b f ≡ tree.grow (tree_in b) (tree.shape (store_of b) (op_at b ((expression_at b f.number).start + f.next))) (rest_of b (record { number = f.number; next = f.next + 1 }))
  rest_more = ap (tree.rows (tree_in b) (store_of b)) (operations_more b w f.number f.next there more)

  -- the next operation begins where this one ends
  begins : (h : tree.Shape) → tree.shape (store_of b) (op_at b ((expression_at b f.number).start + f.next)) ≡ h →
      get_or (starts_of e s b f.number) f.next 0 + amount (size_by e s (tree_in b) h) ≡ get_or (starts_of e s b f.number) (f.next + 1) 0
  begins h q =
      let k = f.number in let i = f.next in
      let x = op_at b ((expression_at b k).start + i) in
      let n = length_operations b w k there in
      let l : i < length (operations_of b k) = omega arith in
      let t = tree_is b w k there in
      let nx = next_start e s b i 0 (operations_of b k) (drop (i + 1) (operations_of b k)) x l (operations_more b w k i there more) in
      sym (ap (λ y. get_or (starts e s 0 y) (i + 1) 0) t ∙ (nx ∙ (sym (ap (λ y. get_or (starts e s 0 y) i 0 + amount (size_in e s b x)) t) ∙ ap (λ y. get_or (starts_of e s b k) i 0 + amount (size_by e s (tree_in b) y)) q)))

  module _ (o : Operation) (bs : List ℕ) (q : tree.shape (store_of b) (op_at b ((expression_at b f.number).start + f.next)) ≡ tree.single o bs) where
    at : ℕ
    at = get_or (starts_of e s b f.number) f.next 0

    rest_single : rest_of b f ≡ tree.plain o bs (rest_of b (record { number = f.number; next = f.next + 1 }))
    rest_single = rest_more ∙ ap (λ h. tree.grow (tree_in b) h (rest_of b (record { number = f.number; next = f.next + 1 }))) q

    pub left-single : left_of e s b f
        ≡ joined (tokens_op e s (starts_of e s b f.number) (get_or (starts_of e s b f.number) f.next 0) o bs) (left_of e s b (record { number = f.number; next = f.next + 1 }))
    left-single =
        let hs = starts_of e s b f.number in let p = get_or (starts_of e s b f.number) f.next 0 in
        ap (tokens_tree e s hs p) rest_single
        ∙ ap (λ (n : ℕ). joined (tokens_op e s hs p o bs) (tokens_tree e s hs n (rest_of b (record { number = f.number; next = f.next + 1 })))) (begins (tree.single o bs) q)

    pub check_single : check_tree e s (starts_of e s b f.number) (get_or (starts_of e s b f.number) f.next 0) (rest_of b f) ≡ Ok tt →
        (check_op e s (starts_of e s b f.number) (get_or (starts_of e s b f.number) f.next 0) o bs ≡ Ok tt)
        × (check_tree e s (starts_of e s b f.number) (get_or (starts_of e s b f.number) (f.next + 1) 0) (rest_of b (record { number = f.number; next = f.next + 1 })) ≡ Ok tt)
    check_single h =
        let hs = starts_of e s b f.number in let p = get_or (starts_of e s b f.number) f.next 0 in
        both_pass (check_op e s hs p o bs) (check_tree e s hs (get_or hs (f.next + 1) 0) (rest_of b (record { number = f.number; next = f.next + 1 })))
        (sym (ap (λ (n : ℕ). and_then (check_op e s hs p o bs) (λ u. check_tree e s hs n (rest_of b (record { number = f.number; next = f.next + 1 })))) (begins (tree.single o bs) q))
        ∙ (sym (ap (check_tree e s hs p) rest_single) ∙ h))

    pub work-single : work (rest_of b f) ≡ 1 + work (rest_of b (record { number = f.number; next = f.next + 1 }))
    work-single = ap work rest_single

  module _ (m : ℕ) (q : tree.shape (store_of b) (op_at b ((expression_at b f.number).start + f.next)) ≡ tree.nesting m) where
    rest_nested : rest_of b f ≡ tree.nest (tree_in b m) (rest_of b (record { number = f.number; next = f.next + 1 }))
    rest_nested = rest_more ∙ ap (λ h. tree.grow (tree_in b) h (rest_of b (record { number = f.number; next = f.next + 1 }))) q

    pub left-nested : left_of e s b f
        ≡ code (by_version e 0xa3 0xf3) (nested (tokens_tree e s (starts_of e s b m) 0 (tree_in b m)) (left_of e s b (record { number = f.number; next = f.next + 1 })))
    left-nested =
        let hs = starts_of e s b f.number in let p = get_or (starts_of e s b f.number) f.next 0 in
        ap (tokens_tree e s hs p) rest_nested
        ∙ ap (λ (n : ℕ). code (by_version e 0xa3 0xf3) (nested (tokens_tree e s (starts_of e s b m) 0 (tree_in b m)) (tokens_tree e s hs n (rest_of b (record { number = f.number; next = f.next + 1 }))))) (begins (tree.nesting m) q)

    pub check_nested : check_tree e s (starts_of e s b f.number) (get_or (starts_of e s b f.number) f.next 0) (rest_of b f) ≡ Ok tt →
        (check_tree e s (starts_of e s b m) 0 (tree_in b m) ≡ Ok tt)
        × (check_tree e s (starts_of e s b f.number) (get_or (starts_of e s b f.number) (f.next + 1) 0) (rest_of b (record { number = f.number; next = f.next + 1 })) ≡ Ok tt)
    check_nested h =
        let hs = starts_of e s b f.number in let p = get_or (starts_of e s b f.number) f.next 0 in
        both_pass (check_tree e s (starts_of e s b m) 0 (tree_in b m)) (check_tree e s hs (get_or hs (f.next + 1) 0) (rest_of b (record { number = f.number; next = f.next + 1 })))
        (sym (ap (λ (n : ℕ). and_then (check_tree e s (starts_of e s b m) 0 (tree_in b m)) (λ u. check_tree e s hs n (rest_of b (record { number = f.number; next = f.next + 1 })))) (begins (tree.nesting m) q))
        ∙ (sym (ap (check_tree e s hs p) rest_nested) ∙ h))

    pub work-nested : work (rest_of b f) ≡ 2 + work (tree_in b m) + work (rest_of b (record { number = f.number; next = f.next + 1 }))
    work-nested = ap work rest_nested

-- an expression at its beginning
module _ (e : Encoding) (s : Scope) (b : State) (w : Whole b) (k : ℕ) (there : k < b.sealed_count) where
  rest_whole : rest_of b (record { number = k; next = 0 }) ≡ tree_in b k
  rest_whole = sym (tree_is b w k there)

  pub left_whole : left_of e s b (record { number = k; next = 0 }) ≡ tokens_tree e s (starts_of e s b k) 0 (tree_in b k)
  left_whole =
      ap (λ (p : ℕ). tokens_tree e s (starts_of e s b k) p (rest_of b (record { number = k; next = 0 }))) (starts_first e s 0 (tree_in b k))
      ∙ ap (tokens_tree e s (starts_of e s b k) 0) rest_whole

  pub check_whole : check_tree e s (starts_of e s b k) (get_or (starts_of e s b k) 0 0) (rest_of b (record { number = k; next = 0 })) ≡ check_tree e s (starts_of e s b k) 0 (tree_in b k)
  check_whole =
      ap (λ (p : ℕ). check_tree e s (starts_of e s b k) p (rest_of b (record { number = k; next = 0 }))) (starts_first e s 0 (tree_in b k))
      ∙ ap (check_tree e s (starts_of e s b k) 0) rest_whole

  pub work_whole : work (rest_of b (record { number = k; next = 0 })) ≡ work (tree_in b k)
  work_whole = ap work rest_whole

-- an expression at its end
pub left_none : (e : Encoding) (s : Scope) (b : State) (w : Whole b) (f : Open) → f.number < b.sealed_count → (expression_at b f.number).count ≤ f.next → left_of e s b f ≡ done
left_none e s b w f there l =
    ap (λ xs. tokens_tree e s (starts_of e s b f.number) (get_or (starts_of e s b f.number) f.next 0) (tree.rows (tree_in b) (store_of b) xs)) (operations_all b w f.number f.next there l)
