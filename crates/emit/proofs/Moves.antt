-- Each step of the writing leaves what the sink and the rows come to as it was.
use Rattle.std.proofs.Common.{◌≡◌, ℕ, zero, suc, ◌+◌, ◌-◌, ◌<◌, ◌≤◌, ◌≢◌, List, ◌∷◌, ◌++◌, length, get_or, set, sym, refl, ap, ◌∙◌, arith}
use Rattle.std.proofs.lemmas.List.{get_or-set_same, get_or-set_other}
use Rattle.common.specs.declared.encoding.Encoding.{Encoding}
use Rattle.common.specs.declared.fixup.DebugInfoFixup.{DebugInfoFixup}
use Rattle.dwarf.specs.Bytes.{bytes_of, joined, size_of}
use Rattle.dwarf.specs.Leb.{uleb}
use Rattle.dwarf.specs.References.{references}
use Rattle.op.specs.declared.operation.Operation.{Operation}
use Rattle.book_state.specs.State.{State, op_at, expression_at}
use Rattle.book_state.specs.Whole.{Whole}
use Rattle.book_tree.specs.Store.{store_of, tree_in}
use Rattle.rules.specs.Operands.{by_version}
use Rattle.rules.specs.Passes.{tokens_op, tokens_tree}
use Rattle.rules.specs.Scope.{Scope}
use Rattle.rules.specs.Tree as tree
use Rattle.writer.specs.Meaning.{Sink}
use Rattle.emit.specs.declared.cursor.Cursor.{Cursor}
use Rattle.emit.specs.declared.cursor.Open.{Open}
use Rattle.emit.specs.Walk.{no_open, starts_of, rest_of, left_of, below, left, grown, come, work, pile, to_do, moved, popped, entered}
use Rattle.emit.proofs.Coming.{joined_assoc, come-joined, come-nested}
use Rattle.emit.proofs.Steps.{left-single, left-nested, left_whole, left_none, work-single, work-nested, work_whole}

module _ (e : Encoding) (s : Scope) (b : State) where
  below_set : (opens : List Open) (l : ℕ) (f : Open) (n : ℕ) → n ≤ l → below e s b (set opens l f) n ≡ below e s b opens n
  below_set opens l f zero h = refl
  below_set opens l f (suc j) h =
      let ne : j ≢ l = omega arith in
      ap (λ (g : Open). joined (left_of e s b g) (below e s b (set opens l f) j)) (get_or-set_other opens l j f no_open ne)
      ∙ ap (joined (left_of e s b (get_or opens j no_open))) (below_set opens l f j (omega arith))

pile-set : (b : State) (opens : List Open) (l : ℕ) (f : Open) (n : ℕ) → n ≤ l → pile b (set opens l f) n ≡ pile b opens n
pile-set b opens l f zero h = refl
pile-set b opens l f (suc j) h =
    let ne : j ≢ l = omega arith in
    ap (λ (g : Open). 1 + work (rest_of b g) + pile b (set opens l f) j) (get_or-set_other opens l j f no_open ne)
    ∙ ap (λ n. 1 + work (rest_of b (get_or opens j no_open)) + n) (pile-set b opens l f j (omega arith))

module _ (e : Encoding) (s : Scope) (b : State) (w : Whole b) (c : Cursor) (there : c.top.number < b.sealed_count) where
  -- an operation that nests nothing is written
  module _ (more : c.top.next < (expression_at b c.top.number).count) (o : Operation) (bs : List ℕ)
      (q : tree.shape (store_of b) (op_at b ((expression_at b c.top.number).start + c.top.next)) ≡ tree.single o bs) where
    pub left-moved : left e s b c ≡ joined (tokens_op e s (starts_of e s b c.top.number) (get_or (starts_of e s b c.top.number) c.top.next 0) o bs) (left e s b (moved c))
    left-moved =
        let a = tokens_op e s (starts_of e s b c.top.number) (get_or (starts_of e s b c.top.number) c.top.next 0) o bs in
        ap (λ t. joined t (below e s b c.around c.level)) (left-single e s b w c.top there more o bs q)
        ∙ joined_assoc a (left_of e s b (moved c).top) (below e s b c.around c.level)

    pub come-moved : (k k' : Sink) (rows rows' : List DebugInfoFixup) →
        k' ≡ grown k (bytes_of k.big (tokens_op e s (starts_of e s b c.top.number) (get_or (starts_of e s b c.top.number) c.top.next 0) o bs)) →
        rows' ≡ rows ++ references (length k.content) (tokens_op e s (starts_of e s b c.top.number) (get_or (starts_of e s b c.top.number) c.top.next 0) o bs) →
        come k' rows' (left e s b (moved c)) ≡ come k rows (left e s b c)
    come-moved k k' rows rows' x y =
        let a = tokens_op e s (starts_of e s b c.top.number) (get_or (starts_of e s b c.top.number) c.top.next 0) o bs in
        ap (λ (z : Sink). come z rows' (left e s b (moved c))) x
        ∙ (ap (λ (r : List DebugInfoFixup). come (grown k (bytes_of k.big a)) r (left e s b (moved c))) y
        ∙ (come-joined k rows a (left e s b (moved c)) ∙ ap (come k rows) (sym left-moved)))

    pub less_moved : to_do b (moved c) < to_do b c
    less_moved = let h = work-single e s b w c.top there more o bs q in omega arith

  -- an expression is left
  pub come-popped : (j : ℕ) → c.level ≡ suc j → (expression_at b c.top.number).count ≤ c.top.next → (k : Sink) (rows : List DebugInfoFixup) →
      come k rows (left e s b (popped c)) ≡ come k rows (left e s b c)
  unfolding joined
  come-popped j l h k rows =
      let a : left e s b c ≡ below e s b c.around (suc j) =
      ap (λ t. joined t (below e s b c.around c.level)) (left_none e s b w c.top there h) ∙ ap (below e s b c.around) l in
      let p : popped c ≡ record { top = get_or c.around j no_open; around = c.around; level = j } =
      ap (λ (n : ℕ). record { top = get_or c.around (n - 1) no_open; around = c.around; level = n - 1 }) l
      ∙ ap (λ (n : ℕ). record { top = get_or c.around n no_open; around = c.around; level = n }) (let z : suc j - 1 ≡ j = omega arith in z) in
      ap (come k rows) (ap (left e s b) p ∙ sym a)

  pub less_popped : 0 < c.level → to_do b (popped c) < to_do b c
  less_popped l =
      let z : c.level ≡ suc (c.level - 1) = omega arith in
      let h : pile b c.around c.level ≡ 1 + work (rest_of b (get_or c.around (c.level - 1) no_open)) + pile b c.around (c.level - 1) = ap (pile b c.around) z in
      omega arith

  -- an expression is entered
  module _ (more : c.top.next < (expression_at b c.top.number).count) (m : ℕ) (inner : m < b.sealed_count)
      (q : tree.shape (store_of b) (op_at b ((expression_at b c.top.number).start + c.top.next)) ≡ tree.nesting m)
      (deep : c.level < 16) (opens : length c.around ≡ 16) where
    back : get_or (set c.around c.level (record { number = c.top.number; next = c.top.next + 1 })) c.level no_open ≡ record { number = c.top.number; next = c.top.next + 1 }
    back = get_or-set_same c.around c.level (record { number = c.top.number; next = c.top.next + 1 }) no_open (omega arith)

    pub come-entered : (k k' : Sink) (rows : List DebugInfoFixup) →
        k' ≡ grown k (by_version e 0xa3 0xf3 ∷ uleb (size_of (tokens_tree e s (starts_of e s b m) 0 (tree_in b m)))) →
        come k' rows (left e s b (entered c m)) ≡ come k rows (left e s b c)
    come-entered k k' rows x =
        let a = tokens_tree e s (starts_of e s b m) 0 (tree_in b m) in
        let f : Open = record { number = c.top.number; next = c.top.next + 1 } in
        let B = below e s b c.around c.level in
        let y : left e s b (entered c m) ≡ joined a (joined (left_of e s b f) B) =
        ap (λ t. joined t (below e s b (set c.around c.level f) (suc c.level))) (left_whole e s b w m inner)
        ∙ ap (joined a) (ap (λ (g : Open). joined (left_of e s b g) (below e s b (set c.around c.level f) c.level)) back
        ∙ ap (joined (left_of e s b f)) (below_set e s b c.around c.level f c.level (omega arith))) in
        ap (λ (z : Sink). come z rows (left e s b (entered c m))) x
        ∙ (ap (come (grown k (by_version e 0xa3 0xf3 ∷ uleb (size_of a))) rows) y
        ∙ (come-nested k rows (by_version e 0xa3 0xf3) a (left_of e s b f) B
        ∙ ap (λ t. come k rows (joined t B)) (sym (left-nested e s b w c.top there more m q))))

    pub less_entered : to_do b (entered c m) < to_do b c
    less_entered =
        let f : Open = record { number = c.top.number; next = c.top.next + 1 } in
        let h = work-nested e s b w c.top there more m q in
        let i = work_whole e s b w m inner in
        let p = pile-set b c.around c.level f c.level (omega arith) in
        let g : work (rest_of b (get_or (set c.around c.level f) c.level no_open)) ≡ work (rest_of b f) = ap (λ (o : Open). work (rest_of b o)) back in
        omega arith
