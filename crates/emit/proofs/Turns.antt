-- One turn of the writing: an operation that nests nothing, or the front of one that does.
use Rattle.std.proofs.Common.{◌≡◌, ℕ, ◌+◌, ◌-◌, ◌<◌, ◌≤◌, List, [], ◌∷◌, ◌++◌, length, get_or, take, Ok, Result, sym, refl, ap, ◌∙◌, subst, arith, length-append}
use Rattle.std.proofs.lemmas.List.{append-nil}
use Rattle.common.specs.declared.encoding.Encoding.{Encoding}
use Rattle.common.specs.declared.error.Error.{Error}
use Rattle.common.specs.declared.fixup.DebugInfoFixup.{DebugInfoFixup}
use Rattle.dwarf.specs.Bytes.{bytes_of, joined, size_of}
use Rattle.dwarf.specs.Leb.{uleb}
use Rattle.dwarf.specs.References.{references}
use Rattle.dwarf.specs.Tokens.{Tokens, done}
use Rattle.dwarf.proofs.Joining.{size_joined, references-joined}
use Rattle.op.specs.declared.operation.Operation.{Operation}
use Rattle.op.specs.declared.operation.Operation.TheVariants as op
use Rattle.book_state.specs.declared.shape.Shape.TheVariants.{Nesting}
use Rattle.book_state.specs.Operations.{shape}
use Rattle.book_state.specs.State.{State, op_at, expression_at, operations_of}
use Rattle.book_state.specs.Whole.{Whole}
use Rattle.book_tree.specs.Store.{store_of, tree_in, InBook}
use Rattle.book_tree.proofs.Shapes.{inside_book}
use Rattle.book_tree.proofs.Trees.{tree_is, length_operations}
use Rattle.positions.specs.Ends.{Filled}
use Rattle.positions.proofs.Filling.{filled_inner}
use Rattle.rules.specs.Encode.{encode_tree, starts}
use Rattle.rules.specs.Operands.{by_version}
use Rattle.rules.specs.Passes.{check_tree, tokens_tree, extent}
use Rattle.rules.specs.Results.{and_then}
use Rattle.rules.specs.Scope.{Scope}
use Rattle.rules.specs.Tree as tree
use Rattle.rules.proofs.Passes.{two_passes}
use Rattle.rules.proofs.Sizes.{tree_size}
use Rattle.rules.proofs.Starts.{extent_is, starts_at}
use Rattle.writer.specs.Meaning.{Sink, holding}
use Rattle.emit.specs.declared.cursor.Cursor.{Cursor}
use Rattle.emit.specs.Held.{data_at}
use Rattle.emit.specs.Room.{Room}
use Rattle.emit.specs.Walk.{starts_of, left_of, below, left, grown, come, Ready, moved, popped, entered, check_at, tokens_at, Walking, Moved}
use Rattle.emit.proofs.Moves.{left-moved, come-moved, less_moved, come-popped, less_popped, come-entered, less_entered}
use Rattle.emit.proofs.Plain.{single-shape}
use Rattle.emit.proofs.Steps.{check_single, check_nested, left-nested, left_none}
use Rattle.emit.proofs.Walking.{moved_on, ready_popped, ready_moved, ready_entered, deeper}

none_first : (n : ℕ) → 0 + n ≡ n
none_first n = omega arith

grown_more : (k k' : Sink) (bs : List ℕ) → k' ≡ grown k bs → length k.content ≤ length k'.content
grown_more k k' bs h = let l : length k'.content ≡ length k.content + length bs = ap (λ (z : Sink). length z.content) h ∙ length-append k.content bs in omega arith

-- an expression that was checked ends behind as many bytes as its tokens take
module _ (e : Encoding) (s : Scope) (b : State) (w : Whole b) (m : ℕ) (there : m < b.sealed_count) (checked : check_tree e s (starts_of e s b m) 0 (tree_in b m) ≡ Ok tt) where
  pub encoded_whole : encode_tree e s (starts_of e s b m) 0 (tree_in b m) ≡ Ok (tokens_tree e s (starts_of e s b m) 0 (tree_in b m))
  encoded_whole =
      two_passes e s (starts_of e s b m) 0 (tree_in b m)
      ∙ ap (λ (r : Result (Unit {0}) Error). and_then r (λ u. Ok (tokens_tree e s (starts_of e s b m) 0 (tree_in b m)))) checked

  pub end_size : get_or (starts_of e s b m) (expression_at b m).count 0 ≡ size_of (tokens_tree e s (starts_of e s b m) 0 (tree_in b m))
  end_size =
      let xs = operations_of b m in
      let t = tree_is b w m there in
      ap (λ (y : tree.Tree). get_or (starts e s 0 y) (expression_at b m).count 0) t
      ∙ (ap (λ (n : ℕ). get_or (starts e s 0 (tree.rows (tree_in b) (store_of b) xs)) n 0) (sym (length_operations b w m there))
      ∙ (ap (λ (ys : List Operation). get_or (starts e s 0 (tree.rows (tree_in b) (store_of b) ys)) (length xs) 0) (sym (append-nil xs))
      ∙ (starts_at e s (tree_in b) (store_of b) 0 xs []
      ∙ (none_first (extent e s (tree.rows (tree_in b) (store_of b) xs)) ∙ ap (extent e s) (sym t)
      ∙ extent_is e s (tree_in b m) (size_of (tokens_tree e s (starts_of e s b m) 0 (tree_in b m))) (tree_size e s (starts_of e s b m) 0 (tree_in b m) (tokens_tree e s (starts_of e s b m) 0 (tree_in b m)) encoded_whole)))))

module _ (e : Encoding) (s : Scope) (b : State) (table : List ℕ) (w : Whole b) (c : Cursor) (r : Ready e s b table c)
    (more : c.top.next < (expression_at b c.top.number).count) where
  -- an operation that nests nothing
  module _ (plain : (m : ℕ) → op_at b ((expression_at b c.top.number).start + c.top.next) ≡ op.EntryValue m → ⊥) where
    here : tree.shape (store_of b) (op_at b ((expression_at b c.top.number).start + c.top.next)) ≡ tree.single (op_at b ((expression_at b c.top.number).start + c.top.next)) (data_at b (shape (op_at b ((expression_at b c.top.number).start + c.top.next))))
    here = single-shape b (op_at b ((expression_at b c.top.number).start + c.top.next)) plain

    pub checked_plain : check_at e s b c.top ≡ Ok tt
    checked_plain = (check_single e s b w c.top r.top.there more _ _ here r.top.checked).0

    left_is : left e s b c ≡ joined (tokens_at e s b c.top) (left e s b (moved c))
    left_is = left-moved e s b w c r.top.there more _ _ here

    pub room_plain : (k : Sink) → length k.content + size_of (left e s b c) ≤ k.capacity → Room k (size_of (tokens_at e s b c.top))
    room_plain k h =
        let l : size_of (left e s b c) ≡ size_of (tokens_at e s b c.top) + size_of (left e s b (moved c)) =
        ap size_of left_is ∙ size_joined (tokens_at e s b c.top) (left e s b (moved c)) in
        omega (arith, h)

    pub free_plain : (n count size : ℕ) → count + length (references n (left e s b c)) ≤ size → count + length (references n (tokens_at e s b c.top)) ≤ size
    free_plain n count size h =
        let a = tokens_at e s b c.top in
        let l : length (references n (left e s b c)) ≡ length (references n a) + length (references (n + size_of a) (left e s b (moved c))) =
        ap (λ (t : Tokens). length (references n t)) left_is
        ∙ (ap length (references-joined n (n + size_of a) a (left e s b (moved c)) refl)
        ∙ length-append (references n a) (references (n + size_of a) (left e s b (moved c)))) in
        omega (arith, h)

    pub moved_plain : (k k' : Sink) (all all' : List DebugInfoFixup) (count count' : ℕ) → Walking e s b table k all count c →
        k' ≡ grown k (bytes_of k.big (tokens_at e s b c.top)) →
        take count' all' ≡ take count all ++ references (length k.content) (tokens_at e s b c.top) →
        count' ≡ count + length (references (length k.content) (tokens_at e s b c.top)) → length all' ≡ length all →
        Moved e s b table k k' all all' count count' c (moved c)
    moved_plain k k' all all' count count' h x y n long =
        let f = free_plain (length k.content) count (length all) h.free in
        moved_on e s b table k k' all all' count count' c (moved c) h
        (grown_more k k' _ x)
        (come-moved e s b w c r.top.there more _ _ here k k' (take count all) (take count' all') x y)
        (ready_moved e s b table w c r more _ _ here) (omega arith) long
        (less_moved e s b w c r.top.there more _ _ here)

  -- an operation that nests another expression
  module _ (m : ℕ) (is : op_at b ((expression_at b c.top.number).start + c.top.next) ≡ op.EntryValue m) where
    nests : shape (op_at b ((expression_at b c.top.number).start + c.top.next)) ≡ Nesting m
    nests = ap shape is

    shown : tree.shape (store_of b) (op_at b ((expression_at b c.top.number).start + c.top.next)) ≡ tree.nesting m
    shown = ap (tree.shape (store_of b)) is

    pub inner : m < b.sealed_count
    inner = subst (InBook b) nests (inside_book b w c.top.number r.top.there c.top.next more)

    pub filled_there : Filled e s b table m
    filled_there = filled_inner e s b table c.top.number r.top.filled c.top.next m more nests

    checked_there : check_tree e s (starts_of e s b m) 0 (tree_in b m) ≡ Ok tt
    checked_there = (check_nested e s b w c.top r.top.there more m shown r.top.checked).0

    pub level_free : c.level < 16
    level_free = deeper e s b table w c r more m inner nests shown

    pub size_there : (x : ℕ) → x ≡ get_or (starts_of e s b m) (expression_at b m).count 0 → x ≡ size_of (tokens_tree e s (starts_of e s b m) 0 (tree_in b m))
    size_there x h = h ∙ end_size e s b w m inner checked_there

    pub room_nested : (k : Sink) (x : ℕ) → length k.content + size_of (left e s b c) ≤ k.capacity → x ≡ size_of (tokens_tree e s (starts_of e s b m) 0 (tree_in b m)) → Room k (1 + length (uleb x))
    unfolding size_of
    room_nested k x h i =
        let a = tokens_tree e s (starts_of e s b m) 0 (tree_in b m) in
        let rest = left_of e s b (record { number = c.top.number; next = c.top.next + 1 }) in
        let below_all = below e s b c.around c.level in
        let l : size_of (left e s b c) ≡ (1 + (length (uleb (size_of a)) + (size_of a + size_of rest))) + size_of below_all =
        size_joined (left_of e s b c.top) below_all ∙ ap (λ (t : Tokens). size_of t + size_of below_all) (left-nested e s b w c.top r.top.there more m shown) in
        let u : length (uleb x) ≡ length (uleb (size_of a)) = ap (λ (n : ℕ). length (uleb n)) i in
        omega (arith, h)

    pub moved-nested : (k k' : Sink) (all : List DebugInfoFixup) (count x : ℕ) (c' : Cursor) → Walking e s b table k all count c →
        x ≡ size_of (tokens_tree e s (starts_of e s b m) 0 (tree_in b m)) → k' ≡ grown k (by_version e 0xa3 0xf3 ∷ uleb x) → c' ≡ entered c m →
        Moved e s b table k k' all all count count c c'
    moved-nested k k' all count x c' h i j q =
        subst (Moved e s b table k k' all all count count c) (sym q)
        (moved_on e s b table k k' all all count count c (entered c m) h (grown_more k k' _ j)
        (come-entered e s b w c r.top.there more m inner shown level_free r.opens k k' (take count all) (j ∙ ap (λ (n : ℕ). grown k (by_version e 0xa3 0xf3 ∷ uleb n)) i))
        (ready_entered e s b table w c r more m inner nests shown) h.used refl
        (less_entered e s b w c r.top.there more m inner shown level_free r.opens))

-- an expression is left, and all are
module _ (e : Encoding) (s : Scope) (b : State) (table : List ℕ) (w : Whole b) (c : Cursor) (r : Ready e s b table c)
    (over : (expression_at b c.top.number).count ≤ c.top.next) where
  pub moved-popped : (k : Sink) (all : List DebugInfoFixup) (count : ℕ) (c' : Cursor) → Walking e s b table k all count c → 0 < c.level → c' ≡ popped c →
      Moved e s b table k k all all count count c c'
  moved-popped k all count c' h l q =
      subst (Moved e s b table k k all all count count c) (sym q)
      (moved_on e s b table k k all all count count c (popped c) h (omega arith)
      (come-popped e s b w c r.top.there (c.level - 1) (omega arith) over k (take count all))
      (ready_popped e s b table w c r l) h.used refl (less_popped e s b w c r.top.there l))

  pub come_done : (k : Sink) (rows : List DebugInfoFixup) → c.level ≡ 0 → (k, rows) ≡ come k rows (left e s b c)
  unfolding joined bytes_of references
  come_done k rows l =
      let none : left e s b c ≡ done =
      ap (λ (t : Tokens). joined t (below e s b c.around c.level)) (left_none e s b w c.top r.top.there over) ∙ ap (below e s b c.around) l in
      let same : ◌≡◌ {A = Sink × List DebugInfoFixup} (k, rows) (come k rows done) =
      ap (λ (z : List ℕ). (holding k z, rows)) (sym (append-nil k.content)) ∙ ap (λ (z : List DebugInfoFixup). (holding k (k.content ++ []), z)) (sym (append-nil rows)) in
      same ∙ ap (come k rows) (sym none)
