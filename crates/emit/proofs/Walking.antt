-- A step leaves all that is left ready to be written.
use Rattle.std.proofs.Common.{◌≡◌, ℕ, suc, ◌+◌, ◌-◌, ◌<◌, ◌≤◌, List, ◌++◌, length, get_or, take, set, sym, ap, ◌∙◌, subst, ⊎_elim, arith, length-append, length-set}
use Rattle.std.proofs.lemmas.List.{get_or-set_same, get_or-set_other, length-take}
use Rattle.std.proofs.lemmas.Bool.{cases_eq}
use Rattle.common.specs.declared.encoding.Encoding.{Encoding}
use Rattle.common.specs.declared.fixup.DebugInfoFixup.{DebugInfoFixup}
use Rattle.dwarf.specs.Bytes.{bytes_of}
use Rattle.dwarf.specs.References.{references}
use Rattle.dwarf.proofs.Sizes.{length_bytes}
use Rattle.op.specs.declared.operation.Operation.{Operation}
use Rattle.book_state.specs.declared.shape.Shape.TheVariants.{Nesting}
use Rattle.book_state.specs.Operations.{shape}
use Rattle.book_state.specs.State.{State, op_at, expression_at, depth_by}
use Rattle.book_state.specs.Whole.{Whole}
use Rattle.book_tree.specs.Store.{store_of}
use Rattle.book_tree.proofs.Trees.{depth_at}
use Rattle.positions.proofs.Filling.{filled_inner}
use Rattle.rules.specs.Scope.{Scope}
use Rattle.rules.specs.Tree as tree
use Rattle.writer.specs.Meaning.{Sink}
use Rattle.emit.specs.declared.cursor.Cursor.{Cursor}
use Rattle.emit.specs.declared.cursor.Open.{Open}
use Rattle.emit.specs.Walk.{no_open, left, come, Frame, Ready, to_do, moved, popped, entered, Walking, Moved}
use Rattle.emit.proofs.Steps.{check_single, check_nested, check_whole}

module _ (e : Encoding) (s : Scope) (b : State) (table : List ℕ) where
  -- the sink and the rows come to the same, so there is room as before
  pub moved_on : (k k' : Sink) (all all' : List DebugInfoFixup) (count count' : ℕ) (c c' : Cursor) → Walking e s b table k all count c →
      length k.content ≤ length k'.content → come k' (take count' all') (left e s b c') ≡ come k (take count all) (left e s b c) → Ready e s b table c' → count' ≤ length all' → length all' ≡ length all →
      to_do b c' < to_do b c → Moved e s b table k k' all all' count count' c c'
  moved_on k k' all all' count count' c c' w grew came ready used long less =
      let a : length (k'.content ++ bytes_of k'.big (left e s b c')) ≡ length (k.content ++ bytes_of k.big (left e s b c)) =
      ap (λ (p : Sink × List DebugInfoFixup). length p.0.content) came in
      let a1 = length-append k'.content (bytes_of k'.big (left e s b c')) in
      let a2 = length-append k.content (bytes_of k.big (left e s b c)) in
      let a3 = length_bytes k'.big (left e s b c') in
      let a4 = length_bytes k.big (left e s b c) in
      let cap : k'.capacity ≡ k.capacity = ap (λ (p : Sink × List DebugInfoFixup). p.0.capacity) came in
      let n = references (length k.content) (left e s b c) in
      let n' = references (length k'.content) (left e s b c') in
      let d : length (take count' all' ++ n') ≡ length (take count all ++ n) = ap (λ (p : Sink × List DebugInfoFixup). length p.1) came in
      let d1 = length-append (take count' all') n' in
      let d2 = length-append (take count all) n in
      let d3 = length-take count' all' in
      let d4 = length-take count all in
      record {
        grew = grew;
        came = came;
        on = record { ready = ready; used = used; room = omega (arith, w.room); free = omega (arith, w.free, w.used) };
        less = less;
        long = long;
      }

  module _ (w : Whole b) (c : Cursor) (r : Ready e s b table c) where
    -- an expression is left
    pub ready_popped : 0 < c.level → Ready e s b table (popped c)
    ready_popped l = record {
      deep = let d = r.deep in omega arith;
      opens = r.opens;
      top = r.frames (c.level - 1) (omega arith);
      frames = λ j h. r.frames j (omega arith);
    }

    module _ (more : c.top.next < (expression_at b c.top.number).count) where
      -- an operation that nests nothing is written
      pub ready_moved : (o : Operation) (bs : List ℕ) → tree.shape (store_of b) (op_at b ((expression_at b c.top.number).start + c.top.next)) ≡ tree.single o bs → Ready e s b table (moved c)
      ready_moved o bs q =
          let f = r.top in
          record {
            deep = r.deep;
            opens = r.opens;
            top = record { there = f.there; within = omega arith; shallow = f.shallow; checked = (check_single e s b w c.top f.there more o bs q f.checked).1; filled = f.filled };
            frames = r.frames;
          }

      -- an expression is entered
      module _ (m : ℕ) (inner : m < b.sealed_count) (n : shape (op_at b ((expression_at b c.top.number).start + c.top.next)) ≡ Nesting m)
          (q : tree.shape (store_of b) (op_at b ((expression_at b c.top.number).start + c.top.next)) ≡ tree.nesting m) where
        lower : (expression_at b m).depth + 1 ≤ (expression_at b c.top.number).depth
        lower =
            let d = depth_at b w c.top.number c.top.next r.top.there more in
            let z : depth_by b.expressions (shape (op_at b ((expression_at b c.top.number).start + c.top.next))) ≡ (expression_at b m).depth + 1 = ap (depth_by b.expressions) n in
            omega arith

        pub deeper : c.level < 16
        deeper = let l = lower in let h = r.top.shallow in omega arith

        around : Open
        around = record { number = c.top.number; next = c.top.next + 1 }

        inner_frame : Frame e s b table (16 - suc c.level) (record { number = m; next = 0 })
        inner_frame =
            let l = lower in let h = r.top.shallow in
            record {
              there = inner;
              within = omega arith;
              shallow = omega arith;
              checked = check_whole e s b w m inner ∙ (check_nested e s b w c.top r.top.there more m q r.top.checked).0;
              filled = filled_inner e s b table c.top.number r.top.filled c.top.next m more n;
            }

        outer_frame : Frame e s b table (16 - c.level) (record { number = c.top.number; next = c.top.next + 1 })
        outer_frame =
            let f = r.top in
            record { there = f.there; within = omega arith; shallow = f.shallow; checked = (check_nested e s b w c.top f.there more m q f.checked).1; filled = f.filled }

        pub ready_entered : Ready e s b table (entered c m)
        ready_entered =
            let d = deeper in let o = r.opens in
            record {
              deep = omega arith;
              opens = length-set c.around c.level (record { number = c.top.number; next = c.top.next + 1 }) ∙ r.opens;
              top = inner_frame;
              frames = λ j h. ⊎_elim
                  (λ i. subst (λ (z : ℕ). Frame e s b table (16 - z) (get_or (set c.around c.level (record { number = c.top.number; next = c.top.next + 1 })) z no_open)) (sym i)
                  (subst (Frame e s b table (16 - c.level)) (sym (get_or-set_same c.around c.level (record { number = c.top.number; next = c.top.next + 1 }) no_open (omega arith))) outer_frame))
                  (λ ne. subst (Frame e s b table (16 - j)) (sym (get_or-set_other c.around c.level j (record { number = c.top.number; next = c.top.next + 1 }) no_open ne)) (r.frames j (omega arith)))
                  (cases_eq j c.level);
            }
