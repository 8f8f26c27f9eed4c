-- What a write answers and leaves, as the rules have it.
use Rattle.std.proofs.Common.{◌≡◌, ℕ, ◌+◌, ◌-◌, ◌≤◌, Bool, true, false, cond, not, ltb, List, [], ◌∷◌, ◌++◌, length, Some, None, Ok, Err, Option, Result, sym, refl, ap, ap₂, ◌∙◌, arith}
use Rattle.std.proofs.lemmas.List.{append-nil}
use Rattle.std.proofs.lemmas.Bool.{le-ltb}
use Rattle.common.specs.declared.encoding.Encoding.{Encoding}
use Rattle.common.specs.declared.error.Error.{Error}
use Rattle.common.specs.declared.error.Error.TheVariants.{NoUnit, NoRoom, TooManyReferences}
use Rattle.common.specs.declared.fixup.DebugInfoFixup.{DebugInfoFixup}
use Rattle.dwarf.specs.Bytes.{size_of}
use Rattle.dwarf.specs.References.{references}
use Rattle.dwarf.specs.Tokens.{Tokens}
use Rattle.emit.specs.Written.{allowed, written, grown_by, set_down_by, Wrote}
use Rattle.rules.specs.Encode.{encode}
use Rattle.rules.specs.Results.{and_then}
use Rattle.rules.specs.Scope.{Scope, in_frame}
use Rattle.rules.specs.Tree.{Tree}
use Rattle.writer.specs.Meaning.{Sink, fits}
use Rattle.unit.specs.Offsets.{unit_scope}
use Rattle.unit.specs.declared.UnitOffsets.{UnitOffsets}
use Rattle.claim.specs.Section.{State, unit_at}
use Rattle.claim.specs.Calls.{refused, Call, write, write_frame, Event, wrote, wrote_frame, refused_if, on_tree, on_value, writing, framing, answer, event, after}
use Rattle.claim.specs.Claim.{counted}
use Rattle.claim.proofs.Frames.{frame_none}
use Rattle.section_tables.specs.View.{last_of}
use Rattle.section_tables.proofs.Steps.{section_of, last_known, some_begun, Follows, by_event}

-- what an outcome of a write is, seen from the section
pub record Seen (m : State) (k : Sink) (us : List UnitOffsets) (rows : List DebugInfoFixup) (o : Result Tokens Error) (ev : Event) : Type 0 where
  pub answers : counted (and_then o (λ a. Ok (size_of a))) ≡ answer ev
  pub leaves : section_of (grown_by k o) us (set_down_by k rows o) ≡ after m ev

-- a call whose outcome is that
by_seen : (k k' : Sink) (us : List UnitOffsets) (rows rows' : List DebugInfoFixup) (c : Call) (o : Result Tokens Error) (r : Result ℕ Error) (ev : Event) → event (section_of k us rows) c ≡ ev →
    Seen (section_of k us rows) k us rows o ev → Wrote o k k' rows rows' r → Follows (section_of k us rows) c (counted r) (section_of k' us rows')
by_seen k k' us rows rows' c o r ev e s w =
    by_event ev e (ap counted w.answer ∙ s.answers) (ap₂ (λ (z : Sink) (ps : List DebugInfoFixup). section_of z us ps) w.after w.down ∙ s.leaves)

module _ (k : Sink) (us : List UnitOffsets) (rows : List DebugInfoFixup) (n : ℕ) (many : length rows ≡ n) (e : Encoding) where
  -- in a unit
  module _ (scope : Scope) where
    seen_tests : (t : Tree) (a : Tokens) (x y : Bool) →
        Seen (section_of k us rows) k us rows (cond x (Err TooManyReferences) (cond y (Ok a) (Err NoRoom)))
        (refused_if x TooManyReferences (refused_if (not y) NoRoom (wrote (record { encoding = e; scope = scope; tree = t; tokens = a }))))
    unfolding after
    seen_tests t a true y = record { answers = refl; leaves = refl }
    seen_tests t a false true = record { answers = refl; leaves = refl }
    seen_tests t a false false = record { answers = refl; leaves = refl }

    seen_encoded : (t : Tree) (r : Result Tokens Error) → Seen (section_of k us rows) k us rows (and_then r (allowed k n)) (on_value r (writing (section_of k us rows) e scope t))
    unfolding after
    seen_encoded t (Err z) = record { answers = refl; leaves = refl }
    seen_encoded t (Ok a) =
        rw (sym many) (seen_tests t a (ltb 512 (length rows + length (references (length k.content) a))) (fits k (size_of a)))

    pub seen_write : (x : Option Tree) → Seen (section_of k us rows) k us rows (written k n e scope x) (on_tree x (λ t. on_value (encode e scope t) (writing (section_of k us rows) e scope t)))
    unfolding after
    seen_write None = record { answers = refl; leaves = refl }
    seen_write (Some t) = seen_encoded t (encode e scope t)

  -- in a frame table
  module _ (few : n ≤ 512) where
    seen_frame_tests : (t : Tree) (a : Tokens) (y : Bool) → references (length k.content) a ≡ [] →
        Seen (section_of k us rows) k us rows (cond y (Ok a) (Err NoRoom)) (refused_if (not y) NoRoom (wrote_frame (record { encoding = e; scope = in_frame; tree = t; tokens = a })))
    unfolding after
    seen_frame_tests t a true none = record {
      answers = refl;
      leaves = ap (λ (z : List DebugInfoFixup). section_of (grown_by k (Ok a)) us z) (ap (λ (z : List DebugInfoFixup). rows ++ z) none ∙ append-nil rows);
    }
    seen_frame_tests t a false none = record { answers = refl; leaves = refl }

    seen_frame_encoded : (t : Tree) (r : Result Tokens Error) → encode e in_frame t ≡ r → Seen (section_of k us rows) k us rows (and_then r (allowed k n)) (on_value r (framing (section_of k us rows) e t))
    unfolding after
    seen_frame_encoded t (Err z) h = record { answers = refl; leaves = refl }
    seen_frame_encoded t (Ok a) h =
        let none = frame_none e t a h (length k.content) in
        let l : n + length (references (length k.content) a) ≤ 512 = let z = ap length none in omega arith in
        rw (le-ltb 512 (n + length (references (length k.content) a)) l) (seen_frame_tests t a (fits k (size_of a)) none)

    pub seen_frame : (x : Option Tree) → Seen (section_of k us rows) k us rows (written k n e in_frame x) (on_tree x (λ t. on_value (encode e in_frame t) (framing (section_of k us rows) e t)))
    unfolding after
    seen_frame None = record { answers = refl; leaves = refl }
    seen_frame (Some t) = seen_frame_encoded t (encode e in_frame t) refl

module _ (k k' : Sink) (rows rows' : List DebugInfoFixup) (n : ℕ) (many : length rows ≡ n) (x : Option Tree) where
  pub write_none : (us : List UnitOffsets) (e : Error) (r : Result ℕ Error) → last_of us ≡ Err e → r ≡ Err e → Follows (section_of k us rows) (write x) (counted r) (section_of k us rows)
  unfolding event after
  write_none [] e r h a = let same : r ≡ Err NoUnit = cc in by_event (refused NoUnit) refl (ap counted same) refl
  write_none (v ∷ vs) e r h a = let l = last_known v vs in absurd cc

  pub write_follows : (us : List UnitOffsets) (u : UnitOffsets) (a r : Result ℕ Error) → last_of us ≡ Ok u → a ≡ r → Wrote (written k n u.encoding (unit_scope u) x) k k' rows rows' r
      → Follows (section_of k us rows) (write x) (counted a) (section_of k' us rows')
  unfolding event
  write_follows [] u a r h e w = absurd cc
  write_follows (v ∷ vs) u a r h e w =
      let us : List UnitOffsets = v ∷ vs in
      let l = last_known v vs in
      let same : unit_at us (length us - 1) ≡ u = cc in
      by_seen k k' us rows rows' (write x) (written k n u.encoding (unit_scope u) x) a
      (on_tree x (λ y. on_value (encode u.encoding (unit_scope u) y) (writing (section_of k us rows) u.encoding (unit_scope u) y)))
      (rw (some_begun v vs, same) refl)
      (seen_write k us rows n many u.encoding (unit_scope u) x) (record { answer = e ∙ w.answer; after = w.after; down = w.down })

  pub frame_follows : (us : List UnitOffsets) (e : Encoding) (r : Result ℕ Error) → n ≤ 512 → Wrote (written k n e in_frame x) k k' rows rows' r
      → Follows (section_of k us rows) (write_frame x e) (counted r) (section_of k' us rows')
  unfolding event
  frame_follows us e r few w =
      by_seen k k' us rows rows' (write_frame x e) (written k n e in_frame x) r (on_tree x (λ y. on_value (encode e in_frame y) (framing (section_of k us rows) e y))) refl
      (seen_frame k us rows n many e few x) w
