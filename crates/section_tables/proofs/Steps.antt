-- What the calls of a section leave in its sink and tables, as the rules have it.
use Rattle.std.proofs.Common.{◌≡◌, ℕ, ◌-◌, ◌<◌, ◌≤◌, Bool, true, false, cond, not, eqb, ltb, leb, List, [], ◌∷◌, ◌++◌, length, is_some, Some, None, Ok, Err, Option, Result, sym, refl, ap, ◌∙◌, subst, arith}
use Rattle.std.proofs.lemmas.Bool.{lt-ltb, le-ltb, le-leb, lt-leb, ne_eqb}
use Rattle.std.proofs.lemmas.Option.{slice_get-get_or, slice_get_past}
use Rattle.std.specs.Borrow.{Bor}
use Rattle.std.specs.Option.{option_copied}
use Rattle.std.specs.Slice.{IsItemAt}
use Rattle.std.specs.List.{slice_get}
use Rattle.std.specs.Prelude.{ok_or}
use Rattle.common.specs.declared.encoding.Encoding.{Encoding}
use Rattle.common.specs.declared.error.Error.{Error}
use Rattle.common.specs.declared.error.Error.TheVariants.{NoRoom, TooManyUnits, NoUnit, BadEntry, AlreadyPlaced, AtUnitStart, StillPending}
use Rattle.common.specs.declared.fixup.DebugInfoFixup.{DebugInfoFixup}
use Rattle.rules.specs.Results.{and_then}
use Rattle.writer.specs.Meaning.{Sink, fits, append_answer, appended as appended_to}
use Rattle.unit.specs.Offsets.{place_of, unplaced}
use Rattle.unit.specs.declared.UnitOffsets.{UnitOffsets}
use Rattle.claim.specs.Section.{State, no_unit, unit_at, entry_offset}
use Rattle.claim.specs.Calls.{Call, begin_unit, append, place_entry, finish, ask_pending, Event, refused, began, appended, placed, finished, listed, refused_if, Answer, number, row, refusal, answer, event, after, with_units}
use Rattle.claim.specs.Claim.{plainly, counted}
use Rattle.section_tables.specs.declared.tables.Tables.{Tables}
use Rattle.section_tables.specs.View.{last_of, Begins, placing_in, units_after, Places, view}

-- a section of a sink, units and references
abbrev pub section_of : Sink → List UnitOffsets → List DebugInfoFixup → State
section_of k us ps = record { bytes = k.content; capacity = k.capacity; big = k.big; units = us; pending = ps }

-- a call answers and leaves what the rules say
pub record Follows (m : State) (c : Call) (a : Answer) (s : State) : Type 0 where
  pub answered : a ≡ answer (event m c)
  pub left : s ≡ after m (event m c)

pub by_event : {m : State} {c : Call} {a : Answer} {s : State} (ev : Event) → event m c ≡ ev → a ≡ answer ev → s ≡ after m ev → Follows m c a s
by_event {m} ev e f g = record { answered = f ∙ ap answer (sym e); left = g ∙ ap (after m) (sym e) }

pub by_refusal : {m : State} {c : Call} (n : Error) → event m c ≡ refused n → Follows m c (refusal n) m
unfolding after
by_refusal n e = by_event (refused n) e refl refl

pub append_follows : (k k' : Sink) (t : Tables) (bytes : List ℕ) (r : Result (Unit {0}) Error) → r ≡ append_answer k (Ok bytes) → k' ≡ appended_to k (Ok bytes)
    → Follows (view k t) (append bytes) (plainly r) (view k' t)
unfolding event after
append_follows k k' t bytes r e f =
    record { answered = ap plainly e ∙ answers (fits k (length bytes)); left = ap (λ (z : Sink). view z t) f ∙ leaves (fits k (length bytes)) }
  where
    answers : (b : Bool) → plainly (cond b (Ok tt) (Err NoRoom)) ≡ answer (refused_if (not b) NoRoom (appended bytes))
    answers true = refl
    answers false = refl

    leaves : (b : Bool) → view (record { content = cond b (k.content ++ bytes) k.content; capacity = k.capacity; big = k.big }) t
        ≡ after (view k t) (refused_if (not b) NoRoom (appended bytes))
    leaves true = refl
    leaves false = refl

copied : (ps : List DebugInfoFixup) (index : ℕ) (r : Option (Bor DebugInfoFixup)) → IsItemAt ps index r → option_copied r ≡ slice_get ps index
copied ps index None h = sym (slice_get_past ps index h.3)
copied ps index (Some p) h = ap Some (h.3.1 p.now) ∙ sym (slice_get-get_or ps index p.now h.3.0)

pub pending_follows : (k : Sink) (us : List UnitOffsets) (ps : List DebugInfoFixup) (index : ℕ) (r : Option (Bor DebugInfoFixup)) → IsItemAt ps index r
    → Follows (section_of k us ps) (ask_pending index) (row (option_copied r)) (section_of k us ps)
unfolding event after
pending_follows k us ps index r h = by_event (listed (slice_get ps index)) refl (ap row (copied ps index r h)) refl

-- the last unit, where one has begun
pub last_known : (v : UnitOffsets) (vs : List UnitOffsets) → last_of (v ∷ vs) ≡ Ok (unit_at (v ∷ vs) (length (v ∷ vs) - 1))
last_known v vs = ap (λ o. ok_or o NoUnit) (slice_get-get_or (v ∷ vs) (length (v ∷ vs) - 1) no_unit (omega arith))

pub some_begun : (v : UnitOffsets) (vs : List UnitOffsets) → eqb (length (v ∷ vs)) 0 ≡ false
some_begun v vs = ne_eqb (length (v ∷ vs)) 0 (λ e. omega arith)

module _ (k : Sink) (ps : List DebugInfoFixup) where
  pub begin_follows : (us us' : List UnitOffsets) (e : Encoding) (n : ℕ) (r : Result ℕ Error) → n ≡ length k.content → Begins us (unplaced e n) r us'
      → Follows (section_of k us ps) (begin_unit e) (counted r) (section_of k us' ps)
  unfolding event after
  begin_follows us us' e n (Ok unit) l (few, same, more) =
      by_event (began (length us) e) (rw (lt-leb 8 (length us) few) refl) (ap number same)
      (ap (with_units (section_of k us ps)) (more ∙ ap (λ (m : ℕ). us ++ (unplaced e m ∷ [])) l))
  begin_follows us us' e n (Err z) l (full, is, same) =
      by_event (refused TooManyUnits) (rw (le-leb 8 (length us) full) refl) (ap refusal is) (ap (with_units (section_of k us ps)) same)

  pub place_follows : (us us' : List UnitOffsets) (entry n : ℕ) (r : Result (Unit {0}) Error) → n ≡ length k.content → Places us entry n r us'
      → Follows (section_of k us ps) (place_entry entry) (plainly r) (section_of k us' ps)
  unfolding event after entry_offset
  place_follows [] us' entry n r l p =
      by_event (refused NoUnit) refl (ap plainly p.answer) (ap (with_units (section_of k [] ps)) (p.after ∙ ap (units_after [] entry n) p.answer))
  place_follows (v ∷ vs) us' entry n r l p =
      let q : Places us entry (length k.content) r us' = subst (λ (z : ℕ). Places us entry z r us') l p in
      go (ltb 127 entry) (is_some (place_of u entry)) (leb (length k.content) u.start)
      (q.answer ∙ ap (λ o. and_then o (placing_in entry (length k.content))) (last_known v vs)) q.after
      (rw (some_begun v vs) refl)
    where
      us : List UnitOffsets
      us = v ∷ vs

      u : UnitOffsets
      u = unit_at us (length us - 1)

      go : (x y z : Bool) → r ≡ cond x (Err BadEntry) (cond y (Err AlreadyPlaced) (cond z (Err AtUnitStart) (Ok tt)))
          → us' ≡ units_after us entry (length k.content) r
          → event (section_of k us ps) (place_entry entry)
          ≡ refused_if x BadEntry (refused_if y AlreadyPlaced (refused_if z AtUnitStart (placed (length us - 1) entry (length k.content))))
          → Follows (section_of k us ps) (place_entry entry) (plainly r) (section_of k us' ps)
      go true y z e f g = by_event (refused BadEntry) g (ap plainly e) (ap (with_units (section_of k us ps)) (f ∙ ap (units_after us entry (length k.content)) e))
      go false true z e f g = by_event (refused AlreadyPlaced) g (ap plainly e) (ap (with_units (section_of k us ps)) (f ∙ ap (units_after us entry (length k.content)) e))
      go false false true e f g = by_event (refused AtUnitStart) g (ap plainly e) (ap (with_units (section_of k us ps)) (f ∙ ap (units_after us entry (length k.content)) e))
      go false false false e f g =
          by_event (placed (length us - 1) entry (length k.content)) g (ap plainly e) (ap (with_units (section_of k us ps)) (f ∙ ap (units_after us entry (length k.content)) e))

module _ (k : Sink) (us : List UnitOffsets) (ps : List DebugInfoFixup) where
  pub finish_still : 0 < length ps → Follows (section_of k us ps) finish (refusal StillPending) (section_of k us ps)
  unfolding event
  finish_still h = by_refusal StillPending (rw (lt-ltb 0 (length ps) h) refl)

  pub finish_follows : (n : ℕ) → length ps ≤ 0 → n ≡ length k.content → Follows (section_of k us ps) finish (number n) (section_of k us ps)
  unfolding event after
  finish_follows n h e = by_event (finished (length k.content)) (rw (le-ltb 0 (length ps) h) refl) (ap number e) refl
