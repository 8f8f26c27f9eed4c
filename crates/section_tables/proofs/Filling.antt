-- What a fill leaves in the sink and the tables, as the rules have it.
use Rattle.std.proofs.Common.{◌≡◌, ℕ, ◌+◌, ◌^◌, ◌<◌, ◌≤◌, true, leb, List, ◌++◌, length, get_or, take, drop, Some, None, Ok, Err, Option, Result, sym, refl, ap, ◌∙◌, ap₂, subst, inl, inr, arith}
use Rattle.std.proofs.lemmas.Bool.{lt-ltb, le-ltb, le-leb, lt-leb, cases_lt}
use Rattle.common.specs.declared.error.Error.{Error}
use Rattle.common.specs.declared.error.Error.TheVariants.{ValueTooLarge, NotPlaced, NotPending}
use Rattle.common.specs.declared.fixup.DebugInfoFixup.{DebugInfoFixup}
use Rattle.dwarf.specs.Fixed.{fixed_bytes, is_width, udata}
use Rattle.dwarf.specs.References.{patched}
use Rattle.dwarf.proofs.Widths.{length_fixed}
use Rattle.writer.specs.Meaning.{Sink, holding, patch_answer, patched as patched_to}
use Rattle.unit.specs.declared.UnitOffsets.{UnitOffsets}
use Rattle.claim.specs.Section.{entry_offset}
use Rattle.claim.specs.Calls.{fill, refused, filled, ok, event, after, stands_at, first_of, without_first, filling_with}
use Rattle.claim.specs.Claim.{plainly}
use Rattle.section_tables.specs.Rows.{no_row, wide, FirstAt, Found}
use Rattle.claim.proofs.Fixups.{stands_offset}
use Rattle.section_tables.proofs.Firsts.{stands_within}
use Rattle.section_tables.proofs.Rises.{wide_at}
use Rattle.section_tables.proofs.Steps.{section_of, Follows, by_event}

module _ (k : Sink) (us : List UnitOffsets) (ps : List DebugInfoFixup) (size offset : ℕ) (s : size ≡ length k.content) where
  pub fill_none : (r : Result (Unit {0}) Error) → r ≡ Err NotPending → (o : Option ℕ) → o ≡ None → Found size offset ps o → Follows (section_of k us ps) (fill offset) (plainly r) (section_of k us ps)
  unfolding event after
  fill_none r e o is found =
      let h : first_of (stands_at size offset) ps ≡ None = subst (Found size offset ps) is found in
      by_event (refused NotPending) (rw (← s, h) refl) (ap plainly e) refl

  module _ (i : ℕ) (o : Option ℕ) (is : o ≡ Some i) (found : Found size offset ps o) (good : wide ps ≡ true) where
    f : FirstAt size offset ps i
    f = subst (Found size offset ps) is found

    -- the reference
    abbrev p : DebugInfoFixup
    p = get_or ps i no_row

    width_good : is_width p.width ≡ true
    width_good = wide_at ps i f.below good

    begins : p.offset ≡ offset
    begins = stands_offset size offset p f.stands

    lies : offset + p.width ≤ length k.content
    lies = let a = stands_within size offset p f.stands in let b = begins in omega arith

    fill_event : event (section_of k us ps) (fill offset) ≡ filling_with p (entry_offset us p.unit p.entry)
    unfolding event
    fill_event = rw (← s, f.first) refl

    pub fill_unplaced : (r : Result (Unit {0}) Error) → r ≡ Err NotPlaced → entry_offset us p.unit p.entry ≡ None → Follows (section_of k us ps) (fill offset) (plainly r) (section_of k us ps)
    unfolding after
    fill_unplaced r e h = by_event (refused NotPlaced) (fill_event ∙ ap (filling_with p) h) (ap plainly e) refl

    module _ (n : ℕ) (there : entry_offset us p.unit p.entry ≡ Some n) (r : Result (Unit {0}) Error) (k' : Sink)
        (answers : r ≡ patch_answer k offset (udata k.big n p.width)) (leaves : k' ≡ patched_to k offset (udata k.big n p.width)) where
      abbrev new : List ℕ
      new = fixed_bytes k.big p.width n

      small : n < 256 ^ p.width → udata k.big n p.width ≡ Ok new
      small h = rw (width_good, lt-ltb n (256 ^ p.width) h) refl

      large : 256 ^ p.width ≤ n → udata k.big n p.width ≡ Err ValueTooLarge
      large h = rw (width_good, le-ltb n (256 ^ p.width) h) refl

      small-written : n < 256 ^ p.width → (r ≡ Ok tt) × (k' ≡ holding k (patched k.content offset new))
      small-written h =
          let l = lies in
          let a : leb offset (length k.content) ≡ true = le-leb offset (length k.content) (omega arith) in
          let b : leb (offset + length new) (length k.content) ≡ true = le-leb (offset + length new) (length k.content) (rw length_fixed l) in
          (answers ∙ ap (patch_answer k offset) (small h) ∙ rw (a, b) refl, leaves ∙ ap (patched_to k offset) (small h) ∙ rw b refl)

      event_large : 256 ^ p.width ≤ n → event (section_of k us ps) (fill offset) ≡ refused ValueTooLarge
      event_large h = fill_event ∙ ap (filling_with p) there ∙ rw (le-leb (256 ^ p.width) n h) refl

      event-small : n < 256 ^ p.width → event (section_of k us ps) (fill offset) ≡ filled p n
      event-small h = fill_event ∙ ap (filling_with p) there ∙ rw (lt-leb (256 ^ p.width) n h) refl

      -- a number that does not fit is refused, and nothing changes
      pub fill_large : (e : Error) → r ≡ Err e → Follows (section_of k us ps) (fill offset) (plainly r) (section_of k' us ps)
      unfolding after
      fill_large e h =
          elim (cases_lt n (256 ^ p.width)) [
            | inl a ↦ let w = (small-written a).0 in absurd cc
            | inr a ↦
                let x : r ≡ Err ValueTooLarge = answers ∙ ap (patch_answer k offset) (large a) in
                let y : k' ≡ k = leaves ∙ ap (patched_to k offset) (large a) in
                by_event (refused ValueTooLarge) (event_large a) (ap plainly x) (ap (λ (z : Sink). section_of z us ps) y)
          ]

      -- the references afterwards
      pub fill_follows : (u : Unit {0}) (qs : List DebugInfoFixup) → r ≡ Ok u → qs ≡ take i ps ++ drop (i + 1) ps
          → Follows (section_of k us ps) (fill offset) ok (section_of k' us qs)
      unfolding after
      fill_follows u qs h rows =
          elim (cases_lt n (256 ^ p.width)) [
            | inl a ↦ by_event (filled p n) (event-small a) refl (end (small-written a).1)
            | inr a ↦
                let x : r ≡ Err ValueTooLarge = answers ∙ ap (patch_answer k offset) (large a) in
                absurd cc
          ]
        where
          closed : qs ≡ without_first (stands_at (length k.content) p.offset) ps
          closed = rows ∙ sym f.freed ∙ ap₂ (λ (x y : ℕ). without_first (stands_at x y) ps) s (sym begins)

          end : k' ≡ holding k (patched k.content offset new) → section_of k' us qs ≡ after (section_of k us ps) (filled p n)
          end w =
              ap (λ (z : Sink). section_of z us qs) w
              ∙ ap₂ (λ (x : ℕ) (y : List DebugInfoFixup). record { bytes = patched k.content x new; capacity = k.capacity; big = k.big; units = us; pending = y }) (sym begins) closed
