-- No byte that is there changes outside the placeholders that are filled.
use Rattle.std.proofs.Common.{◌≡◌, ℕ, ◌+◌, ◌-◌, ◌<◌, ◌≤◌, List, [], ◌∷◌, ◌++◌, length, get_or, take, drop, refl, ap, ◌∙◌, subst, inl, inr, arith, length-append, length-take-le, get_or-drop, get_or-take, get_or-append-add}
use lib.ListN.{get_or-append}
use Rattle.std.proofs.lemmas.Bool.{cases_lt}
use Rattle.common.specs.declared.fixup.DebugInfoFixup.{DebugInfoFixup}
use Rattle.dwarf.specs.Fixed.{fixed_bytes}
use Rattle.dwarf.specs.Bytes.{bytes_of}
use Rattle.dwarf.specs.References.{patched}
use Rattle.dwarf.proofs.Widths.{length_fixed}
use Rattle.claim.specs.Section.{State}
use Rattle.claim.specs.Calls.{
  Call,
  Event,
  refused,
  began,
  appended,
  placed,
  sized,
  wrote,
  wrote_frame,
  filled,
  finished,
  listed,
  event,
  after,
  state,
  History,
  history,
}
use Rattle.claim.specs.History.{Chunk, laid_by, laid, Fill, filled_by, fills}
use Rattle.claim.specs.Claim.{Covered, Kept}
use Rattle.claim.proofs.Chunks.{set_down_inside}
use Rattle.claim.proofs.Invariant.{long, pending_open}
use Rattle.claim.proofs.Events.{Sound, sound}
use Rattle.claim.proofs.Steps.{Holds, hold}

-- bytes outside a patch
patched-below : (bs new : List ℕ) (at x : ℕ) → x < at → at ≤ length bs → get_or (patched bs at new) x 0 ≡ get_or bs x 0
patched-below bs new at x h l =
    let t : length (take at bs) ≡ at = length-take-le at bs l in
    get_or-append (take at bs) (new ++ drop (at + length new) bs) 0 x (omega arith) ∙ get_or-take at bs x 0 h

patched_above : (bs new : List ℕ) (at y : ℕ) → at ≤ length bs → get_or (patched bs at new) (at + length new + y) 0 ≡ get_or bs (at + length new + y) 0
patched_above bs new at y l =
    let t : length (take at bs) ≡ at = length-take-le at bs l in
    let rest : List ℕ = drop (at + length new) bs in
    let e : at + length new + y ≡ length (take at bs) + (length new + y) = omega arith in
    ap (λ (k : ℕ). get_or (take at bs ++ (new ++ rest)) k 0) e
    ∙ get_or-append-add (take at bs) (new ++ rest) (length new + y) 0
    ∙ get_or-append-add new rest y 0
    ∙ get_or-drop (at + length new) bs y 0

-- bytes stay, and none goes
pub record Stays (old new : List ℕ) (fs : List Fill) : Type 0 where
  pub longer : length old ≤ length new
  pub kept : Kept old new fs

same : (old : List ℕ) (fs : List Fill) → Stays old old fs
same old fs = record { longer = omega arith; kept = λ x l. inl refl }

added : (old more : List ℕ) (fs : List Fill) → Stays old (old ++ more) fs
added old more fs = record { longer = rw (length-append old more) (omega arith); kept = λ x l. inl (get_or-append old more 0 x l) }

module _ (s₀ s : State) {cs : List Chunk} {fs : List Fill} (i : Holds s₀ s cs fs) where
  kept_filled : (p : DebugInfoFixup) (n : ℕ) → p.offset + p.width ≤ length s.bytes
      → Kept s.bytes (patched s.bytes p.offset (fixed_bytes s.big p.width n)) (record { place = p; number = n } ∷ [])
  kept_filled p n inside x l =
      let new : List ℕ = fixed_bytes s.big p.width n in
      let w : length new ≡ p.width = length_fixed s.big p.width n in
      elim (cases_lt x p.offset) [
        | inl a ↦ inl (patched-below s.bytes new p.offset x a (omega arith))
        | inr a ↦ elim (cases_lt x (p.offset + p.width)) [
          | inl b ↦ inr (inl (a, b))
          | inr b ↦
              let e : p.offset + length new + (x - (p.offset + p.width)) ≡ x = omega arith in
              inl (subst (λ (z : ℕ). get_or (patched s.bytes p.offset new) z 0 ≡ get_or s.bytes z 0) e
              (patched_above s.bytes new p.offset (x - (p.offset + p.width)) (omega arith)))
        ]
      ]

  stays_filled : (p : DebugInfoFixup) (n : ℕ) → Sound s (filled p n) → Holds s₀ (after s (filled p n)) cs (record { place = p; number = n } ∷ fs)
      → Stays s.bytes (after s (filled p n)).bytes (record { place = p; number = n } ∷ [])
  unfolding after
  stays_filled p n h j =
      let k = set_down_inside (length s₀.bytes) cs p (pending_open i.invariant p h.0).0 in
      let a = long i.invariant in
      let b = long j.invariant in
      record { longer = omega arith; kept = kept_filled p n (omega arith) }

-- one call
pub stays : (s₀ s : State) (h : History) (ev : Event) → Holds s₀ s (laid h) (fills h) → Sound s ev → Stays s.bytes (after s ev).bytes (filled_by ev [])
unfolding after filled_by laid_by
stays s₀ s h (refused e) i k = same s.bytes []
stays s₀ s h (began unit e) i k = same s.bytes []
stays s₀ s h (appended bytes) i k = added s.bytes bytes []
stays s₀ s h (placed unit entry offset) i k = same s.bytes []
stays s₀ s h (sized n) i k = same s.bytes []
stays s₀ s h (wrote w) i k = added s.bytes (bytes_of s.big w.tokens) []
stays s₀ s h (wrote_frame w) i k = added s.bytes (bytes_of s.big w.tokens) []
stays s₀ s h (filled p n) i k = stays_filled s₀ s i p n k (unfold laid fills in hold s₀ s h (filled p n) i k)
stays s₀ s h (finished n) i k = same s.bytes []
stays s₀ s h (listed p) i k = same s.bytes []

-- what one more call's fill and those before it write over
covered_by : (x : ℕ) (ev : Event) (fs : List Fill) → Covered x (filled_by ev []) → Covered x (filled_by ev fs)
unfolding filled_by
covered_by x (refused e) fs h = absurd h
covered_by x (began unit e) fs h = absurd h
covered_by x (appended bytes) fs h = absurd h
covered_by x (placed unit entry offset) fs h = absurd h
covered_by x (sized n) fs h = absurd h
covered_by x (wrote w) fs h = absurd h
covered_by x (wrote_frame w) fs h = absurd h
covered_by x (filled p n) fs (inl h) = inl h
covered_by x (filled p n) fs (inr h) = absurd h
covered_by x (finished n) fs h = absurd h
covered_by x (listed p) fs h = absurd h

covered_before : (x : ℕ) (ev : Event) (fs : List Fill) → Covered x fs → Covered x (filled_by ev fs)
unfolding filled_by
covered_before x (refused e) fs h = h
covered_before x (began unit e) fs h = h
covered_before x (appended bytes) fs h = h
covered_before x (placed unit entry offset) fs h = h
covered_before x (sized n) fs h = h
covered_before x (wrote w) fs h = h
covered_before x (wrote_frame w) fs h = h
covered_before x (filled p n) fs h = inr h
covered_before x (finished n) fs h = h
covered_before x (listed p) fs h = h

then_stays : (old mid new : List ℕ) (ev : Event) (fs : List Fill) → Stays old mid fs → Stays mid new (filled_by ev []) → Stays old new (filled_by ev fs)
then_stays old mid new ev fs a b =
    record {
      longer = let k = a.longer in let l = b.longer in omega arith;
      kept = λ x l.
          elim (b.kept x (let k = a.longer in omega arith)) [
            | inl e ↦ elim (a.kept x l) [ inl f ↦ inl (e ∙ f) | inr c ↦ inr (covered_before x ev fs c) ]
            | inr c ↦ inr (covered_by x ev fs c)
          ];
    }

-- any number of calls
pub record Later (s₀ m : State) (later : List Call) : Type 0 where
  pub told : History
  pub holds : Holds s₀ (state m later) (laid told) (fills told)
  pub stays : Stays m.bytes (state m later).bytes (fills (history m later))

pub calls-keep : (s₀ m : State) (h : History) → Holds s₀ m (laid h) (fills h) → (later : List Call) → Later s₀ m later
unfolding state history fills
calls-keep s₀ m h i [] = record { told = h; holds = i; stays = same m.bytes [] }
calls-keep s₀ m h i (c ∷ later) =
    let k = calls-keep s₀ m h i later in
    let mid : State = state m later in
    let ev : Event = event mid c in
    record {
      told = ev ∷ k.told;
      holds = hold s₀ mid k.told ev k.holds (sound mid c);
      stays = then_stays m.bytes mid.bytes (after mid ev).bytes ev (fills (history m later)) k.stays (stays s₀ mid k.told ev k.holds (sound mid c));
    }
