-- Every call keeps what holds of a section.
use Rattle.std.proofs.Common.{◌≡◌, ℕ, ◌+◌, ◌-◌, ◌^◌, ◌<◌, ◌≤◌, true, List, [], ◌∷◌, ◌++◌, length, Some, None, Ok, Option, sym, refl, ap, ◌∙◌, subst, inl, inr, append-nil, arith, length-append}
use Rattle.common.specs.declared.encoding.Encoding.{Encoding}
use Rattle.common.specs.declared.fixup.DebugInfoFixup.{DebugInfoFixup}
use Rattle.dwarf.specs.Fixed.{fixed_bytes}
use Rattle.dwarf.specs.Bytes.{bytes_of, size_of}
use Rattle.dwarf.specs.References.{references, patched}
use Rattle.dwarf.specs.WellFormed.{WellFormed}
use Rattle.dwarf.proofs.Sizes.{length_bytes}
use Rattle.rules.specs.Scope.{in_frame, from_start}
use Rattle.rules.specs.Readable.{readable}
use Rattle.unit.specs.Offsets.{place_of, unit_scope}
use Rattle.unit.specs.declared.UnitOffsets.{UnitOffsets}
use Rattle.claim.specs.Section.{State, New, last_number, last_unit, entry_offset, fresh_unit, placed_in}
use Rattle.claim.specs.Calls.{
  Call,
  Written,
  Event,
  refused,
  began,
  appended,
  placed,
  sized,
  wrote,
  wrote_frame,
  filled,
  finished,
  listed,
  stands_at,
  without_first,
  event,
  after,
  state,
  History,
  history,
}
use Rattle.claim.specs.History.{Chunk, plain_bytes, expression, content, laid_by, laid, Fill, filled_by, fills, numbers, closed, layout, sizes, set_down, keep}
use Rattle.claim.specs.Fits.{Fits}
use Rattle.claim.proofs.Units.{begun, kept_by_unit, of_more_units, kept_by_entry, of_more_entries}
use Rattle.std.specs.List.{AllByRecursion}
use Rattle.std.proofs.ByRecursion.{All-push}
use Rattle.claim.proofs.Invariant.{Invariant, long, grown, units_more, filled_more}
use Rattle.claim.proofs.Formed.{Low}
use Rattle.claim.proofs.Encoded.{Encoded}
use Rattle.claim.proofs.Events.{Sound, sound}

-- what holds of each piece laid down
abbrev pub Good : Chunk → Type 0
Good (plain_bytes bytes) = Unit {0}
Good (expression w) = Encoded w × (readable w.tree ≡ true → Fits w.tree → WellFormed w.encoding [] w.tokens)

abbrev pub AllGood : List Chunk → Type 0
AllGood = AllByRecursion Good

pub good_at : (xs : List Chunk) (c : Chunk) (ys : List Chunk) → AllGood (xs ++ (c ∷ ys)) → Good c
good_at [] c ys a = a.0
good_at (x ∷ xs) c ys a = good_at xs c ys a.1

-- what holds of a section that began as s₀, once the pieces are laid down and the fills made
pub record Holds (s₀ s : State) (cs : List Chunk) (fs : List Fill) : Type 0 where
  pub invariant : Invariant s₀.bytes s.big s.bytes s.units s.pending cs fs
  pub order : s.big ≡ s₀.big
  pub capacity : s.capacity ≡ s₀.capacity
  pub bounded : s.capacity ≤ 2147483647
  pub within : length s.bytes ≤ s.capacity
  pub low : (unit entry n : ℕ) → entry_offset s.units unit entry ≡ Some n → (n ≤ s.capacity) × (0 < n)
  pub good : AllGood cs

-- the entries of a section have offsets of 64 bits
unit_low : (s : State) → ((unit entry n : ℕ) → entry_offset s.units unit entry ≡ Some n → n < 2 ^ 64) → Low (unit_scope (last_unit s))
unfolding entry_offset
unit_low s low entry n h = go (place_of (last_unit s) entry) refl h
  where
    go : (o : Option ℕ) → place_of (last_unit s) entry ≡ o → from_start (last_unit s).start o ≡ Ok n → n < 2 ^ 64
    go None e k = absurd cc
    go (Some m) e k =
        let l : m < 2 ^ 64 = low (last_number s) entry m e in
        let same : m - (last_unit s).start ≡ n = cc in omega arith

frame_low : Low in_frame
frame_low entry n h = absurd cc

module _ (s₀ s : State) {cs : List Chunk} {fs : List Fill} (i : Holds s₀ s cs fs) where
  -- bytes more
  bytes_more : (bytes : List ℕ) → Invariant s₀.bytes s.big (s.bytes ++ bytes) s.units s.pending (cs ++ (plain_bytes bytes ∷ [])) fs
  unfolding bytes_of content references
  bytes_more bytes =
      let more : List Chunk = cs ++ (plain_bytes bytes ∷ []) in
      subst (λ (z : List ℕ). Invariant s₀.bytes s.big (s.bytes ++ z) s.units s.pending more fs) (append-nil bytes)
      (subst (λ (z : List DebugInfoFixup). Invariant s₀.bytes s.big (s.bytes ++ (bytes ++ [])) s.units z more fs) (append-nil s.pending)
      (grown i.invariant (plain_bytes bytes) tt))

  hold_appended : (bytes : List ℕ) → length s.bytes + length bytes ≤ s.capacity
      → Holds s₀ (after s (appended bytes)) (cs ++ (plain_bytes bytes ∷ [])) fs
  unfolding after
  hold_appended bytes h =
      let w = i.within in
      record {
        invariant = bytes_more bytes;
        order = i.order;
        capacity = i.capacity;
        bounded = i.bounded;
        within = rw (length-append s.bytes bytes) (omega arith);
        low = i.low;
        good = All-push Good cs (plain_bytes bytes) i.good tt;
      }

  hold_placed : (unit entry offset : ℕ) → Sound s (placed unit entry offset) → Holds s₀ (after s (placed unit entry offset)) cs fs
  unfolding after
  hold_placed unit entry offset h =
      let w = i.within in
      let e = h.3 in
      let e' = h.4 in
      record {
        invariant = units_more i.invariant (placed_in s.units unit entry offset)
            (λ j y m g. kept_by_entry s.units unit entry offset j y m h.1 h.2 g);
        order = i.order;
        capacity = i.capacity;
        bounded = i.bounded;
        within = i.within;
        low = λ j y m g. elim (of_more_entries s.units unit entry offset j y m h.0 g) [ inl z ↦ (omega arith, omega arith) | inr z ↦ i.low j y m z ];
        good = i.good;
      }

  -- an expression more, with its references
  expression_more : (w : Written) → Encoded w
      → Invariant s₀.bytes s.big (s.bytes ++ bytes_of s.big w.tokens) s.units
      (s.pending ++ references (length s.bytes) w.tokens) (cs ++ (expression w ∷ [])) fs
  unfolding content
  expression_more w f = grown i.invariant (expression w) f.wide

  expression_within : (w : Written) → length s.bytes + size_of w.tokens ≤ s.capacity
      → length (s.bytes ++ bytes_of s.big w.tokens) ≤ s.capacity
  expression_within w h = let g = length_bytes s.big w.tokens in rw (length-append s.bytes (bytes_of s.big w.tokens)) (omega arith)

  expression_good : (w : Written) → Encoded w → length s.bytes + size_of w.tokens ≤ s.capacity → Low w.scope
      → AllGood (cs ++ (expression w ∷ []))
  expression_good w f h l = let b = i.bounded in All-push Good cs (expression w) i.good (f, λ r t. f.formed r t l (omega arith))

  hold_wrote : (w : Written) → Sound s (wrote w) → Holds s₀ (after s (wrote w)) (cs ++ (expression w ∷ [])) fs
  unfolding after
  hold_wrote w h =
      let b = i.bounded in
      let l : Low (unit_scope (last_unit s)) = unit_low s (λ unit entry n g. let z = (i.low unit entry n g).0 in omega arith) in
      record {
        invariant = expression_more w h.0;
        order = i.order;
        capacity = i.capacity;
        bounded = i.bounded;
        within = expression_within w h.1;
        low = i.low;
        good = expression_good w h.0 h.1 (subst Low (sym h.2) l);
      }

  hold_wrote_frame : (w : Written) → Sound s (wrote_frame w) → Holds s₀ (after s (wrote_frame w)) (cs ++ (expression w ∷ [])) fs
  unfolding after
  hold_wrote_frame w h =
      let none : s.pending ++ references (length s.bytes) w.tokens ≡ s.pending =
      ap (λ (z : List DebugInfoFixup). s.pending ++ z) (h.0.rules.framed h.2 (length s.bytes)) ∙ append-nil s.pending in
      record {
        invariant = subst (λ (z : List DebugInfoFixup).
            Invariant s₀.bytes s.big (s.bytes ++ bytes_of s.big w.tokens) s.units z (cs ++ (expression w ∷ [])) fs) none (expression_more w h.0);
        order = i.order;
        capacity = i.capacity;
        bounded = i.bounded;
        within = expression_within w h.1;
        low = i.low;
        good = expression_good w h.0 h.1 (subst Low (sym h.2) frame_low);
      }

  hold_filled : (p : DebugInfoFixup) (n : ℕ) → Sound s (filled p n) → Holds s₀ (after s (filled p n)) cs (record { place = p; number = n } ∷ fs)
  unfolding after
  hold_filled p n h =
      let j : Invariant s₀.bytes s.big (patched s.bytes p.offset (fixed_bytes s.big p.width n)) s.units
      (without_first (stands_at (length s.bytes) p.offset) s.pending) cs (record { place = p; number = n } ∷ fs) =
      filled_more i.invariant p n h.0 h.1 h.2 in
      record {
        invariant = j;
        order = i.order;
        capacity = i.capacity;
        bounded = i.bounded;
        within = omega (arith, long j, long i.invariant, i.within);
        low = i.low;
        good = i.good;
      }

  hold_began : (unit : ℕ) (e : Encoding) → Holds s₀ (after s (began unit e)) cs fs
  unfolding after
  hold_began unit e =
      let fresh : UnitOffsets = fresh_unit e (length s.bytes) in
      record {
        invariant = units_more i.invariant (s.units ++ (fresh ∷ [])) (λ j x m g. kept_by_unit s.units fresh j x m g);
        order = i.order;
        capacity = i.capacity;
        bounded = i.bounded;
        within = i.within;
        low = λ j x m g. i.low j x m (of_more_units s.units e (length s.bytes) j x m g);
        good = i.good;
      }

pub hold : (s₀ s : State) (h : History) (ev : Event) → Holds s₀ s (laid h) (fills h) → Sound s ev → Holds s₀ (after s ev) (laid (ev ∷ h)) (fills (ev ∷ h))
unfolding laid laid_by fills filled_by
hold s₀ s h (refused e) i k = unfold after in i
hold s₀ s h (began unit e) i k = hold_began s₀ s i unit e
hold s₀ s h (appended bytes) i k = hold_appended s₀ s i bytes k
hold s₀ s h (placed unit entry offset) i k = hold_placed s₀ s i unit entry offset k
hold s₀ s h (sized n) i k = unfold after in i
hold s₀ s h (wrote w) i k = hold_wrote s₀ s i w k
hold s₀ s h (wrote_frame w) i k = hold_wrote_frame s₀ s i w k
hold s₀ s h (filled p n) i k = hold_filled s₀ s i p n k
hold s₀ s h (finished n) i k = unfold after in i
hold s₀ s h (listed p) i k = unfold after in i

none_placed : (unit entry n : ℕ) (us : List UnitOffsets) → us ≡ [] → entry_offset us unit entry ≡ Some n → ⊥
none_placed unit entry n us e h = let z = begun us unit entry n h in let y = ap length e in omega arith

hold_new : (s₀ : State) → New s₀ → Holds s₀ s₀ [] []
unfolding layout sizes set_down keep closed numbers
hold_new s₀ n =
    record {
      invariant = record {
        told = sym (append-nil s₀.bytes);
        left = n.no_pending;
        wide = tt;
        fresh = λ x h. refl;
        zeros = λ x h. refl;
        fits = λ p h. absurd h;
        there = λ p m h. absurd h;
        fills = λ p m h. absurd h;
        once = tt;
      };
      order = refl;
      capacity = refl;
      bounded = n.bounded;
      within = n.within;
      low = λ unit entry m h. absurd (none_placed unit entry m s₀.units n.no_units h);
      good = tt;
    }

pub holds : (s₀ : State) (calls : List Call) → New s₀ → Holds s₀ (state s₀ calls) (laid (history s₀ calls)) (fills (history s₀ calls))
unfolding state history
holds s₀ [] n = unfold laid fills in hold_new s₀ n
holds s₀ (c ∷ calls) n = hold s₀ (state s₀ calls) (history s₀ calls) (event (state s₀ calls) c) (holds s₀ calls n) (sound (state s₀ calls) c)
