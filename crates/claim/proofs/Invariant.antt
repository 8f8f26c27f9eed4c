-- What holds between a section at first, the section now, and what the calls between have laid down and filled.
use Rattle.std.proofs.Common.{◌≡◌, ℕ, zero, suc, ◌+◌, ◌^◌, ◌<◌, ◌≤◌, Bool, true, false, cond, not, eqb, List, [], ◌∷◌, ◌++◌, length, Some, sym, refl, ap, ◌∙◌, subst, inl, inr, append_assoc, append-nil, pow-suc, arith, length-append}
use Rattle.std.proofs.lemmas.Bool.{cases_eq, eq-eqb, ne_eqb, not-true}
use Rattle.std.proofs.ByRecursion.{All-push}
use Rattle.common.specs.declared.fixup.DebugInfoFixup.{DebugInfoFixup}
use Rattle.dwarf.specs.Fixed.{fixed_bytes}
use Rattle.dwarf.specs.Tokens.{Tokens}
use Rattle.dwarf.specs.Bytes.{bytes_of, size_of}
use Rattle.dwarf.specs.References.{references, shown, Wide, In, put, patched}
use Rattle.dwarf.proofs.Standing.{references_stand}
use Rattle.dwarf.proofs.Placeholders.{in_append, in_left, inside, shown_same, put_other, put_here}
use Rattle.unit.specs.declared.UnitOffsets.{UnitOffsets}
use Rattle.claim.specs.Section.{entry_offset}
use Rattle.claim.specs.Calls.{stands_at, without_first}
use Rattle.claim.specs.History.{Chunk, content, Fill, numbers, closed, layout, sizes, set_down, keep}
use Rattle.claim.specs.Claim.{Rising, Within, Once, FilledBy}
use Rattle.claim.proofs.Fixups.{keep_append, keep_all, in_keep, keep_more, rising_keep, rising_less, unique, all_within, without_keep}
use Rattle.claim.proofs.Chunks.{length-layout, layout-append, sizes-append, set_down_append, AllWide, set_down_inside, set_down_wide, set_down_rising, layout-patched}

pub power_positive : (width : ℕ) → 0 < 256 ^ width
power_positive zero = omega arith
power_positive (suc width) = let h = power_positive width in rw (pow-suc 256 width) (omega arith)

abbrev is_open : List Fill → DebugInfoFixup → Bool
is_open fs p = not (closed fs p.offset)

-- bs: the bytes at first; bytes, units and pending: the section now; cs and fs: the pieces laid down and the fills
pub record Invariant (bs : List ℕ) (big : Bool) (bytes : List ℕ) (units : List UnitOffsets) (pending : List DebugInfoFixup) (cs : List Chunk)
    (fs : List Fill) : Type 0 where
  pub told : bytes ≡ bs ++ layout big (numbers fs) (length bs) cs
  pub left : pending ≡ keep (λ p. not (closed fs p.offset)) (set_down (length bs) cs)
  pub wide : AllWide cs
  pub fresh : (x : ℕ) → length bs + sizes cs ≤ x → closed fs x ≡ false
  pub zeros : (x : ℕ) → closed fs x ≡ false → numbers fs x ≡ 0
  pub fits : (p : DebugInfoFixup) → In p (set_down (length bs) cs) → numbers fs p.offset < 256 ^ p.width
  pub there : (p : DebugInfoFixup) (n : ℕ) → FilledBy p n fs → In p (set_down (length bs) cs)
  pub fills : (p : DebugInfoFixup) (n : ℕ) → FilledBy p n fs
      → (numbers fs p.offset ≡ n) × (entry_offset units p.unit p.entry ≡ Some n)
  pub once : Once fs

-- where no number stands, the bytes are those with every reference at zero
shown_zero : (big : Bool) (value : ℕ → ℕ) (at : ℕ) (ts : Tokens) → Wide ts → ((x : ℕ) → at ≤ x → x < at + size_of ts → value x ≡ 0)
    → bytes_of big (shown value at ts) ≡ bytes_of big ts
shown_zero big value at ts w h = ap (bytes_of big) (shown_same value (λ _. 0) at ts w h) ∙ references_stand.as_zeros big at ts

module _ {bs : List ℕ} {big : Bool} {bytes : List ℕ} {units : List UnitOffsets} {pending : List DebugInfoFixup} {cs : List Chunk} {fs : List Fill} where
  pub long : Invariant bs big bytes units pending cs fs → length bytes ≡ length bs + sizes cs
  long i =
      ap length i.told ∙ length-append bs (layout big (numbers fs) (length bs) cs)
      ∙ ap (λ (k : ℕ). length bs + k) (length-layout big (numbers fs) (length bs) cs)

  none_there : Invariant bs big bytes units pending cs fs → (x : ℕ) → length bs + sizes cs ≤ x → numbers fs x ≡ 0
  none_there i x h = i.zeros x (i.fresh x h)

  -- one more piece
  grown_bytes : Invariant bs big bytes units pending cs fs → (c : Chunk) → Wide (content c)
      → bytes ++ bytes_of big (content c) ≡ bs ++ layout big (numbers fs) (length bs) (cs ++ (c ∷ []))
  unfolding layout
  grown_bytes i c w =
      let e : bytes_of big (shown (numbers fs) (length bs + sizes cs) (content c)) ≡ bytes_of big (content c) =
      shown_zero big (numbers fs) (length bs + sizes cs) (content c) w (λ x a b. none_there i x a) in
      rw (layout-append big (numbers fs) (length bs) cs (c ∷ []), e, append-nil (bytes_of big (content c)), i.told)
      (append_assoc bs (layout big (numbers fs) (length bs) cs) (bytes_of big (content c)))

  grown-left : Invariant bs big bytes units pending cs fs → (c : Chunk)
      → pending ++ references (length bytes) (content c) ≡ keep (λ p. not (closed fs p.offset)) (set_down (length bs) (cs ++ (c ∷ [])))
  unfolding set_down
  grown-left i c =
      let at : ℕ = length bs + sizes cs in
      let e : keep (is_open fs) (references at (content c)) ≡ references at (content c) =
      keep_all (is_open fs) (references at (content c)) (λ p j. ap not (i.fresh p.offset (inside at (content c) p j).from)) in
      rw (
        long i,
        set_down_append (length bs) cs (c ∷ []),
        append-nil (references at (content c)),
        keep_append (is_open fs) (set_down (length bs) cs) (references at (content c)),
        e,
        ← i.left,
      ) refl

  grown-fits : Invariant bs big bytes units pending cs fs → (c : Chunk) (p : DebugInfoFixup) → In p (set_down (length bs) (cs ++ (c ∷ [])))
      → numbers fs p.offset < 256 ^ p.width
  unfolding set_down
  grown-fits i c p h =
      let at : ℕ = length bs + sizes cs in
      let h' : In p (set_down (length bs) cs ++ references at (content c)) =
      rw (set_down_append (length bs) cs (c ∷ []), append-nil (references at (content c))) at h in
      elim (in_append p (set_down (length bs) cs) (references at (content c)) h') [
        | inl k ↦ i.fits p k
        | inr k ↦ rw (none_there i p.offset (inside at (content c) p k).from) (power_positive p.width)
      ]

  pub grown : Invariant bs big bytes units pending cs fs → (c : Chunk) → Wide (content c)
      → Invariant bs big (bytes ++ bytes_of big (content c)) units (pending ++ references (length bytes) (content c)) (cs ++ (c ∷ [])) fs
  grown i c w =
      record {
        told = grown_bytes i c w;
        left = grown-left i c;
        wide = All-push (λ c. Wide (content c)) cs c i.wide w;
        fresh = λ x h. i.fresh x (omega (arith, sizes-append cs (c ∷ [])));
        zeros = i.zeros;
        fits = grown-fits i c;
        there = λ p n j. rw (set_down_append (length bs) cs (c ∷ []))
            (in_left p (set_down (length bs) cs) (set_down (length bs + sizes cs) (c ∷ [])) (i.there p n j));
        fills = i.fills;
        once = i.once;
      }

  -- entries keep their offsets where others gain one
  pub units_more : Invariant bs big bytes units pending cs fs → (more : List UnitOffsets)
      → ((k x m : ℕ) → entry_offset units k x ≡ Some m → entry_offset more k x ≡ Some m) → Invariant bs big bytes more pending cs fs
  units_more i more h =
      record {
        told = i.told;
        left = i.left;
        wide = i.wide;
        fresh = i.fresh;
        zeros = i.zeros;
        fits = i.fits;
        there = i.there;
        fills = λ p m j. let r = i.fills p m j in (r.0, h p.unit p.entry m r.1);
        once = i.once;
      }

  pub left_rising : Invariant bs big bytes units pending cs fs → Rising 0 pending
  left_rising i =
      rw i.left (rising_keep (is_open fs) 0 (set_down (length bs) cs)
      (rising_less (length bs) 0 (set_down (length bs) cs) (omega arith) (set_down_rising (length bs) cs i.wide)))

  -- what is pending was set down and is not closed
  pub pending_open : Invariant bs big bytes units pending cs fs → (p : DebugInfoFixup) → In p pending
      → In p (set_down (length bs) cs) × (closed fs p.offset ≡ false)
  pending_open i p h =
      let k = in_keep (is_open fs) (set_down (length bs) cs) p (subst (λ (z : List DebugInfoFixup). In p z) i.left h) in
      (k.0, not-true (closed fs p.offset) k.1)

  pub left-within : Invariant bs big bytes units pending cs fs → Within (length bytes) pending
  left-within i =
      all_within (length bytes) pending
      (λ p h. let k = set_down_inside (length bs) cs p (pending_open i p h).0 in let l = long i in omega arith)

filled-closed : (p : DebugInfoFixup) (n : ℕ) (fs : List Fill) → FilledBy p n fs → closed fs p.offset ≡ true
unfolding closed
filled-closed p n [] h = absurd h
filled-closed p n (f ∷ fs) (inl e) = rw (eq-eqb p.offset f.place.offset (ap (λ (z : DebugInfoFixup). z.offset) (sym e.0)))
filled-closed p n (f ∷ fs) (inr h) = go (eqb p.offset f.place.offset) (filled-closed p n fs h)
  where
    go : (b : Bool) → closed fs p.offset ≡ true → cond b true (closed fs p.offset) ≡ true
    go true e = refl
    go false e = e

-- a pending reference is filled
module _ {bs : List ℕ} {big : Bool} {bytes : List ℕ} {units : List UnitOffsets} {pending : List DebugInfoFixup} {cs : List Chunk} {fs : List Fill}
    (i : Invariant bs big bytes units pending cs fs) (p : DebugInfoFixup) (n : ℕ)
    (found : In p pending) (at_entry_lem : entry_offset units p.unit p.entry ≡ Some n) (small : n < 256 ^ p.width) where
  abbrev fs' : List Fill
  fs' = record { place = p; number = n } ∷ fs

  was : In p (set_down (length bs) cs) × (closed fs p.offset ≡ false)
  was = pending_open i p found

  filled_told : patched bytes p.offset (fixed_bytes big p.width n) ≡ bs ++ layout big (numbers fs') (length bs) cs
  unfolding numbers
  filled_told =
      ap (λ (z : List ℕ). patched z p.offset (fixed_bytes big p.width n)) i.told
      ∙ layout-patched bs big (numbers fs) p n cs i.wide was.0

  filled-left : keep (λ x. not (eqb x.offset p.offset)) pending ≡ keep (λ x. not (closed fs' x.offset)) (set_down (length bs) cs)
  unfolding closed
  filled-left =
      rw i.left (keep_more (λ x. not (closed fs x.offset)) (λ x. not (eqb x.offset p.offset)) (λ x. not (closed fs' x.offset))
      (set_down (length bs) cs) (λ x. go (eqb x.offset p.offset) (closed fs x.offset)))
    where
      go : (a b : Bool) → not (cond a true b) ≡ cond (not a) (not b) false
      go true b = refl
      go false b = refl

  filled-fresh : (x : ℕ) → length bs + sizes cs ≤ x → closed fs' x ≡ false
  unfolding closed
  filled-fresh x h =
      let j = set_down_inside (length bs) cs p was.0 in
      let z = set_down_wide (length bs) cs p i.wide was.0 in
      let ne : x ≡ p.offset → ⊥ = λ e. omega arith in
      rw (ne_eqb x p.offset ne) (i.fresh x h)

  filled_zeros : (x : ℕ) → closed fs' x ≡ false → numbers fs' x ≡ 0
  unfolding closed numbers put
  filled_zeros x h = go (eqb x p.offset) h
    where
      go : (b : Bool) → cond b true (closed fs x) ≡ false → cond b n (numbers fs x) ≡ 0
      go true e = absurd cc
      go false e = i.zeros x e

  filled-fits : (r : DebugInfoFixup) → In r (set_down (length bs) cs) → numbers fs' r.offset < 256 ^ r.width
  unfolding numbers
  filled-fits r h =
      elim (cases_eq r.offset p.offset) [
        | inl e ↦ let same : p ≡ r = unique (length bs) (set_down (length bs) cs) p r (set_down_rising (length bs) cs i.wide) was.0 h (sym e) in
            subst (λ (z : DebugInfoFixup). numbers fs' z.offset < 256 ^ z.width) same (rw (put_here (numbers fs) p.offset n) small)
        | inr ne ↦ rw (← put_other (numbers fs) p.offset n r.offset ne) (i.fits r h)
      ]

  filled-fills : (r : DebugInfoFixup) (m : ℕ) → FilledBy r m fs'
      → (numbers fs' r.offset ≡ m) × (entry_offset units r.unit r.entry ≡ Some m)
  unfolding numbers
  filled-fills r m (inl e) =
      let a : p ≡ r = e.0 in (
        ap (λ (z : DebugInfoFixup). numbers fs' z.offset) (sym a) ∙ put_here (numbers fs) p.offset n ∙ e.1,
        ap (λ (z : DebugInfoFixup). entry_offset units z.unit z.entry) (sym a) ∙ at_entry_lem ∙ ap Some e.1,
      )
  filled-fills r m (inr h) =
      let c = filled-closed r m fs h in
      let ne : r.offset ≡ p.offset → ⊥ =
      λ e. (let z : false ≡ true = sym was.1 ∙ ap (closed fs) (sym e) ∙ c in let y : ◌≡◌ {A = ℕ} 0 1 = cc in omega arith) in
      (sym (put_other (numbers fs) p.offset n r.offset ne) ∙ (i.fills r m h).0, (i.fills r m h).1)

  filled_there : (r : DebugInfoFixup) (m : ℕ) → FilledBy r m fs' → In r (set_down (length bs) cs)
  filled_there r m (inl e) = subst (λ (z : DebugInfoFixup). In z (set_down (length bs) cs)) e.0 was.0
  filled_there r m (inr h) = i.there r m h

  pub filled_more : Invariant bs big (patched bytes p.offset (fixed_bytes big p.width n)) units
      (without_first (stands_at (length bytes) p.offset) pending) cs fs'
  filled_more =
      record {
        told = filled_told;
        left = without_keep (length bytes) p.offset 0 pending (left_rising i) (left-within i) ∙ filled-left;
        wide = i.wide;
        fresh = filled-fresh;
        zeros = filled_zeros;
        fits = filled-fits;
        there = filled_there;
        fills = filled-fills;
        once = (was.1, i.once);
      }
