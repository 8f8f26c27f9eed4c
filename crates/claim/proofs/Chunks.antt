-- Pieces of a section one after the other: their bytes, sizes and references.
use Rattle.std.proofs.Common.{◌≡◌, ℕ, ◌+◌, ◌<◌, ◌≤◌, Bool, List, [], ◌∷◌, ◌++◌, length, take, drop, sym, refl, ap, ◌∙◌, subst, ap₂, inl, inr, append_assoc, add_assoc, arith, length-append, take_at, drop_at}
use Rattle.std.specs.List.{AllByRecursion}
use Rattle.common.specs.declared.fixup.DebugInfoFixup.{DebugInfoFixup}
use Rattle.dwarf.specs.Fixed.{fixed_bytes}
use Rattle.dwarf.specs.Tokens.{Tokens}
use Rattle.dwarf.specs.Bytes.{bytes_of, size_of}
use Rattle.dwarf.specs.References.{references, shown, Wide, In, put, patched}
use Rattle.dwarf.proofs.Sizes.{length-shown}
use Rattle.dwarf.proofs.Placeholders.{in_append, Inside, inside, shown_same, put_other, wide_in}
use Rattle.dwarf.proofs.Patching.{shown_differ, patches}
use Rattle.claim.specs.History.{Chunk, content, layout, sizes, set_down}
use Rattle.claim.specs.Claim.{Rising}
use Rattle.claim.proofs.Fixups.{rising_append, rising_tokens}

pub length-layout : (big : Bool) (value : ℕ → ℕ) (at : ℕ) (cs : List Chunk) → length (layout big value at cs) ≡ sizes cs
unfolding layout sizes
length-layout big value at [] = refl
length-layout big value at (c ∷ cs) = rw (length-append, length-shown big value at (content c), length-layout big value (at + size_of (content c)) cs)

pub layout-append : (big : Bool) (value : ℕ → ℕ) (at : ℕ) (xs ys : List Chunk)
    → layout big value at (xs ++ ys) ≡ layout big value at xs ++ layout big value (at + sizes xs) ys
unfolding layout sizes
layout-append big value at [] ys = ap (λ (k : ℕ). layout big value k ys) (omega arith)
layout-append big value at (c ∷ cs) ys = rw (layout-append big value (at + size_of (content c)) cs ys, append_assoc, add_assoc)

pub sizes-append : (xs ys : List Chunk) → sizes (xs ++ ys) ≡ sizes xs + sizes ys
unfolding sizes
sizes-append [] ys = omega arith
sizes-append (c ∷ cs) ys = rw (sizes-append cs ys) (omega arith)

pub set_down_append : (at : ℕ) (xs ys : List Chunk) → set_down at (xs ++ ys) ≡ set_down at xs ++ set_down (at + sizes xs) ys
unfolding set_down sizes
set_down_append at [] ys = ap (λ (k : ℕ). set_down k ys) (omega arith)
set_down_append at (c ∷ cs) ys = rw (set_down_append (at + size_of (content c)) cs ys, append_assoc, add_assoc)

-- every reference in the pieces has a byte at least
abbrev pub AllWide : List Chunk → Type 0
AllWide = AllByRecursion (λ c. Wide (content c))

pub all_wide_first : (xs ys : List Chunk) → AllWide (xs ++ ys) → AllWide xs
all_wide_first [] ys a = tt
all_wide_first (c ∷ cs) ys a = (a.0, all_wide_first cs ys a.1)

pub all_wide_second : (xs ys : List Chunk) → AllWide (xs ++ ys) → AllWide ys
all_wide_second [] ys a = a
all_wide_second (c ∷ cs) ys a = all_wide_second cs ys a.1

pub set_down_inside : (at : ℕ) (cs : List Chunk) (p : DebugInfoFixup) → In p (set_down at cs) → Inside at (sizes cs) p
unfolding set_down sizes
set_down_inside at [] p h = absurd h
set_down_inside at (c ∷ cs) p h =
    elim (in_append p (references at (content c)) (set_down (at + size_of (content c)) cs) h) [
      | inl m ↦ let i = inside at (content c) p m in record { from = omega arith; to = omega arith }
      | inr m ↦ let i = set_down_inside (at + size_of (content c)) cs p m in record { from = omega arith; to = omega arith }
    ]

pub set_down_wide : (at : ℕ) (cs : List Chunk) (p : DebugInfoFixup) → AllWide cs → In p (set_down at cs) → 0 < p.width
unfolding set_down
set_down_wide at [] p w h = absurd h
set_down_wide at (c ∷ cs) p w h =
    elim (in_append p (references at (content c)) (set_down (at + size_of (content c)) cs) h)
    [ inl m ↦ wide_in at (content c) p w.0 m | inr m ↦ set_down_wide (at + size_of (content c)) cs p w.1 m ]

pub set_down_rising : (at : ℕ) (cs : List Chunk) → AllWide cs → Rising at (set_down at cs)
unfolding set_down
set_down_rising at [] w = tt
set_down_rising at (c ∷ cs) w =
    let k : ℕ = at + size_of (content c) in
    rising_append at k (references at (content c)) (set_down k cs) (omega arith) (rising_tokens at (content c) w.0)
    (λ p i. (inside at (content c) p i).to) (set_down_rising k cs w.1)

-- numbers that agree over the pieces' bytes give the same bytes
pub layout_same : (big : Bool) (f g : ℕ → ℕ) (at : ℕ) (cs : List Chunk) → AllWide cs → ((x : ℕ) → at ≤ x → x < at + sizes cs → f x ≡ g x)
    → layout big f at cs ≡ layout big g at cs
unfolding layout sizes
layout_same big f g at [] w h = refl
layout_same big f g at (c ∷ cs) w h =
    ap₂ (λ x y. bytes_of big x ++ y) (shown_same f g at (content c) w.0 (λ x a b. h x (omega arith) (omega arith)))
    (layout_same big f g (at + size_of (content c)) cs w.1 (λ x a b. h x (omega arith) (omega arith)))

-- the piece that holds a reference
pub record Holder (at : ℕ) (cs : List Chunk) (p : DebugInfoFixup) : Type 0 where
  pub before : List Chunk
  pub chunk : Chunk
  pub behind : List Chunk
  pub all : cs ≡ before ++ (chunk ∷ behind)
  pub holds : In p (references (at + sizes before) (content chunk))

pub holder : (at : ℕ) (cs : List Chunk) (p : DebugInfoFixup) → In p (set_down at cs) → Holder at cs p
unfolding set_down sizes
holder at [] p h = absurd h
holder at (c ∷ cs) p h =
    elim (in_append p (references at (content c)) (set_down (at + size_of (content c)) cs) h) [
      | inl m ↦ record {
        before = [];
        chunk = c;
        behind = cs;
        all = refl;
        holds = subst (λ (k : ℕ). In p (references k (content c))) (omega arith) m;
      }
      | inr m ↦ let k = holder (at + size_of (content c)) cs p m in record {
        before = c ∷ k.before;
        chunk = k.chunk;
        behind = k.behind;
        all = ap (λ (z : List Chunk). c ∷ z) k.all;
        holds = subst (λ (n : ℕ). In p (references n (content k.chunk))) (omega arith) k.holds;
      }
    ]

-- bytes that stand at a place of a list
pub record Standing (bytes : List ℕ) (at : ℕ) (xs : List ℕ) : Type 0 where
  pub before : List ℕ
  pub after : List ℕ
  pub all : bytes ≡ before ++ (xs ++ after)
  pub start : length before ≡ at

pub standing_part : {bytes : List ℕ} {at : ℕ} (xs : List ℕ) (size : ℕ) → length xs ≡ size → Standing bytes at xs → take size (drop at bytes) ≡ xs
standing_part {at = at} xs size l s = rw (s.all, drop_at s.before (xs ++ s.after) at s.start) (take_at xs s.after size l)

-- a piece stands in the bytes of the section: bs what it held at first, at where the piece begins
pub chunk_stands : (bs : List ℕ) (big : Bool) (value : ℕ → ℕ) (before : List Chunk) (c : Chunk) (behind : List Chunk)
    → Standing (bs ++ layout big value (length bs) (before ++ (c ∷ behind))) (length bs + sizes before)
    (bytes_of big (shown value (length bs + sizes before) (content c)))
unfolding layout
chunk_stands bs big value before c behind =
    let at : ℕ = length bs + sizes before in
    let mid : List ℕ = bytes_of big (shown value at (content c)) in
    let post : List ℕ = layout big value (at + size_of (content c)) behind in
    record {
      before = bs ++ layout big value (length bs) before;
      after = post;
      all =
          ap (λ (z : List ℕ). bs ++ z) (layout-append big value (length bs) before (c ∷ behind))
          ∙ sym (append_assoc bs (layout big value (length bs) before) (mid ++ post));
      start = length-append bs (layout big value (length bs) before) ∙ ap (λ (k : ℕ). length bs + k) (length-layout big value (length bs) before);
    }

-- a patch at a place that is counted otherwise
patch_at : (big : Bool) (value : ℕ → ℕ) (pre post : List ℕ) (ts : Tokens) (p : DebugInfoFixup) (n at : ℕ) → length pre ≡ at → Wide ts
    → In p (references at ts)
    → patched (pre ++ (bytes_of big (shown value at ts) ++ post)) p.offset (fixed_bytes big p.width n)
    ≡ pre ++ (bytes_of big (shown (put value p.offset n) at ts) ++ post)
patch_at big value pre post ts p n at e w h =
    subst (λ (k : ℕ). In p (references k ts)
    → patched (pre ++ (bytes_of big (shown value k ts) ++ post)) p.offset (fixed_bytes big p.width n)
    ≡ pre ++ (bytes_of big (shown (put value p.offset n) k ts) ++ post))
    e (λ i. patches big value pre post ts p n w i) h

module _ (bs : List ℕ) (big : Bool) (value : ℕ → ℕ) (p : DebugInfoFixup) (n : ℕ) where
  abbrev value' : ℕ → ℕ
  value' = put value p.offset n

  -- a patch of the piece that holds the reference
  patch_split : (before : List Chunk) (c : Chunk) (behind : List Chunk) → AllWide (before ++ (c ∷ behind))
      → In p (references (length bs + sizes before) (content c))
      → patched (bs ++ layout big value (length bs) (before ++ (c ∷ behind))) p.offset (fixed_bytes big p.width n)
      ≡ bs ++ layout big value' (length bs) (before ++ (c ∷ behind))
  unfolding layout chunk_stands
  patch_split before c behind w h =
      let at : ℕ = length bs + sizes before in
      let next : ℕ = at + size_of (content c) in
      let i = inside at (content c) p h in
      let wc = all_wide_second before (c ∷ behind) w in
      let some = wide_in at (content c) p wc.0 h in
      let old : List ℕ = layout big value (length bs) before in
      let a : old ≡ layout big value' (length bs) before =
      layout_same big value value' (length bs) before (all_wide_first before (c ∷ behind) w)
      (λ x k l. put_other value p.offset n x (λ e. omega arith)) in
      let b : layout big value next behind ≡ layout big value' next behind =
      layout_same big value value' next behind wc.1 (λ x k l. put_other value p.offset n x (λ e. omega arith)) in
      let s = chunk_stands bs big value before c behind in
      let s' = chunk_stands bs big value' before c behind in
      ap (λ (z : List ℕ). patched z p.offset (fixed_bytes big p.width n)) s.all
      ∙ patch_at big value (bs ++ old) (layout big value next behind) (content c) p n at s.start wc.0 h
      ∙ ap₂ (λ (y z : List ℕ). (bs ++ y) ++ (bytes_of big (shown value' at (content c)) ++ z)) a b
      ∙ sym s'.all

  -- a number written over a reference in the section changes that reference's number and nothing else
  pub layout-patched : (cs : List Chunk) → AllWide cs → In p (set_down (length bs) cs)
      → patched (bs ++ layout big value (length bs) cs) p.offset (fixed_bytes big p.width n) ≡ bs ++ layout big value' (length bs) cs
  layout-patched cs w h =
      let k = holder (length bs) cs p h in
      subst (λ (z : List Chunk). AllWide z
      → patched (bs ++ layout big value (length bs) z) p.offset (fixed_bytes big p.width n) ≡ bs ++ layout big value' (length bs) z)
      (sym k.all) (λ v. patch_split k.before k.chunk k.behind v k.holds) w

  -- the bytes of a reference's number stand at its place
  number_split : (before : List Chunk) (c : Chunk) (behind : List Chunk) → AllWide (before ++ (c ∷ behind))
      → In p (references (length bs + sizes before) (content c))
      → Standing (bs ++ layout big value (length bs) (before ++ (c ∷ behind))) p.offset (fixed_bytes big p.width (value p.offset))
  number_split before c behind w h =
      let at : ℕ = length bs + sizes before in
      let s = chunk_stands bs big value before c behind in
      let d = shown_differ big value p 0 at (content c) (all_wide_second before (c ∷ behind) w).0 h in
      let here : List ℕ = fixed_bytes big p.width (value p.offset) in
      record {
        before = s.before ++ d.before;
        after = d.after ++ s.after;
        all = s.all ∙ ap (λ (z : List ℕ). s.before ++ (z ++ s.after)) d.first ∙ simp append_assoc;
        start = let l = s.start in let m = d.start in length-append s.before d.before ∙ omega arith;
      }

  pub number_stands : (cs : List Chunk) → AllWide cs → In p (set_down (length bs) cs)
      → Standing (bs ++ layout big value (length bs) cs) p.offset (fixed_bytes big p.width (value p.offset))
  number_stands cs w h =
      let k = holder (length bs) cs p h in
      subst (λ (z : List Chunk). AllWide z
      → Standing (bs ++ layout big value (length bs) z) p.offset (fixed_bytes big p.width (value p.offset)))
      (sym k.all) (λ v. number_split k.before k.chunk k.behind v k.holds) w
