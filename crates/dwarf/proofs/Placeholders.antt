-- Where the references of tokens stand, and which numbers their places show.
use Rattle.std.proofs.Common.{◌≡◌, ℕ, ◌+◌, ◌<◌, ◌≤◌, ◌⊎◌, List, [], ◌∷◌, ◌++◌, length, sym, refl, ap, subst, ap₂, inl, inr, arith}
use Rattle.std.proofs.lemmas.Bool.{eq-eqb, ne_eqb}
use Rattle.dwarf.specs.Leb.{uleb, sleb}
use Rattle.dwarf.specs.Tokens.{Tokens, done, code, unsigned, signed, fixed, displacement, block, short, nested, reference, raw}
use Rattle.dwarf.specs.Bytes.{size_of}
use Rattle.common.specs.declared.fixup.DebugInfoFixup.{DebugInfoFixup}
use Rattle.dwarf.specs.References.{references, shown, Wide, In, put}

pub in_append : (p : DebugInfoFixup) (xs ys : List DebugInfoFixup) → In p (xs ++ ys) → In p xs ⊎ In p ys
in_append p [] ys h = inr h
in_append p (x ∷ xs) ys (inl e) = inl (inl e)
in_append p (x ∷ xs) ys (inr h) = elim (in_append p xs ys h) [ inl k ↦ inl (inr k) | inr k ↦ inr k ]

pub in_left : (p : DebugInfoFixup) (xs ys : List DebugInfoFixup) → In p xs → In p (xs ++ ys)
in_left p [] ys h = absurd h
in_left p (x ∷ xs) ys (inl e) = inl e
in_left p (x ∷ xs) ys (inr h) = inr (in_left p xs ys h)

pub in_right : (p : DebugInfoFixup) (xs ys : List DebugInfoFixup) → In p ys → In p (xs ++ ys)
in_right p [] ys h = h
in_right p (x ∷ xs) ys h = inr (in_right p xs ys h)

-- a placeholder lies inside so many bytes from an offset on
pub record Inside (at size : ℕ) (p : DebugInfoFixup) : Type 0 where
  pub from : at ≤ p.offset
  pub to : p.offset + p.width ≤ at + size

pub inside : (at : ℕ) (ts : Tokens) (p : DebugInfoFixup) → In p (references at ts) → Inside at (size_of ts) p
unfolding references size_of
inside at done p h = absurd h
inside at (code c ts) p h = let i = inside (at + 1) ts p h in record { from = omega arith; to = omega arith }
inside at (unsigned n ts) p h = let i = inside (at + length (uleb n)) ts p h in record { from = omega arith; to = omega arith }
inside at (signed z ts) p h = let i = inside (at + length (sleb z)) ts p h in record { from = omega arith; to = omega arith }
inside at (fixed width n ts) p h = let i = inside (at + width) ts p h in record { from = omega arith; to = omega arith }
inside at (displacement z ts) p h = let i = inside (at + 2) ts p h in record { from = omega arith; to = omega arith }
inside at (block bytes ts) p h =
    let i = inside (at + length (uleb (length bytes)) + length bytes) ts p h in record { from = omega arith; to = omega arith }
inside at (short bytes ts) p h = let i = inside (at + 1 + length bytes) ts p h in record { from = omega arith; to = omega arith }
inside at (nested inner ts) p h =
    let k : ℕ = at + length (uleb (size_of inner)) in
    elim (in_append p (references k inner) (references (k + size_of inner) ts) h) [
      | inl m ↦ let i = inside k inner p m in record { from = omega arith; to = omega arith }
      | inr m ↦ let i = inside (k + size_of inner) ts p m in record { from = omega arith; to = omega arith }
    ]
inside at (reference width unit entry ts) p (inl e) =
    let a : p.offset ≡ at = sym (ap (λ (q : DebugInfoFixup). q.offset) e) in
    let b : p.width ≡ width = sym (ap (λ (q : DebugInfoFixup). q.width) e) in
    record { from = omega arith; to = omega arith }
inside at (reference width unit entry ts) p (inr h) = let i = inside (at + width) ts p h in record { from = omega arith; to = omega arith }
inside at (raw bytes ts) p h = let i = inside (at + length bytes) ts p h in record { from = omega arith; to = omega arith }

-- numbers that agree over the tokens' bytes show the same
pub shown_same : (f g : ℕ → ℕ) (at : ℕ) (ts : Tokens) → Wide ts → ((x : ℕ) → at ≤ x → x < at + size_of ts → f x ≡ g x) → shown f at ts ≡ shown g at ts
unfolding shown size_of
shown_same f g at done w h = refl
shown_same f g at (code c ts) w h = ap (code c) (shown_same f g (at + 1) ts w (λ x a b. h x (omega arith) (omega arith)))
shown_same f g at (unsigned n ts) w h = ap (unsigned n) (shown_same f g (at + length (uleb n)) ts w (λ x a b. h x (omega arith) (omega arith)))
shown_same f g at (signed z ts) w h = ap (signed z) (shown_same f g (at + length (sleb z)) ts w (λ x a b. h x (omega arith) (omega arith)))
shown_same f g at (fixed width n ts) w h = ap (fixed width n) (shown_same f g (at + width) ts w (λ x a b. h x (omega arith) (omega arith)))
shown_same f g at (displacement z ts) w h = ap (displacement z) (shown_same f g (at + 2) ts w (λ x a b. h x (omega arith) (omega arith)))
shown_same f g at (block bytes ts) w h =
    ap (block bytes) (shown_same f g (at + length (uleb (length bytes)) + length bytes) ts w (λ x a b. h x (omega arith) (omega arith)))
shown_same f g at (short bytes ts) w h = ap (short bytes) (shown_same f g (at + 1 + length bytes) ts w (λ x a b. h x (omega arith) (omega arith)))
shown_same f g at (nested inner ts) w h =
    ap₂ nested (shown_same f g (at + length (uleb (size_of inner))) inner w.0 (λ x i j. h x (omega arith) (omega arith)))
    (shown_same f g (at + length (uleb (size_of inner)) + size_of inner) ts w.1 (λ x i j. h x (omega arith) (omega arith)))
shown_same f g at (reference width unit entry ts) w h =
    let l = w.0 in
    ap₂ (fixed width) (h at (omega arith) (omega arith)) (shown_same f g (at + width) ts w.1 (λ x i j. h x (omega arith) (omega arith)))
shown_same f g at (raw bytes ts) w h = ap (raw bytes) (shown_same f g (at + length bytes) ts w (λ x a b. h x (omega arith) (omega arith)))

pub put_other : (value : ℕ → ℕ) (at n offset : ℕ) → (offset ≡ at → ⊥) → value offset ≡ put value at n offset
unfolding put
put_other value at n offset h = rw (ne_eqb offset at h)

pub put_here : (value : ℕ → ℕ) (at n : ℕ) → put value at n at ≡ n
unfolding put
put_here value at n = rw (eq-eqb at at refl)

-- a placeholder of wide tokens has a byte at least
pub wide_in : (at : ℕ) (ts : Tokens) (p : DebugInfoFixup) → Wide ts → In p (references at ts) → 0 < p.width
unfolding references
wide_in at done p w h = absurd h
wide_in at (code c ts) p w h = wide_in (at + 1) ts p w h
wide_in at (unsigned n ts) p w h = wide_in (at + length (uleb n)) ts p w h
wide_in at (signed z ts) p w h = wide_in (at + length (sleb z)) ts p w h
wide_in at (fixed width n ts) p w h = wide_in (at + width) ts p w h
wide_in at (displacement z ts) p w h = wide_in (at + 2) ts p w h
wide_in at (block bytes ts) p w h = wide_in (at + length (uleb (length bytes)) + length bytes) ts p w h
wide_in at (short bytes ts) p w h = wide_in (at + 1 + length bytes) ts p w h
wide_in at (nested inner ts) p w h =
    let k : ℕ = at + length (uleb (size_of inner)) in
    elim (in_append p (references k inner) (references (k + size_of inner) ts) h)
    [ inl m ↦ wide_in k inner p w.0 m | inr m ↦ wide_in (k + size_of inner) ts p w.1 m ]
wide_in at (reference width unit entry ts) p w (inl e) = subst (λ (q : DebugInfoFixup). 0 < q.width) e w.0
wide_in at (reference width unit entry ts) p w (inr h) = wide_in (at + width) ts p w.1 h
wide_in at (raw bytes ts) p w h = wide_in (at + length bytes) ts p w h
