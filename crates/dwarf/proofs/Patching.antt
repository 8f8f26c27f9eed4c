-- A number written over a reference changes that reference's number and nothing else.
use Rattle.std.proofs.Common.{◌≡◌, ℕ, ◌+◌, Bool, List, [], ◌∷◌, ◌++◌, length, sym, refl, ap, ◌∙◌, inl, inr, append_assoc, arith, length-append, take_at, drop_at}
use Rattle.dwarf.specs.Leb.{uleb, sleb}
use Rattle.dwarf.specs.Fixed.{fixed_bytes, twos_complement}
use Rattle.dwarf.specs.Tokens.{Tokens, done, code, unsigned, signed, fixed, displacement, block, short, nested, reference, raw}
use Rattle.dwarf.specs.Bytes.{bytes_of, size_of}
use Rattle.common.specs.declared.fixup.DebugInfoFixup.{DebugInfoFixup}
use Rattle.dwarf.specs.References.{references, shown, Wide, In, put, patched, Patches}
use Rattle.dwarf.proofs.Widths.{length_fixed}
use Rattle.dwarf.proofs.Sizes.{length-shown}
use Rattle.dwarf.proofs.Placeholders.{in_append, inside, shown_same, put_other, put_here, wide_in}

-- two rows of bytes that begin at an offset and differ in one stretch alone
pub record Differ (old new : List ℕ) (at offset : ℕ) (x y : List ℕ) : Type 0 where
  pub before : List ℕ
  pub after : List ℕ
  pub first : x ≡ before ++ (old ++ after)
  pub second : y ≡ before ++ (new ++ after)
  pub start : at + length before ≡ offset

differ_behind : (pre : List ℕ) {old new : List ℕ} {at k offset : ℕ} {x y : List ℕ} → k ≡ at + length pre → Differ old new k offset x y
    → Differ old new at offset (pre ++ x) (pre ++ y)
differ_behind pre {at = at} e h =
    record {
      before = pre ++ h.before;
      after = h.after;
      first = rw (append_assoc, h.first);
      second = rw (append_assoc, h.second);
      start = rw length-append (let s = h.start in omega arith);
    }

differ_before : (post : List ℕ) {old new : List ℕ} {at offset : ℕ} {x y : List ℕ} → Differ old new at offset x y → Differ old new at offset (x ++ post) (y ++ post)
differ_before post h =
    record {
      before = h.before;
      after = h.after ++ post;
      first = ap (λ z. z ++ post) h.first ∙ simp append_assoc;
      second = ap (λ z. z ++ post) h.second ∙ simp append_assoc;
      start = h.start;
    }

module _ (big : Bool) (value : ℕ → ℕ) (p : DebugInfoFixup) (n : ℕ) where
  abbrev value' : ℕ → ℕ
  value' = put value p.offset n

  abbrev At : ℕ → List ℕ → List ℕ → Type 0
  At at x y = Differ (fixed_bytes big p.width (value p.offset)) (fixed_bytes big p.width n) at p.offset x y

  apart : (x : ℕ) → (x ≡ p.offset → ⊥) → value x ≡ value' x
  apart x h = put_other value p.offset n x h

  Step : ℕ → Tokens → Type 0
  Step at ts = At at (bytes_of big (shown value at ts)) (bytes_of big (shown value' at ts))

  -- the long cases of the induction, each with what holds of the part
  in_nested : (at : ℕ) (inner ts : Tokens) → Wide (nested inner ts) → In p (references (at + length (uleb (size_of inner))) inner)
      → Step (at + length (uleb (size_of inner))) inner → Step at (nested inner ts)
  unfolding shown bytes_of Step
  in_nested at inner ts w m ih =
      let k : ℕ = at + length (uleb (size_of inner)) in
      let i = inside k inner p m in
      let z = wide_in k inner p w.0 m in
      let e : shown value (k + size_of inner) ts ≡ shown value' (k + size_of inner) ts =
      shown_same value value' (k + size_of inner) ts w.1 (λ x b c. apart x (λ y. omega arith)) in
      rw (length-shown big value k inner, length-shown big value' k inner, ← e)
      (differ_behind (uleb (size_of inner)) refl (differ_before (bytes_of big (shown value (k + size_of inner) ts)) ih))

  past_nested : (at : ℕ) (inner ts : Tokens) → Wide (nested inner ts) → In p (references (at + length (uleb (size_of inner)) + size_of inner) ts)
      → Step (at + length (uleb (size_of inner)) + size_of inner) ts → Step at (nested inner ts)
  unfolding shown bytes_of Step
  past_nested at inner ts w m ih =
      let k : ℕ = at + length (uleb (size_of inner)) in
      let i = inside (k + size_of inner) ts p m in
      let e : shown value k inner ≡ shown value' k inner = shown_same value value' k inner w.0 (λ x b c. apart x (λ y. omega arith)) in
      rw (← e, length-shown big value k inner)
      (differ_behind (uleb (size_of inner)) {x = bytes_of big (shown value k inner) ++ bytes_of big (shown value (k + size_of inner) ts)}
      {y = bytes_of big (shown value k inner) ++ bytes_of big (shown value' (k + size_of inner) ts)} refl
      (differ_behind (bytes_of big (shown value k inner)) (rw (length-shown big value k inner)) ih))

  at_reference : (at width unit entry : ℕ) (ts : Tokens) → Wide (reference width unit entry ts)
      → record { offset = at; width = width; unit = unit; entry = entry } ≡ p → Step at (reference width unit entry ts)
  unfolding shown bytes_of Step
  at_reference at width unit entry ts w e =
      let a : p.offset ≡ at = sym (ap (λ (q : DebugInfoFixup). q.offset) e) in
      let b : p.width ≡ width = sym (ap (λ (q : DebugInfoFixup). q.width) e) in
      let l = w.0 in
      let here : value' at ≡ n = ap value' (sym a) ∙ put_here value p.offset n in
      let es : shown value (at + width) ts ≡ shown value' (at + width) ts =
      shown_same value value' (at + width) ts w.1 (λ x c d. apart x (λ z. omega arith)) in
      record {
        before = [];
        after = bytes_of big (shown value (at + width) ts);
        first = rw (a, b);
        second = rw (here, ← es, b);
        start = omega arith;
      }

  past_reference : (at width unit entry : ℕ) (ts : Tokens) → Wide (reference width unit entry ts) → In p (references (at + width) ts)
      → Step (at + width) ts → Step at (reference width unit entry ts)
  unfolding shown bytes_of Step
  past_reference at width unit entry ts w h ih =
      let i = inside (at + width) ts p h in
      let l = w.0 in
      let e : value at ≡ value' at = apart at (λ z. omega arith) in
      rw (← e) (differ_behind (fixed_bytes big width (value at)) (rw length_fixed) ih)

  differs : (at : ℕ) (ts : Tokens) → Wide ts → In p (references at ts) → Step at ts
  unfolding references shown bytes_of Step
  differs at done w h = absurd h
  differs at (code c ts) w h = differ_behind (c ∷ []) refl (differs (at + 1) ts w h)
  differs at (unsigned m ts) w h = differ_behind (uleb m) refl (differs (at + length (uleb m)) ts w h)
  differs at (signed z ts) w h = differ_behind (sleb z) refl (differs (at + length (sleb z)) ts w h)
  differs at (fixed width m ts) w h = differ_behind (fixed_bytes big width m) (rw length_fixed) (differs (at + width) ts w h)
  differs at (displacement z ts) w h = differ_behind (fixed_bytes big 2 (twos_complement 2 z)) (rw length_fixed) (differs (at + 2) ts w h)
  differs at (block bytes ts) w h =
      differ_behind (uleb (length bytes)) refl (differ_behind bytes refl (differs (at + length (uleb (length bytes)) + length bytes) ts w h))
  differs at (short bytes ts) w h = differ_behind (length bytes ∷ []) refl (differ_behind bytes refl (differs (at + 1 + length bytes) ts w h))
  differs at (nested inner ts) w h =
      elim (in_append p (references (at + length (uleb (size_of inner))) inner) (references (at + length (uleb (size_of inner)) + size_of inner) ts) h) [
        | inl m ↦ in_nested at inner ts w m (differs (at + length (uleb (size_of inner))) inner w.0 m)
        | inr m ↦ past_nested at inner ts w m (differs (at + length (uleb (size_of inner)) + size_of inner) ts w.1 m)
      ]
  differs at (reference width unit entry ts) w (inl e) = at_reference at width unit entry ts w e
  differs at (reference width unit entry ts) w (inr h) = past_reference at width unit entry ts w h (differs (at + width) ts w.1 h)
  differs at (raw bytes ts) w h = differ_behind bytes refl (differs (at + length bytes) ts w h)

  pub shown_differ : (at : ℕ) (ts : Tokens) → Wide ts → In p (references at ts) → At at (bytes_of big (shown value at ts)) (bytes_of big (shown value' at ts))
  unfolding Step
  shown_differ at ts w h = differs at ts w h

-- the stretch replaced by position
pub patch_differ : {old new : List ℕ} {at offset : ℕ} {x y : List ℕ} → (pre : List ℕ) → length pre ≡ at → length old ≡ length new
    → Differ old new at offset x y → patched (pre ++ x) offset new ≡ pre ++ y
patch_differ {old} {new} {at} {offset} pre l k h =
    let before : List ℕ = pre ++ h.before in
    let s : length before ≡ offset = length-append pre h.before ∙ omega (arith, h.start) in
    let s2 : length (before ++ old) ≡ offset + length new = length-append before old ∙ omega arith in
    rw (h.first, h.second, ← append_assoc pre h.before (old ++ h.after), take_at before (old ++ h.after) offset s, ← append_assoc before old h.after, drop_at (before ++ old) h.after (offset + length new) s2)
    (append_assoc pre h.before (new ++ h.after))

pub patches : Patches
patches big value before after ts p n w h =
    patch_differ before refl (length_fixed big p.width (value p.offset) ∙ sym (length_fixed big p.width n))
    (differ_before after (shown_differ big value p n (length before) ts w h))
