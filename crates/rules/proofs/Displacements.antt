-- The bytes of tokens tell their displacements.
use Rattle.std.proofs.Common.{◌≡◌, ℕ, suc, ◌+◌, ◌-◌, ◌*◌, ◌/◌, ◌%◌, ◌<◌, ◌≤◌, Bool, true, false, List, [], ◌∷◌, ◌++◌, length, get_or, ℤ, pos, negsuc, sym, refl, ap, ◌∙◌, ap₂, append_assoc, arith, length-append}
use lib.Seq.{get_or_at}
use Rattle.std.proofs.lemmas.Bool.{ltb-true, lt-ltb, le-ltb}
use Rattle.dwarf.specs.Bytes.{size_of, bytes_of}
use Rattle.dwarf.specs.Fixed.{fixed_bytes, twos_complement}
use Rattle.dwarf.specs.Leb.{uleb, sleb}
use Rattle.dwarf.specs.References.{shown}
use Rattle.dwarf.specs.Tokens.{Tokens, done, code, unsigned, signed, fixed, displacement, block, short, nested, reference, raw}
use Rattle.rules.specs.Branches.{Mark, first, jump, inner, marks, two_bytes, from_sixteen, signed_at}
use Rattle.rules.specs.Operands.{in_two_bytes}
use Rattle.dwarf.proofs.Sizes.{length-shown}
use Rattle.dwarf.proofs.Widths.{length_fixed}

-- sixteen bits hold the number
sixteen_back : (z : ℤ) → in_two_bytes z ≡ true → (twos_complement 2 z < 65536) × (from_sixteen (twos_complement 2 z) ≡ z)
sixteen_back (pos n) h = let l = ltb-true n 32768 h in (omega arith, rw (lt-ltb n 32768 l))
sixteen_back (negsuc m) h =
    let l = ltb-true m 32768 h in
    let g : 32768 ≤ 65536 - suc m = omega arith in
    (omega arith, rw (le-ltb (65536 - suc m) 32768 g) (ap negsuc (omega arith)))

-- two bytes that stand at a place
first_of : (before rest : List ℕ) (a b p : ℕ) → length before ≡ p → get_or (before ++ (a ∷ b ∷ rest)) p 0 ≡ a
first_of before rest a b p l = get_or_at before a (b ∷ rest) 0 p l

second_of : (before rest : List ℕ) (a b p : ℕ) → length before ≡ p → get_or (before ++ (a ∷ b ∷ rest)) (p + 1) 0 ≡ b
second_of before rest a b p l =
    ap (λ (xs : List ℕ). get_or xs (p + 1) 0) (sym (append_assoc before (a ∷ []) (b ∷ rest)))
    ∙ get_or_at (before ++ (a ∷ [])) b rest 0 (p + 1) (length-append before (a ∷ []) ∙ ap (λ (k : ℕ). k + 1) l)

-- two bytes hold sixteen bits
two_back : (big : Bool) (n : ℕ) (before rest : List ℕ) (p : ℕ) → n < 65536 → length before ≡ p →
    two_bytes big (get_or (before ++ (fixed_bytes big 2 n ++ rest)) p 0) (get_or (before ++ (fixed_bytes big 2 n ++ rest)) (p + 1) 0) ≡ n
two_back true n before rest p h l =
    ap₂ (λ (a b : ℕ). 256 * a + b) (first_of before rest (n / 256 % 256) (n % 256) p l) (second_of before rest (n / 256 % 256) (n % 256) p l) ∙ omega arith
two_back false n before rest p h l =
    ap₂ (λ (a b : ℕ). a + 256 * b) (first_of before rest (n % 256) (n / 256 % 256) p l) (second_of before rest (n % 256) (n / 256 % 256) p l) ∙ omega arith

-- the two bytes of a displacement tell it
pub displacement_back : (big : Bool) (z : ℤ) (before rest : List ℕ) (p : ℕ) → in_two_bytes z ≡ true → length before ≡ p →
    signed_at big (before ++ (fixed_bytes big 2 (twos_complement 2 z) ++ rest)) p ≡ z
displacement_back big z before rest p h l =
    let b = sixteen_back z h in ap from_sixteen (two_back big (twos_complement 2 z) before rest p b.0 l) ∙ b.1

-- tokens stand at a place in bytes, their references filled with some numbers
pub record Stands (big : Bool) (numbers : ℕ → ℕ) (bs : List ℕ) (q : ℕ) (a : Tokens) : Type 0 where
  pub before : List ℕ
  pub after : List ℕ
  pub whole : bs ≡ before ++ (bytes_of big (shown numbers q a) ++ after)
  pub place : length before ≡ q

module _ (big : Bool) (numbers : ℕ → ℕ) (bs : List ℕ) (q : ℕ) where
  -- what a mark says of the bytes; q is where the run begins
  abbrev pub Shown : Mark → Type 0
  Shown (first p) = Unit {0}
  Shown (jump p z) = in_two_bytes z ≡ true → signed_at big bs (q + p) ≡ z
  Shown (inner p a) = Stands big numbers bs (q + p) a

  abbrev pub AllShown : List Mark → Type 0
  AllShown [] = Unit {0}
  AllShown (m ∷ ms) = Shown m × AllShown ms

  -- the tokens that follow on some bytes
  followed : (p n at : ℕ) (front before after : List ℕ) (r : Tokens) → length front ≡ n → at ≡ q + (p + n) → length before ≡ q + p →
      bs ≡ before ++ ((front ++ bytes_of big (shown numbers at r)) ++ after) → Stands big numbers bs (q + (p + n)) r
  followed p n at front before after r f place l e =
      record {
        before = before ++ front;
        after = after;
        whole = e ∙ ap (λ (k : ℕ). before ++ ((front ++ bytes_of big (shown numbers k r)) ++ after)) place ∙ simp append_assoc;
        place = let k = length-append before front in omega arith;
      }

  -- nested tokens, and those that follow on them
  nested_stands : (p : ℕ) (a r : Tokens) → Stands big numbers bs (q + p) (nested a r) →
      Stands big numbers bs (q + (p + length (uleb (size_of a)))) a × Stands big numbers bs (q + (p + (length (uleb (size_of a)) + size_of a))) r
  unfolding bytes_of shown
  nested_stands p a r s =
      let head : List ℕ = uleb (size_of a) in
      let at : ℕ = q + p + length head in
      let within : List ℕ = bytes_of big (shown numbers at a) in
      let rest : List ℕ = bytes_of big (shown numbers (at + size_of a) r) in
      let size : length within ≡ size_of a = length-shown big numbers at a in
      let place : at ≡ q + (p + length head) = omega arith in
      let given : bs ≡ s.before ++ ((head ++ (within ++ rest)) ++ s.after) =
      s.whole ∙ ap (λ (k : ℕ). s.before ++ ((uleb k ++ (within ++ rest)) ++ s.after)) size in
      let long : length (head ++ within) ≡ length head + size_of a = length-append head within ∙ ap (λ (k : ℕ). length head + k) size in (
        record {
          before = s.before ++ head;
          after = rest ++ s.after;
          whole =
              given ∙ ap (λ (k : ℕ). s.before ++ ((head ++ (bytes_of big (shown numbers k a) ++ rest)) ++ s.after)) place ∙ simp append_assoc;
          place = let k = length-append s.before head in let l = s.place in omega arith;
        },
        followed p (length head + size_of a) (at + size_of a) (head ++ within) s.before s.after r long (omega arith) s.place
            (given ∙ ap (λ (xs : List ℕ). s.before ++ (xs ++ s.after)) (sym (append_assoc head within rest))),
      )

  pub marks-shown : (p : ℕ) (a : Tokens) → Stands big numbers bs (q + p) a → AllShown (marks p a)
  unfolding bytes_of shown
  marks-shown p done s = tt
  marks-shown p (code c r) s =
      (tt, marks-shown (p + 1) r (followed p 1 (q + p + 1) (c ∷ []) s.before s.after r refl (omega arith) s.place s.whole))
  marks-shown p (unsigned n r) s =
      let m : ℕ = length (uleb n) in
      marks-shown (p + m) r (followed p m (q + p + m) (uleb n) s.before s.after r refl (omega arith) s.place s.whole)
  marks-shown p (signed z r) s =
      let m : ℕ = length (sleb z) in
      marks-shown (p + m) r (followed p m (q + p + m) (sleb z) s.before s.after r refl (omega arith) s.place s.whole)
  marks-shown p (fixed width n r) s =
      marks-shown (p + width) r
      (followed p width (q + p + width) (fixed_bytes big width n) s.before s.after r (length_fixed big width n) (omega arith) s.place s.whole)
  marks-shown p (displacement z r) s =
      let front : List ℕ = fixed_bytes big 2 (twos_complement 2 z) in
      let rest : List ℕ = bytes_of big (shown numbers (q + p + 2) r) in (
        (λ fits. ap (λ (xs : List ℕ). signed_at big xs (q + p)) (s.whole ∙ ap (λ (xs : List ℕ). s.before ++ xs) (append_assoc front rest s.after))
            ∙ displacement_back big z s.before (rest ++ s.after) (q + p) fits s.place),
        marks-shown (p + 2) r
            (followed p 2 (q + p + 2) front s.before s.after r (length_fixed big 2 (twos_complement 2 z)) (omega arith) s.place s.whole),
      )
  marks-shown p (block ds r) s =
      let head : List ℕ = uleb (length ds) in
      let n : ℕ = length head + length ds in
      let at : ℕ = q + p + length head + length ds in
      marks-shown (p + n) r (followed p n at (head ++ ds) s.before s.after r (length-append head ds) (omega arith) s.place
      (s.whole ∙ ap (λ (xs : List ℕ). s.before ++ (xs ++ s.after)) (sym (append_assoc head ds (bytes_of big (shown numbers at r))))))
  marks-shown p (short ds r) s =
      marks-shown (p + (1 + length ds)) r
      (followed p (1 + length ds) (q + p + 1 + length ds) (length ds ∷ ds) s.before s.after r (omega arith) (omega arith) s.place s.whole)
  marks-shown p (nested a r) s =
      let two = nested_stands p a r s in (two.0, marks-shown (p + (length (uleb (size_of a)) + size_of a)) r two.1)
  marks-shown p (reference width owner entry r) s =
      marks-shown (p + width) r
      (followed p width (q + p + width) (fixed_bytes big width (numbers (q + p))) s.before s.after r (length_fixed big width (numbers (q + p)))
      (omega arith) s.place s.whole)
  marks-shown p (raw ds r) s =
      (tt, marks-shown (p + length ds) r (followed p (length ds) (q + p + length ds) ds s.before s.after r refl (omega arith) s.place s.whole))
