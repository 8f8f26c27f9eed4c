-- Digits read one after the other.
use Rattle.std.proofs.Common.{◌≡◌, ℕ, Bor, Iter, ◌+◌, ◌*◌, ◌^◌, ◌<◌, ◌≤◌, Bool, nat_le, MatchOption, Result, Ok, Err, subst, ℤ, w64, FitsSigned, List, [], ◌∷◌, length, Some, None, Option, refl, sym, ap, ◌∙◌, ⊎_elim, arith}
use Rattle.std.specs.Bool.{then_some}
use Rattle.std.specs.Result.{OkIff, result_ok}
use Rattle.std.specs.declared.num.TryFromIntError.{TryFromIntError}
use Rattle.std.proofs.lemmas.Bool.Decides.{nat_tests}
use Rattle.std.proofs.lemmas.Bool.{cases_lt, lt-ltb, le-ltb, cond-true, cond-false}
use Rattle.std.specs.Option.{option_map}
use Rattle.std.specs.Int.Digits.{number_from_digits_after}
use Rattle.std.proofs.lemmas.Int.Digits.{number_after_ge}
use Rattle.std.proofs.lemmas.List.{nil_from_length}
use Rattle.std.specs.Fn.{Called}
use Rattle.std.specs.List.{FoldsTo}
use Rattle.std.specs.ControlFlow.{continue_value}
use Rattle.std.specs.Iterator.{Yields, TryFoldTurn, TryFoldsItems}
use Rattle.std.proofs.iter.Yields.{fronts}
use denote.Param.Members.{Mut}
use Rattle.words.specs.Numbers.{below, onto, digit_in, digits_in, numeral}

-- the number that digits write after a number so far, where it is below a limit
abbrev pub after : ℕ → ℕ → ℕ → List ℕ → Option ℕ
after limit base n cs = below limit (option_map (number_from_digits_after base n) (digits_in base cs))

-- the number with one more digit
abbrev pub longer : ℕ → ℕ → ℕ → Option ℕ → Option ℕ
longer limit base n d = below limit (option_map (λ d. n * base + d) d)

stop : (limit base n : ℕ) (d : Option ℕ) (ds : Option (List ℕ)) → 0 < base → longer limit base n d ≡ None → below limit (option_map (number_from_digits_after base n) (onto d ds)) ≡ None
stop limit base n None ds h e = refl
stop limit base n (Some d) None h e = refl
stop limit base n (Some d) (Some ds) h e =
    let g = number_after_ge base (n * base + d) ds h in
    grind (arith, nat_tests, e, g)

step : (limit base n m : ℕ) (d : Option ℕ) (ds : Option (List ℕ)) → longer limit base n d ≡ Some m → (m < limit) × (below limit (option_map (number_from_digits_after base n) (onto d ds)) ≡ below limit (option_map (number_from_digits_after base m) ds))
step limit base n m None ds e = cc
step limit base n m (Some d) None e = (grind (arith, nat_tests, e), refl)
step limit base n m (Some d) (Some ds) e =
    let k : n * base + d ≡ m = grind (arith, nat_tests, e) in
    (grind (arith, nat_tests, e), ap (λ k. below limit (Some (number_from_digits_after base k ds))) k)

module _ (E : Type 0) {F : Type 0} (g : Mut F (ℕ × (Bor ℕ × Unit {0})) (Option ℕ)) (limit base : ℕ) (f : F) (calls : (n : ℕ) (x : Bor ℕ) (v : Option ℕ) (h : F) → Called g f (n, (x, tt)) v h → (h ≡ f) × (v ≡ longer limit base n (digit_in base x.now))) where
  -- digits were read one after the other, from a number to another
  record Read (n : ℕ) (s t : Iter ℕ) (q : F × ℕ) : Type 0 where
    same : q.0 ≡ f
    fits : q.1 < limit
    left : after limit base n s.rest.now ≡ after limit base q.1 t.rest.now

  read : (xs : List (Bor ℕ)) (s t : Iter ℕ) (p q : F × ℕ) → p.0 ≡ f → p.1 < limit → Yields fronts s xs t → FoldsTo {P = F × ℕ} (TryFoldTurn {E = E} g (λ v c. v ≡ continue_value c)) p xs q → Read p.1 s t q
  read [] s t p q e h y k = record { same = sym (ap (λ q. q.0) k) ∙ e; fits = subst (λ q. q.1 < limit) k h; left = λ i. after limit base (k i).1 (y i).rest.now }
  read (x ∷ xs) s t p q e h y k =
      let c = calls p.1 x k.1.0 k.0.0 (subst (λ w. Called g w (p.1, (x, tt)) k.1.0 k.0.0) e k.1.1) in
      let m = step limit base p.1 k.0.1 (digit_in base x.now) (digits_in base y.0.rest.now) (sym c.1 ∙ k.1.2) in
      let r = read xs y.0 t k.0 q c.0 m.0 y.2 k.2 in
      record { same = r.same; fits = r.fits; left = ap (after limit base p.1) y.1 ∙ m.1 ∙ r.left }

  -- no digit is left, or what stands there is none or takes the number past the limit
  ends : (o : Option (Bor ℕ)) (s t u : Iter ℕ) (q : F × ℕ) (r : Option ℕ) → 0 < base → Read 0 s t q → fronts t o u → MatchOption o (r ≡ Some q.1) (λ x. (v : Option ℕ) × (h : F) × (e : E) × Called g q.0 (q.1, (x, tt)) v h × (v ≡ None) × (r ≡ None)) → r ≡ after limit base 0 s.rest.now
  ends None s t u q r b w y m = m ∙ sym (w.left ∙ ap (after limit base q.1) (nil_from_length _ y.0) ∙ cond-true _ _ _ (lt-ltb q.1 limit w.fits))
  ends (Some x) s t u q r b w y m =
      let c = calls q.1 x m.0 m.1 (subst (λ f. Called g f (q.1, (x, tt)) m.0 m.1) w.same m.3) in
      m.5 ∙ sym (w.left ∙ ap (after limit base q.1) y ∙ stop limit base q.1 (digit_in base x.now) (digits_in base u.rest.now) b (sym c.1 ∙ m.4))

  pub read_all : (s u : Iter ℕ) (r : Option ℕ) → 0 < base → 0 < limit → TryFoldsItems fronts g (λ v c. v ≡ continue_value c) (λ (e : E) r. r ≡ None) s f 0 r u → r ≡ after limit base 0 s.rest.now
  read_all s u r b l d = ends d.1 s d.4.0 u (d.2, d.3) r b (read d.0 s d.4.0 (f, 0) (d.2, d.3) refl l d.4.1 d.5) d.4.2 d.6

-- one digit at least is there
pub after_start : (limit base : ℕ) (cs : List ℕ) → 0 < length cs → after limit base 0 cs ≡ below limit (numeral base cs)
after_start limit base [] h = absurd (omega arith)
after_start limit base (c ∷ cs) h = refl

-- a number below one of two limits, the second no greater
below_less : (limit less : ℕ) (o : Option ℕ) → less ≤ limit → below less (below limit o) ≡ below less o
below_less limit less None h = refl
below_less limit less (Some n) h = grind (arith, nat_tests)

-- a number is kept where it is no greater than the most
kept : (most : ℕ) (o r : Option ℕ) → MatchOption o (r ≡ None) (λ x. (b : Bool) × (b ≡ nat_le x most) × (r ≡ then_some b x)) → r ≡ below (most + 1) o
kept most None r k = k
kept most (Some n) r k = grind (arith, nat_tests, k)

pub filtered : (most : ℕ) (o r p : Option ℕ) → most < 2 ^ 64 → o ≡ below (2 ^ 64) p → MatchOption o (r ≡ None) (λ x. (b : Bool) × (b ≡ nat_le x most) × (r ≡ then_some b x)) → r ≡ below (most + 1) p
filtered most o r p h e k = kept most o r k ∙ ap (below (most + 1)) e ∙ below_less (2 ^ 64) (most + 1) p (omega arith)

-- a number that is kept where it fits 64 bits with a sign, which is below a limit
fitting : (limit n : ℕ) (f : ℕ → ℤ) (r : Result ℤ TryFromIntError) → (FitsSigned w64 (f n) → n < limit) → (n < limit → FitsSigned w64 (f n)) → OkIff r (FitsSigned w64 (f n)) (f n) → result_ok r ≡ option_map f (below limit (Some n))
fitting limit n f (Ok x) to from k = ap Some k.1 ∙ sym (ap (option_map f) (cond-true _ _ _ (lt-ltb n limit (to k.0))))
fitting limit n f (Err e) to from k =
    ⊎_elim (λ h. absurd (k (from h))) (λ h. sym (ap (option_map f) (cond-false _ _ _ (le-ltb n limit h)))) (cases_lt n limit)

pub converted : (limit n : ℕ) (f : ℕ → ℤ) (p : Option ℕ) (z : ℤ) (r : Result ℤ TryFromIntError) → limit ≤ 2 ^ 64 → Some n ≡ below (2 ^ 64) p → z ≡ f n → (FitsSigned w64 (f n) → n < limit) → (n < limit → FitsSigned w64 (f n)) → OkIff r (FitsSigned w64 z) z → result_ok r ≡ option_map f (below limit p)
converted limit n f p z r l e q to from k =
    fitting limit n f r to from (subst (λ z. OkIff r (FitsSigned w64 z) z) q k) ∙ ap (λ o. option_map f (below limit o)) e ∙ ap (option_map f) (below_less (2 ^ 64) limit p l)

-- what is not below a limit is not below a smaller one
pub below_none : (less limit : ℕ) (p : Option ℕ) → less ≤ limit → below limit p ≡ None → below less p ≡ None
below_none less limit p h e = sym (below_less limit less p h) ∙ ap (below less) e
