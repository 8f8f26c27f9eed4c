-- Texts cut into lines and words.
use Rattle.std.proofs.Common.{◌≡◌, ℕ, suc, ◌+◌, ◌-◌, ◌<◌, ◌≤◌, Bool, true, false, cond, not, List, [], ◌∷◌, length, get_or, take, drop, filter, Some, None, Option, min, refl, ap, ◌∙◌, sym, ⊎_elim, add-one, one-add, arith, length-drop}
use Rattle.std.specs.List.{position}
use Rattle.std.specs.Option.{unwrap_or}
use Rattle.std.proofs.lemmas.List.{take_rest, take_all, drop_all, drop_more}
use Rattle.std.proofs.lemmas.Bool.{cases_lt, lt-ltb, cond-true, cond-false}
use Rattle.std.proofs.lemmas.Option.{cond_some, none-some}
use Rattle.std.proofs.lemmas.List.Quantifiers.{position-Some}
use Rattle.words.specs.Text.{reach, pieces, glued, words_in, filled, blank, printed, IsCut}

module _ (test : ℕ → Bool) where
  -- a piece ends at the first character, or goes on with the first piece of the others
  one_more : (c : ℕ) (cs : List ℕ) (b : Bool) → glued c (pieces test cs) ≡ (c ∷ take (reach test cs) cs) ∷ pieces test (drop (suc (reach test cs)) cs) → cond b ([] ∷ pieces test cs) (glued c (pieces test cs)) ≡ take (cond (not b) (1 + reach test cs) 0) (c ∷ cs) ∷ pieces test (drop (suc (cond (not b) (1 + reach test cs) 0)) (c ∷ cs))
  one_more c cs true h = refl
  one_more c cs false h = rw one-add h

  first_piece : (cs : List ℕ) → 0 < length cs → pieces test cs ≡ take (reach test cs) cs ∷ pieces test (drop (suc (reach test cs)) cs)
  first_piece [] h = absurd (omega arith)
  first_piece (c ∷ []) h = one_more c [] (test c) refl
  first_piece (c ∷ d ∷ cs) h = one_more c (d ∷ cs) (test c) (ap (glued c) (first_piece (d ∷ cs) (omega arith)))

  -- the first piece ends before the first separator, and the other pieces follow it
  pub pieces_more : (cs first rest : List ℕ) → 0 < length cs → IsCut test cs first rest → pieces test cs ≡ first ∷ pieces test rest
  pieces_more cs first rest h k = rw (k.before, k.after, add-one) (first_piece cs h)

  pub past_end : (cs : List ℕ) → position test cs ≡ None → length cs ≤ reach test cs
  past_end cs e = ⊎_elim (λ l. absurd (none-some _ (sym e ∙ cond-true _ _ _ (lt-ltb _ _ l)))) (λ l. l) (cases_lt _ _)

  -- a text that is cut at a character, and one that has none to be cut at
  pub cut_at : (cs : List ℕ) (n : ℕ) → position test cs ≡ Some n → IsCut test cs (take n cs) (take (length cs - (n + 1)) (drop (n + 1) cs))
  cut_at cs n e =
      let at = (cond_some _ _ _ e).1 in
      record { before = rw at refl; after = take_rest cs (n + 1) ∙ rw at refl }

  pub cut_nowhere : (cs : List ℕ) → position test cs ≡ None → IsCut test cs cs []
  cut_nowhere cs e =
      let l = past_end cs e in
      record { before = sym (take_all _ cs l); after = sym (drop_all _ cs (omega arith)) }

  -- a text that is cut behind what stands before a character, or at its end
  pub cut_end : (cs : List ℕ) (o : Option ℕ) (end next : ℕ) → position test cs ≡ o → end ≡ unwrap_or o (length cs) → next ≡ min (end + 1) (length cs) → IsCut test cs (take end cs) (take (length cs - next) (drop next cs))
  cut_end cs None end next p e m =
      let k : next ≡ length cs = omega (arith, e, m) in
      let l = cut_nowhere cs p in
      record { before = rw e (take_all _ cs (omega arith)) ∙ l.before; after = rw k (take_all _ (drop (length cs) cs) (omega (arith, length-drop (length cs) cs)) ∙ drop_all _ cs (omega arith)) ∙ l.after }
  cut_end cs (Some n) end next p e m =
      let q = position-Some test cs n 0 p in
      let k : next ≡ n + 1 = omega (arith, e, m, q.0) in
      let l = cut_at cs n p in
      rw (e, k) l

-- a blank before a word is passed
past_blank : (c : ℕ) (cs : List ℕ) (b : Bool) → blank c ≡ b → words_in (drop (reach printed cs) cs) ≡ words_in cs → words_in (drop (cond (not (not b)) (1 + reach printed cs) 0) (c ∷ cs)) ≡ filter filled (cond b ([] ∷ pieces blank cs) (glued c (pieces blank cs)))
past_blank c cs true e h = rw one-add h
past_blank c cs false e h = ap (filter filled) (cond-false _ _ _ e)

skip_blanks : (cs : List ℕ) → words_in (drop (reach printed cs) cs) ≡ words_in cs
skip_blanks [] = refl
skip_blanks (c ∷ cs) = past_blank c cs (blank c) refl (skip_blanks cs)

-- a text of blanks has no word
pub words_none : (cs : List ℕ) → position printed cs ≡ None → words_in cs ≡ []
words_none cs e = sym (skip_blanks cs) ∙ ap words_in (drop_all _ cs (past_end printed cs e))

-- what begins with a character of a word has one first
word_here : (c : ℕ) (cs : List ℕ) → printed c ≡ true → filled (take (reach blank (c ∷ cs)) (c ∷ cs)) ≡ true
word_here c cs e = rw (e, one-add) refl

-- past the blanks stands the first word, and the other words follow it
pub words_more : (cs : List ℕ) (n : ℕ) (first rest : List ℕ) → position printed cs ≡ Some n → IsCut blank (take (length cs - n) (drop n cs)) first rest → words_in cs ≡ first ∷ words_in rest
words_more cs n first rest e k =
    let p = position-Some printed cs n 0 e in
    let here = drop_more cs n 0 p.0 in
    let cut = rw (take_rest cs n) at k in
    let some : 0 < length (drop n cs) = omega (arith, p.0, length-drop n cs) in
    sym (skip_blanks cs) ∙ ap (λ m. words_in (drop m cs)) (cond_some _ _ _ e).1 ∙ ap (filter filled) (pieces_more blank (drop n cs) first rest some cut) ∙ cond-true (filled first) (first ∷ words_in rest) (words_in rest) (rw (cut.before, here) (word_here (get_or cs n 0) (drop (n + 1) cs) p.1))
