-- What a sink over a lent table means after bytes were laid into the table.
use Rattle.std.proofs.Common.{◌≡◌, ℕ, ◌+◌, ◌≤◌, min, Bool, List, ◌++◌, length, get_or, take, Ok, sym, refl, ap, ◌∙◌, arith, length-take}
use Rattle.std.proofs.lemmas.List.{take_all}
use Rattle.std.proofs.lemmas.Bool.{cond-true, le-leb}
use Rattle.writer.specs.Meaning.{replaced, Appends, Patches}
use Rattle.sinks.specs.Lent.{lent, under}
use Rattle.sinks.proofs.Replaced.{take_own, put_front, put_inside, put-length, put_past, sink_same}

module _ (t t' bs : List ℕ) (most n at lender lender' : ℕ) (big : Bool) (e : t' ≡ replaced t at bs) (o : lender' ≡ lender) where
  -- bytes laid behind those that were written
  pub appends : at ≡ length (take (min n most) t) → at + length bs ≤ min (length t) most →
      Appends (Ok bs) (lent t most n big) (under lender t) (Ok tt) (lent t' most (at + length bs) big) (under lender' t')
  appends a h =
      let m : min (at + length bs) most ≡ at + length bs = omega arith in
      let w : take at t ≡ take (min n most) t = ap (λ j. take j t) a ∙ take_own (min n most) t in
      let p : take (at + length bs) (replaced t at bs) ≡ take at t ++ bs
      = ap (λ x. take (at + length bs) (replaced t at x)) (sym (take_all (length bs) bs (omega arith))) ∙ put_front t bs at (length bs) refl (omega arith) in
      let g = le-leb (length (take (min n most) t) + length bs) (min (length t) most) (omega arith) in
      let z = put-length t bs at (omega arith) in
      let v = ap length e in
      let q = length-take (min (at + length bs) most) t' in
      record {
        answer = sym (cond-true _ _ _ g);
        after = sink_same
            (ap (λ j. take j t') m ∙ ap (take (at + length bs)) e ∙ p ∙ ap (λ x. x ++ bs) w
            ∙ sym (cond-true _ (take (min n most) t ++ bs) (take (min n most) t) g))
            (ap (λ j. min j most) (v ∙ z))
            refl;
        memory = record { lent = o; rest = λ k l. ap (λ x. get_or x k 0) e ∙ put_past t bs at k (omega arith) (omega arith) };
      }

  -- bytes laid over some that were written
  pub patches : at + length bs ≤ length (take (min n most) t) →
      Patches at (Ok bs) (lent t most n big) (under lender t) (Ok tt) (lent t' most n big) (under lender' t')
  patches h =
      let c = length (take (min n most) t) in
      let l = length-take (min n most) t in
      let l' = length-take (min n most) t' in
      let z = put-length t bs at (omega arith) in
      let v = ap length e in
      let f = le-leb at (length (take (min n most) t)) (omega arith) in
      let g = le-leb (at + length bs) (length (take (min n most) t)) h in
      let same : length (take (min n most) t') ≡ length (take (min n most) t) = omega arith in
      record {
        answer = sym (cond-true _ _ _ f ∙ cond-true _ _ _ g);
        after = sink_same
            (sym (take_own (min n most) t') ∙ ap (λ i. take i t') same ∙ ap (take c) e ∙ put_inside t bs at c h (omega arith)
            ∙ ap (λ x. replaced x at bs) (take_own (min n most) t) ∙ sym (cond-true _ (replaced (take (min n most) t) at bs) (take (min n most) t) g))
            (ap (λ j. min j most) (v ∙ z))
            refl;
        memory = record { lent = o; rest = λ k l. ap (λ x. get_or x k 0) e ∙ put_past t bs at k (omega arith) (omega arith) };
      }
