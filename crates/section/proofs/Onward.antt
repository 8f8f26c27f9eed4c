-- Calls made one after the other.
use Rattle.std.proofs.Common.{◌≡◌, ℕ, zero, suc, ◌+◌, ◌<◌, ◌≤◌, min, List, [], ◌∷◌, ◌++◌, length, get_or, take, set, Result, sym, refl, ap, ◌∙◌, subst, add-one, arith}
use Rattle.common.specs.declared.error.Error.{Error}
use Rattle.claim.specs.Section.{State, New}
use Rattle.claim.specs.Calls.{Call, event, after, state, history}
use Rattle.claim.specs.History.{fills}
use Rattle.claim.specs.Claim.{Made, made, calls, Runs, Kept, Stepped}
use Rattle.claim.proofs.Carrying.{claim, steady}
use Rattle.section.specs.declared.calls.Answer.{Answer as Got}
use Rattle.section.specs.Made.{answer_of, all_made, Onward, Ran}

one_more : {C : Type 0} (say : C → Call) (cs : List C) (rs : List (Result Got Error)) (i : ℕ) (r : Result Got Error) (d : C) → i < length cs → i < length rs
    → all_made say (take (suc i) cs) (take (suc i) (set rs i r)) ≡ made (say (get_or cs i d)) (answer_of r) ∷ all_made say (take i cs) (take i rs)
one_more say [] rs i r d h l = absurd (omega arith)
one_more say (c ∷ cs) [] i r d h l = absurd (omega arith)
one_more say (c ∷ cs) (a ∷ rs) zero r d h l = refl
one_more say (c ∷ cs) (a ∷ rs) (suc i) r d h l =
    ap (λ (z : List Made). z ++ (made (say c) (answer_of a) ∷ [])) (one_more say cs rs i r d (omega arith) (omega arith))

-- one call more, with its answer
pub one_on : {C : Type 0} (say : C → Call) (cs : List C) (rs : List (Result Got Error)) (i : ℕ) (r : Result Got Error) (d : C) (k : Call) (m s s' : State)
    → i < length cs → i < length rs → k ≡ say (get_or cs i d)
    → Runs m (all_made say (take i cs) (take i rs)) s → Stepped s k (answer_of r) s'
    → Runs m (all_made say (take (i + 1) cs) (take (i + 1) (set rs i r))) s'
unfolding Runs
one_on say cs rs i r d k m s s' h l is runs step =
    let e : all_made say (take (i + 1) cs) (take (i + 1) (set rs i r)) ≡ made k (answer_of r) ∷ all_made say (take i cs) (take i rs) =
    rw add-one (one_more say cs rs i r d h l) ∙ ap (λ (z : Call). made z (answer_of r) ∷ all_made say (take i cs) (take i rs)) (sym is) in
    subst (λ (z : List Made). Runs m z s') (sym e) (s, runs, step.answered, step.left)

all_there : {C : Type 0} (say : C → Call) (cs : List C) (rs : List (Result Got Error)) (n : ℕ) → min (length cs) (length rs) ≤ n
    → all_made say (take n cs) (take n rs) ≡ all_made say cs rs
all_there say [] rs zero h = refl
all_there say [] rs (suc n) h = refl
all_there say (c ∷ cs) [] zero h = refl
all_there say (c ∷ cs) [] (suc n) h = refl
all_there say (c ∷ cs) (a ∷ rs) zero h = absurd (omega arith)
all_there say (c ∷ cs) (a ∷ rs) (suc n) h = ap (λ (z : List Made). z ++ (made (say c) (answer_of a) ∷ [])) (all_there say cs rs n (omega arith))

-- a run behind a run
joined : (s₀ : State) (ds : List Made) (m : State) (es : List Made) (s : State) → Runs s₀ ds m → Runs m es s → Runs s₀ (es ++ ds) s
unfolding Runs
joined s₀ ds m [] s q r = subst (λ (z : State). Runs s₀ ds z) r q
joined s₀ ds m (e ∷ es) s q r = (r.0, joined s₀ ds m es r.0 q r.1, r.2, r.3)

reached : (m : State) (es : List Made) (s : State) → Runs m es s → state m (calls es) ≡ s
unfolding Runs calls state
reached m [] s r = r
reached m (e ∷ es) s r = ap (λ (z : State). after z (event z e.call)) (reached m es r.0 r.1) ∙ sym r.3

carried : (m : State) (es : List Made) (s : State) → Runs m es s → (s₀ : State) (ds : List Made) → New s₀ → Runs s₀ ds m → Onward s₀ ds m es s
carried m es s r s₀ ds n q =
    let run = joined s₀ ds m es s q r in
    record {
      run = run;
      told = claim s₀ (es ++ ds) s n run;
      kept = subst (λ (z : State). Kept m.bytes z.bytes (fills (history m (calls es)))) (reached m es s r) (steady s₀ ds m n q (calls es));
    }

-- all calls
pub all_on : {C : Type 0} (say : C → Call) (cs : List C) (rs : List (Result Got Error)) (n : ℕ) (m s : State) → min (length cs) (length rs) ≤ n
    → Runs m (all_made say (take n cs) (take n rs)) s → Ran m (all_made say cs rs) s
all_on say cs rs n m s h runs =
    let all : Runs m (all_made say cs rs) s = subst (λ (z : List Made). Runs m z s) (all_there say cs rs n h) runs in
    record { followed = all; carried = carried m (all_made say cs rs) s all }
