-- The claim of every run, and what carries it on through a call.
use Rattle.std.proofs.Common.{◌≡◌, List, [], ◌∷◌, sym, refl, ap, ◌∙◌, subst}
use Rattle.claim.specs.Section.{State, New}
use Rattle.claim.specs.Calls.{Call, Answer, event, answer, after, state, history}
use Rattle.claim.specs.History.{laid, fills}
use Rattle.claim.specs.Claim.{Told, Made, made, calls, Runs, Claim, Kept, Steady, Carries, Stepped, CallsCarry}
use Rattle.claim.proofs.Events.{sound}
use Rattle.claim.proofs.Steps.{Holds, holds}
use Rattle.claim.proofs.Telling.{told}
use Rattle.claim.proofs.Keeping.{stays, calls-keep}
use Rattle.claim.proofs.Foretelling.{foretold}

reached : (s₀ : State) (ds : List Made) (s : State) → Runs s₀ ds s → state s₀ (calls ds) ≡ s
unfolding Runs calls state
reached s₀ [] s r = r
reached s₀ (d ∷ ds) s r =
    let e = reached s₀ ds r.0 r.1 in
    ap (λ (m : State). after m (event m d.call)) e ∙ sym r.3

run_holds : (s₀ : State) (ds : List Made) (s : State) → New s₀ → Runs s₀ ds s
    → Holds s₀ s (laid (history s₀ (calls ds))) (fills (history s₀ (calls ds)))
run_holds s₀ ds s n r =
    subst (λ (z : State). Holds s₀ z (laid (history s₀ (calls ds))) (fills (history s₀ (calls ds)))) (reached s₀ ds s r) (holds s₀ (calls ds) n)

pub claim : Claim
claim s₀ ds s n r = told s₀ s (history s₀ (calls ds)) (run_holds s₀ ds s n r)

pub steady : Steady
steady s₀ ds m n r later = (calls-keep s₀ m (history s₀ (calls ds)) (run_holds s₀ ds m n r) later).stays.kept

-- one call
call_keeps : (s₀ : State) (ds : List Made) (m : State) (c : Call) → New s₀ → Runs s₀ ds m
    → Kept m.bytes (after m (event m c)).bytes (fills (event m c ∷ []))
unfolding fills
call_keeps s₀ ds m c n r = (stays s₀ m (history s₀ (calls ds)) (event m c) (run_holds s₀ ds m n r) (sound m c)).kept

onward_run : (s₀ : State) (ds : List Made) (m : State) (c : Call) (a : Answer) (s : State) → a ≡ answer (event m c) → s ≡ after m (event m c)
    → Runs s₀ ds m → Runs s₀ (made c a ∷ ds) s
unfolding Runs
onward_run s₀ ds m c a s e f r = (m, r, e, f)

onward_told : (s₀ : State) (ds : List Made) (c : Call) (a : Answer) (s : State) → New s₀ → Runs s₀ (made c a ∷ ds) s
    → Told s₀ (history s₀ (c ∷ calls ds)) s
unfolding calls
onward_told s₀ ds c a s n r = claim s₀ (made c a ∷ ds) s n r

pub carries : (m : State) (c : Call) (a : Answer) (s : State) → a ≡ answer (event m c) → s ≡ after m (event m c) → Carries m c a s
carries m c a s e f s₀ ds n r =
    let run = onward_run s₀ ds m c a s e f r in
    record {
      run = run;
      told = onward_told s₀ ds c a s n run;
      kept = rw f (call_keeps s₀ ds m c n r);
      foretold = foretold m c a e;
    }

pub stepped : {m : State} {c : Call} {a : Answer} {s : State} → a ≡ answer (event m c) → s ≡ after m (event m c) → Stepped m c a s
stepped {m} {c} {a} {s} e f = record { answered = e; left = f; carried = carries m c a s e f }

pub calls_carry : CallsCarry
calls_carry m c = stepped refl refl
