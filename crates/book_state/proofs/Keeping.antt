-- Every call keeps a book whole.
use Rattle.std.proofs.Common.{◌≡◌, ℕ, ◌-◌, ◌<◌, ◌≤◌, min, Bool, true, false, cond, eqb, ltb, List, [], length, Some, None, Option, Result, sym, refl, ap, ◌∙◌, subst}
use Rattle.std.proofs.lemmas.Bool.{ltb-true, ltb-false, leb-true}
use Rattle.common.specs.declared.error.Error.{Error}
use Rattle.op.specs.declared.operation.Operation.{Operation}
use Rattle.op.specs.declared.operation.Operation.TheVariants as op
use Rattle.list.proofs.Places.{item_some}
use Rattle.book_state.specs.declared.expression.Expression.{Expression}
use Rattle.book_state.specs.Operations.{shape, entries_fit, any_unset}
use Rattle.book_state.specs.State.{State, no_expression, sealed_at, draft, fits, place}
use Rattle.book_state.specs.Calls.{begun, raw_begun, added, branched, nested_at, nested, is_branch, target_set, sealed, discarded, taken}
use Rattle.book_state.specs.Whole.{Bare}
use Rattle.book_state.proofs.Kept.{Kept}
use Rattle.book_state.proofs.Opened.{keep_opened}
use Rattle.book_state.proofs.Pushed.{keep-pushed}
use Rattle.book_state.proofs.Aimed.{keep-aimed}
use Rattle.book_state.proofs.Taken.{keep_taken}
use Rattle.book_state.proofs.Shut.{keep-shut}
use Rattle.book_state.proofs.Withdrawn.{keep-withdrawn}

-- both ways of a test leave the book whole
either : {X : Type 0} (b : Bool) (x y : Result X Error × State) → (b ≡ true → Kept x.1) → (b ≡ false → Kept y.1) → Kept (cond b x y).1
either true x y h k = h refl
either false x y h k = k refl

both : (b c : Bool) → cond b c false ≡ true → (b ≡ true) × (c ≡ true)
both true c e = (refl, e)
both false c e = (e, cc)

-- an operation fits with its data
fits-parts : (n : ℕ) (s : State) → fits n s ≡ true → (s.op_count < min (length s.operations) 4096) × (n ≤ min (length s.bytes) 65535 - s.byte_count)
fits-parts n s e = let p = both _ _ e in (ltb-true _ _ p.0, leb-true _ _ p.1)

pub keep-begun : (s : State) → Kept s → Kept (begun s).1
keep-begun s w = either s.drafting _ _ (λ o. w) (λ o. either (ltb s.sealed_count 1024) _ _ (λ l. keep_opened s o (ltb-true _ _ l) w) (λ l. w))

pub keep_raw : (bs : List ℕ) (s : State) → Kept s → Kept (raw_begun bs s).1
keep_raw bs s w = either s.drafting _ _ (λ o. w)
    (λ o. either (ltb s.sealed_count 1024) _ _
    (λ l. either (fits (length bs) s) _ _
    (λ f. let p = fits-parts (length bs) s f in keep-pushed (op.Raw (place (length bs) s)) bs _ refl p.0 p.1 refl refl (keep_opened s o (ltb-true _ _ l) w))
    (λ f. w))
    (λ l. w))

pub keep-added : (x : Operation) (bs : List ℕ) (s : State) → Bare bs s (shape x) → Kept s → Kept (added x bs s).1
keep-added x bs s bare w = either s.drafting _ _
    (λ o. either (entries_fit x) _ _
    (λ e. either (fits (length bs) s) _ _ (λ f. let p = fits-parts (length bs) s f in keep-pushed x bs s o p.0 p.1 e bare w) (λ f. w))
    (λ e. w))
    (λ o. w)

pub keep-branched : (x : Operation) (s : State) → entries_fit x ≡ true → Bare [] s (shape x) → Kept s → Kept (branched x s).1
keep-branched x s e bare w = either s.drafting _ _
    (λ o. either (fits 0 s) _ _ (λ f. let p = fits-parts 0 s f in keep-pushed x [] s o p.0 p.1 e bare w) (λ f. w))
    (λ o. w)

keep-nested_at : (n : ℕ) (s : State) → s.drafting ≡ true → Kept s → (r : Option Expression) → r ≡ sealed_at n s → Kept (nested_at n r s).1
keep-nested_at n s o w None h = w
keep-nested_at n s o w (Some e) h =
    let t = item_some s.expressions s.sealed_count n no_expression (Some e) h in
    either e.nested _ _ (λ u. w)
    (λ u. either (ltb e.depth 16) _ _
    (λ d. either (fits 0 s) _ _
    (λ f. subst (λ (x : Expression). Kept (taken n x s)) (sym t.2)
    (keep_taken n s o t.0 (ap (λ (x : Expression). x.nested) (sym t.2) ∙ u) (subst (λ (x : Expression). x.depth < 16) t.2 (ltb-true _ _ d)) (fits-parts 0 s f).0 w))
    (λ f. w))
    (λ d. w))

pub keep-nested : (n : ℕ) (s : State) → Kept s → Kept (nested n s).1
keep-nested n s w = either s.drafting _ _ (λ o. keep-nested_at n s o w (sealed_at n s) refl) (λ o. w)

pub keep_target : (b t : ℕ) (s : State) → Kept s → Kept (target_set b t s).1
keep_target b t s w = either s.drafting _ _
    (λ o. either (is_branch b s) _ _
    (λ i. let p = both _ _ i in either (ltb (s.op_count - s.start) t) _ _ (λ l. w)
    (λ l. either (eqb t b) _ _ (λ e. w) (λ e. keep-aimed b t s (ltb-true _ _ p.0) p.1 (ltb-false _ _ l) w)))
    (λ i. w))
    (λ o. w)

pub keep-sealed : (s : State) → Kept s → Kept (sealed s).1
keep-sealed s w = either s.drafting _ _ (λ o. either (any_unset (draft s)) _ _ (λ u. w) (λ u. keep-shut s o u w)) (λ o. w)

pub keep-discarded : (s : State) → Kept s → Kept (discarded s).1
keep-discarded s w = either s.drafting _ _ (λ o. keep-withdrawn s w) (λ o. w)
