-- A call's tables stay whole, and their expressions in order.
use Rattle.std.proofs.Common.{◌≡◌, ap, subst}
use Rattle.book_state.specs.State.{State}
use Rattle.book_state.specs.Whole.{Whole, Ordered}
use Rattle.book_state.proofs.Kept.{Kept}

pub kept : {A : Type 0} (s t : State) (a : A) (p : A × State) → Whole s → Ordered s → (Kept s → Kept p.1) → p ≡ (a, t) → record { whole : Whole t; ordered : Ordered t }
kept s t a p w o h e =
    let k : Kept t = subst Kept (ap (λ r. r.1) e) (h (record { whole = w; ordered = o })) in
    record { whole = k.whole; ordered = k.ordered }
