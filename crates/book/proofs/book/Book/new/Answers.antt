use Rattle.std.proofs.Common.{◌≡◌, ap, subst, replicate, ℕ, Bool, false}
use Rattle.book_state.specs.declared.expression.Expression.{Expression}
use Rattle.book_state.specs.State.{no_expression}
use Rattle.book_state.specs.Whole.{Ordered, Whole}
use Rattle.book_state.proofs.Opened.{keep-fresh}
use Rattle.book.proofs.book.Book.new.Goals as goal

blank : (a b c d : ℕ) (n : Bool) → (a ≡ 0) × ((b ≡ 0) × ((c ≡ 0) × ((d ≡ 0) × (n ≡ false)))) → no_expression ≡ record { start = a; count = b; depth = c; weight = d; nested = n }
blank a b c d n h = rw (h.0, h.1.0, h.1.1.0, h.1.1.1.0, h.1.1.1.1)

pub invariant_of-result : goal.invariant_of-result
invariant_of-result c =
    let k = keep-fresh c.args.operations.now c.args.bytes.now in
    let s = ap (λ (x : Expression). record { operations = c.args.operations.now; bytes = c.args.bytes.now; expressions = replicate 1024 x; op_count = 0; byte_count = 0; sealed_count = 0; start = 0; byte_start = 0; drafting = false }) (blank _ _ _ _ _ c.default.ensures) in
    record { whole = subst Whole s k.whole; ordered = subst Ordered s k.ordered }
