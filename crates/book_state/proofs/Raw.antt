-- The data of a raw operation lie inside the book's.
use Rattle.std.proofs.Common.{◌≡◌, ℕ, ◌+◌, ◌<◌, ◌≤◌, true, false, length, Some, sym, ap, ◌∙◌, subst, arith}
use Rattle.std.proofs.lemmas.Bool.{leb-true}
use Rattle.op.specs.declared.operation.Data.{Data}
use Rattle.book_state.specs.declared.expression.Expression.{Expression}
use Rattle.book_state.specs.declared.shape.Shape.{Shape}
use Rattle.book_state.specs.declared.shape.Shape.TheVariants.{Holding}
use Rattle.book_state.specs.Operations.{shape, raw_place}
use Rattle.book_state.specs.State.{State, op_at, expression_at}
use Rattle.book_state.specs.Whole.{in_order, Whole}
use Rattle.book_state.proofs.Shapes.{raw_shape}

pub raw_inside : (s : State) → Whole s → (k : ℕ) (e : Expression) (d : Data) → k < s.sealed_count → e ≡ expression_at s k → e.count ≡ 1 →
    Some d ≡ raw_place (op_at s e.start) → d.start + d.len ≤ length s.bytes
raw_inside s w k e d l h one r =
    let f : (expression_at s k).count ≡ 1 = ap (λ (x : Expression). x.count) (sym h) ∙ one in
    let p : (expression_at s k).start + 0 ≡ e.start = ap (λ (x : Expression). x.start + 0) (sym h) ∙ omega arith in
    let q : shape (op_at s ((expression_at s k).start + 0)) ≡ Holding d = ap (λ n. shape (op_at s n)) p ∙ raw_shape (op_at s e.start) d (sym r) in
    let o : in_order s.byte_start false k (expression_at s k).count (Holding d) ≡ true =
    subst (λ (x : Shape). in_order s.byte_start false k (expression_at s k).count x ≡ true) q (w.closed k 0 l (omega arith)) in
    let b = leb-true (d.start + d.len) s.byte_start o in
    let c = w.counted in omega (arith, c.bytes_within)
