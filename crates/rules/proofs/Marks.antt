-- The marks of a run in front of another.
use Rattle.std.proofs.Common.{◌≡◌, ℕ, ◌+◌, List, [], ◌∷◌, ◌++◌, length, ap, ◌∙◌, arith}
use Rattle.dwarf.specs.Bytes.{size_of, joined}
use Rattle.dwarf.specs.Leb.{uleb, sleb}
use Rattle.dwarf.specs.Tokens.{Tokens, done, code, unsigned, signed, fixed, displacement, block, short, nested, reference, raw}
use Rattle.rules.specs.Branches.{Mark, first, jump, inner, marks}

-- the marks of what follows, at another way to write its place
moved : (front : List Mark) (p q : ℕ) (t : Tokens) → p ≡ q → front ++ marks p t ≡ front ++ marks q t
moved front p q t e = ap (λ (k : ℕ). front ++ marks k t) e

pub marks-joined : (p : ℕ) (a t : Tokens) → marks p (joined a t) ≡ marks p a ++ marks (p + size_of a) t
unfolding joined size_of
marks-joined p done t = moved [] p (p + 0) t (omega arith)
marks-joined p (code c r) t =
    ap (λ z. first p ∷ z) (marks-joined (p + 1) r t ∙ moved (marks (p + 1) r) (p + 1 + size_of r) (p + (1 + size_of r)) t (omega arith))
marks-joined p (unsigned n r) t =
    let q : ℕ = p + length (uleb n) in marks-joined q r t ∙ moved (marks q r) (q + size_of r) (p + (length (uleb n) + size_of r)) t (omega arith)
marks-joined p (signed z r) t =
    let q : ℕ = p + length (sleb z) in marks-joined q r t ∙ moved (marks q r) (q + size_of r) (p + (length (sleb z) + size_of r)) t (omega arith)
marks-joined p (fixed width n r) t =
    let q : ℕ = p + width in marks-joined q r t ∙ moved (marks q r) (q + size_of r) (p + (width + size_of r)) t (omega arith)
marks-joined p (displacement z r) t =
    ap (λ m. jump p z ∷ m) (marks-joined (p + 2) r t ∙ moved (marks (p + 2) r) (p + 2 + size_of r) (p + (2 + size_of r)) t (omega arith))
marks-joined p (block bs r) t =
    let q : ℕ = p + (length (uleb (length bs)) + length bs) in
    marks-joined q r t ∙ moved (marks q r) (q + size_of r) (p + (length (uleb (length bs)) + (length bs + size_of r))) t (omega arith)
marks-joined p (short bs r) t =
    let q : ℕ = p + (1 + length bs) in marks-joined q r t ∙ moved (marks q r) (q + size_of r) (p + (1 + (length bs + size_of r))) t (omega arith)
marks-joined p (nested a r) t =
    let q : ℕ = p + (length (uleb (size_of a)) + size_of a) in
    ap (λ m. inner (p + length (uleb (size_of a))) a ∷ m)
    (marks-joined q r t ∙ moved (marks q r) (q + size_of r) (p + (length (uleb (size_of a)) + (size_of a + size_of r))) t (omega arith))
marks-joined p (reference width owner entry r) t =
    let q : ℕ = p + width in marks-joined q r t ∙ moved (marks q r) (q + size_of r) (p + (width + size_of r)) t (omega arith)
marks-joined p (raw bs r) t =
    let q : ℕ = p + length bs in
    ap (λ m. first p ∷ m) (marks-joined q r t ∙ moved (marks q r) (q + size_of r) (p + (length bs + size_of r)) t (omega arith))
