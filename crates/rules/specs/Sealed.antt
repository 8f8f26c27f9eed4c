-- What holds of every expression that a book has sealed.
use Rattle.std.specs.Prelude.{ℕ, suc, ◌≤◌, Some, None}
use Rattle.rules.specs.Kinds.{Kind, given, bare, branch, nesting, other, kind_of}
use Rattle.rules.specs.Tree.{Tree, end, plain, nest}

-- how many operations an expression has, nested ones not counted
abbrev pub count_of : Tree → ℕ
count_of end = 0
count_of (plain o bs t) = suc (count_of t)
count_of (nest y t) = suc (count_of t)

-- a branch names one of n operations or the end, and an entry value has its expression with it
abbrev pub SealedKind : ℕ → Kind → Type 0
SealedKind n given = Unit {0}
SealedKind n (bare c) = Unit {0}
SealedKind n (branch None) = ⊥
SealedKind n (branch (Some k)) = k ≤ n
SealedKind n (nesting m) = ⊥
SealedKind n other = Unit {0}

-- the operations of an expression of n are so, and those of its nested expressions
abbrev pub Sealed : ℕ → Tree → Type 0
Sealed n end = Unit {0}
Sealed n (plain o bs t) = SealedKind n (kind_of o) × Sealed n t
Sealed n (nest y t) = Sealed (count_of y) y × Sealed n t
