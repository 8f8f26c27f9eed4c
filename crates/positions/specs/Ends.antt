-- A table of where operations end.
use Rattle.std.specs.Prelude.{◌≡◌, ℕ, zero, suc, ◌+◌, ◌-◌, ◌<◌, ◌≤◌, List, slice_index}
use Rattle.common.specs.declared.encoding.Encoding.{Encoding}
use Rattle.op.specs.declared.operation.Operation.{Operation}
use Rattle.book_state.specs.declared.shape.Shape.TheVariants.{Nesting}
use Rattle.book_state.specs.Operations.{shape}
use Rattle.book_state.specs.State.{State, op_at, expression_at}
use Rattle.book_state.specs.Whole.{heaviest}
use Rattle.book_tree.specs.Store.{tree_in}
use Rattle.rules.specs.Encode.{starts}
use Rattle.rules.specs.Scope.{Scope}

-- the operation at a place ends where the table says, from the start of its expression: there the next one begins
abbrev pub EndsAt : Encoding → Scope → State → List ℕ → ℕ → Type 0
EndsAt e s b table p =
    (k : ℕ) → k < b.sealed_count → (expression_at b k).start ≤ p → p < (expression_at b k).start + (expression_at b k).count →
    (slice_index table p ≡ slice_index (starts e s 0 (tree_in b k)) (p - (expression_at b k).start + 1)) × (slice_index table p ≤ heaviest)

-- the table has the ends of all operations of an expression, and of those that it nests, so many levels deep
unfoldable pub filled_to : ℕ → Encoding → Scope → State → List ℕ → ℕ → Type 0
filled_to zero e s b table k = (i : ℕ) → i < (expression_at b k).count → EndsAt e s b table ((expression_at b k).start + i)
filled_to (suc n) e s b table k =
    ((i : ℕ) → i < (expression_at b k).count → EndsAt e s b table ((expression_at b k).start + i))
    × ((i m : ℕ) → i < (expression_at b k).count → shape (op_at b ((expression_at b k).start + i)) ≡ Nesting m → filled_to n e s b table m)

-- the table has the ends of all operations of an expression, and of those that it nests
abbrev pub Filled : Encoding → Scope → State → List ℕ → ℕ → Type 0
Filled e s b table k = (n : ℕ) → filled_to n e s b table k

-- and so for an expression that an operation nests
abbrev pub FilledBy : Encoding → Scope → State → List ℕ → Operation → Type 0
FilledBy e s b table x = (m : ℕ) → shape x ≡ Nesting m → Filled e s b table m

-- ends that were right stay right
abbrev pub Keeps : Encoding → Scope → State → List ℕ → List ℕ → Type 0
Keeps e s b old new = (p : ℕ) → EndsAt e s b old p → EndsAt e s b new p

-- the table has the ends of all operations of an expression
abbrev pub Own : Encoding → Scope → State → List ℕ → ℕ → Type 0
Own e s b table k = (i : ℕ) → i < (expression_at b k).count → EndsAt e s b table ((expression_at b k).start + i)
