-- The expressions of a book, as the rules take them.
use Rattle.std.specs.Prelude.{ℕ, ◌+◌, ◌<◌, ◌≤◌, map, length, Result}
use Rattle.common.specs.declared.encoding.Encoding.{Encoding}
use Rattle.common.specs.declared.error.Error.{Error}
use Rattle.op.specs.declared.operation.Operation.{Operation}
use Rattle.book_state.specs.declared.expression.Expression.{Expression}
use Rattle.book_state.specs.declared.shape.Shape.{Shape}
use Rattle.book_state.specs.declared.shape.Shape.TheVariants.{Plain, Holding, Branching, Nesting}
use Rattle.book_state.specs.State.{State}
use Rattle.rules.specs.Scope.{Scope}
use Rattle.rules.specs.Sizes.{size_op, size_tree, nested_size}
use Rattle.rules.specs.Tree as tree

-- where an expression's operations are
abbrev pub row_of : Expression → tree.Expression
row_of x = record { start = x.start; count = x.count }

-- the tables of a book
abbrev pub store_of : State → tree.Store
store_of s = record { operations = s.operations; bytes = s.bytes; expressions = map row_of s.expressions }

-- the tree of a sealed expression
abbrev pub tree_in : State → ℕ → tree.Tree
tree_in s k = tree.expression_tree (store_of s) k

-- an operation's data lie inside the book, and the expression that it nests is sealed
abbrev pub InBook : State → Shape → Type 0
InBook s Plain = Unit {0}
InBook s (Holding d) = d.start + d.len ≤ length s.bytes
InBook s (Branching t) = Unit {0}
InBook s (Nesting m) = m < s.sealed_count

-- the bytes of an operation with what it brings along, or the refusal; `inner` gives the tree of a nested expression
abbrev pub size_by : Encoding → Scope → (ℕ → tree.Tree) → tree.Shape → Result ℕ Error
size_by e s inner (tree.single o bs) = size_op e s o bs
size_by e s inner (tree.nesting n) = nested_size (size_tree e s (inner n))

-- the bytes of an operation of a book, or the refusal
abbrev pub size_in : Encoding → Scope → State → Operation → Result ℕ Error
size_in e s b x = size_by e s (tree_in b) (tree.shape (store_of b) x)
