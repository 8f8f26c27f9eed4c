-- The sealed expressions of a book.
use Rattle.std.specs.Prelude.{ℕ, cond, Some, None, Err, Option, Result, nat_lt}
use Rattle.common.specs.declared.encoding.Encoding.{Encoding}
use Rattle.common.specs.declared.error.Error.{Error}
use Rattle.common.specs.declared.error.Error.TheVariants.{NoExpression}
use Rattle.book_state.specs.State.{State}
use Rattle.book_tree.specs.Store.{tree_in}
use Rattle.rules.specs.Scope.{Scope}
use Rattle.rules.specs.Sizes.{size_tree}
use Rattle.rules.specs.Tree.{Tree}

-- the tree of an expression, if the book has one of that number
abbrev pub tree_at : State → ℕ → Option Tree
tree_at s number = cond (nat_lt number s.sealed_count) (Some (tree_in s number)) None

-- the bytes of an expression, or the refusal where there is none
abbrev pub size_at : Encoding → Scope → Option Tree → Result ℕ Error
size_at e s None = Err NoExpression
size_at e s (Some t) = size_tree e s t
