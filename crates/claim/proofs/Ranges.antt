-- Expressions made of operations whose operands are in range.
use Rattle.std.proofs.Common.{ℕ, zero, suc, List, [], ◌∷◌, drop}
use Rattle.std.specs.List.{AllByRecursion}
use Rattle.std.proofs.ByRecursion.{All-take, All-drop}
use Rattle.op.specs.declared.operation.Operation.{Operation}
use Rattle.rules.specs.Tree.{Store, Tree, Shape, grow, rows, expression_at, tree_of}
use Rattle.rules.proofs.Shapes.{Shaped, is_single, is_nesting, shaped}
use Rattle.claim.specs.Fits.{FitsOperation, Fits, TreesFit}

grow-fits : (inner : ℕ → Tree) → ((n : ℕ) → Fits (inner n)) → (t : Tree) → Fits t → {o : Operation} {s : Shape} → Shaped o s → FitsOperation o
    → Fits (grow inner s t)
grow-fits inner h t k (is_single o bs flat) f = (f, k)
grow-fits inner h t k (is_nesting n) f = (h n, k)

rows_fit : (inner : ℕ → Tree) → ((n : ℕ) → Fits (inner n)) → (b : Store) (os : List Operation) → AllByRecursion FitsOperation os → Fits (rows inner b os)
rows_fit inner h b [] a = tt
rows_fit inner h b (o ∷ os) a = grow-fits inner h (rows inner b os) (rows_fit inner h b os a.1) (shaped b o) a.0

pub trees_fit : TreesFit
unfolding tree_of
trees_fit zero b n a = tt
trees_fit (suc levels) b n a =
    rows_fit (tree_of levels b) (λ k. trees_fit levels b k a) b _
    (All-take FitsOperation (expression_at b n).count (drop (expression_at b n).start b.operations)
    (All-drop FitsOperation (expression_at b n).start b.operations a))
