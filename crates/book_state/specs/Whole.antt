-- What every book keeps.
use Rattle.std.specs.Prelude.{◌≡◌, ℕ, ◌+◌, ◌-◌, ◌*◌, ◌<◌, ◌≤◌, min, Bool, true, false, cond, List, [], ◌∷◌, length, take, Some, None, Option, ◌≢◌, nat_le, nat_lt}
use Rattle.book_state.specs.declared.expression.Expression.{Expression}
use Rattle.book_state.specs.declared.shape.Shape.{Shape}
use Rattle.book_state.specs.declared.shape.Shape.TheVariants.{Plain, Holding, Branching, Nesting}
use Rattle.book_state.specs.Operations.{shape, entries_fit}
use Rattle.book_state.specs.State.{State, op_at, expression_at, draft, operations_of, place, depth_of, data_of, weight_of}

-- a bound of every weight: 4,096 operations and 65,535 bytes of data
abbrev pub heaviest : ℕ
heaviest = 1155071

-- the counts are within the tables, and no operation or data stand behind the sealed ones while no draft is open
pub record Counted (s : State) : Type 0 where
  pub ops_within : s.op_count ≤ min (length s.operations) 4096
  pub bytes_within : s.byte_count ≤ min (length s.bytes) 65535
  pub since : s.start ≤ s.op_count
  pub bytes_since : s.byte_start ≤ s.byte_count
  pub sealed_within : s.sealed_count ≤ 1024
  pub table : length s.expressions ≡ 1024
  pub room : s.drafting ≡ true → s.sealed_count < 1024
  pub idle : s.drafting ≡ false → (s.start ≡ s.op_count) × (s.byte_start ≡ s.byte_count)
  pub light : (k : ℕ) → (expression_at s k).weight ≤ heaviest
  pub shallow : (k : ℕ) → (expression_at s k).depth ≤ 16

-- a branch's target is at most the operation count; only in a draft it may be missing
abbrev pub target_in : Bool → ℕ → Option ℕ → Bool
target_in missing count (Some t) = nat_le t count
target_in missing count None = missing

-- in an expression of number k: data lie inside the book's, a target is in order, a nested expression was sealed earlier
abbrev pub in_order : ℕ → Bool → ℕ → ℕ → Shape → Bool
in_order used missing k count Plain = true
in_order used missing k count (Holding d) = nat_le (d.start + d.len) used
in_order used missing k count (Branching t) = target_in missing count t
in_order used missing k count (Nesting m) = nat_lt m k

-- an operation may be added with these data: it nests nothing, sets no target, and its data are where these come to lie
abbrev pub Bare : List ℕ → State → Shape → Type 0
Bare bs s Plain = length bs ≡ 0
Bare bs s (Holding d) = d ≡ place (length bs) s
Bare bs s (Branching t) = (t ≡ None) × (length bs ≡ 0)
Bare bs s (Nesting m) = ⊥

-- sealed expressions lie before the draft
abbrev pub Ends : State → Type 0
Ends s = (k : ℕ) → k < s.sealed_count → (expression_at s k).start + (expression_at s k).count ≤ s.start

-- sealed expressions lie one behind the other
abbrev pub Ordered : State → Type 0
Ordered s = (j k : ℕ) → j < k → k < s.sealed_count → (expression_at s j).start + (expression_at s j).count ≤ (expression_at s k).start

-- every operation of a sealed expression is in order
abbrev pub Closed : State → Type 0
Closed s = (k i : ℕ) → k < s.sealed_count → i < (expression_at s k).count →
    in_order s.byte_start false k (expression_at s k).count (shape (op_at s ((expression_at s k).start + i))) ≡ true

-- every operation of the draft is in order but for targets that are missing
abbrev pub Drafted : State → Type 0
Drafted s = (p : ℕ) → s.start ≤ p → p < s.op_count → in_order s.byte_count true s.sealed_count (s.op_count - s.start) (shape (op_at s p)) ≡ true

-- every unit and entry that is named can exist
abbrev pub Named : State → Type 0
Named s = (p : ℕ) → p < s.op_count → entries_fit (op_at s p) ≡ true

-- what an entry value holds is a sealed expression, and known to be nested
abbrev pub Flagged : State → Type 0
Flagged s = (p m : ℕ) → p < s.op_count → shape (op_at s p) ≡ Nesting m → (m < s.sealed_count) × ((expression_at s m).nested ≡ true)

-- an expression that is known to be nested is one that an entry value holds
abbrev pub Used : State → Type 0
Used s = (m : ℕ) → (expression_at s m).nested ≡ true → ∥ ((p : ℕ) × (p < s.op_count) × (shape (op_at s p) ≡ Nesting m)) ∥₁

-- no two entry values hold the same expression
abbrev pub Once : State → Type 0
Once s = (p q m : ℕ) → p < q → q < s.op_count → shape (op_at s p) ≡ Nesting m → shape (op_at s q) ≢ Nesting m

-- a sealed expression's depth is that of its operations
abbrev pub Deep : State → Type 0
Deep s = (k : ℕ) → k < s.sealed_count → (expression_at s k).depth ≡ depth_of s.expressions (operations_of s k)

-- and so is its weight
abbrev pub Weighed : State → Type 0
Weighed s = (k : ℕ) → k < s.sealed_count → (expression_at s k).weight ≡ weight_of s.expressions (operations_of s k)

-- the weight of an expression that no entry value holds
abbrev pub own : Expression → ℕ
own e = cond e.nested 0 e.weight

-- those together
abbrev pub roots : List Expression → ℕ
roots [] = 0
roots (e ∷ es) = own e + roots es

-- what every book keeps
pub record Whole (s : State) : Type 0 where
  pub counted : Counted s
  pub ends : Ends s
  pub closed : Closed s
  pub drafted : Drafted s
  pub named : Named s
  pub flagged : Flagged s
  pub used : Used s
  pub once : Once s
  pub deep : Deep s
  pub weighed : Weighed s
  -- the draft is not deeper than an expression may be
  pub low : depth_of s.expressions (draft s) ≤ 16
  -- the draft's data are those that it holds
  pub held : s.byte_start + data_of (draft s) ≡ s.byte_count
  -- expressions that none holds and the draft weigh as much as all operations and data
  pub total : roots (take s.sealed_count s.expressions) + weight_of s.expressions (draft s) ≡ 266 * s.op_count + s.byte_count
