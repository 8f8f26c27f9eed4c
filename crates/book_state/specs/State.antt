-- What a book holds.
use Rattle.std.specs.Prelude.{ℕ, ◌+◌, ◌-◌, min, max, Bool, false, cond, List, [], ◌∷◌, length, take, drop, replicate, Option, nat_le, nat_lt, slice_index_or}
use Rattle.list.specs.Rows.{item_at}
use Rattle.op.specs.declared.operation.Data.{Data}
use Rattle.op.specs.declared.operation.Operation.{Operation}
use Rattle.op.specs.declared.operation.Operation.TheVariants as op
use Rattle.book_state.specs.declared.expression.Expression.{Expression}
use Rattle.book_state.specs.declared.shape.Shape.{Shape}
use Rattle.book_state.specs.declared.shape.Shape.TheVariants.{Plain, Holding, Branching, Nesting}
use Rattle.book_state.specs.Operations.{shape}

-- three tables, how many elements of each are in use, where the draft's operations and data begin, and whether a draft is open
pub record State : Type 0 where
  pub operations : List Operation
  pub bytes : List ℕ
  pub expressions : List Expression
  pub op_count : ℕ
  pub byte_count : ℕ
  pub sealed_count : ℕ
  pub start : ℕ
  pub byte_start : ℕ
  pub drafting : Bool

-- what a place past the tables reads as
abbrev pub no_operation : Operation
no_operation = op.Raw (record { start = 0; len = 0 })

-- the same for expressions; a new book's are all so
abbrev pub no_expression : Expression
no_expression = record { start = 0; count = 0; depth = 0; weight = 0; nested = false }

-- a new book over two tables
abbrev pub fresh : List Operation → List ℕ → State
fresh ops bs = record { operations = ops; bytes = bs; expressions = replicate 1024 no_expression; op_count = 0; byte_count = 0; sealed_count = 0; start = 0; byte_start = 0; drafting = false }

-- the operation at a place of the book
abbrev pub op_at : State → ℕ → Operation
op_at s p = slice_index_or s.operations p no_operation

-- the expression of a number, as it stands in a table
abbrev pub expression_of : List Expression → ℕ → Expression
expression_of es k = slice_index_or es k no_expression

-- the expression of a number in a book
abbrev pub expression_at : State → ℕ → Expression
expression_at s k = expression_of s.expressions k

-- a sealed expression, if there is one of that number
abbrev pub sealed_at : ℕ → State → Option Expression
sealed_at k s = item_at s.expressions s.sealed_count k

-- n elements from a place on
abbrev pub slice : {X : Type 0} → List X → ℕ → ℕ → List X
slice xs a n = take n (drop a xs)

-- the operations of the draft
abbrev pub draft : State → List Operation
draft s = slice s.operations s.start (s.op_count - s.start)

-- the operations of a sealed expression
abbrev pub operations_of : State → ℕ → List Operation
operations_of s k = slice s.operations (expression_at s k).start (expression_at s k).count

-- a book uses at most 4,096 operations and 65,535 bytes of its tables: whether one more operation with n bytes of data fits
abbrev pub fits : ℕ → State → Bool
fits n s = cond (nat_lt s.op_count (min (length s.operations) 4096)) (nat_le n (min (length s.bytes) 65535 - s.byte_count)) false

-- where the next data come to lie
abbrev pub place : ℕ → State → Data
place n s = record { start = s.byte_count; len = min n 65535 }

-- what each operation gives, joined over a list
abbrev pub gathered : (ℕ → ℕ → ℕ) → (Operation → ℕ) → List Operation → ℕ
gathered join f [] = 0
gathered join f (x ∷ xs) = join (f x) (gathered join f xs)

-- the depth that an operation asks for: one more than that of a nested expression
abbrev pub depth_by : List Expression → Shape → ℕ
depth_by es Plain = 0
depth_by es (Holding d) = 0
depth_by es (Branching t) = 0
depth_by es (Nesting m) = (expression_of es m).depth + 1

-- the depth of an expression of these operations
abbrev pub depth_of : List Expression → List Operation → ℕ
depth_of es = gathered max (λ x. depth_by es (shape x))

-- the bytes of an operation's data
abbrev pub data_by : Shape → ℕ
data_by Plain = 0
data_by (Holding d) = d.len
data_by (Branching t) = 0
data_by (Nesting m) = 0

-- the bytes of their data
abbrev pub data_of : List Operation → ℕ
data_of = gathered ◌+◌ (λ x. data_by (shape x))

-- the weight of the expression that an operation nests
abbrev pub nested_by : List Expression → Shape → ℕ
nested_by es Plain = 0
nested_by es (Holding d) = 0
nested_by es (Branching t) = 0
nested_by es (Nesting m) = (expression_of es m).weight

-- the weight of all expressions that they nest
abbrev pub nested_of : List Expression → List Operation → ℕ
nested_of es = gathered ◌+◌ (λ x. nested_by es (shape x))

-- No operation takes more bytes than its weight: besides its data and its nested expression these are at most a code, an address
-- of 255 bytes and a LEB128 number of ten.
abbrev pub weight_by : List Expression → Shape → ℕ
weight_by es h = 266 + data_by h + nested_by es h

-- the weight of an expression of these operations
abbrev pub weight_of : List Expression → List Operation → ℕ
weight_of es = gathered ◌+◌ (λ x. weight_by es (shape x))
