-- What each call of a book answers and leaves, its refusals in the order in which they are tried.
use Rattle.std.specs.Prelude.{ℕ, ◌+◌, ◌-◌, Bool, true, false, cond, List, [], ◌∷◌, ◌++◌, length, take, drop, Some, None, Ok, Err, Option, Result, ◌==◌, nat_lt, slice_set}
use Rattle.common.specs.declared.error.Error.{Error}
use Rattle.common.specs.declared.error.Error.TheVariants.{BadEntry, BookFull, DraftState, BadTarget, BranchOpen, NoExpression, InUse, TooDeep}
use Rattle.op.specs.declared.operation.Data.{Data}
use Rattle.op.specs.declared.operation.Operation.{Operation}
use Rattle.op.specs.declared.operation.Operation.TheVariants as op
use Rattle.book_state.specs.declared.expression.Expression.{Expression}
use Rattle.book_state.specs.declared.shape.Shape.{Shape}
use Rattle.book_state.specs.declared.shape.Shape.TheVariants.{Plain, Holding, Branching, Nesting}
use Rattle.book_state.specs.Operations.{shape, entries_fit, aimed_at, unset, any_unset, raw_place}
use Rattle.book_state.specs.State.{State, op_at, expression_of, sealed_at, slice, draft, fits, place, depth_of, weight_of}

-- a draft is open, and has no operation
abbrev pub opened : State → State
opened s = record { operations = s.operations; bytes = s.bytes; expressions = s.expressions; op_count = s.op_count; byte_count = s.byte_count; sealed_count = s.sealed_count; start = s.op_count; byte_start = s.byte_count; drafting = true }

-- ys written over the elements from a place on
abbrev pub overwritten : List ℕ → ℕ → List ℕ → List ℕ
overwritten xs at ys = take at xs ++ ys ++ drop (at + length ys) xs

-- one more operation, and its data
abbrev pub pushed : Operation → List ℕ → State → State
pushed x bs s = record { operations = slice_set s.operations s.op_count x; bytes = overwritten s.bytes s.byte_count bs; expressions = s.expressions; op_count = s.op_count + 1; byte_count = s.byte_count + length bs; sealed_count = s.sealed_count; start = s.start; byte_start = s.byte_start; drafting = s.drafting }

-- other expressions
abbrev pub with_expressions : List Expression → State → State
with_expressions es s = record { operations = s.operations; bytes = s.bytes; expressions = es; op_count = s.op_count; byte_count = s.byte_count; sealed_count = s.sealed_count; start = s.start; byte_start = s.byte_start; drafting = s.drafting }

-- a draft is opened: refused while one is open, then where 1,024 expressions are sealed
abbrev pub begun : State → Result (Unit {0}) Error × State
begun s = cond s.drafting (Err DraftState, s) (cond (nat_lt s.sealed_count 1024) (Ok tt, opened s) (Err BookFull, s))

-- a draft is opened with bytes as its first operation: refused also where these do not fit
abbrev pub raw_begun : List ℕ → State → Result (Unit {0}) Error × State
raw_begun bs s = cond s.drafting (Err DraftState, s) (cond (nat_lt s.sealed_count 1024)
    (cond (fits (length bs) s) (Ok tt, pushed (op.Raw (place (length bs) s)) bs (opened s)) (Err BookFull, s))
    (Err BookFull, s))

-- an operation is added, with its data: refused without a draft, then for a unit or entry that cannot exist, then where it does not fit
abbrev pub added : Operation → List ℕ → State → Result (Unit {0}) Error × State
added x bs s = cond s.drafting (cond (entries_fit x) (cond (fits (length bs) s) (Ok tt, pushed x bs s) (Err BookFull, s)) (Err BadEntry, s)) (Err DraftState, s)

-- the operation count of the open draft
abbrev pub next_index : State → ℕ
next_index s = cond s.drafting (s.op_count - s.start) 0

-- a branch without a target is added; the answer is its number in the draft
abbrev pub branched : Operation → State → Result ℕ Error × State
branched x s = cond s.drafting (cond (fits 0 s) (Ok (s.op_count - s.start), pushed x [] s) (Err BookFull, s)) (Err DraftState, s)

-- an expression as one that an entry value holds
abbrev pub marked : Expression → Expression
marked e = record { start = e.start; count = e.count; depth = e.depth; weight = e.weight; nested = true }

-- and as one that none holds
abbrev pub unmarked : Expression → Expression
unmarked e = record { start = e.start; count = e.count; depth = e.depth; weight = e.weight; nested = false }

-- an entry value of expression n, which is e
abbrev pub taken : ℕ → Expression → State → State
taken n e s = with_expressions (slice_set s.expressions n (marked e)) (pushed (op.EntryValue n) [] s)

-- the same with the expression looked up: refused where there is none, then where it is nested already, then past a depth of 16, then
-- where the operation does not fit
abbrev pub nested_at : ℕ → Option Expression → State → Result (Unit {0}) Error × State
nested_at n None s = (Err NoExpression, s)
nested_at n (Some e) s = cond e.nested (Err InUse, s) (cond (nat_lt e.depth 16) (cond (fits 0 s) (Ok tt, taken n e s) (Err BookFull, s)) (Err TooDeep, s))

-- an entry value is added
abbrev pub nested : ℕ → State → Result (Unit {0}) Error × State
nested n s = cond s.drafting (nested_at n (sealed_at n s) s) (Err DraftState, s)

-- the draft's operation of that number is a branch without a target
abbrev pub is_branch : ℕ → State → Bool
is_branch branch s = cond (nat_lt branch (s.op_count - s.start)) (unset (shape (op_at s (s.start + branch)))) false

-- the branch has its target
abbrev pub aimed : ℕ → ℕ → State → State
aimed branch target s = record { operations = slice_set s.operations (s.start + branch) (aimed_at target (op_at s (s.start + branch))); bytes = s.bytes; expressions = s.expressions; op_count = s.op_count; byte_count = s.byte_count; sealed_count = s.sealed_count; start = s.start; byte_start = s.byte_start; drafting = s.drafting }

-- a target is set: refused without a draft, then where the number is no branch without a target, or the target past the end or the branch
abbrev pub target_set : ℕ → ℕ → State → Result (Unit {0}) Error × State
target_set branch target s = cond s.drafting
    (cond (is_branch branch s) (cond (nat_lt (s.op_count - s.start) target) (Err BadTarget, s) (cond (target == branch) (Err BadTarget, s) (Ok tt, aimed branch target s))) (Err BadTarget, s))
    (Err DraftState, s)

-- the draft as an expression
abbrev pub new_expression : State → Expression
new_expression s = record { start = s.start; count = s.op_count - s.start; depth = depth_of s.expressions (draft s); weight = weight_of s.expressions (draft s); nested = false }

-- the draft is an expression of the book, and none is open
abbrev pub shut : State → State
shut s = record { operations = s.operations; bytes = s.bytes; expressions = slice_set s.expressions s.sealed_count (new_expression s); op_count = s.op_count; byte_count = s.byte_count; sealed_count = s.sealed_count + 1; start = s.op_count; byte_start = s.byte_count; drafting = false }

-- the draft is sealed, and the answer is the expression's number: refused without a draft, then where a branch has no target
abbrev pub sealed : State → Result ℕ Error × State
sealed s = cond s.drafting (cond (any_unset (draft s)) (Err BranchOpen, s) (Ok s.sealed_count, shut s)) (Err DraftState, s)

-- the expression that an operation nests can be nested again
abbrev pub freed_by : Shape → List Expression → List Expression
freed_by Plain es = es
freed_by (Holding d) es = es
freed_by (Branching t) es = es
freed_by (Nesting n) es = slice_set es n (unmarked (expression_of es n))

-- the same for all operations of a list
abbrev pub freed : List Operation → List Expression → List Expression
freed [] es = es
freed (x ∷ xs) es = freed xs (freed_by (shape x) es)

-- the draft's operations, data and nested expressions are free again, and no draft is open
abbrev pub withdrawn : State → State
withdrawn s = record { operations = s.operations; bytes = s.bytes; expressions = freed (draft s) s.expressions; op_count = s.start; byte_count = s.byte_start; sealed_count = s.sealed_count; start = s.start; byte_start = s.byte_start; drafting = false }

-- the draft is discarded: refused without one
abbrev pub discarded : State → Result (Unit {0}) Error × State
discarded s = cond s.drafting (Ok tt, withdrawn s) (Err DraftState, s)

-- the bytes of a raw operation
abbrev pub raw_bytes : Option Data → State → Option (List ℕ)
raw_bytes None s = None
raw_bytes (Some d) s = Some (slice s.bytes d.start d.len)

-- those of an expression that was looked up
abbrev pub as_raw_at : Option Expression → State → Option (List ℕ)
as_raw_at None s = None
as_raw_at (Some e) s = cond (e.count == 1) (raw_bytes (raw_place (op_at s e.start)) s) None

-- the bytes of an expression that is one raw operation
abbrev pub as_raw : ℕ → State → Option (List ℕ)
as_raw n s = as_raw_at (sealed_at n s) s
