-- What is left to be written of an expression and of those that it is nested in.
use Rattle.std.specs.Prelude.{◌≡◌, ℕ, zero, suc, ◌+◌, ◌-◌, ◌<◌, ◌≤◌, List, ◌++◌, length, take, drop, replicate, ℤ, Ok, Result, slice_index, slice_index_or, slice_set}
use Rattle.common.specs.declared.encoding.Encoding.{Encoding}
use Rattle.common.specs.declared.error.Error.{Error}
use Rattle.common.specs.declared.fixup.DebugInfoFixup.{DebugInfoFixup}
use Rattle.dwarf.specs.Bytes.{bytes_of, joined, size_of}
use Rattle.dwarf.specs.References.{references}
use Rattle.dwarf.specs.Tokens.{Tokens, done}
use Rattle.op.specs.declared.operation.Operation.{Operation}
use Rattle.book_state.specs.Operations.{shape}
use Rattle.book_state.specs.State.{State, op_at, expression_at, operations_of}
use Rattle.book_tree.specs.Store.{store_of, tree_in}
use Rattle.positions.specs.Ends.{Filled}
use Rattle.rules.specs.Encode.{encode_op, starts}
use Rattle.rules.specs.Operands.{after_branch, displaced}
use Rattle.rules.specs.Passes.{check_op, tokens_op, check_tree, tokens_tree}
use Rattle.rules.specs.Results.{and_then}
use Rattle.rules.specs.Scope.{Scope}
use Rattle.rules.specs.Tree as tree
use Rattle.writer.specs.Meaning.{Sink, holding}
use Rattle.emit.specs.declared.cursor.Cursor.{Cursor}
use Rattle.emit.specs.declared.cursor.Open.{Open}
use Rattle.emit.specs.Held.{data_at}

-- no expression
abbrev pub no_open : Open
no_open = record { number = 0; next = 0 }

-- where the operations of an expression begin
abbrev pub starts_of : Encoding → Scope → State → ℕ → List ℕ
starts_of e s b k = starts e s 0 (tree_in b k)

-- the operations of an expression from one on
abbrev pub rest_of : State → Open → tree.Tree
rest_of b f = tree.rows (tree_in b) (store_of b) (drop f.next (operations_of b f.number))

-- the tokens that are left of an expression
abbrev pub left_of : Encoding → Scope → State → Open → Tokens
left_of e s b f = tokens_tree e s (starts_of e s b f.number) (slice_index (starts_of e s b f.number) f.next) (rest_of b f)

-- of the first so many of those around, the last first
abbrev pub below : Encoding → Scope → State → List Open → ℕ → Tokens
below e s b opens zero = done
below e s b opens (suc j) = joined (left_of e s b (slice_index_or opens j no_open)) (below e s b opens j)

-- of all
abbrev pub left : Encoding → Scope → State → Cursor → Tokens
left e s b c = joined (left_of e s b c.top) (below e s b c.around c.level)

-- a sink with bytes more
abbrev pub grown : Sink → List ℕ → Sink
grown k bytes = holding k (k.content ++ bytes)

-- what a sink and the pending rows come to with tokens more
abbrev pub come : Sink → List DebugInfoFixup → Tokens → Sink × List DebugInfoFixup
come k rows a = (grown k (bytes_of k.big a), rows ++ references (length k.content) a)

-- an expression that is being written, at most so many levels deep
pub record Frame (e : Encoding) (s : Scope) (b : State) (table : List ℕ) (levels : ℕ) (f : Open) : Type 0 where
  pub there : f.number < b.sealed_count
  pub within : f.next ≤ (expression_at b f.number).count
  pub shallow : (expression_at b f.number).depth ≤ levels
  pub checked : check_tree e s (starts_of e s b f.number) (slice_index (starts_of e s b f.number) f.next) (rest_of b f) ≡ Ok tt
  pub filled : Filled e s b table f.number

-- all that is left can be written
pub record Ready (e : Encoding) (s : Scope) (b : State) (table : List ℕ) (c : Cursor) : Type 0 where
  pub deep : c.level ≤ 16
  pub opens : length c.around ≡ 16
  pub top : Frame e s b table (16 - c.level) c.top
  pub frames : (j : ℕ) → j < c.level → Frame e s b table (16 - j) (slice_index_or c.around j no_open)

-- how many steps operations take
abbrev pub work : tree.Tree → ℕ
work tree.end = 0
work (tree.plain o bs t) = 1 + work t
work (tree.nest y t) = 2 + work y + work t

abbrev pub pile : State → List Open → ℕ → ℕ
pile b opens zero = 0
pile b opens (suc j) = 1 + work (rest_of b (slice_index_or opens j no_open)) + pile b opens j

abbrev pub to_do : State → Cursor → ℕ
to_do b c = work (rest_of b c.top) + pile b c.around c.level

-- one operation on
abbrev pub moved : Cursor → Cursor
moved c = record { top = record { number = c.top.number; next = c.top.next + 1 }; around = c.around; level = c.level }

-- back to the expression around
abbrev pub popped : Cursor → Cursor
popped c = record { top = slice_index_or c.around (c.level - 1) no_open; around = c.around; level = c.level - 1 }

-- into a nested expression
abbrev pub entered : Cursor → ℕ → Cursor
entered c m = record {
  top = record { number = m; next = 0 };
  around = slice_set c.around c.level (record { number = c.top.number; next = c.top.next + 1 });
  level = suc c.level;
}

-- at the first operation of an expression that is nested in none
abbrev pub begin : ℕ → Cursor
begin n = record { top = record { number = n; next = 0 }; around = replicate 16 no_open; level = 0 }

-- the operation that comes next in an expression, its data, and where it begins
abbrev pub next_op : State → Open → Operation
next_op b f = op_at b ((expression_at b f.number).start + f.next)

abbrev pub next_data : State → Open → List ℕ
next_data b f = data_at b (shape (next_op b f))

abbrev pub next_start : Encoding → Scope → State → Open → ℕ
next_start e s b f = slice_index (starts_of e s b f.number) f.next

-- whether the next operation is refused, and its tokens, where it nests nothing
abbrev pub check_at : Encoding → Scope → State → Open → Result (Unit {0}) Error
check_at e s b f = check_op e s (starts_of e s b f.number) (next_start e s b f) (next_op b f) (next_data b f)

abbrev pub tokens_at : Encoding → Scope → State → Open → Tokens
tokens_at e s b f = tokens_op e s (starts_of e s b f.number) (next_start e s b f) (next_op b f) (next_data b f)

-- the next operation is encoded alike with this displacement
abbrev pub leads_to : Encoding → Scope → State → Open → Result ℤ Error → Type 0
leads_to e s b f r =
    and_then r (λ z. encode_op e s (λ _. Ok z) (next_op b f) (next_data b f))
    ≡ encode_op e s (displaced (starts_of e s b f.number) (after_branch (next_start e s b f))) (next_op b f) (next_data b f)

-- all that is left can be written, and there is room for its bytes and its references
pub record Walking (e : Encoding) (s : Scope) (b : State) (table : List ℕ) (k : Sink) (all : List DebugInfoFixup) (count : ℕ) (c : Cursor) : Type 0 where
  pub ready : Ready e s b table c
  pub used : count ≤ length all
  pub room : length k.content + size_of (left e s b c) ≤ k.capacity
  pub free : count + length (references (length k.content) (left e s b c)) ≤ length all

-- a step: the sink and the rows come to the same in the end, and less is left to do
pub record Moved (e : Encoding) (s : Scope) (b : State) (table : List ℕ) (k k' : Sink) (all all' : List DebugInfoFixup) (count count' : ℕ) (c c' : Cursor) : Type 0 where
  pub grew : length k.content ≤ length k'.content
  pub came : come k' (take count' all') (left e s b c') ≡ come k (take count all) (left e s b c)
  pub on : Walking e s b table k' all' count' c'
  pub less : to_do b c' < to_do b c
  pub long : length all' ≡ length all
