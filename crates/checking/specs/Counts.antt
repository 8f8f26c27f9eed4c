-- How many references encoded operations set down.
use Rattle.std.specs.Prelude.{ℕ, ◌+◌, List, Ok, Result, slice_index}
use Rattle.common.specs.declared.encoding.Encoding.{Encoding}
use Rattle.common.specs.declared.error.Error.{Error}
use Rattle.dwarf.specs.Tokens.{Tokens, done, code, unsigned, signed, fixed, displacement, block, short, nested, reference, raw}
use Rattle.book_state.specs.State.{State, op_at, expression_at}
use Rattle.book_tree.specs.Store.{store_of, tree_in}
use Rattle.rules.specs.Encode.{encode_op, encode_tree, starts}
use Rattle.rules.specs.Operands.{after_branch, by_version, displaced}
use Rattle.rules.specs.Results.{and_then}
use Rattle.rules.specs.Scope.{Scope}
use Rattle.rules.specs.Tree as tree

-- the references among tokens
abbrev pub tally : Tokens → ℕ
tally done = 0
tally (code c ts) = tally ts
tally (unsigned n ts) = tally ts
tally (signed z ts) = tally ts
tally (fixed width n ts) = tally ts
tally (displacement z ts) = tally ts
tally (block bytes ts) = tally ts
tally (short bytes ts) = tally ts
tally (nested inner ts) = tally inner + tally ts
tally (reference width unit entry ts) = 1 + tally ts
tally (raw bytes ts) = tally ts

-- their number, or the refusal
abbrev pub counted : Result Tokens Error → Result ℕ Error
counted r = and_then r (λ a. Ok (tally a))

-- an operation with what it brings along, at p; hs: where the operations of its expression begin
abbrev pub encode_by : Encoding → Scope → List ℕ → ℕ → (ℕ → tree.Tree) → tree.Shape → Result Tokens Error
encode_by e s hs p inner (tree.single o bs) = encode_op e s (displaced hs (after_branch p)) o bs
encode_by e s hs p inner (tree.nesting n) =
    and_then (encode_tree e s (starts e s 0 (inner n)) 0 (inner n)) (λ a. Ok (code (by_version e 0xa3 0xf3) (nested a done)))

-- an operation of a sealed expression
abbrev pub encode_at : Encoding → Scope → State → ℕ → ℕ → Result Tokens Error
encode_at e s b k i =
    encode_by e s (starts e s 0 (tree_in b k)) (slice_index (starts e s 0 (tree_in b k)) i) (tree_in b) (tree.shape (store_of b) (op_at b ((expression_at b k).start + i)))
