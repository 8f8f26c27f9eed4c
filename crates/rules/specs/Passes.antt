-- The encoding in two passes, for a writer that tests everything before it writes: what is refused, and the tokens where nothing is.
use Rattle.std.specs.Prelude.{ℕ, ◌+◌, List, Ok, Err, Result}
use Rattle.common.specs.declared.encoding.Encoding.{Encoding}
use Rattle.common.specs.declared.error.Error.{Error}
use Rattle.dwarf.specs.Bytes.{joined}
use Rattle.dwarf.specs.Tokens.{Tokens, done, code, nested}
use Rattle.op.specs.declared.operation.Operation.{Operation}
use Rattle.rules.specs.Results.{and_then}
use Rattle.rules.specs.Encode.{encode_op, starts}
use Rattle.rules.specs.Operands.{by_version, after_branch, displaced}
use Rattle.rules.specs.Scope.{Scope}
use Rattle.rules.specs.Sizes.{extent_op, extent_nested}
use Rattle.rules.specs.Tree.{Tree, end, plain, nest}

-- the tokens, or none where there is only a refusal
abbrev pub tokens_or : Result Tokens Error → Tokens
tokens_or (Ok a) = a
tokens_or (Err refusal) = done

-- whether an operation that begins at p is refused
abbrev pub check_op : Encoding → Scope → List ℕ → ℕ → Operation → List ℕ → Result (Unit {0}) Error
check_op e s hs p o bs = and_then (encode_op e s (displaced hs (after_branch p)) o bs) (λ a. Ok tt)

-- the tokens of an operation that begins at p, where it is not refused
abbrev pub tokens_op : Encoding → Scope → List ℕ → ℕ → Operation → List ℕ → Tokens
tokens_op e s hs p o bs = tokens_or (encode_op e s (displaced hs (after_branch p)) o bs)

-- the first refusal of operations that go on at p
abbrev pub check_tree : Encoding → Scope → List ℕ → ℕ → Tree → Result (Unit {0}) Error
check_tree e s hs p end = Ok tt
check_tree e s hs p (plain o bs t) = and_then (check_op e s hs p o bs) (λ u. check_tree e s hs (p + extent_op e s o bs) t)
check_tree e s hs p (nest y t) = and_then (check_tree e s (starts e s 0 y) 0 y) (λ u. check_tree e s hs (p + extent_nested e s y) t)

-- the tokens of operations that go on at p, where none is refused
abbrev pub tokens_tree : Encoding → Scope → List ℕ → ℕ → Tree → Tokens
tokens_tree e s hs p end = done
tokens_tree e s hs p (plain o bs t) = joined (tokens_op e s hs p o bs) (tokens_tree e s hs (p + extent_op e s o bs) t)
tokens_tree e s hs p (nest y t) =
    code (by_version e 0xa3 0xf3) (nested (tokens_tree e s (starts e s 0 y) 0 y) (tokens_tree e s hs (p + extent_nested e s y) t))

-- the bytes of operations where no size is refused
abbrev pub extent : Encoding → Scope → Tree → ℕ
extent e s end = 0
extent e s (plain o bs t) = extent_op e s o bs + extent e s t
extent e s (nest y t) = extent_nested e s y + extent e s t
