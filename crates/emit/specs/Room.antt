-- Room in a sink, and the tokens of one operation.
use Rattle.std.specs.Prelude.{◌≡◌, ℕ, ◌+◌, ◌≤◌, true, List, length, ℤ, is_ok, Ok}
use Rattle.common.specs.declared.encoding.Encoding.{Encoding}
use Rattle.dwarf.specs.Tokens.{Tokens}
use Rattle.op.specs.declared.operation.Operation.{Operation}
use Rattle.rules.specs.Encode.{encode_op}
use Rattle.rules.specs.Passes.{tokens_or}
use Rattle.rules.specs.Scope.{Scope}
use Rattle.writer.specs.Meaning.{Sink}

-- so many bytes more fit a sink
abbrev pub Room : Sink → ℕ → Type 0
Room k n = length k.content + n ≤ k.capacity

-- an operation is not refused, with a displacement for a branch
abbrev pub Encoded : Encoding → Scope → ℤ → Operation → List ℕ → Type 0
Encoded e s z o bs = is_ok (encode_op e s (λ _. Ok z) o bs) ≡ true

-- its tokens
abbrev pub op_tokens : Encoding → Scope → ℤ → Operation → List ℕ → Tokens
op_tokens e s z o bs = tokens_or (encode_op e s (λ _. Ok z) o bs)
