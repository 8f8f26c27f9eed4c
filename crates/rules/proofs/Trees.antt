-- Properties of an expression's tokens that come from those of its operations and nested expressions.
use Rattle.std.proofs.Common.{◌≡◌, ℕ, ◌+◌, List, ℤ, Ok, Option, Result}
use Rattle.common.specs.declared.encoding.Encoding.{Encoding}
use Rattle.common.specs.declared.error.Error.{Error}
use Rattle.dwarf.specs.Bytes.{joined}
use Rattle.dwarf.specs.Tokens.{Tokens, done, code, nested}
use Rattle.op.specs.declared.operation.Operation.{Operation}
use Rattle.rules.specs.Results.{and_then}
use Rattle.rules.specs.Encode.{starts, encode_op, encode_tree, encode}
use Rattle.rules.specs.Operands.{by_version, after_branch, displaced}
use Rattle.rules.specs.Scope.{Scope}
use Rattle.rules.specs.Sizes.{size_tree, extent_op, extent_nested}
use Rattle.rules.specs.Tree.{Tree, end, plain, nest}
use Rattle.rules.proofs.Results.{value_is, first_step, last_step}

-- what is to be shown of a tree and its tokens: at the end, with an operation in front, and with an entry value in front
pub record Grows (e : Encoding) (s : Scope) (Q : Tree → Tokens → Type 0) : Type 0 where
  pub at_end : Q end done
  pub at_plain : (leads : Option ℕ → Result ℤ Error) (o : Operation) (bs : List ℕ) (t : Tree) (x r : Tokens) → encode_op e s leads o bs ≡ Ok x → Q t r →
      Q (plain o bs t) (joined x r)
  pub at_nest : (y t : Tree) (x r : Tokens) → Q y x → Q t r → Q (nest y t) (code (by_version e 0xa3 0xf3) (nested x r))

module _ (e : Encoding) (s : Scope) (Q : Tree → Tokens → Type 0) (g : Grows e s Q) where
  pub by_growth : (hs : List ℕ) (p : ℕ) (t : Tree) (a : Tokens) → encode_tree e s hs p t ≡ Ok a → Q t a
  by_growth hs p end a h = value_is (Q end) done a h g.at_end
  by_growth hs p (plain o bs t) a h =
      first_step (encode_op e s (displaced hs (after_branch p)) o bs) (λ x. and_then (encode_tree e s hs (p + extent_op e s o bs) t) (λ r. Ok (joined x r)))
      (Q (plain o bs t) a) a h
      (λ x is k. last_step (encode_tree e s hs (p + extent_op e s o bs) t) (joined x) (Q (plain o bs t)) a k
      (λ r ir. g.at_plain (displaced hs (after_branch p)) o bs t x r is (by_growth hs (p + extent_op e s o bs) t r ir)))
  by_growth hs p (nest y t) a h =
      first_step (encode_tree e s (starts e s 0 y) 0 y)
      (λ x. and_then (encode_tree e s hs (p + extent_nested e s y) t) (λ r. Ok (code (by_version e 0xa3 0xf3) (nested x r)))) (Q (nest y t) a) a h
      (λ x is k. last_step (encode_tree e s hs (p + extent_nested e s y) t) (λ r. code (by_version e 0xa3 0xf3) (nested x r)) (Q (nest y t)) a k
      (λ r ir. g.at_nest y t x r (by_growth (starts e s 0 y) 0 y x is) (by_growth hs (p + extent_nested e s y) t r ir)))

  pub by_growth_whole : (t : Tree) (a : Tokens) → encode e s t ≡ Ok a → Q t a
  by_growth_whole t a h =
      first_step (size_tree e s t) (λ size. encode_tree e s (starts e s 0 t) 0 t) (Q t a) a h (λ n is k. by_growth (starts e s 0 t) 0 t a k)
