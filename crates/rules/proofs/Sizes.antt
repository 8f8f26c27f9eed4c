-- The size of an expression is the number of its bytes.
use Rattle.std.proofs.Common.{◌≡◌, ℕ, ◌+◌, List, length, Ok, Result, sym, refl, ap, ◌∙◌, ap₂, arith}
use Rattle.common.specs.declared.encoding.Encoding.{Encoding}
use Rattle.common.specs.declared.error.Error.{Error}
use Rattle.dwarf.specs.Leb.{uleb}
use Rattle.dwarf.specs.Bytes.{size_of, joined}
use Rattle.dwarf.specs.Tokens.{Tokens, code, nested}
use Rattle.rules.specs.Results.{plus}
use Rattle.rules.specs.Claims.{SizesHold}
use Rattle.rules.specs.Encode.{encode_tree}
use Rattle.rules.specs.Operands.{by_version}
use Rattle.rules.specs.Scope.{Scope}
use Rattle.rules.specs.Sizes.{size_op, size_tree, nested_size}
use Rattle.rules.specs.Tree.{Tree}
use Rattle.dwarf.proofs.Joining.{size_joined}
use Rattle.dwarf.proofs.Sizes.{length_bytes}
use Rattle.rules.proofs.OperationSizes.{operation_size}
use Rattle.rules.proofs.Trees.{Grows, by_growth, by_growth_whole}

-- two sizes that are known
pub plus_known : (x y : Result ℕ Error) (m n : ℕ) → x ≡ Ok m → y ≡ Ok n → plus x y ≡ Ok (m + n)
plus_known x y m n e f = ap₂ plus e f

-- what the encoding of the operations that follow is joined to
front_size : (x y : Result ℕ Error) (F : Tokens → Tokens) (k : ℕ) (r : Tokens) → size_of (F r) ≡ k + size_of r → x ≡ Ok k → y ≡ Ok (size_of r) →
    plus x y ≡ Ok (size_of (F r))
front_size x y F k r sums ex ey = plus_known x y k (size_of r) ex ey ∙ ap Ok (sym sums)

sizes-grow : (e : Encoding) (s : Scope) → Grows e s (λ t a. size_tree e s t ≡ Ok (size_of a))
unfolding size_of
sizes-grow e s = record {
  at_end = refl;
  at_plain = λ leads o bs t x r is k.
      front_size (size_op e s o bs) (size_tree e s t) (joined x) (size_of x) r (size_joined x r) (operation_size e s leads o bs x is) k;
  at_nest = λ y t x r j k.
      front_size (nested_size (size_tree e s y)) (size_tree e s t) (λ z. code (by_version e 0xa3 0xf3) (nested x z)) (1 + (length (uleb (size_of x)) + size_of x)) r
      (omega arith) (ap nested_size j) k;
}

pub tree_size : (e : Encoding) (s : Scope) (hs : List ℕ) (p : ℕ) (t : Tree) (a : Tokens) → encode_tree e s hs p t ≡ Ok a → size_tree e s t ≡ Ok (size_of a)
tree_size e s hs p t a h = by_growth e s (λ t a. size_tree e s t ≡ Ok (size_of a)) (sizes-grow e s) hs p t a h

pub sizes_hold : SizesHold
sizes_hold e s t a h = (by_growth_whole e s (λ t a. size_tree e s t ≡ Ok (size_of a)) (sizes-grow e s) t a h, λ big. length_bytes big a)
