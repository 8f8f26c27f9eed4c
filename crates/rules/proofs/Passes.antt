-- The encoding is its two passes.
use Rattle.std.proofs.Common.{◌≡◌, ℕ, ◌+◌, List, Ok, Err, Result, refl, ◌∙◌, ap₂}
use Rattle.common.specs.declared.encoding.Encoding.{Encoding}
use Rattle.common.specs.declared.error.Error.{Error}
use Rattle.dwarf.specs.Bytes.{joined}
use Rattle.dwarf.specs.Tokens.{Tokens, code, nested}
use Rattle.rules.specs.Results.{and_then}
use Rattle.rules.specs.Encode.{encode_op, encode_tree, starts}
use Rattle.rules.specs.Operands.{by_version, after_branch, displaced}
use Rattle.rules.specs.Passes.{tokens_or, check_op, tokens_op, check_tree, tokens_tree}
use Rattle.rules.specs.Scope.{Scope}
use Rattle.rules.specs.Sizes.{extent_op, extent_nested}
use Rattle.rules.specs.Tree.{Tree, end, plain, nest}

-- tokens that are given where a check passes
abbrev passed : Result (Unit {0}) Error → Tokens → Result Tokens Error
passed check a = and_then check (λ u. Ok a)

-- an answer is its check and its tokens
apart : (x : Result Tokens Error) → x ≡ passed (and_then x (λ a. Ok tt)) (tokens_or x)
apart (Ok a) = refl
apart (Err refusal) = refl

-- two answers in a row, put together by F
both : (check next : Result (Unit {0}) Error) (a b : Tokens) (F : Tokens → Tokens → Tokens) →
    and_then (passed check a) (λ x. and_then (passed next b) (λ y. Ok (F x y))) ≡ passed (and_then check (λ u. next)) (F a b)
both (Ok u) (Ok v) a b F = refl
both (Ok u) (Err refusal) a b F = refl
both (Err refusal) next a b F = refl

-- two steps that are known
steps : (x y z w : Result Tokens Error) (F : Tokens → Tokens → Tokens) → x ≡ z → y ≡ w →
    and_then x (λ a. and_then y (λ b. Ok (F a b))) ≡ and_then z (λ a. and_then w (λ b. Ok (F a b)))
steps x y z w F e f = ap₂ (λ (u v : Result Tokens Error). and_then u (λ a. and_then v (λ b. Ok (F a b)))) e f

pub two_passes : (e : Encoding) (s : Scope) (hs : List ℕ) (p : ℕ) (t : Tree) →
    encode_tree e s hs p t ≡ and_then (check_tree e s hs p t) (λ u. Ok (tokens_tree e s hs p t))
two_passes e s hs p end = refl
two_passes e s hs p (plain o bs t) =
    let x : Result Tokens Error = encode_op e s (displaced hs (after_branch p)) o bs in
    let q : ℕ = p + extent_op e s o bs in
    steps x (encode_tree e s hs q t) (passed (check_op e s hs p o bs) (tokens_op e s hs p o bs)) (passed (check_tree e s hs q t) (tokens_tree e s hs q t)) joined
    (apart x) (two_passes e s hs q t)
    ∙ both (check_op e s hs p o bs) (check_tree e s hs q t) (tokens_op e s hs p o bs) (tokens_tree e s hs q t) joined
two_passes e s hs p (nest y t) =
    let q : ℕ = p + extent_nested e s y in
    let ks : List ℕ = starts e s 0 y in
    let F : Tokens → Tokens → Tokens = λ a r. code (by_version e 0xa3 0xf3) (nested a r) in
    steps (encode_tree e s ks 0 y) (encode_tree e s hs q t) (passed (check_tree e s ks 0 y) (tokens_tree e s ks 0 y)) (passed (check_tree e s hs q t) (tokens_tree e s hs q t)) F
    (two_passes e s ks 0 y) (two_passes e s hs q t)
    ∙ both (check_tree e s ks 0 y) (check_tree e s hs q t) (tokens_tree e s ks 0 y) (tokens_tree e s hs q t) F
