-- What holds of every expression.
use Rattle.std.specs.Prelude.{◌≡◌, ℕ, ◌≤◌, Bool, List, ◌++◌, length, Ok, Err}
use Rattle.common.specs.Errors.{number_of}
use Rattle.common.specs.declared.encoding.Encoding.{Encoding}
use Rattle.common.specs.declared.error.Error.{Error}
use Rattle.dwarf.specs.Bytes.{bytes_of, size_of}
use Rattle.dwarf.specs.References.{shown, Wide}
use Rattle.dwarf.specs.Tokens.{Tokens}
use Rattle.rules.specs.Branches.{marks, inners, places, Leads, Nested}
use Rattle.rules.specs.Encode.{encode, starts}
use Rattle.rules.specs.Scope.{Scope}
use Rattle.rules.specs.Sealed.{count_of, Sealed}
use Rattle.rules.specs.Sizes.{size_tree}
use Rattle.rules.specs.Tree.{Tree}

-- the size is the number of bytes
abbrev pub SizesHold : Type 0
SizesHold =
    (e : Encoding) (s : Scope) (t : Tree) (a : Tokens) → encode e s t ≡ Ok a →
    (size_tree e s t ≡ Ok (size_of a)) × ((big : Bool) → length (bytes_of big a) ≡ size_of a)

-- a sealed expression is refused for no other reason than ValueTooLarge (1), UnsupportedWordSize (2), InvalidAddress (3), InvalidReference (4),
-- UnsupportedExpressionForwardReference (5) and UnsupportedCfiExpressionReference (6)
abbrev pub RefusalsListed : Type 0
RefusalsListed =
    (e : Encoding) (s : Scope) (t : Tree) (refusal : Error) → Sealed (count_of t) t → encode e s t ≡ Err refusal → number_of refusal ≤ 6

-- every reference of an accepted expression has a byte at least, so that a number set down in its place changes that reference alone
abbrev pub ReferencesWide : Type 0
ReferencesWide = (e : Encoding) (s : Scope) (t : Tree) (a : Tokens) → encode e s t ≡ Ok a → Wide a

-- The operations begin where the sizes say. Wherever the bytes stand, and whatever numbers stand for the references, every branch, nested ones too,
-- leads to the first byte of the operation that it names in its own expression, or to that expression's end.
abbrev pub BranchesLead : Type 0
BranchesLead =
    (e : Encoding) (s : Scope) (t : Tree) (a : Tokens) → encode e s t ≡ Ok a →
    (places a ≡ starts e s 0 t)
    × ((big : Bool) (numbers : ℕ → ℕ) (before after : List ℕ) →
    let bs = before ++ (bytes_of big (shown numbers (length before) a) ++ after) in
    Leads big bs (length before) t a × Nested big bs (length before) t (inners (marks 0 a)))
