-- Where the displacements in tokens lead.
use Rattle.std.proofs.Common.{◌≡◌, ℕ, ◌+◌, ◌<◌, Bool, true, false, cond, ltb, List, [], ◌∷◌, ◌++◌, length, get_or, ℤ, pos, ◌+ℤ◌, ◌-ℤ◌, Some, None, Ok, Err, Option, Result, sym, refl, ap, ◌∙◌, subst, ap₂, arith}
use lib.IntN.{ -ℤ-+ℤ_cancel}
use Rattle.std.proofs.lemmas.Bool.{ltb-true}
use Rattle.common.specs.declared.encoding.Encoding.{Encoding}
use Rattle.common.specs.declared.error.Error.{Error}
use Rattle.common.specs.declared.error.Error.TheVariants.{ValueTooLarge, BadTarget}
use Rattle.dwarf.specs.Leb.{uleb}
use Rattle.dwarf.specs.Bytes.{size_of, joined}
use Rattle.dwarf.specs.Tokens.{Tokens, done, code, nested}
use Rattle.op.specs.declared.operation.Operation.{Operation}
use Rattle.rules.specs.Results.{and_then, amount}
use Rattle.rules.specs.Branches.{Mark, first, marks, Jump, Inner, firsts, jumps, inners, places, named, targets}
use Rattle.rules.specs.Encode.{encode_op, starts, encode_tree}
use Rattle.rules.specs.Kinds.{Kind, given, bare, branch, nesting, other, kind_of}
use Rattle.rules.specs.Operands.{by_version, in_two_bytes, displacement_from, after_branch, displaced}
use Rattle.rules.specs.Scope.{Scope}
use Rattle.rules.specs.Sizes.{size_tree, nested_size, extent_op, extent_nested}
use Rattle.rules.specs.Tree.{Tree, end, plain, nest}
use Rattle.dwarf.proofs.Joining.{size_joined}
use Rattle.rules.proofs.Marks.{marks-joined}
use Rattle.rules.proofs.OperationMarks.{Marked, operation_marks}
use Rattle.rules.proofs.OperationSizes.{operation_size}
use Rattle.rules.proofs.Results.{value_is, first_step, last_step}
use Rattle.rules.proofs.Sizes.{tree_size}

-- each branch names a place, and its displacement, which fits two bytes, leads there
abbrev pub Aim : List ℕ → List Jump → List (Option ℕ) → Type 0
Aim hs [] [] = Unit {0}
Aim hs [] (k ∷ ks) = ⊥
Aim hs (j ∷ js) [] = ⊥
Aim hs (j ∷ js) (None ∷ ks) = ⊥
Aim hs (j ∷ js) (Some k ∷ ks) =
    (k < length hs) × (j.by +ℤ pos (j.place + 2) ≡ pos (get_or hs k 0)) × (in_two_bytes j.by ≡ true) × Aim hs js ks

-- and so in nested expressions, each within its own places
abbrev pub Inside : Tree → List Inner → Type 0
Inside end [] = Unit {0}
Inside end (k ∷ ks) = ⊥
Inside (plain o bs t) ks = Inside t ks
Inside (nest y t) [] = ⊥
Inside (nest y t) (k ∷ ks) =
    Aim (places k.run) (jumps (marks 0 k.run)) (targets y) × Inside y (inners (marks 0 k.run)) × Inside t ks

-- a displacement that is not refused leads to the place named
displaced_aims : (hs : List ℕ) (after place : ℕ) (target : Option ℕ) (z : ℤ) (js : List Jump) (ks : List (Option ℕ)) →
    displaced hs after target ≡ Ok z → place + 2 ≡ after → Aim hs js ks → Aim hs (record { place = place; by = z } ∷ js) (target ∷ ks)
displaced_aims hs after place None z js ks h e rest = cc
displaced_aims hs after place (Some k) z js ks h e rest = go (ltb k (length hs)) refl h
  where
    to : ℕ
    to = get_or hs k 0

    Goal : ℤ → Type 0
    Goal y = Aim hs (record { place = place; by = y } ∷ js) (Some k ∷ ks)

    far : k < length hs → (b : Bool) → in_two_bytes (pos to -ℤ pos after) ≡ b → cond b (Ok (pos to -ℤ pos after)) (Err ValueTooLarge) ≡ Ok z → Goal z
    far below true fits g =
        value_is Goal (pos to -ℤ pos after) z g
        (below, ap (λ (n : ℕ). (pos to -ℤ pos after) +ℤ pos n) e ∙ -ℤ-+ℤ_cancel (pos to) (pos after), fits, rest)
    far below false wide g = absurd (cc)

    go : (b : Bool) → ltb k (length hs) ≡ b → and_then (cond b (Ok to) (Err BadTarget)) (displacement_from after) ≡ Ok z → Goal z
    go true below g = far (ltb-true k (length hs) below) (in_two_bytes (pos to -ℤ pos after)) refl g
    go false past g = absurd (cc)

-- what an operation's marks, in front of others, add
pub record Added (hs : List ℕ) (p : ℕ) (k : Kind) (ks : List (Option ℕ)) (front ms : List Mark) : Type 0 where
  pub begins : firsts (front ++ ms) ≡ p ∷ firsts ms
  pub aims : Aim hs (jumps ms) ks → Aim hs (jumps (front ++ ms)) (named k ks)
  pub holds : inners (front ++ ms) ≡ inners ms

once_added : (hs : List ℕ) (p : ℕ) (ks : List (Option ℕ)) (front ms : List Mark) → front ≡ first p ∷ [] → Added hs p other ks front ms
once_added hs p ks front ms e = subst (λ f. Added hs p other ks f ms) (sym e) (record { begins = refl; aims = λ a. a; holds = refl })

added : (hs : List ℕ) (p : ℕ) (k : Kind) (ks : List (Option ℕ)) (a : Tokens) (ms : List Mark) → Marked (displaced hs (after_branch p)) k a →
    Added hs p k ks (marks p a) ms
added hs p given ks a ms m =
    let r = once_added hs p ks (marks p a) ms (m p) in record { begins = r.begins; aims = r.aims; holds = r.holds }
added hs p (bare c) ks a ms m =
    let r = once_added hs p ks (marks p a) ms (m p) in record { begins = r.begins; aims = r.aims; holds = r.holds }
added hs p (branch target) ks a ms m =
    subst (λ f. Added hs p (branch target) ks f ms) (sym (m.2 p))
    (record { begins = refl; aims = λ rest. displaced_aims hs (after_branch p) (p + 1) target m.0 (jumps ms) ks m.1 (omega arith) rest; holds = refl })
added hs p (nesting n) ks a ms m =
    let r = once_added hs p ks (marks p a) ms (m p) in record { begins = r.begins; aims = r.aims; holds = r.holds }
added hs p other ks a ms m = once_added hs p ks (marks p a) ms (m p)

-- what holds of the tokens of operations that go on at p
pub record Landed (e : Encoding) (s : Scope) (hs : List ℕ) (p : ℕ) (t : Tree) (a : Tokens) : Type 0 where
  pub begins : firsts (marks p a) ++ ((p + size_of a) ∷ []) ≡ starts e s p t
  pub aims : Aim hs (jumps (marks p a)) (targets t)
  pub holds : Inside t (inners (marks p a))

module _ (e : Encoding) (s : Scope) (hs : List ℕ) (p : ℕ) (t : Tree) (r : Tokens) where
  -- an operation in front, of a size that is known
  landed_plain : (o : Operation) (bs : List ℕ) (x : Tokens) → encode_op e s (displaced hs (after_branch p)) o bs ≡ Ok x → Landed e s hs (p + extent_op e s o bs) t r →
      Landed e s hs p (plain o bs t) (joined x r)
  landed_plain o bs x is l =
      let n : ℕ = extent_op e s o bs in
      let size : n ≡ size_of x = ap amount (operation_size e s (displaced hs (after_branch p)) o bs x is) in
      let ms : List Mark = marks (p + n) r in
      let whole : marks p (joined x r) ≡ marks p x ++ ms = marks-joined p x r ∙ ap (λ (k : ℕ). marks p x ++ marks (p + k) r) (sym size) in
      let g = added hs p (kind_of o) (targets t) x ms (operation_marks e s (displaced hs (after_branch p)) o bs x is) in
      let ends : p + size_of (joined x r) ≡ p + n + size_of r = omega (arith, size_joined x r) in
      record {
        begins =
            ap₂ (λ (m : List Mark) (k : ℕ). firsts m ++ (k ∷ [])) whole ends
            ∙ ap (λ f. f ++ ((p + n + size_of r) ∷ [])) g.begins ∙ ap (λ f. p ∷ f) l.begins;
        aims = subst (λ m. Aim hs (jumps m) (targets (plain o bs t))) (sym whole) (g.aims l.aims);
        holds = subst (Inside t) (sym (ap inners whole ∙ g.holds)) l.holds;
      }

  -- an entry value in front
  landed_nest : (y : Tree) (c : ℕ) (x : Tokens) → size_tree e s y ≡ Ok (size_of x) → Landed e s (starts e s 0 y) 0 y x →
      Landed e s hs (p + extent_nested e s y) t r → Landed e s hs p (nest y t) (code c (nested x r))
  unfolding size_of
  landed_nest y c x is within l =
      let head : ℕ = length (uleb (size_of x)) in
      let size : extent_nested e s y ≡ 1 + (head + size_of x) = ap (λ (z : Result ℕ Error). amount (nested_size z)) is in
      let place : p + 1 + (head + size_of x) ≡ p + extent_nested e s y = omega arith in
      let ends : p + (1 + (head + (size_of x + size_of r))) ≡ p + extent_nested e s y + size_of r = omega arith in
      let own : places x ≡ starts e s 0 y = ap (λ (k : ℕ). firsts (marks 0 x) ++ (k ∷ [])) (omega arith) ∙ within.begins in
      record {
        begins =
            ap₂ (λ (m k : ℕ). p ∷ (firsts (marks m r) ++ (k ∷ []))) place ends ∙ ap (λ f. p ∷ f) l.begins;
        aims = subst (λ (m : ℕ). Aim hs (jumps (marks m r)) (targets t)) (sym place) l.aims;
        holds = (
          subst (λ f. Aim f (jumps (marks 0 x)) (targets y)) (sym own) within.aims,
          within.holds,
          subst (λ (m : ℕ). Inside t (inners (marks m r))) (sym place) l.holds,
        );
      }

pub tree_landed : (e : Encoding) (s : Scope) (hs : List ℕ) (p : ℕ) (t : Tree) (a : Tokens) → encode_tree e s hs p t ≡ Ok a → Landed e s hs p t a
unfolding size_of
tree_landed e s hs p end a h =
    value_is (Landed e s hs p end) done a h (record { begins = ap (λ (k : ℕ). k ∷ []) (omega arith); aims = tt; holds = tt })
tree_landed e s hs p (plain o bs t) a h =
    first_step (encode_op e s (displaced hs (after_branch p)) o bs) (λ x. and_then (encode_tree e s hs (p + extent_op e s o bs) t) (λ r. Ok (joined x r)))
    (Landed e s hs p (plain o bs t) a) a h
    (λ x is k. last_step (encode_tree e s hs (p + extent_op e s o bs) t) (joined x) (Landed e s hs p (plain o bs t)) a k
    (λ r ir. landed_plain e s hs p t r o bs x is (tree_landed e s hs (p + extent_op e s o bs) t r ir)))
tree_landed e s hs p (nest y t) a h =
    first_step (encode_tree e s (starts e s 0 y) 0 y)
    (λ x. and_then (encode_tree e s hs (p + extent_nested e s y) t) (λ r. Ok (code (by_version e 0xa3 0xf3) (nested x r))))
    (Landed e s hs p (nest y t) a) a h
    (λ x is k. last_step (encode_tree e s hs (p + extent_nested e s y) t) (λ r. code (by_version e 0xa3 0xf3) (nested x r)) (Landed e s hs p (nest y t)) a k
    (λ r ir. landed_nest e s hs p t r y (by_version e 0xa3 0xf3) x (tree_size e s (starts e s 0 y) 0 y x is)
    (tree_landed e s (starts e s 0 y) 0 y x is) (tree_landed e s hs (p + extent_nested e s y) t r ir)))
