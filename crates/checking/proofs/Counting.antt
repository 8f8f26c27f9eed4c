-- The references of one operation.
use Rattle.std.proofs.Common.{◌≡◌, ℕ, ◌+◌, ◌<◌, ◌≤◌, ◌⊎◌, List, [], length, get_or, ℤ, pos, IfOk, Ok, Err, Option, Result, sym, refl, ap, ◌∙◌, subst, ⊎_elim, arith}
use Rattle.common.specs.declared.encoding.Encoding.{Encoding}
use Rattle.common.specs.declared.error.Error.{Error}
use Rattle.dwarf.specs.Tokens.{Tokens, done, code, displacement}
use Rattle.op.specs.declared.operation.Operation.{Operation}
use Rattle.op.specs.declared.operation.Operation.TheVariants as op
use Rattle.book_state.specs.Operations.{shape}
use Rattle.book_state.specs.State.{State, data_by, op_at, expression_at}
use Rattle.book_state.specs.Whole.{Whole}
use Rattle.book_tree.specs.Store.{store_of, tree_in, InBook, size_in}
use Rattle.book_tree.proofs.Shapes.{data_length}
use Rattle.positions.proofs.Reading.{next_at}
use Rattle.rules.specs.Encode.{encode_op, starts}
use Rattle.rules.specs.Operands.{displaced}
use Rattle.rules.specs.Results.{and_then, amount}
use Rattle.rules.specs.Scope.{Scope}
use Rattle.rules.specs.Tree as tree
use Rattle.checking.specs.Counts.{tally, counted, encode_by, encode_at}

pub made_le : (r : Result ℕ Error) (m n : ℕ) → m ≤ n → IfOk r (λ k. k ≤ m) → IfOk r (λ k. k ≤ n)
made_le (Ok k) m n l h = omega arith
made_le (Err z) m n l h = tt

module _ (e : Encoding) (s : Scope) (b : State) (hs : List ℕ) (p : ℕ) (x : Operation) where
  -- a branch has none
  drops : (d : Result ℤ Error) (f : ℤ → Tokens) → ((z : ℤ) → tally (f z) ≡ 0) → and_then d (λ z. Ok 0) ≡ counted (and_then d (λ z. Ok (f z)))
  drops (Ok z) f h = ap Ok (sym (h z))
  drops (Err z) f h = refl

  pub skip_count : (t : Option ℕ) (after : ℕ) (d : Result ℤ Error) → x ≡ op.Skip t → after ≡ p + 3 → d ≡ displaced hs after t →
      and_then d (λ z. Ok 0) ≡ counted (encode_by e s hs p (tree_in b) (tree.shape (store_of b) x))
  skip_count t after d q n h =
      drops d (λ z. code 0x2f (displacement z done)) (λ z. refl)
      ∙ (ap (λ y. counted (and_then y (λ z. Ok (code 0x2f (displacement z done))))) (h ∙ ap (λ k. displaced hs k t) n)
      ∙ sym (ap (λ o. counted (encode_by e s hs p (tree_in b) (tree.shape (store_of b) o))) q))

  pub branch_count : (t : Option ℕ) (after : ℕ) (d : Result ℤ Error) → x ≡ op.Branch t → after ≡ p + 3 → d ≡ displaced hs after t →
      and_then d (λ z. Ok 0) ≡ counted (encode_by e s hs p (tree_in b) (tree.shape (store_of b) x))
  branch_count t after d q n h =
      drops d (λ z. code 0x28 (displacement z done)) (λ z. refl)
      ∙ (ap (λ y. counted (and_then y (λ z. Ok (code 0x28 (displacement z done))))) (h ∙ ap (λ k. displaced hs k t) n)
      ∙ sym (ap (λ o. counted (encode_by e s hs p (tree_in b) (tree.shape (store_of b) o))) q))

  pub branching_count : (t : Option ℕ) (after : ℕ) (d : Result ℤ Error) → (x ≡ op.Skip t) ⊎ (x ≡ op.Branch t) → after ≡ p + 3 → d ≡ displaced hs after t →
      and_then d (λ z. Ok 0) ≡ counted (encode_by e s hs p (tree_in b) (tree.shape (store_of b) x))
  branching_count t after d q n h = ⊎_elim (λ (i : x ≡ op.Skip t). skip_count t after d i n h) (λ (i : x ≡ op.Branch t). branch_count t after d i n h) q

-- a branch has three bytes
three : (e : Encoding) (s : Scope) (b : State) (x : Operation) (t : Option ℕ) → (x ≡ op.Skip t) ⊎ (x ≡ op.Branch t) → amount (size_in e s b x) ≡ 3
three e s b x t q = ⊎_elim (λ (i : x ≡ op.Skip t). ap (λ o. amount (size_in e s b o)) i) (λ (i : x ≡ op.Branch t). ap (λ o. amount (size_in e s b o)) i) q

pub after_three : (e : Encoding) (s : Scope) (b : State) (w : Whole b) (k i : ℕ) (t : Option ℕ) → k < b.sealed_count → i < (expression_at b k).count →
    (op_at b ((expression_at b k).start + i) ≡ op.Skip t) ⊎ (op_at b ((expression_at b k).start + i) ≡ op.Branch t) →
    get_or (starts e s 0 (tree_in b k)) (i + 1) 0 ≡ get_or (starts e s 0 (tree_in b k)) i 0 + 3
after_three e s b w k i t there l q =
    next_at e s b w k there i l
    ∙ ap (λ (m : ℕ). get_or (starts e s 0 (tree_in b k)) i 0 + m) (three e s b (op_at b ((expression_at b k).start + i)) t q)

-- a branch sets no reference down, and is refused where its displacement is
pub branch-counted : (e : Encoding) (s : Scope) (b : State) (w : Whole b) (k i : ℕ) → k < b.sealed_count → i < (expression_at b k).count →
    (x : Operation) → x ≡ op_at b ((expression_at b k).start + i) → (t : Option ℕ) → (x ≡ op.Skip t) ⊎ (x ≡ op.Branch t) →
    (d : Result ℤ Error) → d ≡ displaced (starts e s 0 (tree_in b k)) (get_or (starts e s 0 (tree_in b k)) (i + 1) 0) t →
    and_then d (λ z. Ok 0) ≡ counted (encode_at e s b k i)
branch-counted e s b w k i there l x here t q d h =
    let hs = starts e s 0 (tree_in b k) in
    let y = op_at b ((expression_at b k).start + i) in
    let p : (y ≡ op.Skip t) ⊎ (y ≡ op.Branch t) = subst (λ (z : Operation). (z ≡ op.Skip t) ⊎ (z ≡ op.Branch t)) here q in
    branching_count e s b hs (get_or hs i 0) y t (get_or hs (i + 1) 0) d p (after_three e s b w k i t there l p) h

-- what is neither an entry value nor a branch counts by itself
abbrev Counts : Encoding → Scope → Operation → Result ℕ Error → Type 0
Counts e s x r = (bs : List ℕ) → length bs ≡ data_by (shape x) → r ≡ counted (encode_op e s (λ _. Ok (pos 0)) x bs)

pub plain-count : (e : Encoding) (s : Scope) (b : State) (hs : List ℕ) (p : ℕ) (x : Operation) (r : Result ℕ Error) → InBook b (shape x) →
    ((m : ℕ) → x ≡ op.EntryValue m → ⊥) → ((t : Option ℕ) → x ≡ op.Skip t → ⊥) → ((t : Option ℕ) → x ≡ op.Branch t → ⊥) →
    Counts e s x r → r ≡ counted (encode_by e s hs p (tree_in b) (tree.shape (store_of b) x))
plain-count e s b hs p (op.Raw d) r i n k j h = h (tree.bytes_at (store_of b) d) (data_length b d i)
plain-count e s b hs p (op.Simple c) r i n k j h = h [] refl
plain-count e s b hs p (op.Address a) r i n k j h = h [] refl
plain-count e s b hs p (op.UnsignedConstant v) r i n k j h = h [] refl
plain-count e s b hs p (op.SignedConstant v) r i n k j h = h [] refl
plain-count e s b hs p (op.ConstantType t d) r i n k j h = h (tree.bytes_at (store_of b) d) (data_length b d i)
plain-count e s b hs p (op.FrameOffset o) r i n k j h = h [] refl
plain-count e s b hs p (op.RegisterOffset q o) r i n k j h = h [] refl
plain-count e s b hs p (op.RegisterType q t) r i n k j h = h [] refl
plain-count e s b hs p (op.Pick v) r i n k j h = h [] refl
plain-count e s b hs p (op.Deref sp) r i n k j h = h [] refl
plain-count e s b hs p (op.DerefSize sp v) r i n k j h = h [] refl
plain-count e s b hs p (op.DerefType sp v t) r i n k j h = h [] refl
plain-count e s b hs p (op.PlusConstant v) r i n k j h = h [] refl
plain-count e s b hs p (op.Skip t) r i n k j h = absurd (k t refl)
plain-count e s b hs p (op.Branch t) r i n k j h = absurd (j t refl)
plain-count e s b hs p (op.Call v) r i n k j h = h [] refl
plain-count e s b hs p (op.CallRef v) r i n k j h = h [] refl
plain-count e s b hs p (op.VariableValue v) r i n k j h = h [] refl
plain-count e s b hs p (op.Convert t) r i n k j h = h [] refl
plain-count e s b hs p (op.Reinterpret t) r i n k j h = h [] refl
plain-count e s b hs p (op.EntryValue m) r i n k j h = absurd (n m refl)
plain-count e s b hs p (op.Register q) r i n k j h = h [] refl
plain-count e s b hs p (op.ImplicitValue d) r i n k j h = h (tree.bytes_at (store_of b) d) (data_length b d i)
plain-count e s b hs p (op.ImplicitPointer v o) r i n k j h = h [] refl
plain-count e s b hs p (op.Piece v) r i n k j h = h [] refl
plain-count e s b hs p (op.BitPiece v o) r i n k j h = h [] refl
plain-count e s b hs p (op.ParameterRef v) r i n k j h = h [] refl
