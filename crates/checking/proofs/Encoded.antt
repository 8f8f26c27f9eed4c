-- Operations in a row are encoded one after another.
use Rattle.std.proofs.Common.{◌≡◌, ℕ, ◌+◌, List, ◌∷◌, Ok, Err, Result, sym, refl, ap, ◌∙◌, arith}
use Rattle.common.specs.declared.encoding.Encoding.{Encoding}
use Rattle.common.specs.declared.error.Error.{Error}
use Rattle.dwarf.specs.Bytes.{joined}
use Rattle.dwarf.specs.Tokens.{Tokens, done, code, unsigned, signed, fixed, displacement, block, short, nested, reference, raw}
use Rattle.op.specs.declared.operation.Operation.{Operation}
use Rattle.book_state.specs.State.{State}
use Rattle.book_tree.specs.Store.{store_of, tree_in, size_by, size_in}
use Rattle.book_tree.proofs.Sums.{plus-plus}
use Rattle.rules.specs.Encode.{encode_tree, starts}
use Rattle.rules.specs.Operands.{by_version}
use Rattle.rules.specs.Results.{and_then, plus, amount}
use Rattle.rules.specs.Scope.{Scope}
use Rattle.rules.specs.Tree as tree
use Rattle.checking.specs.Counts.{tally, counted, encode_by}

through : {X Y Z : Type 0} (r : Result X Error) (f : X → Y) (g : Y → Result Z Error) → and_then (and_then r (λ x. Ok (f x))) g ≡ and_then r (λ x. g (f x))
through (Ok x) f g = refl
through (Err z) f g = refl

pub tally_join : (a r : Tokens) → tally (joined a r) ≡ tally a + tally r
unfolding joined
tally_join done r = omega arith
tally_join (code c ts) r = tally_join ts r
tally_join (unsigned n ts) r = tally_join ts r
tally_join (signed z ts) r = tally_join ts r
tally_join (fixed width n ts) r = tally_join ts r
tally_join (displacement z ts) r = tally_join ts r
tally_join (block bytes ts) r = tally_join ts r
tally_join (short bytes ts) r = tally_join ts r
tally_join (nested inner ts) r = let h = tally_join ts r in omega arith
tally_join (reference width unit entry ts) r = let h = tally_join ts r in omega arith
tally_join (raw bytes ts) r = tally_join ts r

-- an operation in front of others
pub grow-encode : (e : Encoding) (s : Scope) (hs : List ℕ) (p : ℕ) (inner : ℕ → tree.Tree) (h : tree.Shape) (t : tree.Tree) →
    encode_tree e s hs p (tree.grow inner h t)
    ≡ and_then (encode_by e s hs p inner h) (λ a. and_then (encode_tree e s hs (p + amount (size_by e s inner h)) t) (λ r. Ok (joined a r)))
unfolding joined
grow-encode e s hs p inner (tree.single o bs) t = refl
grow-encode e s hs p inner (tree.nesting n) t =
    sym (through (encode_tree e s (starts e s 0 (inner n)) 0 (inner n)) (λ a. code (by_version e 0xa3 0xf3) (nested a done))
    (λ a. and_then (encode_tree e s hs (p + amount (size_by e s inner (tree.nesting n))) t) (λ r. Ok (joined a r))))

counted_join : (a r : Result Tokens Error) → counted (and_then a (λ x. and_then r (λ y. Ok (joined x y)))) ≡ plus (counted a) (counted r)
counted_join (Ok x) (Ok y) = ap Ok (tally_join x y)
counted_join (Ok x) (Err z) = refl
counted_join (Err z) r = refl

-- the tokens of operations in a row
abbrev pub rows_encode : Encoding → Scope → State → List ℕ → ℕ → List Operation → Result Tokens Error
rows_encode e s b hs p xs = encode_tree e s hs p (tree.rows (tree_in b) (store_of b) xs)

module _ (e : Encoding) (s : Scope) (b : State) (hs : List ℕ) (p : ℕ) (xs : List Operation) (t : ℕ) (r : Result ℕ Error) where
  counted_more : (x : Operation) (ys : List Operation) → xs ≡ x ∷ ys →
      counted (rows_encode e s b hs p xs)
      ≡ plus (counted (encode_by e s hs p (tree_in b) (tree.shape (store_of b) x))) (counted (rows_encode e s b hs (p + amount (size_in e s b x)) ys))
  counted_more x ys q =
      ap (λ l. counted (rows_encode e s b hs p l)) q
      ∙ (ap counted (grow-encode e s hs p (tree_in b) (tree.shape (store_of b) x) (tree.rows (tree_in b) (store_of b) ys))
      ∙ counted_join (encode_by e s hs p (tree_in b) (tree.shape (store_of b) x)) (rows_encode e s b hs (p + amount (size_in e s b x)) ys))

  -- the first operation's references are added
  pub count_more : (x : Operation) (ys : List Operation) (n : ℕ) → xs ≡ x ∷ ys → Ok n ≡ counted (encode_by e s hs p (tree_in b) (tree.shape (store_of b) x)) →
      plus (Ok t) (counted (rows_encode e s b hs p xs)) ≡ r → plus (Ok (t + n)) (counted (rows_encode e s b hs (p + amount (size_in e s b x)) ys)) ≡ r
  count_more x ys n q k h =
      let rest = counted (rows_encode e s b hs (p + amount (size_in e s b x)) ys) in
      sym (plus-plus t n rest) ∙ (ap (λ y. plus (Ok t) (plus y rest)) k ∙ (ap (plus (Ok t)) (sym (counted_more x ys q)) ∙ h))

  -- or refused
  pub count_stop : (x : Operation) (ys : List Operation) (z : Error) → xs ≡ x ∷ ys → Err z ≡ counted (encode_by e s hs p (tree_in b) (tree.shape (store_of b) x)) →
      plus (Ok t) (counted (rows_encode e s b hs p xs)) ≡ r → Err z ≡ r
  count_stop x ys z q k h =
      let rest = counted (rows_encode e s b hs (p + amount (size_in e s b x)) ys) in
      ap (λ y. plus (Ok t) (plus y rest)) k ∙ (ap (plus (Ok t)) (sym (counted_more x ys q)) ∙ h)
