-- What writing an expression comes to, by its size and the count of its references.
use Rattle.std.proofs.Common.{◌≡◌, ℕ, ◌+◌, ◌<◌, ◌≤◌, Bool, cond, ltb, leb, List, length, Some, None, Ok, Err, Result, sym, refl, ap, ◌∙◌, subst, arith, length-append}
use Rattle.std.proofs.lemmas.Bool.{lt-ltb, le-ltb, le-leb, lt-leb}
use Rattle.common.specs.declared.encoding.Encoding.{Encoding}
use Rattle.common.specs.declared.error.Error.{Error}
use Rattle.common.specs.declared.error.Error.TheVariants.{NoRoom, TooManyReferences}
use Rattle.common.specs.declared.fixup.DebugInfoFixup.{DebugInfoFixup}
use Rattle.dwarf.specs.Bytes.{joined, size_of}
use Rattle.dwarf.specs.Leb.{uleb}
use Rattle.dwarf.specs.References.{references}
use Rattle.dwarf.specs.Tokens.{Tokens, done, code, unsigned, signed, fixed, displacement, block, short, nested, reference, raw}
use Rattle.book_state.specs.State.{State}
use Rattle.book_state.specs.Whole.{Whole}
use Rattle.book_tree.specs.Store.{tree_in}
use Rattle.checking.specs.Counts.{tally, counted}
use Rattle.expression.specs.Sealed.{tree_at}
use Rattle.positions.specs.Ends.{Filled}
use Rattle.rules.specs.Encode.{encode, encode_tree, starts}
use Rattle.rules.specs.Passes.{check_tree, tokens_tree}
use Rattle.rules.specs.Results.{and_then}
use Rattle.rules.specs.Scope.{Scope}
use Rattle.rules.specs.Sizes.{size_tree}
use Rattle.rules.proofs.Passes.{two_passes}
use Rattle.rules.proofs.Results.{not_refused, value_is}
use Rattle.rules.proofs.Sizes.{tree_size}
use Rattle.writer.specs.Meaning.{Sink, fits}
use Rattle.emit.specs.Walk.{left, come, begin, Walking}
use Rattle.emit.specs.Written.{allowed, written, Wrote}
use Rattle.emit.proofs.Steps.{left_whole, check_whole}

-- as many references as there are tokens for them
tally-references : (at : ℕ) (ts : Tokens) → length (references at ts) ≡ tally ts
unfolding references
tally-references at done = refl
tally-references at (code c ts) = tally-references (at + 1) ts
tally-references at (unsigned n ts) = tally-references (at + length (uleb n)) ts
tally-references at (signed z ts) = tally-references _ ts
tally-references at (fixed width n ts) = tally-references (at + width) ts
tally-references at (displacement z ts) = tally-references (at + 2) ts
tally-references at (block bytes ts) = tally-references _ ts
tally-references at (short bytes ts) = tally-references _ ts
tally-references at (nested inner ts) =
    let k = at + length (uleb (size_of inner)) in
    let a = tally-references k inner in
    let b = tally-references (k + size_of inner) ts in
    length-append (references k inner) (references (k + size_of inner) ts) ∙ omega arith
tally-references at (reference width unit entry ts) = let h = tally-references (at + width) ts in omega arith
tally-references at (raw bytes ts) = tally-references (at + length bytes) ts

-- an expression that is counted was not refused
from_count : (r : Result (Unit {0}) Error) (a : Tokens) (n : ℕ) → Ok n ≡ counted (and_then r (λ u. Ok a)) → (r ≡ Ok tt) × (n ≡ tally a)
from_count (Ok u) a n h = (refl, value_is (λ (m : ℕ). m ≡ tally a) (tally a) n (sym h) refl)
from_count (Err z) a n h = not_refused _ z n (sym h)

joined_done : (a : Tokens) → joined a done ≡ a
unfolding joined
joined_done done = refl
joined_done (code c ts) = ap (code c) (joined_done ts)
joined_done (unsigned n ts) = ap (unsigned n) (joined_done ts)
joined_done (signed z ts) = ap (signed z) (joined_done ts)
joined_done (fixed width n ts) = ap (fixed width n) (joined_done ts)
joined_done (displacement z ts) = ap (displacement z) (joined_done ts)
joined_done (block bytes ts) = ap (block bytes) (joined_done ts)
joined_done (short bytes ts) = ap (short bytes) (joined_done ts)
joined_done (nested inner ts) = ap (nested inner) (joined_done ts)
joined_done (reference width unit entry ts) = ap (reference width unit entry) (joined_done ts)
joined_done (raw bytes ts) = ap (raw bytes) (joined_done ts)

-- a refusal changes nothing
pub wrote_refused : (o : Result Tokens Error) (k : Sink) (rows : List DebugInfoFixup) (z : Error) → o ≡ Err z → Wrote o k k rows rows (Err z)
wrote_refused o k rows z h = subst (λ (y : Result Tokens Error). Wrote y k k rows rows (Err z)) (sym h) (record { answer = refl; after = refl; down = refl })

pub wrote_all : (o : Result Tokens Error) (k k' : Sink) (rows rows' : List DebugInfoFixup) (size : ℕ) (a : Tokens) → o ≡ Ok a → size ≡ size_of a →
    (k', rows') ≡ come k rows a → Wrote o k k' rows rows' (Ok size)
wrote_all o k k' rows rows' size a h n q =
    subst (λ (y : Result Tokens Error). Wrote y k k' rows rows' (Ok size)) (sym h)
    (record { answer = ap Ok n; after = ap (λ (p : Sink × List DebugInfoFixup). p.0) q; down = ap (λ (p : Sink × List DebugInfoFixup). p.1) q })

module _ (e : Encoding) (s : Scope) (b : State) (number : ℕ) (there : number < b.sealed_count) (size refs : ℕ)
    (sized : Ok size ≡ size_tree e s (tree_in b number)) (counts : Ok refs ≡ counted (encode_tree e s (starts e s 0 (tree_in b number)) 0 (tree_in b number))) where
  known : (check_tree e s (starts e s 0 (tree_in b number)) 0 (tree_in b number) ≡ Ok tt) × (refs ≡ tally (tokens_tree e s (starts e s 0 (tree_in b number)) 0 (tree_in b number)))
  known =
      let t = tree_in b number in
      from_count (check_tree e s (starts e s 0 t) 0 t) (tokens_tree e s (starts e s 0 t) 0 t) refs (counts ∙ ap counted (two_passes e s (starts e s 0 t) 0 t))

  encoded_tree : encode_tree e s (starts e s 0 (tree_in b number)) 0 (tree_in b number) ≡ Ok (tokens_tree e s (starts e s 0 (tree_in b number)) 0 (tree_in b number))
  encoded_tree =
      let t = tree_in b number in
      two_passes e s (starts e s 0 t) 0 t ∙ ap (λ (r : Result (Unit {0}) Error). and_then r (λ u. Ok (tokens_tree e s (starts e s 0 t) 0 t))) known.0

  encoded : encode e s (tree_in b number) ≡ Ok (tokens_tree e s (starts e s 0 (tree_in b number)) 0 (tree_in b number))
  encoded =
      let t = tree_in b number in
      ap (λ (r : Result ℕ Error). and_then r (λ n. encode_tree e s (starts e s 0 t) 0 t)) (sym sized) ∙ encoded_tree

  pub size_known : size ≡ size_of (tokens_tree e s (starts e s 0 (tree_in b number)) 0 (tree_in b number))
  size_known =
      let t = tree_in b number in
      let a = tokens_tree e s (starts e s 0 t) 0 t in
      value_is (λ (n : ℕ). n ≡ size_of a) (size_of a) size (sym (tree_size e s (starts e s 0 t) 0 t a encoded_tree) ∙ sym sized) refl

  references_known : (at : ℕ) → length (references at (tokens_tree e s (starts e s 0 (tree_in b number)) 0 (tree_in b number))) ≡ refs
  references_known at = let t = tree_in b number in tally-references at (tokens_tree e s (starts e s 0 t) 0 t) ∙ sym known.1

  tree_there : tree_at b number ≡ Some (tree_in b number)
  tree_there = ap (λ (x : Bool). cond x (Some (tree_in b number)) None) (lt-ltb number b.sealed_count there)

  -- what is allowed is left to be seen
  written_is : (k : Sink) (n : ℕ) → written k n e s (tree_at b number)
      ≡ cond (ltb 512 (n + refs)) (Err TooManyReferences) (cond (leb (length k.content + size) k.capacity) (Ok (tokens_tree e s (starts e s 0 (tree_in b number)) 0 (tree_in b number))) (Err NoRoom))
  written_is k n =
      let a = tokens_tree e s (starts e s 0 (tree_in b number)) 0 (tree_in b number) in
      ap (written k n e s) tree_there
      ∙ (ap (λ (r : Result Tokens Error). and_then r (allowed k n)) encoded
      ∙ (ap (λ (m : ℕ). cond (ltb 512 (n + m)) (Err TooManyReferences) (cond (fits k (size_of a)) (Ok a) (Err NoRoom))) (references_known (length k.content))
      ∙ ap (λ (m : ℕ). cond (ltb 512 (n + refs)) (Err TooManyReferences) (cond (leb (length k.content + m) k.capacity) (Ok a) (Err NoRoom))) (sym size_known)))

  module _ (k : Sink) (n : ℕ) where
    pub written_many : 512 < n + refs → written k n e s (tree_at b number) ≡ Err TooManyReferences
    written_many l = written_is k n ∙ rw (lt-ltb 512 (n + refs) l) refl

    pub written_full : n + refs ≤ 512 → k.capacity < length k.content + size → written k n e s (tree_at b number) ≡ Err NoRoom
    written_full l h = written_is k n ∙ rw (le-ltb 512 (n + refs) l, lt-leb (length k.content + size) k.capacity h) refl

    pub written-fits : n + refs ≤ 512 → length k.content + size ≤ k.capacity → written k n e s (tree_at b number) ≡ Ok (tokens_tree e s (starts e s 0 (tree_in b number)) 0 (tree_in b number))
    written-fits l h = written_is k n ∙ rw (le-ltb 512 (n + refs) l, le-leb (length k.content + size) k.capacity h) refl

  -- all of it is ready to be written
  module _ (w : Whole b) where
    pub left-begin : left e s b (begin number) ≡ tokens_tree e s (starts e s 0 (tree_in b number)) 0 (tree_in b number)
    left-begin = joined_done _ ∙ left_whole e s b w number there

    pub walking_begin : (table : List ℕ) (k : Sink) (all : List DebugInfoFixup) (n : ℕ) → Filled e s b table number → length all ≡ 512 → n + refs ≤ 512 →
        length k.content + size ≤ k.capacity → Walking e s b table k all n (begin number)
    walking_begin table k all n f t l h =
        let a = tokens_tree e s (starts e s 0 (tree_in b number)) 0 (tree_in b number) in
        let z : size_of (left e s b (begin number)) ≡ size = ap size_of left-begin ∙ sym size_known in
        let r : length (references (length k.content) (left e s b (begin number))) ≡ refs = ap (λ (y : Tokens). length (references (length k.content) y)) left-begin ∙ references_known (length k.content) in
        record {
          ready = record {
            deep = omega arith;
            opens = refl;
            top = record { there = there; within = omega arith; shallow = w.counted.shallow number; checked = check_whole e s b w number there ∙ known.0; filled = f };
            frames = λ j i. absurd (omega arith);
          };
          used = omega arith;
          room = omega arith;
          free = omega arith;
        }
