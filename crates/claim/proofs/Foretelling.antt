-- The size that is asked for just before a write is the number of bytes that it adds.
use Rattle.std.proofs.Common.{◌≡◌, ℕ, ◌+◌, Bool, true, false, not, ltb, length, Some, None, Ok, Err, Option, Result, sym, refl, ap, ◌∙◌}
use Rattle.common.specs.declared.encoding.Encoding.{Encoding}
use Rattle.common.specs.declared.error.Error.{Error}
use Rattle.common.specs.declared.error.Error.TheVariants.{NoRoom, TooManyReferences, NoUnit, NoExpression}
use Rattle.dwarf.specs.Tokens.{Tokens}
use Rattle.dwarf.specs.Bytes.{size_of}
use Rattle.dwarf.specs.References.{references}
use Rattle.rules.specs.Scope.{Scope, in_frame}
use Rattle.rules.specs.Tree.{Tree}
use Rattle.rules.specs.Sizes.{size_tree}
use Rattle.rules.specs.Encode.{encode}
use Rattle.unit.specs.Offsets.{unit_scope}
use Rattle.claim.specs.Section.{State, fits, last_unit}
use Rattle.claim.specs.Calls.{Call, begin_unit, append, place_entry, ask_size, ask_frame_size, write, write_frame, fill, finish, ask_pending, Written, Event, sized, wrote, refused_if, on_tree, on_value, none_begun, with_room, writing, framing, event, Answer, number, refusal, answer}
use Rattle.claim.specs.Claim.{Foretold}
use Rattle.claim.proofs.Encoded.{accepted}

-- a refusal is no number
no_number : (P : Type 0) (e : Error) (n : ℕ) → refusal e ≡ number n → P
no_number P e n h = absurd cc

-- an accepted step was not refused by its test
passed : (P : Type 0) (test : Bool) (e : Error) (ev : Event) (n : ℕ) → answer (refused_if test e ev) ≡ number n → (answer ev ≡ number n → P) → P
passed P true e ev n h k = no_number P e n h
passed P false e ev n h k = k h

module _ (s : State) (encoding : Encoding) (scope : Scope) (n : ℕ) where
  sized_as : (t : Tree) (a : Tokens) → encode encoding scope t ≡ Ok a → number (size_of a) ≡ number n
      → answer (on_value (size_tree encoding scope t) sized) ≡ number n
  sized_as t a h k =
      ap (λ (r : Result ℕ Error). answer (on_value r sized))
      (accepted (record { encoding = encoding; scope = scope; tree = t; tokens = a }) h).rules.sized ∙ k

  -- what is answered once an expression is encoded
  of_encoded : (t : Tree) (r : Result Tokens Error) (next : Tokens → Event) → encode encoding scope t ≡ r
      → ((a : Tokens) → answer (next a) ≡ number n → number (size_of a) ≡ number n) → answer (on_value r next) ≡ number n
      → answer (on_value (size_tree encoding scope t) sized) ≡ number n
  of_encoded t (Ok a) next h next_is k = sized_as t a h (next_is a k)
  of_encoded t (Err e) next h next_is k = no_number _ e n k

  -- what is answered of a book's expression
  of_tree : (x : Option Tree) (next : Tree → Tokens → Event)
      → ((t : Tree) (a : Tokens) → answer (next t a) ≡ number n → number (size_of a) ≡ number n)
      → answer (on_tree x (λ t. on_value (encode encoding scope t) (next t))) ≡ number n → answer (on_tree x (λ t. on_value (size_tree encoding scope t) sized)) ≡ number n
  of_tree None next next_is k = no_number _ NoExpression n k
  of_tree (Some t) next next_is k = of_encoded t (encode encoding scope t) (next t) refl (next_is t) k

  of_writing : (t : Tree) (a : Tokens) → answer (writing s encoding scope t a) ≡ number n → number (size_of a) ≡ number n
  of_writing t a k =
      let w : Written = record { encoding = encoding; scope = scope; tree = t; tokens = a } in
      passed _ (ltb 512 (length s.pending + length (references (length s.bytes) a))) TooManyReferences (with_room s (size_of a) (wrote w)) n k
      (λ l. passed _ (not (fits s (size_of a))) NoRoom (wrote w) n l (λ m. m))

of_framing : (s : State) (e : Encoding) (n : ℕ) (t : Tree) (a : Tokens) → answer (framing s e t a) ≡ number n → number (size_of a) ≡ number n
of_framing s e n t a k = passed _ (not (fits s (size_of a))) NoRoom _ n k (λ m. m)

of_begun : (s : State) (x : Option Tree) (n : ℕ) (test : Bool)
    → answer (refused_if test NoUnit
    (on_tree x (λ t. on_value (encode (last_unit s).encoding (unit_scope (last_unit s)) t) (writing s (last_unit s).encoding (unit_scope (last_unit s)) t))))
    ≡ number n
    → answer (refused_if test NoUnit (on_tree x (λ t. on_value (size_tree (last_unit s).encoding (unit_scope (last_unit s)) t) sized))) ≡ number n
of_begun s x n true k = k
of_begun s x n false k =
    let e : Encoding = (last_unit s).encoding in
    let scope : Scope = unit_scope (last_unit s) in
    of_tree s e scope n x (writing s e scope) (of_writing s e scope n) k

write_foretold : (s : State) (x : Option Tree) (n : ℕ) → answer (event s (write x)) ≡ number n → answer (event s (ask_size x)) ≡ number n
unfolding event
write_foretold s x n h = of_begun s x n (none_begun s) h

frame_foretold : (s : State) (x : Option Tree) (e : Encoding) (n : ℕ) → answer (event s (write_frame x e)) ≡ number n
    → answer (event s (ask_frame_size x e)) ≡ number n
unfolding event
frame_foretold s x e n h = of_tree s e in_frame n x (framing s e) (of_framing s e n) h

pub foretold : (m : State) (c : Call) (a : Answer) → a ≡ answer (event m c) → Foretold m c a
foretold m (begin_unit e) a h = tt
foretold m (append bytes) a h = tt
foretold m (place_entry entry) a h = tt
foretold m (ask_size x) a h = tt
foretold m (ask_frame_size x e) a h = tt
foretold m (write x) a h = λ n k. write_foretold m x n (sym h ∙ k)
foretold m (write_frame x e) a h = λ n k. frame_foretold m x e n (sym h ∙ k)
foretold m (fill offset) a h = tt
foretold m finish a h = tt
foretold m (ask_pending index) a h = tt
