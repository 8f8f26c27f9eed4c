-- An operation's bytes, written in two parts.
use Rattle.std.proofs.Common.{◌≡◌, ℕ, ◌+◌, Bool, true, List, [], ◌++◌, length, ℤ, is_ok as std_is_ok, Ok, Err, Result, sym, refl, ap, ◌∙◌, append_assoc, arith, length-append}
use Rattle.common.specs.declared.encoding.Encoding.{Encoding}
use Rattle.common.specs.declared.error.Error.{Error}
use Rattle.dwarf.specs.Bytes.{bytes_of}
use Rattle.dwarf.specs.Tokens.{Tokens}
use Rattle.op.specs.declared.operation.Operation.{Operation}
use Rattle.head.specs.declared.head.Head.{Head}
use Rattle.head.specs.Heads.{held}
use Rattle.operation.specs.Fronts.{front, data_in}
use Rattle.operation.proofs.Fronts.{operation_bytes}
use Rattle.rules.specs.Encode.{encode_op}
use Rattle.rules.specs.Passes.{tokens_or}
use Rattle.rules.specs.Results.{and_then}
use Rattle.rules.specs.Scope.{Scope}
use Rattle.writer.specs.Meaning.{Sink}
use Rattle.emit.specs.Room.{Room, Encoded, op_tokens}
use Rattle.emit.specs.Walk.{grown}

pub is_ok : (x : Result Tokens Error) → std_is_ok x ≡ true → x ≡ Ok (tokens_or x)
is_ok (Ok a) h = refl
is_ok (Err z) h = let n : ◌≡◌ {A = ℕ} 0 1 = cc in absurd (omega arith)

head_of : (big : Bool) (x : Result Tokens Error) (h : Head) → std_is_ok x ≡ true → Ok (held h) ≡ and_then x (λ a. Ok (front big [] a)) → held h ≡ front big [] (tokens_or x)
head_of big (Ok a) h i q = cc
head_of big (Err z) h i q = let n : ◌≡◌ {A = ℕ} 0 1 = cc in absurd (omega arith)

module _ (e : Encoding) (s : Scope) (z : ℤ) (o : Operation) (bs : List ℕ) (big : Bool) (h : Head)
    (known : Encoded e s z o bs) (only : data_in o bs ≡ bs)
    (q : Ok (held h) ≡ and_then (encode_op e s (λ _. Ok z) o bs) (λ a. Ok (front big [] a))) where
  pub bytes_are : bytes_of big (op_tokens e s z o bs) ≡ held h ++ bs
  bytes_are =
      operation_bytes e s (λ _. Ok z) o bs (op_tokens e s z o bs) big (is_ok (encode_op e s (λ _. Ok z) o bs) known)
      ∙ (ap (λ y. y ++ data_in o bs) (sym (head_of big (encode_op e s (λ _. Ok z) o bs) h known q)) ∙ ap (λ y. held h ++ y) only)

pub grown_twice : (k : Sink) (x y : List ℕ) → grown (grown k x) y ≡ grown k (x ++ y)
grown_twice k x y = ap (λ (l : List ℕ). record { content = l; capacity = k.capacity; big = k.big }) (append_assoc k.content x y)

module _ (e : Encoding) (s : Scope) (z : ℤ) (o : Operation) (bs : List ℕ) (k : Sink) (big : Bool) (is : big ≡ k.big) (h : Head)
    (known : Encoded e s z o bs) (only : data_in o bs ≡ bs)
    (q : Ok (held h) ≡ and_then (encode_op e s (λ _. Ok z) o bs) (λ a. Ok (front big [] a)))
    (hs : List ℕ) (i : hs ≡ held h) where
  bytes_all : bytes_of k.big (op_tokens e s z o bs) ≡ hs ++ bs
  bytes_all =
      sym (ap (λ (x : Bool). bytes_of x (op_tokens e s z o bs)) is)
      ∙ (bytes_are e s z o bs big h known only q ∙ ap (λ (x : List ℕ). x ++ bs) (sym i))

  total : length (bytes_of k.big (op_tokens e s z o bs)) ≡ length hs + length bs
  total = ap length bytes_all ∙ length-append hs bs

  -- what is written first fits, and then the rest
  module _ (room : Room k (length (bytes_of k.big (op_tokens e s z o bs)))) where
    pub room_head : Room k (length hs)
    room_head = let t = total in omega (arith, room)

    pub room_rest : (k' : Sink) → k' ≡ grown k hs → Room k' (length bs)
    room_rest k' j =
        let t = total in
        let l : length k'.content ≡ length k.content + length hs = ap (λ (x : Sink). length x.content) j ∙ length-append k.content hs in
        let n : k'.capacity ≡ k.capacity = ap (λ (x : Sink). x.capacity) j in
        omega (arith, room)

  pub put_both : (k' k'' : Sink) → k' ≡ grown k hs → k'' ≡ grown k' bs → k'' ≡ grown k (bytes_of k.big (op_tokens e s z o bs))
  put_both k' k'' j l =
      l ∙ (ap (λ (x : Sink). grown x bs) j ∙ (grown_twice k hs bs ∙ ap (grown k) (sym bytes_all)))
