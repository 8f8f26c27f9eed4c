-- The references of an expression have widths in which a number can be written, their offsets rise, and they end within the bytes written.
use Rattle.std.proofs.Common.{◌≡◌, ℕ, ◌+◌, Bool, true, false, cond, ltb, leb, List, [], ◌∷◌, ◌++◌, length, ℤ, Some, None, Ok, Err, Option, Result, refl, ap, ap₂, ◌∙◌, arith}
use Rattle.std.proofs.lemmas.List.{length-append}
use Rattle.std.proofs.lemmas.Bool.{and_parts, and_from, le-leb}
use Rattle.common.specs.declared.encoding.Encoding.{Encoding}
use Rattle.common.specs.declared.error.Error.{Error}
use Rattle.common.specs.declared.error.Error.TheVariants.{NoRoom, TooManyReferences, NoExpression}
use Rattle.common.specs.declared.fixup.DebugInfoFixup.{DebugInfoFixup}
use Rattle.dwarf.specs.Bytes.{bytes_of, size_of}
use Rattle.dwarf.specs.Fixed.{is_width}
use Rattle.dwarf.specs.Leb.{uleb}
use Rattle.dwarf.specs.References.{references}
use Rattle.dwarf.specs.Tokens.{Tokens, code, nested}
use Rattle.dwarf.proofs.Joining.{references-joined}
use Rattle.dwarf.proofs.Sizes.{length_bytes}
use Rattle.emit.specs.Written.{allowed, written, grown_by, set_down_by}
use Rattle.rules.specs.Encode.{encode}
use Rattle.rules.specs.Operands.{by_version}
use Rattle.rules.specs.Results.{and_then}
use Rattle.rules.specs.Scope.{Scope}
use Rattle.rules.specs.Tree.{Tree}
use Rattle.rules.proofs.Rows.{Rows, by_rows}
use Rattle.rules.proofs.Trees.{by_growth_whole}
use Rattle.rules.proofs.Widths.{references-wide}
use Rattle.writer.specs.Meaning.{Sink, fits}
use Rattle.claim.specs.Claim.{Rising}
use Rattle.claim.proofs.Fixups.{rising_tokens}
use Rattle.claim.proofs.Formed.{word_width}
use Rattle.section_tables.specs.Rows.{rise, wide, inside}
use Rattle.section_tables.proofs.Rises.{rise_lower}
use Rattle.section_tables.proofs.Insides.{inside-longer, inside-append, inside_tokens, rise-append}

wide-append : (xs ys : List DebugInfoFixup) → wide xs ≡ true → wide ys ≡ true → wide (xs ++ ys) ≡ true
wide-append [] ys h k = k
wide-append (p ∷ xs) ys h k =
    let a = and_parts (is_width p.width) (wide xs) h in
    and_from (is_width p.width) (wide (xs ++ ys)) a.0 (wide-append xs ys a.1 k)

abbrev WideIn : Tokens → Type 0
WideIn a = (at : ℕ) → wide (references at a) ≡ true

wide_rows : (e : Encoding) (s : Scope) (leads : Option ℕ → Result ℤ Error) → Rows e s leads (λ o bs a. WideIn a)
unfolding references
wide_rows e s leads = record {
  of_raw = λ d bs at. refl;
  of_simple = λ o bs at. refl;
  of_address = λ n bs w l at. refl;
  of_literal = λ n bs l at. refl;
  of_unsigned = λ n bs l at. refl;
  of_signed = λ z bs at. refl;
  of_constant_type = λ base n d bs is l at. refl;
  of_frame_offset = λ z bs at. refl;
  of_breg = λ r z bs l at. refl;
  of_bregx = λ r z bs l at. refl;
  of_register_type = λ r base n bs is at. refl;
  of_dup = λ i bs z at. refl;
  of_over = λ i bs z at. refl;
  of_pick = λ i bs l at. refl;
  of_deref = λ space bs at. refl;
  of_deref_size = λ space size bs at. refl;
  of_deref_type = λ space size base n bs is at. refl;
  of_plus = λ n bs at. refl;
  of_skip = λ target z bs is at. refl;
  of_branch = λ target z bs is at. refl;
  of_call = λ entry n bs l at. refl;
  of_call_ref = λ to owner entry bs is at. and_from _ true (word_width e.format) refl;
  of_variable = λ to owner entry bs is at. and_from _ true (word_width e.format) refl;
  of_convert = λ base n bs is at. refl;
  of_reinterpret = λ base n bs is at. refl;
  of_register = λ r bs l at. refl;
  of_regx = λ r bs l at. refl;
  of_implicit_value = λ d bs at. refl;
  of_implicit_pointer = λ to owner entry z bs is w at. and_from _ true w refl;
  of_piece = λ n bs at. refl;
  of_bit_piece = λ n k bs at. refl;
  of_parameter = λ entry n bs l at. refl;
}

wide-nested : (c : ℕ) (x r : Tokens) → WideIn x → WideIn r → WideIn (code c (nested x r))
unfolding references
wide-nested c x r a b at =
    let k : ℕ = at + 1 + length (uleb (size_of x)) in
    wide-append (references k x) (references (k + size_of x) r) (a k) (b (k + size_of x))

wide_set_down : (e : Encoding) (s : Scope) (t : Tree) (a : Tokens) → encode e s t ≡ Ok a → WideIn a
wide_set_down e s t a h =
    by_growth_whole e s (λ t a. WideIn a)
    (record {
      at_end = unfold references in (λ at. refl);
      at_plain = λ leads o bs t x r is k at.
          ap wide (references-joined at (at + size_of x) x r refl)
          ∙ wide-append (references at x) (references (at + size_of x) r) (by_rows e s leads (λ o bs a. WideIn a) (wide_rows e s leads) o bs x is at) (k (at + size_of x));
      at_nest = λ y t x r j k. wide-nested (by_version e 0xa3 0xf3) x r j k;
    })
    t a h

rising_rise : (at : ℕ) (ps : List DebugInfoFixup) → Rising at ps → rise at ps ≡ true
rising_rise at [] r = refl
rising_rise at (p ∷ ps) r =
    let a = r.0 in let b = r.1 in
    and_from (leb at p.offset) (rise (p.offset + 1) ps) (le-leb at p.offset (omega arith))
    (rise_lower (p.offset + p.width) (p.offset + 1) ps (omega arith) (rising_rise (p.offset + p.width) ps r.2))

-- what an expression sets down, or nothing where it is refused
module _ (k : Sink) (n : ℕ) (e : Encoding) (s : Scope) (rows : List DebugInfoFixup) where
  by_outcome : (P : Result Tokens Error → Type 0) → ((z : Error) → P (Err z)) → ((t : Tree) (a : Tokens) → encode e s t ≡ Ok a → P (Ok a)) →
      (x : Option Tree) → P (written k n e s x)
  by_outcome P none some None = none NoExpression
  by_outcome P none some (Some t) = encoded (encode e s t) refl
    where
      tested : (a : Tokens) (x y : Bool) → encode e s t ≡ Ok a → P (cond x (Err TooManyReferences) (cond y (Ok a) (Err NoRoom)))
      tested a true y h = none TooManyReferences
      tested a false true h = some t a h
      tested a false false h = none NoRoom

      encoded : (r : Result Tokens Error) → encode e s t ≡ r → P (and_then r (allowed k n))
      encoded (Ok a) h = tested a (ltb 512 (n + length (references (length k.content) a))) (fits k (size_of a)) h
      encoded (Err z) h = none z

  module _ (x : Option Tree) (qs : List DebugInfoFixup) (q : qs ≡ set_down_by k rows (written k n e s x)) (w : wide rows ≡ true) where
    pub wide-written : wide qs ≡ true
    wide-written =
        ap wide q
        ∙ by_outcome (λ o. wide (set_down_by k rows o) ≡ true) (λ z. w)
        (λ t a h. wide-append rows (references (length k.content) a) w (wide_set_down e s t a h (length k.content))) x

    module _ (i : inside (length k.content) rows ≡ true) where
      pub rise-written : rise 0 rows ≡ true → rise 0 qs ≡ true
      rise-written r =
          ap (rise 0) q
          ∙ by_outcome (λ o. rise 0 (set_down_by k rows o) ≡ true) (λ z. r)
          (λ t a h. rise-append 0 (length k.content) rows (references (length k.content) a) (omega arith) r w i
          (rising_rise (length k.content) (references (length k.content) a) (rising_tokens (length k.content) a (references-wide e s t a h)))) x

      pub inside-written : (k' : Sink) → k' ≡ grown_by k (written k n e s x) → inside (length k'.content) qs ≡ true
      inside-written k' g =
          ap₂ (λ (c : Sink) (ps : List DebugInfoFixup). inside (length c.content) ps) g q
          ∙ by_outcome (λ o. inside (length (grown_by k o).content) (set_down_by k rows o) ≡ true) (λ z. i) (λ t a h. grown a) x
        where
          grown : (a : Tokens) → inside (length (k.content ++ bytes_of k.big a)) (rows ++ references (length k.content) a) ≡ true
          grown a =
              let m : ℕ = length k.content + size_of a in
              rw (length-append k.content (bytes_of k.big a), length_bytes k.big a)
              (inside-append m rows (references (length k.content) a) (inside-longer (length k.content) m rows (omega arith) i) (inside_tokens (length k.content) a))
