-- A frame expression holds no reference.
use Rattle.std.proofs.Common.{◌≡◌, ℕ, ◌+◌, [], ◌++◌, length, ℤ, Ok, Option, Result, sym, refl, ap, ◌∙◌, ap₂}
use Rattle.common.specs.Formats.{word_size}
use Rattle.common.specs.declared.encoding.Encoding.{Encoding}
use Rattle.common.specs.declared.error.Error.{Error}
use Rattle.common.specs.declared.error.Error.TheVariants.{InvalidReference}
use Rattle.dwarf.specs.Leb.{uleb}
use Rattle.dwarf.specs.Tokens.{Tokens, done, code, signed, nested}
use Rattle.dwarf.specs.Bytes.{size_of, joined}
use Rattle.dwarf.specs.References.{references}
use Rattle.dwarf.proofs.Joining.{references-joined}
use Rattle.op.specs.declared.operation.DebugInfoRef.{DebugInfoRef}
use Rattle.op.specs.declared.operation.DebugInfoRef.TheVariants.{Entry}
use Rattle.rules.specs.Results.{and_then}
use Rattle.rules.specs.Encode.{encode_op, encode}
use Rattle.rules.specs.Operands.{referred, by_version}
use Rattle.rules.specs.Scope.{in_frame}
use Rattle.rules.specs.Sizes.{pointer_size}
use Rattle.rules.specs.Tree.{Tree}
use Rattle.rules.proofs.Results.{not_refused}
use Rattle.rules.proofs.Rows.{Rows, by_rows}
use Rattle.rules.proofs.Trees.{by_growth_whole}

abbrev NoneIn : Tokens → Type 0
NoneIn a = (at : ℕ) → references at a ≡ []

-- a reference is refused in a frame expression
refused_there : (P : Type 0) (width owner entry : ℕ) (to : DebugInfoRef) (rest x : Tokens) (F : Tokens → Result Tokens Error) → to ≡ Entry owner entry
    → and_then (referred in_frame width to rest) F ≡ Ok x → P
refused_there P width owner entry to rest x F e h =
    not_refused P InvalidReference x (sym (ap (λ (z : DebugInfoRef). and_then (referred in_frame width z rest) F) e) ∙ h)

framed-rows : (e : Encoding) (leads : Option ℕ → Result ℤ Error)
    → Rows e in_frame leads (λ o bs a. encode_op e in_frame leads o bs ≡ Ok a → NoneIn a)
unfolding references
framed-rows e leads = record {
  of_raw = λ d bs h at. refl;
  of_simple = λ o bs h at. refl;
  of_address = λ n bs w l h at. refl;
  of_literal = λ n bs l h at. refl;
  of_unsigned = λ n bs l h at. refl;
  of_signed = λ z bs h at. refl;
  of_constant_type = λ base n d bs is l h at. refl;
  of_frame_offset = λ z bs h at. refl;
  of_breg = λ r z bs l h at. refl;
  of_bregx = λ r z bs l h at. refl;
  of_register_type = λ r base n bs is h at. refl;
  of_dup = λ i bs z h at. refl;
  of_over = λ i bs z h at. refl;
  of_pick = λ i bs l h at. refl;
  of_deref = λ space bs h at. refl;
  of_deref_size = λ space size bs h at. refl;
  of_deref_type = λ space size base n bs is h at. refl;
  of_plus = λ n bs h at. refl;
  of_skip = λ target z bs is h at. refl;
  of_branch = λ target z bs is h at. refl;
  of_call = λ entry n bs l h at. refl;
  of_call_ref = λ to owner entry bs is h. refused_there _ (word_size e.format) owner entry to done _ (λ a. Ok (code 0x9a a)) is h;
  of_variable = λ to owner entry bs is h. refused_there _ (word_size e.format) owner entry to done _ (λ a. Ok (code 0xfd a)) is h;
  of_convert = λ base n bs is h at. refl;
  of_reinterpret = λ base n bs is h at. refl;
  of_register = λ r bs l h at. refl;
  of_regx = λ r bs l h at. refl;
  of_implicit_value = λ d bs h at. refl;
  of_implicit_pointer = λ to owner entry z bs is w h.
      refused_there _ (pointer_size e) owner entry to (signed z done) _ (λ a. Ok (code (by_version e 0xa0 0xf2) a)) is h;
  of_piece = λ n bs h at. refl;
  of_bit_piece = λ n k bs h at. refl;
  of_parameter = λ entry n bs l h at. refl;
}

none_joined : (x r : Tokens) → NoneIn x → NoneIn r → NoneIn (joined x r)
none_joined x r a b at = references-joined at (at + size_of x) x r refl ∙ ap₂ ◌++◌ (a at) (b (at + size_of x))

none_nested : (c : ℕ) (x r : Tokens) → NoneIn x → NoneIn r → NoneIn (code c (nested x r))
unfolding references
none_nested c x r a b at =
    let k : ℕ = at + 1 + length (uleb (size_of x)) in
    ap₂ ◌++◌ (a k) (b (k + size_of x))

pub frame_none : (e : Encoding) (t : Tree) (a : Tokens) → encode e in_frame t ≡ Ok a → NoneIn a
frame_none e t a h =
    by_growth_whole e in_frame (λ t a. NoneIn a)
    (record {
      at_end = unfold references in (λ at. refl);
      at_plain = λ leads o bs t x r is k.
          none_joined x r (by_rows e in_frame leads (λ o bs a. encode_op e in_frame leads o bs ≡ Ok a → NoneIn a) (framed-rows e leads) o bs x is is) k;
      at_nest = λ y t x r j k. none_nested (by_version e 0xa3 0xf3) x r j k;
    })
    t a h
