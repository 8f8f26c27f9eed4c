-- Every reference of an accepted expression has a byte at least.
use Rattle.std.proofs.Common.{ℕ, ◌<◌, ℤ, Option, Result, arith}
use Rattle.common.specs.Formats.{word_size}
use Rattle.common.specs.declared.encoding.Encoding.{Encoding}
use Rattle.common.specs.declared.encoding.Format.{Format}
use Rattle.common.specs.declared.encoding.Format.TheVariants.{Dwarf32, Dwarf64}
use Rattle.common.specs.declared.error.Error.{Error}
use Rattle.dwarf.specs.References.{Wide}
use Rattle.dwarf.proofs.Joining.{wide-joined}
use Rattle.dwarf.proofs.Widths.{width_positive}
use Rattle.rules.specs.Claims.{ReferencesWide}
use Rattle.rules.specs.Scope.{Scope}
use Rattle.rules.specs.Sizes.{pointer_size}
use Rattle.rules.proofs.Rows.{Rows, by_rows}
use Rattle.rules.proofs.Trees.{by_growth_whole}

word_positive : (f : Format) → 0 < word_size f
word_positive Dwarf32 = omega arith
word_positive Dwarf64 = omega arith

wide_rows : (e : Encoding) (s : Scope) (leads : Option ℕ → Result ℤ Error) → Rows e s leads (λ o bs a. Wide a)
wide_rows e s leads = record {
  of_raw = λ d bs. tt;
  of_simple = λ o bs. tt;
  of_address = λ n bs w l. tt;
  of_literal = λ n bs l. tt;
  of_unsigned = λ n bs l. tt;
  of_signed = λ z bs. tt;
  of_constant_type = λ base n d bs is l. tt;
  of_frame_offset = λ z bs. tt;
  of_breg = λ r z bs l. tt;
  of_bregx = λ r z bs l. tt;
  of_register_type = λ r base n bs is. tt;
  of_dup = λ i bs z. tt;
  of_over = λ i bs z. tt;
  of_pick = λ i bs l. tt;
  of_deref = λ space bs. tt;
  of_deref_size = λ space size bs. tt;
  of_deref_type = λ space size base n bs is. tt;
  of_plus = λ n bs. tt;
  of_skip = λ target z bs is. tt;
  of_branch = λ target z bs is. tt;
  of_call = λ entry n bs l. tt;
  of_call_ref = λ to owner entry bs is. (word_positive e.format, tt);
  of_variable = λ to owner entry bs is. (word_positive e.format, tt);
  of_convert = λ base n bs is. tt;
  of_reinterpret = λ base n bs is. tt;
  of_register = λ r bs l. tt;
  of_regx = λ r bs l. tt;
  of_implicit_value = λ d bs. tt;
  of_implicit_pointer = λ to owner entry z bs is w. (width_positive (pointer_size e) w, tt);
  of_piece = λ n bs. tt;
  of_bit_piece = λ n k bs. tt;
  of_parameter = λ entry n bs l. tt;
}

pub references-wide : ReferencesWide
references-wide e s t a h =
    by_growth_whole e s (λ t a. Wide a)
    (record {
      at_end = tt;
      at_plain = λ leads o bs t x r is k. wide-joined x r (by_rows e s leads (λ o bs a. Wide a) (wide_rows e s leads) o bs x is) k;
      at_nest = λ y t x r j k. (j, k);
    })
    t a h
