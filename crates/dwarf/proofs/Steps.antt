-- The steps of a reading: as many as there are bytes, and one more, suffice.
use Rattle.std.proofs.Common.{◌≡◌, ℕ, zero, suc, ◌<◌, Bool, List, [], ◌∷◌, length, Some, Option, refl, ap, arith}
use Rattle.common.specs.declared.encoding.Encoding.{Encoding}
use Rattle.dwarf.specs.Reader.{Got, and_then}
use Rattle.dwarf.specs.Leb.{read_uleb, read_sleb}
use Rattle.dwarf.specs.Fixed.{is_width, read_fixed, signed_of}
use Rattle.dwarf.specs.Tokens.{Tokens, code, unsigned, signed, fixed, displacement, block, short}
use Rattle.dwarf.specs.Codes.{Kind, unsigned_number, signed_number, number_of, branch_displacement, counted_data, short_data, nested_operations, operands}
use Rattle.dwarf.specs.Reading.{read_counted, read_short, reading, read, StepsSuffice}
use Rattle.dwarf.proofs.Optional.{and_then_same, cond_same}
use Rattle.dwarf.proofs.Uleb.{uleb_nonempty}
use Rattle.dwarf.proofs.Sleb.{sleb_nonempty}
use Rattle.dwarf.proofs.Widths.{width_positive}
use Rattle.dwarf.proofs.Consumed.{uleb_consumes, sleb_consumes, fixed_consumes, counted_consumes, short_consumes}

-- an operand and then a reading that does not hang on the steps
after : {A : Type 0} (operand : Option (Got A)) (rest : Got A → Option Tokens) (other : Got A → Option Tokens) (token : Got A → Tokens → Tokens)
    → ((g : Got A) → operand ≡ Some g → rest g ≡ other g)
    → and_then operand (λ g. and_then (rest g) (λ ts. Some (token g ts))) ≡ and_then operand (λ g. and_then (other g) (λ ts. Some (token g ts)))
after operand rest other token same =
    and_then_same operand _ _ (λ g e. ap (λ o. and_then o (λ ts. Some (token g ts))) (same g e))

module _ (big : Bool) (e : Encoding) where
  same_steps : (m n : ℕ) (kinds : List Kind) (bytes : List ℕ) → length bytes < m → length bytes < n → reading m big e kinds bytes ≡ reading n big e kinds bytes
  unfolding reading
  same_steps zero n kinds bytes a b = absurd (omega arith)
  same_steps (suc m) zero kinds bytes a b = absurd (omega arith)
  same_steps (suc m) (suc n) [] [] a b = refl
  same_steps (suc m) (suc n) [] (c ∷ bytes) a b =
      and_then_same (operands e c) _ _ (λ kinds k. ap (λ o. and_then o (λ ts. Some (code c ts))) (same_steps m n kinds bytes (omega arith) (omega arith)))
  same_steps (suc m) (suc n) (unsigned_number ∷ kinds) bytes a b =
      after (read_uleb bytes) _ _ (λ g. unsigned g.value)
      (λ g k. let l = uleb_consumes bytes g k in let s = uleb_nonempty g.value in same_steps m n kinds g.rest (omega arith) (omega arith))
  same_steps (suc m) (suc n) (signed_number ∷ kinds) bytes a b =
      after (read_sleb bytes) _ _ (λ g. signed g.value)
      (λ g k. let l = sleb_consumes bytes g k in let s = sleb_nonempty g.value in same_steps m n kinds g.rest (omega arith) (omega arith))
  same_steps (suc m) (suc n) (number_of width ∷ kinds) bytes a b =
      cond_same (is_width width) _ _ _ (λ w. after (read_fixed big width bytes) _ _ (λ g. fixed width g.value)
      (λ g k. let l = fixed_consumes big width bytes g k in let s = width_positive width w in same_steps m n kinds g.rest (omega arith) (omega arith)))
  same_steps (suc m) (suc n) (branch_displacement ∷ kinds) bytes a b =
      after (read_fixed big 2 bytes) _ _ (λ g. displacement (signed_of 2 g.value))
      (λ g k. let l = fixed_consumes big 2 bytes g k in same_steps m n kinds g.rest (omega arith) (omega arith))
  same_steps (suc m) (suc n) (counted_data ∷ kinds) bytes a b =
      after (read_counted bytes) _ _ (λ g. block g.value)
      (λ g k. let l = counted_consumes bytes g k in let s = uleb_nonempty (length g.value) in same_steps m n kinds g.rest (omega arith) (omega arith))
  same_steps (suc m) (suc n) (short_data ∷ kinds) bytes a b =
      after (read_short bytes) _ _ (λ g. short g.value)
      (λ g k. let l = short_consumes bytes g k in same_steps m n kinds g.rest (omega arith) (omega arith))
  same_steps (suc m) (suc n) (nested_operations ∷ kinds) bytes a b =
      and_then_same (read_counted bytes) _ _ (λ g k.
      let l = counted_consumes bytes g k in
      let s = uleb_nonempty (length g.value) in
      rw (same_steps m n [] g.value (omega arith) (omega arith), same_steps m n kinds g.rest (omega arith) (omega arith)))

pub steps_suffice : StepsSuffice
unfolding read
steps_suffice big e bytes steps h = same_steps big e steps (suc (length bytes)) [] bytes h (omega arith)
