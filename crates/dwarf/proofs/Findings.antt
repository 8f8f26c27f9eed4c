-- All that is read is well formed.
use Rattle.std.proofs.Common.{◌≡◌, ℕ, zero, suc, ◌+◌, ◌^◌, ◌<◌, Bool, true, false, cond, List, [], ◌∷◌, length, Some, None, Option, refl, subst, arith}
use Rattle.common.specs.declared.encoding.Encoding.{Encoding}
use Rattle.dwarf.specs.Reader.{Got, and_then, AllBytes}
use Rattle.dwarf.specs.Leb.{uleb, read_uleb, read_sleb}
use Rattle.dwarf.specs.Fixed.{is_width, read_fixed, signed_of}
use Rattle.dwarf.specs.Tokens.{Tokens, done, code, unsigned, signed, fixed, displacement, block, short, nested}
use Rattle.dwarf.specs.Codes.{Kind, unsigned_number, signed_number, number_of, branch_displacement, counted_data, short_data, nested_operations, operands}
use Rattle.dwarf.specs.Bytes.{size_of}
use Rattle.dwarf.specs.Reading.{read_counted, read_short, reading, read}
use Rattle.dwarf.specs.References.{references}
use Rattle.dwarf.specs.WellFormed.{at_end, at_code, at_unsigned, at_signed, at_fixed, at_displacement, at_block, at_short, at_nested, Found, ReadWellFormed}
use Rattle.dwarf.proofs.Optional.{both}
use Rattle.dwarf.proofs.Uleb.{uleb_grows}
use Rattle.dwarf.proofs.Consumed.{uleb_consumes, sleb_consumes, fixed_consumes, counted_consumes, short_consumes}
use Rattle.dwarf.proofs.Bounds.{uleb_good, sleb_good, fixed_good, displacement_good, counted_good, short_good}

-- an operand and the tokens after it, of which the tokens are made
record Parts {A : Type 0} (operand : Option (Got A)) (rest : Got A → Option Tokens) (token : Got A → Tokens → Tokens) (ts : Tokens) : Type 0 where
  g : Got A
  g_is : operand ≡ Some g
  next : Tokens
  next_is : rest g ≡ Some next
  whole : token g next ≡ ts

parts : {A : Type 0} (operand : Option (Got A)) (rest : Got A → Option Tokens) (token : Got A → Tokens → Tokens) (ts : Tokens)
    → and_then operand (λ g. and_then (rest g) (λ next. Some (token g next))) ≡ Some ts → Parts operand rest token ts
parts operand rest token ts e =
    let s = both operand _ ts e in
    let r = both (rest s.value) _ ts s.next_is in
    record { g = s.value; g_is = s.first_is; next = r.value; next_is = r.first_is; whole = let k = r.next_is in cc }

-- an answer behind a test
tested : (test : Bool) (answer : Option Tokens) (ts : Tokens) → cond test answer None ≡ Some ts → (test ≡ true) × (answer ≡ Some ts)
tested true answer ts h = (refl, h)
tested false answer ts h = absurd (let z : ◌≡◌ {A = ℕ} 0 1 = cc in omega arith)

module _ (big : Bool) (e : Encoding) where
  finds : (steps : ℕ) (kinds : List Kind) (bytes : List ℕ) (ts : Tokens) → AllBytes bytes → reading steps big e kinds bytes ≡ Some ts → Found e kinds ts (length bytes)
  unfolding reading references size_of
  finds zero kinds bytes ts all h = absurd (let z : ◌≡◌ {A = ℕ} 0 1 = cc in omega arith)
  finds (suc steps) [] [] ts all h =
      let same : done ≡ ts = cc in
      subst (λ t. Found e [] t 0) same (record { formed = at_end; no_references = λ at. refl; fewest = omega arith })
  finds (suc steps) [] (c ∷ bytes) ts all h =
      let s = both (operands e c) _ ts h in
      let r = both (reading steps big e s.value bytes) _ ts s.next_is in
      let same : code c r.value ≡ ts = let k = r.next_is in cc in
      let found = finds steps s.value bytes r.value all.1 r.first_is in
      subst (λ t. Found e [] t (suc (length bytes))) same
      (record { formed = at_code s.first_is found.formed; no_references = λ at. found.no_references _; fewest = omega (arith, found.fewest) })
  finds (suc steps) (unsigned_number ∷ kinds) bytes ts all h =
      let p = parts (read_uleb bytes) (λ g. reading steps big e kinds g.rest) (λ g. unsigned g.value) ts h in
      let good = uleb_good bytes p.g all p.g_is in
      let l = uleb_consumes bytes p.g p.g_is in
      let found = finds steps kinds p.g.rest p.next good.bytes p.next_is in
      subst (λ t. Found e (unsigned_number ∷ kinds) t (length bytes)) p.whole
      (record { formed = at_unsigned good.holds found.formed; no_references = λ at. found.no_references _; fewest = omega (arith, found.fewest) })
  finds (suc steps) (signed_number ∷ kinds) bytes ts all h =
      let p = parts (read_sleb bytes) (λ g. reading steps big e kinds g.rest) (λ g. signed g.value) ts h in
      let good = sleb_good bytes p.g all p.g_is in
      let l = sleb_consumes bytes p.g p.g_is in
      let found = finds steps kinds p.g.rest p.next good.bytes p.next_is in
      subst (λ t. Found e (signed_number ∷ kinds) t (length bytes)) p.whole
      (record { formed = at_signed good.holds found.formed; no_references = λ at. found.no_references _; fewest = omega (arith, found.fewest) })
  finds (suc steps) (number_of width ∷ kinds) bytes ts all h =
      let t = tested (is_width width) _ ts h in
      let p = parts (read_fixed big width bytes) (λ g. reading steps big e kinds g.rest) (λ g. fixed width g.value) ts t.1 in
      let good = fixed_good big width bytes p.g all p.g_is in
      let l = fixed_consumes big width bytes p.g p.g_is in
      let found = finds steps kinds p.g.rest p.next good.bytes p.next_is in
      subst (λ t. Found e (number_of width ∷ kinds) t (length bytes)) p.whole
      (record { formed = at_fixed t.0 good.holds found.formed; no_references = λ at. found.no_references _; fewest = omega (arith, found.fewest) })
  finds (suc steps) (branch_displacement ∷ kinds) bytes ts all h =
      let p = parts (read_fixed big 2 bytes) (λ g. reading steps big e kinds g.rest) (λ g. displacement (signed_of 2 g.value)) ts h in
      let good = fixed_good big 2 bytes p.g all p.g_is in
      let l = fixed_consumes big 2 bytes p.g p.g_is in
      let found = finds steps kinds p.g.rest p.next good.bytes p.next_is in
      subst (λ t. Found e (branch_displacement ∷ kinds) t (length bytes)) p.whole
      (record { formed = at_displacement (displacement_good p.g.value good.holds) found.formed; no_references = λ at. found.no_references _; fewest = omega (arith, found.fewest) })
  finds (suc steps) (counted_data ∷ kinds) bytes ts all h =
      let p = parts (read_counted bytes) (λ g. reading steps big e kinds g.rest) (λ g. block g.value) ts h in
      let good = counted_good bytes p.g all p.g_is in
      let l = counted_consumes bytes p.g p.g_is in
      let found = finds steps kinds p.g.rest p.next good.bytes p.next_is in
      subst (λ t. Found e (counted_data ∷ kinds) t (length bytes)) p.whole
      (record { formed = at_block good.holds.0 found.formed; no_references = λ at. found.no_references _; fewest = omega (arith, found.fewest) })
  finds (suc steps) (short_data ∷ kinds) bytes ts all h =
      let p = parts (read_short bytes) (λ g. reading steps big e kinds g.rest) (λ g. short g.value) ts h in
      let good = short_good bytes p.g all p.g_is in
      let l = short_consumes bytes p.g p.g_is in
      let found = finds steps kinds p.g.rest p.next good.bytes p.next_is in
      subst (λ t. Found e (short_data ∷ kinds) t (length bytes)) p.whole
      (record { formed = at_short good.holds found.formed; no_references = λ at. found.no_references _; fewest = omega (arith, found.fewest) })
  finds (suc steps) (nested_operations ∷ kinds) bytes ts all h =
      let s = both (read_counted bytes) _ ts h in
      let g = s.value in
      let i = both (reading steps big e [] g.value) _ ts s.next_is in
      let r = both (reading steps big e kinds g.rest) _ ts i.next_is in
      let same : nested i.value r.value ≡ ts = let k = r.next_is in cc in
      let good = counted_good bytes g all s.first_is in
      let l = counted_consumes bytes g s.first_is in
      let inner = finds steps [] g.value i.value good.holds.1 i.first_is in
      let found = finds steps kinds g.rest r.value good.bytes r.first_is in
      let grows = uleb_grows (size_of i.value) (length g.value) inner.fewest in
      let short_enough : size_of i.value < 2 ^ 64 = omega (arith, inner.fewest, good.holds.0) in
      subst (λ t. Found e (nested_operations ∷ kinds) t (length bytes)) same
      (record {
        formed = at_nested short_enough inner.formed found.formed;
        no_references = λ at. rw (inner.no_references (at + length (uleb (size_of i.value)))) (found.no_references _);
        fewest = omega (arith, inner.fewest, found.fewest);
      })

pub read_well_formed : ReadWellFormed
unfolding read
read_well_formed big e bytes ts all h = finds big e (suc (length bytes)) [] bytes ts all h
