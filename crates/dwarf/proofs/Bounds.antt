-- What is known of the operands that are read from bytes.
use Rattle.std.proofs.Common.{◌≡◌, ℕ, zero, suc, ◌-◌, ◌*◌, ◌^◌, ◌<◌, Bool, true, false, List, [], ◌∷◌, reverse, length, ℤ, pos, negsuc, Some, sym, ap, ◌∙◌, subst, inl, inr, pow-suc, arith}
use lib.ListN.{length-reverse}
use Rattle.std.proofs.ByRecursion.{All-take, All-drop, All-get_or, All-from_get_or}
use Rattle.std.proofs.lemmas.List.{get_or-reverse}
use Rattle.std.proofs.lemmas.Bool.{cases_lt, lt-ltb, le-ltb, ltb-true, cond-true, cond-false}
use Rattle.dwarf.specs.Reader.{Got, got, read_data, AllBytes}
use Rattle.dwarf.specs.Leb.{read_groups, read_uleb, read_sgroups, read_sleb, magnitude, signed_seven}
use Rattle.dwarf.specs.Fixed.{number, lowest_first, read_fixed, signed_of}
use Rattle.dwarf.specs.Reading.{read_counted, read_short}
use Rattle.dwarf.proofs.Optional.{both, passed, test_passed}
use Rattle.dwarf.proofs.Uleb.{read_last, read_more}
use Rattle.dwarf.proofs.Sleb as sleb
use Rattle.dwarf.proofs.Consumed.{cut, data_consumes}

abbrev Byte : ℕ → Type 0
Byte b = b < 256

-- the bytes after a value that is known
rest_same : {A : Type 0} (a : A) (rest : List ℕ) (g : Got A) → got a rest ≡ Some g → g.rest ≡ rest
rest_same a rest g e = let same : g ≡ record { value = a; rest = rest } = cc in ap (λ x. x.rest) same

uleb_value : (bytes : List ℕ) (g : Got ℕ) → read_uleb bytes ≡ Some g → g.value < 2 ^ 64
unfolding read_uleb
uleb_value bytes g e =
    let s = both (read_groups 10 bytes) _ g e in
    let t = ltb-true s.value.value (2 ^ 64) (test_passed _ s.value g s.next_is) in
    subst (λ (x : Got ℕ). x.value < 2 ^ 64) (passed _ s.value g s.next_is) t

groups_rest : (k : ℕ) (bytes : List ℕ) (g : Got ℕ) → AllBytes bytes → read_groups k bytes ≡ Some g → AllBytes g.rest
unfolding read_groups
groups_rest zero bytes g all e = absurd (let z : ◌≡◌ {A = ℕ} 0 1 = cc in omega arith)
groups_rest (suc k) [] g all e = absurd (let z : ◌≡◌ {A = ℕ} 0 1 = cc in omega arith)
groups_rest (suc k) (b ∷ bytes) g all e =
    elim (cases_lt b 128) [
      | inl l ↦ rw (rest_same b bytes g (sym (read_last k b bytes l) ∙ e)) all.1
      | inr m ↦ let s = both (read_groups k bytes) _ g (sym (read_more k b bytes m) ∙ e) in
          rw (rest_same _ s.value.rest g s.next_is) (groups_rest k bytes s.value all.1 s.first_is)
    ]

sleb_value : (bytes : List ℕ) (g : Got ℤ) → read_sleb bytes ≡ Some g → magnitude g.value < 2 ^ 63
unfolding read_sleb
sleb_value bytes g e =
    let s = both (read_sgroups 10 bytes) _ g e in
    let t = ltb-true (magnitude s.value.value) (2 ^ 63) (test_passed _ s.value g s.next_is) in
    subst (λ (x : Got ℤ). magnitude x.value < 2 ^ 63) (passed _ s.value g s.next_is) t

sgroups_rest : (k : ℕ) (bytes : List ℕ) (g : Got ℤ) → AllBytes bytes → read_sgroups k bytes ≡ Some g → AllBytes g.rest
unfolding read_sgroups
sgroups_rest zero bytes g all e = absurd (let z : ◌≡◌ {A = ℕ} 0 1 = cc in omega arith)
sgroups_rest (suc k) [] g all e = absurd (let z : ◌≡◌ {A = ℕ} 0 1 = cc in omega arith)
sgroups_rest (suc k) (b ∷ bytes) g all e =
    elim (cases_lt b 128) [
      | inl l ↦ rw (rest_same (signed_seven b) bytes g (sym (sleb.read_last k b bytes l) ∙ e)) all.1
      | inr m ↦ let s = both (read_sgroups k bytes) _ g (sym (sleb.read_more k b bytes m) ∙ e) in
          rw (rest_same _ s.value.rest g s.next_is) (sgroups_rest k bytes s.value all.1 s.first_is)
    ]

-- an operand that was read, and bytes after it
pub record Good {A : Type 0} (P : A → Type 0) (g : Got A) : Type 0 where
  pub holds : P g.value
  pub bytes : AllBytes g.rest

pub uleb_good : (bytes : List ℕ) (g : Got ℕ) → AllBytes bytes → read_uleb bytes ≡ Some g → Good (λ n. n < 2 ^ 64) g
unfolding read_uleb
uleb_good bytes g all e =
    let s = both (read_groups 10 bytes) _ g e in
    record {
      holds = uleb_value bytes g e;
      bytes = subst (λ (x : Got ℕ). AllBytes x.rest) (passed _ s.value g s.next_is) (groups_rest 10 bytes s.value all s.first_is);
    }

pub sleb_good : (bytes : List ℕ) (g : Got ℤ) → AllBytes bytes → read_sleb bytes ≡ Some g → Good (λ z. magnitude z < 2 ^ 63) g
unfolding read_sleb
sleb_good bytes g all e =
    let s = both (read_sgroups 10 bytes) _ g e in
    record {
      holds = sleb_value bytes g e;
      bytes = subst (λ (x : Got ℤ). AllBytes x.rest) (passed _ s.value g s.next_is) (sgroups_rest 10 bytes s.value all s.first_is);
    }

pub data_good : (count : ℕ) (bytes : List ℕ) (g : Got (List ℕ)) → AllBytes bytes → read_data count bytes ≡ Some g → Good AllBytes g
data_good count bytes g all e =
    let c = cut count bytes g e in
    record { holds = rw c.data_is (All-take Byte count bytes all); bytes = rw c.rest_is (All-drop Byte count bytes all) }

number-below : (bytes : List ℕ) → AllBytes bytes → number bytes < 256 ^ length bytes
unfolding number
number-below [] all = omega arith
number-below (b ∷ bytes) all =
    let p : 256 ^ suc (length bytes) ≡ 256 ^ length bytes * 256 = pow-suc 256 (length bytes) in
    omega (arith, number-below bytes all.1, all.0)

ordered-below : (big : Bool) (bytes : List ℕ) → AllBytes bytes → number (lowest_first big bytes) < 256 ^ length bytes
ordered-below true bytes all =
    let flipped : AllBytes (reverse bytes) =
    All-from_get_or Byte (reverse bytes) 0 (λ i h. let l : i < length bytes = omega (arith, length-reverse bytes) in
    rw (get_or-reverse bytes i 0 l) (All-get_or Byte bytes (length bytes - 1 - i) 0 (omega arith) all)) in
    subst (λ k. number (reverse bytes) < 256 ^ k) (length-reverse bytes) (number-below (reverse bytes) flipped)
ordered-below false bytes all = number-below bytes all

pub fixed_good : (big : Bool) (width : ℕ) (bytes : List ℕ) (g : Got ℕ) → AllBytes bytes → read_fixed big width bytes ≡ Some g → Good (λ n. n < 256 ^ width) g
unfolding read_fixed
fixed_good big width bytes g all e =
    let s = both (read_data width bytes) _ g e in
    let d = data_good width bytes s.value all s.first_is in
    let same : g ≡ record { value = number (lowest_first big s.value.value); rest = s.value.rest } =
    let n = s.next_is in cc in
    rw same (record {
      holds = subst (λ k. number (lowest_first big s.value.value) < 256 ^ k) (data_consumes width bytes s.value s.first_is).0 (ordered-below big s.value.value d.holds);
      bytes = d.bytes;
    })

pub displacement_good : (n : ℕ) → n < 256 ^ 2 → magnitude (signed_of 2 n) < 2 ^ 15
displacement_good n h =
    elim (cases_lt (2 * n) (256 ^ 2)) [
      | inl l ↦ rw (cond-true _ (pos n) (negsuc (256 ^ 2 - suc n)) (lt-ltb (2 * n) (256 ^ 2) l)) (omega arith)
      | inr m ↦ rw (cond-false _ (pos n) (negsuc (256 ^ 2 - suc n)) (le-ltb (2 * n) (256 ^ 2) m)) (omega arith)
    ]

pub counted_good : (bytes : List ℕ) (g : Got (List ℕ)) → AllBytes bytes → read_counted bytes ≡ Some g → Good (λ bs. (length bs < 2 ^ 64) × AllBytes bs) g
unfolding read_counted
counted_good bytes g all e =
    let s = both (read_uleb bytes) _ g e in
    let u = uleb_good bytes s.value all s.first_is in
    let l = (data_consumes s.value.value s.value.rest g s.next_is).0 in
    let d = data_good s.value.value s.value.rest g u.bytes s.next_is in
    record { holds = (rw l u.holds, d.holds); bytes = d.bytes }

pub short_good : (bytes : List ℕ) (g : Got (List ℕ)) → AllBytes bytes → read_short bytes ≡ Some g → Good (λ bs. length bs < 256) g
unfolding read_short
short_good [] g all e = absurd (let z : ◌≡◌ {A = ℕ} 0 1 = cc in omega arith)
short_good (count ∷ bytes) g all e =
    record { holds = rw (data_consumes count bytes g e).0 all.0; bytes = (data_good count bytes g all.1 e).bytes }
