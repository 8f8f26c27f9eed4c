-- How many bytes each operand takes.
use Rattle.std.proofs.Common.{◌≡◌, ℕ, ◌+◌, ◌≤◌, Bool, List, [], ◌∷◌, length, take, drop, ℤ, Some, None, Option, sym, ap, ◌∙◌, inl, inr, arith, length-drop, length-take}
use Rattle.std.proofs.lemmas.Bool.{cases_lt, lt-leb, le-leb, cond-true, cond-false}
use Rattle.dwarf.specs.Reader.{Got, got, read_data, Shortest}
use Rattle.dwarf.specs.Leb.{uleb, sleb, read_uleb, read_sleb}
use Rattle.dwarf.specs.Fixed.{read_fixed}
use Rattle.dwarf.specs.Reading.{read_counted, read_short}
use Rattle.dwarf.proofs.Optional.{both}
use Rattle.dwarf.proofs.Uleb.{uleb_shortest}
use Rattle.dwarf.proofs.Sleb.{sleb_shortest}

pub uleb_consumes : (bytes : List ℕ) (g : Got ℕ) → read_uleb bytes ≡ Some g → length (uleb g.value) + length g.rest ≤ length bytes
unfolding Shortest
uleb_consumes bytes g e = uleb_shortest g.value bytes g.rest e

pub sleb_consumes : (bytes : List ℕ) (g : Got ℤ) → read_sleb bytes ≡ Some g → length (sleb g.value) + length g.rest ≤ length bytes
unfolding Shortest
sleb_consumes bytes g e = sleb_shortest g.value bytes g.rest e

-- data of a count, and the bytes after it
pub record Cut (count : ℕ) (bytes : List ℕ) (g : Got (List ℕ)) : Type 0 where
  pub data_is : g.value ≡ take count bytes
  pub rest_is : g.rest ≡ drop count bytes
  pub enough : count ≤ length bytes

pub cut : (count : ℕ) (bytes : List ℕ) (g : Got (List ℕ)) → read_data count bytes ≡ Some g → Cut count bytes g
cut count bytes g e =
    elim (cases_lt (length bytes) count) [
      | inl l ↦ absurd (let n : read_data count bytes ≡ None = cond-false _ _ _ (lt-leb count (length bytes) l) in
          let z : ◌≡◌ {A = ℕ} 0 1 = cc in omega arith)
      | inr m ↦ let s : read_data count bytes ≡ got (take count bytes) (drop count bytes) = cond-true _ _ _ (le-leb count (length bytes) m) in
          let same : g ≡ record { value = take count bytes; rest = drop count bytes } = cc in
          record { data_is = ap (λ (x : Got (List ℕ)). x.value) same; rest_is = ap (λ (x : Got (List ℕ)). x.rest) same; enough = m }
    ]

pub data_consumes : (count : ℕ) (bytes : List ℕ) (g : Got (List ℕ)) → read_data count bytes ≡ Some g
    → (length g.value ≡ count) × (count + length g.rest ≡ length bytes)
data_consumes count bytes g e =
    let c = cut count bytes g e in
    let m = c.enough in
    (ap length c.data_is ∙ simp length-take (omega arith), rw c.rest_is (simp length-drop (omega arith)))

pub fixed_consumes : (big : Bool) (width : ℕ) (bytes : List ℕ) (g : Got ℕ) → read_fixed big width bytes ≡ Some g → width + length g.rest ≡ length bytes
unfolding read_fixed
fixed_consumes big width bytes g e =
    let s = both (read_data width bytes) _ g e in
    let same : g.rest ≡ s.value.rest = ap (λ (x : Option (Got ℕ)). rest_of x) (sym s.next_is) in
    omega (arith, (data_consumes width bytes s.value s.first_is).1, ap length same)
  where
    rest_of : Option (Got ℕ) → List ℕ
    rest_of None = []
    rest_of (Some x) = x.rest

pub counted_consumes : (bytes : List ℕ) (g : Got (List ℕ)) → read_counted bytes ≡ Some g
    → length (uleb (length g.value)) + (length g.value + length g.rest) ≤ length bytes
unfolding read_counted
counted_consumes bytes g e =
    let s = both (read_uleb bytes) _ g e in
    let d = data_consumes s.value.value s.value.rest g s.next_is in
    rw d.0 (omega (arith, uleb_consumes bytes s.value s.first_is, d.1))

pub short_consumes : (bytes : List ℕ) (g : Got (List ℕ)) → read_short bytes ≡ Some g → 1 + (length g.value + length g.rest) ≡ length bytes
unfolding read_short
short_consumes [] g e = absurd (let z : ◌≡◌ {A = ℕ} 0 1 = cc in omega arith)
short_consumes (count ∷ bytes) g e = let d = data_consumes count bytes g e in omega (arith, d.0, d.1)
