-- The low bytes of a number, from those of a wider one.
use Rattle.std.proofs.Common.{◌≡◌, ℕ, zero, suc, ◌-◌, ◌/◌, ◌%◌, ◌≤◌, Bool, true, false, List, [], ◌∷◌, ◌++◌, reverse, length, take, drop, sym, ap, ◌∙◌, arith, length-drop, refl}
use lib.ListN.{length-reverse}
use Rattle.std.proofs.lemmas.List.{reverse-append, take-append-drop, drop_at, take_all}
use Rattle.dwarf.specs.Fixed.{low_bytes, fixed_bytes}
use Rattle.dwarf.proofs.Widths.{length_fixed}

low_take : (w k n : ℕ) → w ≤ k → take w (low_bytes k n) ≡ low_bytes w n
low_take zero k n l = refl
low_take (suc w) zero n l = absurd (omega arith)
low_take (suc w) (suc k) n l = ap (λ (z : List ℕ). n % 256 ∷ z) (low_take w k (n / 256) (omega arith))

-- the lowest bytes come first
pub fixed_first : (w k n : ℕ) → w ≤ k → take w (fixed_bytes false k n) ≡ fixed_bytes false w n
fixed_first w k n l = low_take w k n l

-- or last
pub fixed_last : (w k n : ℕ) → w ≤ k → drop (k - w) (fixed_bytes true k n) ≡ fixed_bytes true w n
fixed_last w k n l =
    let L : List ℕ = low_bytes k n in
    let a : reverse L ≡ reverse (drop w L) ++ reverse (low_bytes w n) =
    ap reverse (sym (take-append-drop w L)) ∙ (reverse-append (take w L) (drop w L) ∙ ap (λ z. reverse (drop w L) ++ reverse z) (low_take w k n l)) in
    let d : length (reverse (drop w L)) ≡ k - w = length-reverse (drop w L) ∙ (length-drop w L ∙ ap (λ m. m - w) (length_fixed false k n)) in
    ap (drop (k - w)) a ∙ drop_at (reverse (drop w L)) (reverse (low_bytes w n)) (k - w) d

-- the part of a number's eight bytes that holds its lowest ones, behind no bytes
module _ (big : Bool) (none all cut : List ℕ) (n w : ℕ) (z : none ≡ []) (a : all ≡ fixed_bytes big 8 n) (l : w ≤ 8) where
  pub cut_first : big ≡ false → cut ≡ none ++ take w all → cut ≡ fixed_bytes big w n
  cut_first b e = let k = fixed_first w 8 n l in cc

  pub cut_last : big ≡ true → cut ≡ none ++ take (8 - (8 - w)) (drop (8 - w) all) → cut ≡ fixed_bytes big w n
  cut_last b e =
      let k = fixed_last w 8 n l in
      let m = length_fixed true w n in
      let t = take_all (8 - (8 - w)) (fixed_bytes true w n) (omega arith) in
      cc
