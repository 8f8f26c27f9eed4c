-- Elements in use, by their places.
use Rattle.std.proofs.Common.{◌≡◌, ℕ, ◌+◌, ◌-◌, ◌<◌, min, ltb, List, length, get_or, take, drop, IfSome, Some, None, Option, sym, ◌∙◌, arith, length-take}
use Rattle.std.specs.List.{copy_within}
use Rattle.std.proofs.lemmas.List.{get_or-take, drop-take}
use Rattle.std.proofs.lemmas.Option.{slice_get-get_or, slice_get_within}
use Rattle.std.proofs.lemmas.Bool.{cond-true, lt-ltb}
use Rattle.list.specs.Rows.{item_at, closed, removed}

module _ {X : Type 0} (xs : List X) where
  -- an element that is read is one in use
  pub item_some : (len i : ℕ) (d : X) (r : Option X) → r ≡ item_at xs len i → IfSome r (λ x. (i < len) × (i < length xs) × (x ≡ get_or xs i d))
  item_some len i d None e = tt
  item_some len i d (Some x) e =
      let w = slice_get_within (take len xs) i x (sym e) in
      let n = length-take len xs in
      let h = slice_get-get_or (take len xs) i d w in
      let g = get_or-take len xs i d (omega arith) in
      (omega arith, omega arith, cc)

  closed_is : (n i : ℕ) → i < n → closed xs n i ≡ copy_within xs (i + 1) n i
  closed_is n i l =
      let a : drop (i + 1) (take (i + 1 + (n - (i + 1))) xs) ≡ take (n - (i + 1)) (drop (i + 1) xs) = drop-take (i + 1) (n - (i + 1)) xs in
      let b : i + 1 + (n - (i + 1)) ≡ n = omega arith in
      let c : i + (n - (i + 1)) ≡ n - 1 = omega arith in
      cc

  -- taking an element out moves those behind it one place down
  pub removed_is : (len i : ℕ) (x : X) → Some x ≡ item_at xs len i → removed xs len i ≡ (Some x, copy_within xs (i + 1) (min len (length xs)) i)
  removed_is len i x e =
      let s = item_some len i x (Some x) e in
      let a = closed_is (min len (length xs)) i (omega arith) in
      cond-true (ltb i (min len (length xs))) (item_at xs len i, closed xs (min len (length xs)) i) (None, xs) (lt-ltb _ _ (omega arith)) ∙ cc
