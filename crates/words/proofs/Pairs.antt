-- Pairs of hexadecimal digits.
use Rattle.std.proofs.Common.{◌≡◌, ℕ, true, List, [], ◌∷◌, is_some, Some, None, Option, refl, sym, ap, ◌∙◌}
use Rattle.std.specs.Bool.{then_some}
use Rattle.std.specs.Option.{option_map}
use Rattle.std.proofs.lemmas.Bool.{false≢true}
use Rattle.words.specs.declared.hex.Hex.{Hex}
use Rattle.words.specs.Numbers.{hex_digit, onto}
use Rattle.words.specs.Bytes.{byte_of, bytes_in, ahead, front_bytes, denoted}

ahead-onto : (o : Option ℕ) (cs : List ℕ) (bs : Option (List ℕ)) → is_some (onto o bs) ≡ true → (is_some bs ≡ true → Some (front_bytes cs) ≡ bs) → Some (ahead o (front_bytes cs)) ≡ onto o bs
ahead-onto None cs bs h k = absurd (false≢true h)
ahead-onto (Some b) cs None h k = absurd (false≢true h)
ahead-onto (Some b) cs (Some bs) h k = let e = k refl in cc

-- digits in pairs are all read
pub front_all : (cs : List ℕ) → is_some (bytes_in cs) ≡ true → Some (front_bytes cs) ≡ bytes_in cs
front_all [] h = refl
front_all (c ∷ []) h = absurd (false≢true h)
front_all (c ∷ d ∷ cs) h = ahead-onto (byte_of (hex_digit c) (hex_digit d)) cs (bytes_in cs) h (front_all cs)

-- digits that write bytes stand for them
pub denoted_all : (h : Hex) (o : Option (List ℕ)) → o ≡ bytes_in h.digits.now → option_map denoted (then_some (is_some o) h) ≡ o
denoted_all h None e = refl
denoted_all h (Some bs) e = front_all h.digits.now (ap is_some (sym e)) ∙ sym e
