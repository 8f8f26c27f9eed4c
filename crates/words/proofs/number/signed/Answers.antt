use Rattle.std.proofs.Common.{◌≡◌, ◌+◌, ◌^◌, neg_ℤ, pos, sym, ap, ◌∙◌, arith, rules}
use Rattle.std.proofs.lemmas.Int.{ints}
use Rattle.std.specs.Option.{option_map}
use Rattle.words.specs.Numbers.{number_of, signed_of, plain}
use Rattle.words.proofs.Numerals.{converted, below_none}
use Rattle.words.proofs.number.signed.Goals as goal

pub returns-in_ok-plain_number-in-Some : goal.returns-in_ok-plain_number-in-Some
returns-in_ok-plain_number-in-Some c =
    let n = c.in_ok-plain_number-in-Some.field-0 in
    let ds = c.in-Some.digits.now in
    let is : signed_of c.args.word.now ≡ option_map (λ n. neg_ℤ (pos n)) (number_of (2 ^ 63) ds) = search rules in
    c.ok.ensures.value ∙ converted (2 ^ 63 + 1) n (λ n. neg_ℤ (pos n)) (plain ds) _ c.try_from.result (omega arith) (sym c.in_ok-plain_number-in-Some.was ∙ c.plain_number.ensures) (omega (arith, ints)) (λ h. omega (arith, ints)) (λ h. omega (arith, ints)) c.try_from.ensures ∙ sym is

pub returns-in_err-plain_number-in-Some : goal.returns-in_err-plain_number-in-Some
returns-in_err-plain_number-in-Some c =
    let ds = c.in-Some.digits.now in
    let is : signed_of c.args.word.now ≡ option_map (λ n. neg_ℤ (pos n)) (number_of (2 ^ 63) ds) = search rules in
    let none = below_none (2 ^ 63 + 1) (2 ^ 64) (plain ds) (omega arith) (sym c.plain_number.ensures ∙ c.in_err-plain_number-in-Some.was) in
    c.from_residual.ensures ∙ sym (is ∙ ap (option_map (λ n. neg_ℤ (pos n))) none)
