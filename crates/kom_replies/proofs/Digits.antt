-- That the digits of a number tell it.
use Rattle.std.proofs.Common.{◌≡◌, ℕ, ◌+◌, ◌*◌, ◌/◌, ◌%◌, ◌^◌, ◌<◌, ◌≤◌, length, suc, zero, ap, arith}
use Rattle.std.proofs.Common.{◌∙◌, sym, inl, inr, ◌==◌, Bool, false, List, [], ◌∷◌, if◌then◌else◌}
use Rattle.std.specs.Fmt.{decimal, digits, digits_onto, digit_glyph}
use Rattle.std.proofs.Math.Nat.{pow-suc, pow-le-pow_right}
use Rattle.std.specs.Str.Parse.{digits_value}
use Rattle.std.proofs.lemmas.Bool.{cases_lt}
use Rattle.std.proofs.lemmas.Bool.Decides.{nat_tests}
use Rattle.std.proofs.lemmas.Fmt.{decimal_is_IsNumeral_wide, length-decimal-le}

power_some : (k : ℕ) → 1 ≤ 10 ^ k
power_some k =
    let some : 0 < 10 = omega arith in
    let from_none : 0 ≤ k = omega arith in
    let power : 10 ^ 0 ≤ 10 ^ k = pow-le-pow_right some from_none in
    power

-- of a number that has more digits than are taken, as many are taken
length-digits_onto : (k n : ℕ) (rest : List ℕ) → 10 ^ k ≤ n →
    length (digits_onto k 10 false n rest) ≡ k + length rest
length-digits_onto zero n rest many = omega arith
length-digits_onto (suc k) n rest many =
    let power : 10 ^ suc k ≡ 10 ^ k * 10 = pow-suc 10 k in
    let some : 1 ≤ 10 ^ k = power_some k in
    let many' : 10 ^ k ≤ n / 10 = omega arith in
    let more : (n / 10 == 0) ≡ false = grind (arith, nat_tests) in
    let glyph : ℕ = digit_glyph false (n % 10) in
    ap
    (λ (last : Bool). length (if last then glyph ∷ rest else digits_onto k 10 false (n / 10) (glyph ∷ rest))) more
    ∙ length-digits_onto k (n / 10) (glyph ∷ rest) many' ∙ omega arith

-- as the digits of a number from 10^64 on, which are the last 64
long_decimal : (n : ℕ) → 10 ^ 64 ≤ n → length (decimal n) ≡ 64
unfolding digits
long_decimal n many = length-digits_onto 64 n [] many

-- two numbers with the same digits, of which one fits a `u64`, are one
pub decimal_tells : (m n : ℕ) → m < 2 ^ 64 → decimal m ≡ decimal n → m ≡ n
decimal_tells m n within same = elim (cases_lt n (10 ^ 64)) [
  | inl small ↦ sym (decimal_is_IsNumeral_wide m (omega arith)).1 ∙ ap (digits_value 10) same
      ∙ (decimal_is_IsNumeral_wide n small).1
  | inr many ↦ let few : length (decimal m) ≤ 20 = length-decimal-le 20 m (omega arith) (omega arith) within in
      absurd (omega (arith, few, ap length same, long_decimal n many))
]
