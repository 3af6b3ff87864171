-- The bits of a number.
use Rattle.std.proofs.Common.{◌≡◌, ℕ, ◌*◌, ◌%◌, ◌^◌, ◌<◌, ◌≤◌, false, bit_and, zero-mul, refl, ap, ◌∙◌, arith}
use Rattle.std.proofs.Math.Nat.{div-eq_of_lt, pow-le-pow_right}
use Rattle.std.proofs.lemmas.Nat.Bits.{and_pow}
use Rattle.kom_types.specs.Bits.{is_on}

-- the bits of a `u32` end below 32
pub no_bit : (bits number : ℕ) → bits < 2 ^ 32 → 32 ≤ number → is_on (2 ^ number) bits ≡ false
no_bit bits number fits past =
    let power : 2 ^ 32 ≤ 2 ^ number = pow-le-pow_right (omega arith) past in
    let above : bits < 2 ^ number = omega arith in
    let none : bit_and bits (2 ^ number) ≡ 0 =
    and_pow bits number ∙ ap (λ high. high % 2 * 2 ^ number) (div-eq_of_lt above) ∙ zero-mul (2 ^ number) in
    rw none refl
