-- How many digits a number has.
use Rattle.std.proofs.Common.{◌≡◌, ℕ, ◌+◌, ◌*◌, ◌/◌, ◌%◌, ◌^◌, ◌<◌, ◌≤◌, length, suc, zero, refl, ap, arith}
use Rattle.std.specs.Fmt.{decimal}
use Rattle.std.proofs.Math.Nat.{pow-suc, pow-le-pow_right}
use Rattle.std.proofs.lemmas.Fmt.{decimal_digit, decimal_step}
use Rattle.std.proofs.lemmas.List.{length_push}

power_some : (k : ℕ) → 1 ≤ 10 ^ k
power_some k =
    let some : 0 < 10 = omega arith in
    let from_none : 0 ≤ k = omega arith in
    let power : 10 ^ 0 ≤ 10 ^ k = pow-le-pow_right some from_none in
    power

-- a number has one digit more than the power of ten that it reaches
pub length-decimal_from : (k n : ℕ) → 10 ^ k ≤ n → n < 10 * 10 ^ k → n < 2 ^ 64 → length (decimal n) ≡ k + 1
length-decimal_from zero n low high within = rw (decimal_digit n (omega arith)) refl
length-decimal_from (suc k) n low high within =
    let power : 10 ^ suc k ≡ 10 ^ k * 10 = pow-suc 10 k in
    let some : 1 ≤ 10 ^ k = power_some k in
    let low' : 10 ^ k ≤ n / 10 = omega arith in
    let high' : n / 10 < 10 * 10 ^ k = omega arith in
    let rest : length (decimal (n / 10)) ≡ k + 1 = length-decimal_from k (n / 10) low' high' (omega arith) in
    let pushed = length_push (decimal (n / 10)) (48 + n % 10) in
    let step = ap length (decimal_step n (omega arith) within) in
    omega (arith, rest, pushed, step)
