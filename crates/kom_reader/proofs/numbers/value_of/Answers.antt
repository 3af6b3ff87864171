use Rattle.std.proofs.Common.{◌≡◌, ℕ, ◌+◌, ◌*◌, ◌-◌, ◌^◌, ◌<◌, ◌≤◌, get_or, add-one, ap, sym, ◌∙◌, arith}
use Rattle.std.proofs.lemmas.List.Sums.{fold_more}
use Rattle.std.proofs.Math.Nat.{pow-suc, pow-le-pow_right}
use Rattle.kom_reader.proofs.numbers.value_of.Goals as goal

-- one digit more
more : (number index digit next : ℕ) → number + 23 ≤ 23 * 10 ^ index → digit < 256 →
    next ≡ 10 * number + (digit - 48) → next + 23 ≤ 23 * 10 ^ (index + 1)
more number index digit next small within e =
    let power : 10 ^ (index + 1) ≡ 10 ^ index * 10 = ap (λ k. 10 ^ k) (add-one index) ∙ pow-suc 10 index in
    omega arith

-- ten digits at most
bounded : (number index : ℕ) → number + 23 ≤ 23 * 10 ^ index → index < 10 → number ≤ 22999999977
bounded number index small below =
    let some : 0 < 10 = omega arith in
    let within : index ≤ 9 = omega arith in
    let power : 10 ^ index ≤ 10 ^ 9 = pow-le-pow_right some within in
    omega arith

pub overflow_mul-number : goal.overflow_mul-number
overflow_mul-number c =
    omega (arith, bounded c.loop-digit.number c.loop-digit.digit-index c.loop-digit.invariant.small (omega arith))

pub overflow_add-number : goal.overflow_add-number
overflow_add-number c =
    omega (arith, bounded c.loop-digit.number c.loop-digit.digit-index c.loop-digit.invariant.small (omega arith))

pub loop-digit-preserved : goal.loop-digit-preserved
loop-digit-preserved c =
    let step : ℕ → ℕ → ℕ = λ number digit. 10 * number + (digit - 48) in
    let digit = get_or c.args.digits.now c.loop-digit.digit-index 0 in
    let added : c.from.result ≡ digit - 48 = c.from.ensures ∙ c.saturating_sub.ensures in
    let fits : digit < 256 = omega (arith, c.type_inv.digits c.loop-digit.digit-index) in
    record {
      spelled = ap (λ more. 10 * c.loop-digit.number + more) added
          ∙ ap (λ number. step number digit) c.loop-digit.invariant.spelled
          ∙ sym (fold_more step 0 c.args.digits.now c.loop-digit.digit-index 0 c.loop-digit-test.true);
      small = more c.loop-digit.number c.loop-digit.digit-index digit (10 * c.loop-digit.number + c.from.result)
          c.loop-digit.invariant.small fits
          (ap (λ more. 10 * c.loop-digit.number + more) added);
    }
