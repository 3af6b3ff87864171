-- What was written into a buffer from a place on.
use Rattle.std.proofs.Common.{◌≡◌, ℕ, ◌+◌, ◌<◌, ◌≤◌, ◌^◌, List, ◌++◌, length, take, drop, ap, subst, ◌∙◌, arith}
use Rattle.std.specs.Fmt.{decimal}
use Rattle.std.proofs.Math.Seq.{take-add}
use Rattle.std.proofs.lemmas.Fmt.{length-decimal-le}
use Rattle.std.proofs.lemmas.List.{take-append-le, take_all}

-- a word at a place follows what was before it
pub taken_on : (at more start : ℕ) (new old word rest : List ℕ) → start + length word ≡ at + more → more ≡ length word
    → drop start new ≡ word ++ rest → take start new ≡ take start old → take (at + more) new ≡ take at old ++ word
taken_on at more start new old word rest ends is written before =
    let here : start ≡ at = omega arith in
    take-add at more new
    ∙ ap (λ (t : List ℕ). t ++ take more (drop at new)) (subst (λ (k : ℕ). take k new ≡ take k old) here before)
    ∙ ap (λ (t : List ℕ). take at old ++ take more t) (subst (λ (k : ℕ). drop k new ≡ word ++ rest) here written)
    ∙ ap (λ (k : ℕ). take at old ++ take k (word ++ rest)) is
    ∙ ap (λ (t : List ℕ). take at old ++ t)
    (take-append-le (length word) word rest (omega arith) ∙ take_all (length word) word (omega arith))

pub few_digits : (n : ℕ) → n < 2 ^ 32 → length (decimal n) ≤ 10
few_digits n fits = length-decimal-le 10 n (omega arith) (omega arith) (omega arith)

pub most_digits : (n : ℕ) → n < 2 ^ 64 → length (decimal n) ≤ 20
most_digits n fits = length-decimal-le 20 n (omega arith) (omega arith) fits
