use Rattle.std.proofs.Common.{◌≡◌, ℕ, ◌<◌, ◌^◌, min, sym, ◌∙◌, ap, arith}
use Rattle.local_maps.proofs.Parts.{after_last-last}
use Rattle.local_maps.proofs.mapping.after_last.Goals as goal

low : (n : ℕ) → n < 2 ^ 32 → min n 4294967295 ≡ n
low n fits = omega arith

pub returns-in-Some : goal.returns-in-Some
returns-in-Some c =
    λ fits.
    let last = after_last-last c.args.least c.args.pairs.now c.in-Some.pair.now (sym c.in-Some.ensures.value) in
    c.saturating_add.ensures ∙ ap (λ n. min n 4294967295) (sym last) ∙ low _ fits
