-- The lines of a body, one by one.
use Rattle.std.proofs.Common.{◌≡◌, ℕ, ◌+◌, ◌<◌, ◌≤◌, ◌==◌, true, false, cond, if◌then◌else◌, List, [], ◌∷◌}
use Rattle.std.proofs.Common.{◌++◌, length, drop, sym, ap, ◌∙◌, arith, append_assoc, append-nil, length-append}
use Rattle.std.proofs.lemmas.List.{at_drop_all}
use Rattle.std.proofs.lemmas.List.Sums.{take_while-cons}
use Rattle.kom_exchange.specs.Pages.{goes_on, first_line, behind_line, lines_from}

pub nothing_behind : (xs : List ℕ) (n : ℕ) → length xs ≤ n → drop n xs ≡ []
nothing_behind xs n past = at_drop_all (λ (ys : List ℕ). ys) xs n past

-- the line that has begun, and the lines behind it
pub lines_more : (bytes begun : List ℕ) → 0 < length begun + length bytes
    → lines_from begun bytes ≡ (begun ++ first_line bytes) ∷ lines_from [] (behind_line bytes)
lines_more [] [] some = absurd (omega arith)
lines_more [] (byte ∷ begun) some =
    ap (λ (line : List ℕ). line ∷ []) (sym (append-nil (byte ∷ begun)))
lines_more (byte ∷ bytes) begun some =
    (elim (goes_on byte) as (λ v.
    (if v then lines_from (begun ++ byte ∷ []) bytes else begun ∷ lines_from [] bytes)
    ≡ (begun ++ cond v (byte ∷ first_line bytes) [])
    ∷ lines_from [] (if v then behind_line bytes else bytes)) [
      | true ↦
          lines_more bytes (begun ++ byte ∷ []) (omega (arith, length-append begun (byte ∷ [])))
          ∙ ap (λ (line : List ℕ). line ∷ lines_from [] (behind_line bytes))
          (append_assoc begun (byte ∷ []) (first_line bytes))
      | false ↦ ap (λ (line : List ℕ). line ∷ lines_from [] bytes) (sym (append-nil begun))
    ])
    ∙ ap (λ (line : List ℕ). (begun ++ line) ∷ lines_from [] (behind_line (byte ∷ bytes)))
    (sym (take_while-cons goes_on byte bytes))

true_false : true ≡ false → ⊥
true_false e = cc

pub some_of : (bytes : List ℕ) → (length bytes == 0) ≡ false → 0 < length bytes
some_of [] e = absurd (true_false e)
some_of (byte ∷ bytes) e = omega arith

-- bytes are their first line and the lines behind it
pub lines_first : (bytes : List ℕ) → 0 < length bytes
    → lines_from [] bytes ≡ first_line bytes ∷ lines_from [] (behind_line bytes)
lines_first bytes some = lines_more bytes [] (omega arith)
