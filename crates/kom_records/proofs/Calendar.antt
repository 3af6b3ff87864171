-- The moment of a calendar time.
use Rattle.std.proofs.Common.{◌≡◌, ℕ, zero, suc, ◌+◌, ◌-◌, ◌≤◌, ap, ◌∙◌, arith, ℤ, pos}
use Rattle.std.proofs.lemmas.Bool.Decides.{nat_tests}
use Rattle.jiff_core.specs.Calendar.{days_in_year, day_count, days_from_civil}
use Rattle.jiff_core.proofs.SignedLemmas.{signed_arith}
use Rattle.jiff_core.proofs.CalendarLemmas.{day_count-epoch, day_count-next_year, days_from_civil-day_count}
use Rattle.kom_types.specs.Times.{days_of_year}
use Rattle.kom_records.specs.Times.{days_of_years}

same_year : (y : ℕ) → days_of_year y ≡ days_in_year (pos y)
same_year y = grind (arith, nat_tests)

-- the first days of two years
pub years_counted : (year more : ℕ) →
    day_count (pos (year + more)) 1 1 ≡ day_count (pos year) 1 1 + days_of_years year more
unfolding days_of_years
years_counted year zero =
    let same : year + 0 ≡ year = omega arith in
    ap (λ y. day_count (pos y) 1 1) same ∙ omega arith
years_counted year (suc more) =
    let same : year + suc more ≡ year + 1 + more = omega arith in
    let next = day_count-next_year (pos year) (pos (year + 1)) (omega (arith, signed_arith))
    (omega (arith, signed_arith)) in
    ap (λ y. day_count (pos y) 1 1) same
    ∙ omega (arith, years_counted (year + 1) more, next, same_year year)

-- the days from the beginning of 1970 to that of a later year
pub first_of_year : (year : ℕ) (number : ℤ) → 70 ≤ year → number ≡ days_from_civil (pos (year + 1900)) 1 1 →
    number ≡ pos (days_of_years 1970 (year - 70))
first_of_year year number from is =
    let counted = years_counted 1970 (year - 70) in
    let same : 1970 + (year - 70) ≡ year + 1900 = omega arith in
    let there : day_count (pos (1970 + (year - 70))) 1 1 ≡ day_count (pos (year + 1900)) 1 1 =
    ap (λ y. day_count (pos y) 1 1) same in
    is ∙ omega (
      arith,
      signed_arith,
      counted,
      there,
      day_count-epoch,
      days_from_civil-day_count (pos (year + 1900)) 1 1,
    )
