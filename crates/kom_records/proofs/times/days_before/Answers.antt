use Rattle.std.proofs.Common.{◌≡◌, ℕ, ◌+◌, ◌-◌, ◌≤◌, pos, refl, ◌∙◌, arith, w16, to_z}
use Rattle.std.proofs.lemmas.Int.{to_z_pos}
use Rattle.jiff_core.specs.Calendar.{days_in_month}
use Rattle.jiff_core.specs.Date.{epoch_day}
use Rattle.jiff_core.specs.declared.civil.date.Date.{Date}
use Rattle.jiff_core.proofs.CalendarLemmas.{days_in_month_bounds}
use Rattle.jiff_core.proofs.SignedLemmas.{signed_arith}
use Rattle.std.specs.Prelude.{min}
use Rattle.kom_records.specs.Times.{days_of_years}
use Rattle.kom_records.proofs.Calendar.{first_of_year}
use Rattle.kom_records.proofs.times.days_before.Goals as goal

-- the first day of a year
first : (year : ℕ) (date : Date) → 70 ≤ year → year ≤ 8099 → date.year ≡ to_z w16 (year + 1900) → date.month ≡ 1 →
    date.day ≡ min 1 (days_in_month (to_z w16 (year + 1900)) 1) →
    epoch_day date ≡ pos (days_of_years 1970 (year - 70))
first year date from to is month day =
    let here : date.year ≡ pos (year + 1900) = is ∙ to_z_pos w16 (year + 1900) (omega (arith, to)) in
    let one : date.day ≡ 1 = omega (arith, day, days_in_month_bounds (to_z w16 (year + 1900)) 1) in
    first_of_year year (epoch_day date) from (rw (here, month, one) refl)

pub overflow_sub-days_since_min : goal.overflow_sub-days_since_min
overflow_sub-days_since_min c =
    let ensures = c.constrain-first.ensures in
    let number = first c.args.year c.constrain-first.result c.requires.from c.requires.to ensures.year ensures.month
    ensures.day in
    omega (arith, signed_arith, number, c.days_since_min.ensures.value)

pub returns-clause-value : goal.returns-clause-value
returns-clause-value c =
    let ensures = c.constrain-first.ensures in
    let number = first c.args.year c.constrain-first.result c.requires.from c.requires.to ensures.year ensures.month
    ensures.day in
    omega (arith, signed_arith, number, c.days_since_min.ensures.value, c.from.ensures)
