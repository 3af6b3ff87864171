use Rattle.std.proofs.Common.{◌≡◌, ◌+◌, ◌/◌, pos, sym, arith}
use Rattle.jiff_core.specs.Date.{epoch_day}
use Rattle.jiff_core.proofs.SignedLemmas.{signed_arith}
use Rattle.kom_types.proofs.Calendar.{year_from_1970, time_of-date}
use Rattle.kom_types.proofs.times.Time.of.Goals as goal

pub years_since_1900-requires : goal.years_since_1900-requires
years_since_1900-requires c =
    let from = year_from_1970 c.from_days_since_min-date.result (omega (arith, signed_arith)) in
    omega (arith, signed_arith)

pub returns : goal.returns
returns c =
    let moment = c.seconds-seconds.result in
    let date = c.from_days_since_min-date.result in
    let years = c.years_since_1900.result in
    let number : epoch_day date ≡ pos (moment / 86400) = omega (arith, signed_arith) in
    let year : date.year ≡ pos (years + 1900) = omega (arith, signed_arith) in
    let found = time_of-date moment date years number year in
    rw (c.day_of_year.ensures.value, ← c.seconds-seconds.ensures.value) (sym found)
