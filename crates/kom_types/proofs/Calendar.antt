-- The date of a day's number is the day that specs/Times.antt finds.
use Rattle.std.proofs.Common.{◌≡◌, ℕ, zero, suc, ◌+◌, ◌-◌, ◌/◌, ◌%◌, ◌<◌, ◌≤◌, false, inl, inr}
use Rattle.std.proofs.Common.{refl, sym, ap, subst, ◌∙◌, arith, ℤ, pos, ◌≤ℤ◌, ◌<ℤ◌, List, [], ◌∷◌}
use Rattle.std.proofs.Common.{get_or}
use Rattle.std.proofs.lemmas.Bool.{cases_order}
use Rattle.std.proofs.lemmas.Bool.Decides.{nat_tests}
use Rattle.std.proofs.lemmas.Int.{by_lt_z}
use Rattle.jiff_core.specs.Calendar.{is_leap_year, IsCivilDate, days_in_year, days_in_month}
use Rattle.jiff_core.specs.Calendar.{day_count, day_of_year, days_from_civil}
use Rattle.jiff_core.specs.Calendar.{days_of_months as days_before}
use Rattle.jiff_core.specs.Date.{epoch_day, ordinal}
use Rattle.jiff_core.specs.declared.civil.date.Date.{Date}
use Rattle.jiff_core.proofs.SignedLemmas.{signed_arith}
use Rattle.jiff_core.proofs.DateLemmas.{civil}
use Rattle.jiff_core.proofs.CalendarLemmas.{day_count-epoch, day_count-day_of_year}
use Rattle.jiff_core.proofs.CalendarLemmas.{day_count-next_year, day_count-later_year}
use Rattle.jiff_core.proofs.CalendarLemmas.{day_count-lt_year, day_of_year_bound}
use Rattle.jiff_core.proofs.CalendarLemmas.{days_from_civil-day_count, days_of_months-zero}
use Rattle.jiff_core.proofs.CalendarLemmas.{days_of_months_more}
use Rattle.kom_types.specs.declared.times.Time.{Time}
use Rattle.kom_types.specs.Times.{Day, is_leap, days_of_year, days_of_months, day_from, month_from}
use Rattle.kom_types.specs.Times.{time_of}

-- both calendars have the same leap years
same_leap : (y : ℕ) → is_leap y ≡ is_leap_year (pos y)
same_leap y = grind (arith, nat_tests)

same_year : (y : ℕ) → days_of_year y ≡ days_in_year (pos y)
same_year y = grind (arith, nat_tests)

abbrev day_of : ℕ → ℕ → Day
day_of unit n = record { unit = unit; day = n }

same_day : (unit unit₂ n n₂ : ℕ) → unit ≡ unit₂ → n ≡ n₂ → day_of unit n ≡ day_of unit₂ n₂
same_day unit unit₂ n n₂ e f = rw (e, f)

-- a day among those of the first year
day_here : (more year n : ℕ) → n < days_of_year year → day_from more year n ≡ day_of year n
unfolding day_from
day_here zero year n h = refl
day_here (suc more) year n h = grind (arith, nat_tests)

-- and a later one
day_later : (more year n : ℕ) → days_of_year year ≤ n →
    day_from (suc more) year n ≡ day_from more (year + 1) (n - days_of_year year)
unfolding day_from
day_later more year n h = grind (arith, nat_tests)

-- a day so many days after the first of its year
day_first : (more year y m d n : ℕ) → IsCivilDate (pos y) m d → year ≡ y →
    day_count (pos year) 1 1 + n ≡ day_count (pos y) m d →
    day_from more year n ≡ day_of y (day_of_year (pos y) m d - 1)
day_first more year y m d n is same e =
    let here : day_count (pos y) 1 1 + n ≡ day_count (pos y) m d = rw same at e in
    let placed = day_count-day_of_year (pos y) m d is.2.0 in
    let place : n ≡ day_of_year (pos y) m d - 1 = omega (arith, placed) in
    let last = day_of_year_bound (pos y) m d is in
    let within : n < days_of_year year = rw same (omega (arith, same_year y, last)) in
    day_here more year n within ∙ same_day year y n _ same place

-- a day so many days after the first of its year or of an earlier one
day_found : (more year y m d n : ℕ) → IsCivilDate (pos y) m d → year ≤ y → y ≤ year + more →
    day_count (pos year) 1 1 + n ≡ day_count (pos y) m d →
    day_from more year n ≡ day_of y (day_of_year (pos y) m d - 1)
day_found zero year y m d n is low high e = day_first zero year y m d n is (omega arith) e
day_found (suc more) year y m d n is low high e =
    elim (cases_order year y) [
      | inl same ↦ day_first (suc more) year y m d n is same e
      | inr (inl lt) ↦
          let before : pos year <ℤ pos y = omega (arith, signed_arith) in
          let gap = day_count-later_year (pos year) (pos y) (omega (arith, signed_arith)) before in
          let placed = day_count-day_of_year (pos y) m d is.2.0 in
          let long : days_of_year year ≤ n = omega (arith, same_year year, gap, placed) in
          let next =
          day_count-next_year (pos year) (pos (year + 1)) (omega (arith, signed_arith))
          (omega (arith, signed_arith)) in
          let rest = n - days_of_year year in
          let counted : day_count (pos (year + 1)) 1 1 + rest ≡ day_count (pos y) m d =
          omega (arith, next, same_year year) in
          day_later more year n long ∙ day_found more (year + 1) y m d rest is (omega arith) (omega arith) counted
      | inr (inr gt) ↦ absurd (omega arith)
    ]

-- a day of the first month
month_here : (length : ℕ) (lengths : List ℕ) (month n : ℕ) → n < length →
    month_from (length ∷ lengths) month n ≡ day_of month n
unfolding month_from
month_here length lengths month n h = grind (arith, nat_tests)

-- and one of a later month
month_later : (length : ℕ) (lengths : List ℕ) (month n : ℕ) → length ≤ n →
    month_from (length ∷ lengths) month n ≡ month_from lengths (month + 1) (n - length)
unfolding month_from
month_later length lengths month n h = grind (arith, nat_tests)

-- the days of the first k months
abbrev total : List ℕ → ℕ → ℕ
total lengths zero = 0
total [] (suc k) = 0
total (length ∷ lengths) (suc k) = length + total lengths k

total_more : (lengths : List ℕ) (k : ℕ) → total lengths (suc k) ≡ total lengths k + get_or lengths k 0
total_more [] zero = refl
total_more [] (suc k) = refl
total_more (length ∷ lengths) zero = omega arith
total_more (length ∷ lengths) (suc k) = omega (arith, total_more lengths k)

month_found : (lengths : List ℕ) (month k d n : ℕ) → d < get_or lengths k 0 → n ≡ total lengths k + d →
    month_from lengths month n ≡ day_of (month + k) d
month_found [] month k d n h e = absurd (omega arith)
month_found (length ∷ lengths) month zero d n h e =
    month_here length lengths month n (omega arith)
    ∙ same_day month (month + 0) n d (omega arith) (omega arith)
month_found (length ∷ lengths) month (suc k) d n h e =
    month_later length lengths month n (omega arith)
    ∙ month_found lengths (month + 1) k d (n - length) (omega arith) (omega arith)
    ∙ same_day (month + 1 + k) (month + suc k) d d (omega arith) refl

-- both calendars have the same months
month_length : (y k : ℕ) → k < 12 → get_or (days_of_months y) k 0 ≡ days_in_month (pos y) (suc k)
month_length y zero h = refl
month_length y (suc zero) h = rw same_leap
month_length y (suc (suc k)) h = grind (arith, nat_tests)

months_before : (y k : ℕ) → k < 12 → total (days_of_months y) k ≡ days_before (pos y) k
months_before y zero h = sym (days_of_months-zero (pos y))
months_before y (suc k) h =
    let back : suc k - 1 ≡ k = omega arith in
    let more = rw back at (days_of_months_more (pos y) (suc k) (omega arith)) in
    let below : k < 12 = omega arith in
    omega (arith, total_more (days_of_months y) k, months_before y k below, month_length y k below, more)

month_of_date : (y m d : ℕ) → IsCivilDate (pos y) m d →
    month_from (days_of_months y) 0 (day_of_year (pos y) m d - 1) ≡ day_of (m - 1) (d - 1)
month_of_date y m d is =
    let back : suc (m - 1) ≡ m = omega arith in
    let below : m - 1 < 12 = omega arith in
    let length = rw back at (month_length y (m - 1) below) in
    let within : d - 1 < get_or (days_of_months y) (m - 1) 0 = omega (arith, length) in
    month_found (days_of_months y) 0 (m - 1) (d - 1) _ within (omega (arith, months_before y (m - 1) below))
    ∙ same_day (0 + (m - 1)) (m - 1) (d - 1) (d - 1) (omega arith) refl

-- a date whose number is not negative lies in 1970 or later
pub year_from_1970 : (d : Date) → pos 0 ≤ℤ epoch_day d → pos 1970 ≤ℤ d.year
year_from_1970 d h =
    let numbered = days_from_civil-day_count d.year d.month d.day in
    by_lt_z d.year (pos 1970)
    (λ lt.
    let fewer = day_count-lt_year d.year d.month d.day (pos 1970) 1 1 (civil d) (omega arith) lt in
    absurd (omega (arith, signed_arith, fewer, day_count-epoch, numbered)))
    (λ le. le)

-- the time of a moment by the day and the month that are found
abbrev time_at : ℕ → Day → Day → Time
time_at moment day month = record {
  seconds = moment % 86400 % 60;
  minutes = moment % 86400 / 60 % 60;
  hours = moment % 86400 / 3600;
  day = month.day + 1;
  month = month.unit;
  year = day.unit - 1900;
  weekday = (moment / 86400 + 4) % 7;
  yearday = day.day;
  dst = false;
}

abbrev month_of : Day → Day
month_of day = month_from (days_of_months day.unit) 0 day.day

time_of-parts : (moment : ℕ) (day month : Day) → day_from 8029 1970 (moment / 86400) ≡ day →
    month_of day ≡ month → time_of moment ≡ time_at moment day month
unfolding time_of
time_of-parts moment day month e f =
    ap (λ (found : Day). time_at moment found (month_of found)) e
    ∙ ap (λ (found : Day). time_at moment day found) f

-- the time of a moment by its day's date and the years since 1900
abbrev pub time_on : ℕ → Date → ℕ → Time
time_on moment d years = record {
  seconds = moment % 86400 % 60;
  minutes = moment % 86400 / 60 % 60;
  hours = moment % 86400 / 3600;
  day = d.day;
  month = d.month - 1;
  year = years;
  weekday = (moment / 86400 + 4) % 7;
  yearday = ordinal d - 1;
  dst = false;
}

pub time_of-date : (moment : ℕ) (d : Date) (years : ℕ) → epoch_day d ≡ pos (moment / 86400) →
    d.year ≡ pos (years + 1900) → time_of moment ≡ time_on moment d years
time_of-date moment d years number year =
    let y = years + 1900 in
    let days = moment / 86400 in
    let low = year_from_1970 d (rw number (omega (arith, signed_arith))) in
    let is : IsCivilDate (pos y) d.month d.day = subst (λ (z : ℤ). IsCivilDate z d.month d.day) year (civil d) in
    let numbered : days_from_civil (pos y) d.month d.day ≡ pos days = rw year at number in
    let count = days_from_civil-day_count (pos y) d.month d.day in
    let counted : day_count (pos 1970) 1 1 + days ≡ day_count (pos y) d.month d.day =
    omega (arith, signed_arith, day_count-epoch, count) in
    let from : 1970 ≤ y = omega (arith, signed_arith) in
    let to : y ≤ 1970 + 8029 = omega (arith, signed_arith) in
    let day_is : d.day - 1 + 1 ≡ d.day = omega arith in
    let year_is : years + 1900 - 1900 ≡ years = omega arith in
    let of_year : day_of_year (pos y) d.month d.day ≡ ordinal d = rw year in
    time_of-parts moment _ _ (day_found 8029 1970 y d.month d.day days is from to counted)
    (month_of_date y d.month d.day is)
    ∙ rw (day_is, year_is, of_year)
