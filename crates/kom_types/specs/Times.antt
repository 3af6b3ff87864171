-- The calendar. (Protocol A, "Time".)
use Rattle.std.specs.Prelude.{ℕ, zero, suc, ◌+◌, ◌-◌, ◌/◌, ◌%◌, Bool, false, ◌==◌, ◌||◌, ◌&&◌, not}
use Rattle.std.specs.Prelude.{nat_lt, List, [], ◌∷◌, if◌then◌else◌}
use Rattle.kom_types.specs.declared.times.Time.{Time}

-- a year of 366 days: each fourth one, but of the hundreds each fourth one alone
abbrev pub is_leap : ℕ → Bool
is_leap year = (year % 4 == 0 && not (year % 100 == 0)) || year % 400 == 0

abbrev pub days_of_year : ℕ → ℕ
days_of_year year = if is_leap year then 366 else 365

-- how many days the months of a year have
abbrev pub days_of_months : ℕ → List ℕ
days_of_months year =
    31 ∷ (if is_leap year then 29 else 28) ∷ 31 ∷ 30 ∷ 31 ∷ 30 ∷ 31 ∷ 31 ∷ 30 ∷ 31 ∷ 30 ∷ 31 ∷ []

-- a day as one of a year, or of a month, both counted from 0
pub record Day : Type 0 where
  pub unit : ℕ
  pub day : ℕ

-- the day so many days after the first of a year, among that year and so many more
unfoldable pub day_from : ℕ → ℕ → ℕ → Day
day_from zero year days = record { unit = year; day = days }
day_from (suc more) year days =
    if nat_lt days (days_of_year year) then record { unit = year; day = days }
    else day_from more (year + 1) (days - days_of_year year)

-- the day so many days after the first of a month, among months of these lengths
unfoldable pub month_from : List ℕ → ℕ → ℕ → Day
month_from [] month days = record { unit = month; day = days }
month_from (length ∷ lengths) month days =
    if nat_lt days length then record { unit = month; day = days }
    else month_from lengths (month + 1) (days - length)

-- The moment of so many seconds since the beginning of 1970, a Thursday, by the calendar, in UTC:
-- up to the end of the year 9999.
unfoldable pub time_of : ℕ → Time
time_of moment =
    let days = moment / 86400 in
    let second = moment % 86400 in
    let day = day_from 8029 1970 days in
    let month = month_from (days_of_months day.unit) 0 day.day in
    record {
      seconds = second % 60;
      minutes = second / 60 % 60;
      hours = second / 3600;
      day = month.day + 1;
      month = month.unit;
      year = day.unit - 1900;
      weekday = (days + 4) % 7;
      yearday = day.day;
      dst = false;
    }
