-- How a time is read, and the moment that it tells. (Protocol A, "Time".)
use Rattle.std.specs.Prelude.{ℕ, zero, suc, ◌+◌, ◌-◌, ◌*◌, Bool, true, false, ◌==◌, ◌&&◌, nat_le}
use Rattle.std.specs.Prelude.{Option, Some, None}
use Rattle.std.specs.Prelude.{List}
use Rattle.kom_types.specs.declared.limits.TheConstants.{LAST_MOMENT}
use Rattle.kom_types.specs.declared.times.Time.{Time}
use Rattle.kom_types.specs.Times.{days_of_year, time_of}
use Rattle.kom_types.specs.Token.{Token}
use Rattle.kom_types.specs.calls.Arguments.{Taken, Took, then}
use Rattle.kom_records.specs.declared.times.TimeParts.{TimeParts}
use Rattle.kom_records.specs.Rules.{number, taken_of}

-- the days of so many years from this one on
unfoldable pub days_of_years : ℕ → ℕ → ℕ
days_of_years year zero = 0
days_of_years year (suc more) = days_of_year year + days_of_years (year + 1) more

-- the seconds since the beginning of 1970, by the year, the day of the year and the time of day
abbrev pub seconds_of : TimeParts → ℕ
seconds_of parts =
    (days_of_years 1970 (parts.year - 70) + parts.yearday) * 86400 + parts.hours * 3600
    + parts.minutes * 60 + parts.seconds

-- whether the numbers are those of a calendar time, which is never a summer time
abbrev pub is_told : TimeParts → Time → Bool
is_told parts time =
    parts.seconds == time.seconds && parts.minutes == time.minutes && parts.hours == time.hours
    && parts.day == time.day && parts.month == time.month && parts.year == time.year
    && parts.weekday == time.weekday && parts.yearday == time.yearday && parts.summer == 0

-- the moment that is told by these numbers, if one is
abbrev pub moment_of : TimeParts → Option ℕ
moment_of parts = elim (nat_le 70 parts.year && nat_le parts.year 8099) [
  | true ↦ elim (nat_le (seconds_of parts) LAST_MOMENT) [
    | true ↦ elim (is_told parts (time_of (seconds_of parts))) [
      | true ↦ Some (seconds_of parts)
      | false ↦ None
    ]
    | false ↦ None
  ]
  | false ↦ None
]

-- the nine numbers of a calendar time
abbrev pub time_parts : List Token → Taken TimeParts
time_parts tokens =
    then (number tokens) (λ seconds t.
    then (number t) (λ minutes t.
    then (number t) (λ hours t.
    then (number t) (λ day t.
    then (number t) (λ month t.
    then (number t) (λ year t.
    then (number t) (λ weekday t.
    then (number t) (λ yearday t.
    then (number t) (λ summer. Took (record {
      seconds = seconds;
      minutes = minutes;
      hours = hours;
      day = day;
      month = month;
      year = year;
      weekday = weekday;
      yearday = yearday;
      summer = summer;
    }))))))))))

abbrev pub time : List Token → Taken ℕ
time tokens = then (time_parts tokens) (λ parts. taken_of (moment_of parts))
