-- The rule of a time reads exactly the spelling of a moment.
use Rattle.std.proofs.Common.{◌≡◌, ℕ, zero, suc, ◌+◌, ◌/◌, ◌-◌, ◌≤◌, ◌==◌, ◌&&◌, Bool, true, false}
use Rattle.std.proofs.Common.{List, [], ◌∷◌, ◌++◌, refl, sym, ap, subst, ◌∙◌, arith, Some, None}
use Rattle.std.specs.Prelude.{Option, nat_le, nat_lt, length, if◌then◌else◌}
use Rattle.std.proofs.lemmas.Bool.Decides.{nat_tests}
use Rattle.kom_types.specs.declared.limits.TheConstants.{LAST_MOMENT}
use Rattle.kom_types.specs.Times.{Day, days_of_year, days_of_months, day_from, month_from, time_of}
use Rattle.kom_types.specs.spellings.Words as words
use Rattle.kom_types.specs.spellings.Words.{Words}
use Rattle.kom_types.specs.Token.{Token}
use Rattle.kom_types.specs.calls.Arguments.{Took}
use Rattle.kom_records.specs.declared.times.TimeParts.{TimeParts}
use Rattle.kom_records.specs.Fits.{IsNumber, IsMoment}
use Rattle.kom_records.specs.Rules.{taken_of}
use Rattle.kom_records.specs.Times.{time_parts, time, days_of_years, seconds_of, is_told, moment_of}
use Rattle.kom_records.specs.Words.{tokens_of_words}
use Rattle.kom_records.proofs.Spelled.{IsSpelled, on, onward, glue, took_same}
use Rattle.kom_records.proofs.Values.{number_is}

-- nine numbers
abbrev pub parts_words : TimeParts → Words
parts_words of =
    words.number of.seconds ++ words.number of.minutes ++ words.number of.hours ++ words.number of.day
    ++ words.number of.month ++ words.number of.year ++ words.number of.weekday ++ words.number of.yearday
    ++ words.number of.summer

abbrev pub AreParts : TimeParts → Type 0
AreParts of =
    IsNumber of.seconds × (IsNumber of.minutes × (IsNumber of.hours × (IsNumber of.day × (IsNumber of.month
    × (IsNumber of.year × (IsNumber of.weekday × (IsNumber of.yearday × IsNumber of.summer)))))))

time_parts_back : (of : TimeParts) (tail : List Token) → AreParts of →
    time_parts (tokens_of_words (parts_words of) ++ tail) ≡ Took of tail
time_parts_back of tail fits =
    onward number_is of.seconds _ _ _ fits.0 (
    onward number_is of.minutes _ _ _ fits.1.0 (
    onward number_is of.hours _ _ _ fits.1.1.0 (
    onward number_is of.day _ _ _ fits.1.1.1.0 (
    onward number_is of.month _ _ _ fits.1.1.1.1.0 (
    onward number_is of.year _ _ _ fits.1.1.1.1.1.0 (
    onward number_is of.weekday _ _ _ fits.1.1.1.1.1.1.0 (
    onward number_is of.yearday _ _ _ fits.1.1.1.1.1.1.1.0 (
    onward number_is of.summer _ _ _ fits.1.1.1.1.1.1.1.1 (refl)))))))))

time_parts_from : (tokens tail : List Token) (of : TimeParts) → time_parts tokens ≡ Took of tail →
    AreParts of × (tokens ≡ tokens_of_words (parts_words of) ++ tail)
time_parts_from tokens tail of is =
    on number_is tokens _ of tail is (λ v0 t0 f0 e0 r0.
    on number_is t0 _ of tail r0 (λ v1 t1 f1 e1 r1.
    on number_is t1 _ of tail r1 (λ v2 t2 f2 e2 r2.
    on number_is t2 _ of tail r2 (λ v3 t3 f3 e3 r3.
    on number_is t3 _ of tail r3 (λ v4 t4 f4 e4 r4.
    on number_is t4 _ of tail r4 (λ v5 t5 f5 e5 r5.
    on number_is t5 _ of tail r5 (λ v6 t6 f6 e6 r6.
    on number_is t6 _ of tail r6 (λ v7 t7 f7 e7 r7.
    on number_is t7 _ of tail r7 (λ v8 t8 f8 e8 r8.
    let same = took_same _ of t8 tail r8 in
    let Told : TimeParts → Type 0 = λ of. AreParts of × (tokens ≡ tokens_of_words (parts_words of) ++ tail) in
    subst Told same.0 (
      (f0, (f1, (f2, (f3, (f4, (f5, (f6, (f7, f8)))))))),
      glue (words.number v0) tokens t0 _ e0 (
          glue (words.number v1) t0 t1 _ e1 (
          glue (words.number v2) t1 t2 _ e2 (
          glue (words.number v3) t2 t3 _ e3 (
          glue (words.number v4) t3 t4 _ e4 (
          glue (words.number v5) t4 t5 _ e5 (
          glue (words.number v6) t5 t6 _ e6 (
          glue (words.number v7) t6 t7 _ e7 (
          glue (words.number v8) t7 t8 _ e8 (
          same.1))))))))),
    ))))))))))

time_parts_is : IsSpelled time_parts parts_words AreParts
time_parts_is = record { back = time_parts_back; forth = time_parts_from }

-- a day found among the years from one on
record FoundDay (most year days : ℕ) (found : Day) : Type 0 where
  after : ℕ
  few : after ≤ most
  is : found.unit ≡ year + after
  counted : days ≡ days_of_years year after + found.day

found_day : (more year days : ℕ) → FoundDay more year days (day_from more year days)
unfolding day_from days_of_years
found_day zero year days = record { after = 0; few = omega arith; is = omega arith; counted = omega arith }
found_day (suc more) year days =
    elim (nat_lt days (days_of_year year)) as (λ (test : Bool). nat_lt days (days_of_year year) ≡ test →
    FoundDay (suc more) year days (if test then record { unit = year; day = days }
    else day_from more (year + 1) (days - days_of_year year))) [
      | true ↦ λ here. record { after = 0; few = omega arith; is = omega arith; counted = omega arith }
      | false ↦ λ later.
          let rest = found_day more (year + 1) (days - days_of_year year) in
          let long : days_of_year year ≤ days = grind (arith, nat_tests) in
          record {
            after = suc rest.after;
            few = omega (arith, rest.few);
            is = omega (arith, rest.is);
            counted = omega (arith, rest.counted, long);
          }
    ] refl

-- a month found among some
month_bounds : (lengths : List ℕ) (month days : ℕ) →
    ((month_from lengths month days).unit ≤ month + length lengths) × ((month_from lengths month days).day ≤ days)
unfolding month_from
month_bounds [] month days = (omega arith, omega arith)
month_bounds (long ∷ lengths) month days =
    elim (nat_lt days long) as (λ (test : Bool). let found : Day = if test then record { unit = month; day = days }
    else month_from lengths (month + 1) (days - long) in
    (found.unit ≤ month + length (long ∷ lengths)) × (found.day ≤ days)) [
      | true ↦ (omega arith, omega arith)
      | false ↦ let rest = month_bounds lengths (month + 1) (days - long) in
          (omega (arith, rest.0), omega (arith, rest.1))
    ]

-- the numbers of a moment's time
pub parts_of : ℕ → TimeParts
parts_of moment = let parts = time_of moment in record {
  seconds = parts.seconds;
  minutes = parts.minutes;
  hours = parts.hours;
  day = parts.day;
  month = parts.month;
  year = parts.year;
  weekday = parts.weekday;
  yearday = parts.yearday;
  summer = 0;
}

-- what is known of the numbers of a moment's time
record Timely (moment : ℕ) : Type 0 where
  are : AreParts (parts_of moment)
  from : 70 ≤ (parts_of moment).year
  to : (parts_of moment).year ≤ 8099
  counted : seconds_of (parts_of moment) ≡ moment
  never_summer : (time_of moment).dst ≡ false

timely : (moment : ℕ) → moment ≤ LAST_MOMENT → Timely moment
unfolding time_of parts_of
timely moment within =
    let days = moment / 86400 in
    let found = found_day 8029 1970 days in
    let day = day_from 8029 1970 days in
    let month = month_bounds (days_of_months day.unit) 0 day.day in
    let few : days ≤ 2932896 = omega arith in
    let year : day.unit - 1900 - 70 ≡ found.after = omega (arith, found.is) in
    let counted : days_of_years 1970 (day.unit - 1900 - 70) + day.day ≡ days =
    ap (λ more. days_of_years 1970 more + day.day) year ∙ sym found.counted in
    let short : day.day ≤ days = omega (arith, found.counted) in
    let twelve : (month_from (days_of_months day.unit) 0 day.day).unit ≤ 12 = month.0 in
    record {
      are = (
        omega arith,
        (
          omega arith,
          (
            omega arith,
            (
              omega (arith, month.1, short, few),
              (
                omega (arith, twelve),
                (
                  omega (arith, found.is, found.few),
                  (
                    omega arith,
                    (
                      omega (arith, short, few),
                      omega arith,
                    ),
                  ),
                ),
              ),
            ),
          ),
        ),
      );
      from = omega (arith, found.is);
      to = omega (arith, found.is, found.few);
      counted = omega (arith, counted);
      never_summer = refl;
    }

-- the words of a time are those of its numbers
words_of_parts : (moment : ℕ) → (time_of moment).dst ≡ false → words.time moment ≡ parts_words (parts_of moment)
unfolding parts_of
words_of_parts moment never =
    let parts = time_of moment in
    ap (λ dst. words.number parts.seconds ++ words.number parts.minutes ++ words.number parts.hours
    ++ words.number parts.day ++ words.number parts.month ++ words.number parts.year ++ words.number parts.weekday
    ++ words.number parts.yearday ++ words.flag dst) never

parts_true : (a b : Bool) → (a && b) ≡ true → (a ≡ true) × (b ≡ true)
parts_true true b is = (refl, is)
parts_true false b is = cc

joins : (a b : Bool) → a ≡ true → b ≡ true → (a && b) ≡ true
joins a b one two = rw (one, two) refl

same_number : (m n : ℕ) → (m == n) ≡ true → m ≡ n
same_number m n is = grind (arith, nat_tests)

number_same : (n : ℕ) → (n == n) ≡ true
number_same n = grind (arith, nat_tests)

-- the numbers of a time that are told are its own
told_words : (parts : TimeParts) (moment : ℕ) → is_told parts (time_of moment) ≡ true →
    (time_of moment).dst ≡ false → parts_words parts ≡ words.time moment
told_words parts moment told never =
    let time = time_of moment in
    let a8 = parts_true _ _ told in
    let a7 = parts_true _ _ a8.0 in
    let a6 = parts_true _ _ a7.0 in
    let a5 = parts_true _ _ a6.0 in
    let a4 = parts_true _ _ a5.0 in
    let a3 = parts_true _ _ a4.0 in
    let a2 = parts_true _ _ a3.0 in
    let a1 = parts_true _ _ a2.0 in
    let seconds = same_number parts.seconds time.seconds a1.0 in
    let minutes = same_number parts.minutes time.minutes a1.1 in
    let hours = same_number parts.hours time.hours a2.1 in
    let day = same_number parts.day time.day a3.1 in
    let month = same_number parts.month time.month a4.1 in
    let year = same_number parts.year time.year a5.1 in
    let weekday = same_number parts.weekday time.weekday a6.1 in
    let yearday = same_number parts.yearday time.yearday a7.1 in
    let summer = same_number parts.summer 0 a8.1 in
    rw (seconds, minutes, hours, day, month, year, weekday, yearday, summer, never) refl

told_itself : (moment : ℕ) → is_told (parts_of moment) (time_of moment) ≡ true
unfolding parts_of
told_itself moment =
    let time = time_of moment in
    joins _ _ (joins _ _ (joins _ _ (joins _ _ (joins _ _ (joins _ _ (joins _ _ (joins _ _ (number_same time.seconds)
    (number_same time.minutes)) (number_same time.hours)) (number_same time.day)) (number_same time.month))
    (number_same time.year)) (number_same time.weekday)) (number_same time.yearday)) refl

moment_itself : (moment : ℕ) → moment ≤ LAST_MOMENT → moment_of (parts_of moment) ≡ Some moment
moment_itself moment within =
    let known = timely moment within in
    let parts = parts_of moment in
    let from : nat_le 70 parts.year ≡ true = grind (arith, nat_tests, known.from) in
    let to : nat_le parts.year 8099 ≡ true = grind (arith, nat_tests, known.to) in
    let last : nat_le moment LAST_MOMENT ≡ true = grind (arith, nat_tests) in
    let some : ℕ → Bool → Bool → Option ℕ = λ seconds low high. elim low [
      | true ↦ elim high [
        | true ↦ elim (is_told parts (time_of seconds)) [ true ↦ Some seconds | false ↦ None ]
        | false ↦ None
      ]
      | false ↦ None
    ] in
    ap (λ (test : Bool). some (seconds_of parts) test (nat_le (seconds_of parts) LAST_MOMENT)) (joins _ _ from to)
    ∙ ap (λ seconds. some seconds true (nat_le seconds LAST_MOMENT)) known.counted
    ∙ ap (λ (test : Bool). some moment true test) last
    ∙ ap (λ (test : Bool). elim test [ true ↦ Some moment | false ↦ None ]) (told_itself moment)

-- a moment that is told
record ToldSo (parts : TimeParts) (moment : ℕ) : Type 0 where
  within : moment ≤ LAST_MOMENT
  told : is_told parts (time_of moment) ≡ true

told_by : (parts : TimeParts) (moment : ℕ) (low high told : Bool) → nat_le (seconds_of parts) LAST_MOMENT ≡ high →
    is_told parts (time_of (seconds_of parts)) ≡ told →
    (elim low [
      | true ↦ elim high [ true ↦ elim told [ true ↦ Some (seconds_of parts) | false ↦ None ] | false ↦ None ]
      | false ↦ None
    ]) ≡ Some moment → ToldSo parts moment
told_by parts moment true true true last told is =
    let same : seconds_of parts ≡ moment = cc in
    let within : seconds_of parts ≤ LAST_MOMENT = grind (arith, nat_tests) in
    record {
      within = subst (λ m. m ≤ LAST_MOMENT) same within;
      told = ap (λ m. is_told parts (time_of m)) (sym same) ∙ told;
    }
told_by parts moment true true false last told is = cc
told_by parts moment true false told' last told is = cc
told_by parts moment false high told' last told is = cc

moment_told : (parts : TimeParts) (moment : ℕ) → moment_of parts ≡ Some moment → ToldSo parts moment
moment_told parts moment is = told_by parts moment _ _ _ refl refl is

taken_some : {X : Type 0} (found : Option X) (mid tail : List Token) (value : X) →
    taken_of found mid ≡ Took value tail → (found ≡ Some value) × (mid ≡ tail)
taken_some (Some one) mid tail value is =
    let same = took_same one value mid tail is in
    (ap Some same.0, same.1)
taken_some None mid tail value is = cc

time_from : (tokens tail : List Token) (moment : ℕ) → time tokens ≡ Took moment tail →
    IsMoment moment × (tokens ≡ tokens_of_words (words.time moment) ++ tail)
time_from tokens tail moment is =
    on time_parts_is tokens _ moment tail is (λ parts mid fits same rest.
    let found = taken_some (moment_of parts) mid tail moment rest in
    let told = moment_told parts moment found.0 in
    let known = timely moment told.within in
    let spelled = told_words parts moment told.told known.never_summer in (
      told.within,
      glue (words.time moment) tokens mid tail
          (same ∙ ap (λ (all : Words). tokens_of_words all ++ mid) spelled) found.1,
    ))

time_back : (moment : ℕ) (tail : List Token) → IsMoment moment →
    time (tokens_of_words (words.time moment) ++ tail) ≡ Took moment tail
time_back moment tail within =
    let known = timely moment within in
    ap (λ (all : Words). time (tokens_of_words all ++ tail)) (words_of_parts moment known.never_summer)
    ∙ onward time_parts_is (parts_of moment) tail (λ parts. taken_of (moment_of parts)) _ known.are
    (ap (λ found. taken_of found tail) (moment_itself moment within))

pub time_is : IsSpelled time words.time IsMoment
time_is = record { back = time_back; forth = time_from }

pub parts_fit : (moment : ℕ) → IsMoment moment → AreParts (parts_of moment)
parts_fit moment within = (timely moment within).are

pub words_of_moment : (moment : ℕ) → IsMoment moment → words.time moment ≡ parts_words (parts_of moment)
words_of_moment moment within = words_of_parts moment (timely moment within).never_summer
