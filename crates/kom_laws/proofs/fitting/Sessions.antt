-- What the calls by which somebody is logged out come to fits.
use Rattle.std.proofs.Common.{◌≡◌, ℕ, ◌-◌, Bool, true, ◌==◌, ◌||◌, List, [], ◌∷◌, ◌++◌, length, Option, Some, None}
use Rattle.std.proofs.Common.{refl, inl, inr, nat_le}
use Rattle.std.specs.Prelude.{is_some}
use Rattle.std.specs.List.{find}
use Rattle.std.specs.Option.{IfSome}
use Rattle.std.proofs.lemmas.Bool.{cases_Bool, and_from, le-leb}
use Rattle.kom_types.specs.declared.limits.TheConstants.{LONGEST_USER_NAME}
use Rattle.kom_types.specs.declared.decisions.Decision.{Decision}
use Rattle.kom_types.specs.declared.effects.Counter.{Counter}
use Rattle.kom_types.specs.declared.effects.Counter.TheVariants as counter
use Rattle.kom_types.specs.declared.effects.Effect.{Effect}
use Rattle.kom_types.specs.declared.effects.Effect.TheVariants as effect
use Rattle.kom_types.specs.declared.seats.Seat.{Seat}
use Rattle.kom_types.specs.tables.Persons.{number_of_person, count_up}
use Rattle.kom_model.specs.Db.{Db, person_of}
use Rattle.kom_model.specs.Effects.{fits, after_effect, all_fit}
use Rattle.kom_model.specs.State.{IsSeated, AreSeated}
use Rattle.kom_model.specs.calls.Guards.{caller, person_guard, password_guard}
use Rattle.kom_model.specs.calls.Call.{Asked, done_with}
use Rattle.kom_model.specs.calls.Sessions.{counts, seat_left, logout, login, disconnect, session_meant, end_session}
use Rattle.kom_model.proofs.Fields.{counted-number}
use Rattle.kom_model.proofs.Guards.{all-pass, person-there}
use Rattle.kom_model.proofs.whole.Found.{has-changed}
use Rattle.kom_laws.proofs.fitting.Guards.{one-fits}
use Rattle.kom_laws.proofs.fitting.Items.{fit-then}

-- a counter of a person that is there
pub counts-fit : (db : Db) (person : ℕ) (counter : Counter) (by : ℕ) → is_some (person_of db person) ≡ true →
    all_fit (counts person counter by) db ≡ true
unfolding fits
counts-fit db person counter by there = elim (cases_Bool (by == 0)) [
  | inl zero ↦ rw zero refl
  | inr some ↦ rw some (one-fits (effect.Counted person counter by) db there)
]

-- a person that is there stays, whoever is counted
pub counted-there : (db : Db) (person at : ℕ) (which : Counter) (by : ℕ) → is_some (person_of db person) ≡ true →
    is_some (person_of (after_effect (effect.Counted at which by) db) person) ≡ true
unfolding after_effect person_of
counted-there db person at which by there = has-changed number_of_person (λ row. true) (count_up which by)
    (counted-number which by) at db.persons (λ row found is. refl) person there

-- the seat that a test finds is one of them
seated-found : (db : Db) (test : Seat → Bool) (seats : List Seat) → AreSeated db seats →
    IfSome (find test seats) (IsSeated db)
seated-found db test [] seated = tt
seated-found db test (seat ∷ seats) seated = elim (cases_Bool (test seat)) [
  | inl here ↦ rw here seated.0
  | inr apart ↦ rw apart (seated-found db test seats seated.1)
]

logged_in-fits : (db : Db) (person at : ℕ) (user : List ℕ) → is_some (person_of db person) ≡ true →
    nat_le (length user) LONGEST_USER_NAME ≡ true → all_fit (effect.LoggedIn person at user ∷ []) db ≡ true
unfolding fits
logged_in-fits db person at user there short = one-fits (effect.LoggedIn person at user) db (and_from _ _ there short)

module _ (asked : Asked) where
  left-fits : (seat : Seat) → (seat.person == 0 || is_some (person_of asked.db seat.person)) ≡ true →
      all_fit (seat_left asked seat) asked.db ≡ true
  left-fits seat seated = elim (cases_Bool (seat.person == 0)) [
    | inl zero ↦ rw zero refl
    | inr some ↦
        let there : is_some (person_of asked.db seat.person) ≡ true = rw some at seated in
        rw some (counts-fit asked.db seat.person counter.TimePresent (asked.moment - seat.login) there)
  ]

  -- of a seat that a test finds
  found-fits : (test : Seat → Bool) (seats : List Seat) →
      AreSeated asked.db seats →
      all_fit (elim (find test seats) [ None ↦ [] | Some seat ↦ seat_left asked seat ]) asked.db ≡ true
  found-fits test [] seated = refl
  found-fits test (seat ∷ seats) seated = elim (cases_Bool (test seat)) [
    | inl here ↦ rw here (left-fits seat seated.0.person)
    | inr apart ↦ rw apart (found-fits test seats seated.1)
  ]

  pub logout-fits : AreSeated asked.db asked.seats → all_fit (logout asked).rest.effects asked.db ≡ true
  logout-fits seated = found-fits (λ seat. seat.number == asked.session) asked.seats seated

  pub disconnect-fits : (number : ℕ) → AreSeated asked.db asked.seats →
      all_fit (disconnect asked number).rest.effects asked.db ≡ true
  disconnect-fits number seated =
      by (find (λ (seat : Seat). seat.number == session_meant asked number) asked.seats)
      (found-fits (λ seat. seat.number == session_meant asked number) asked.seats seated) where
        by : (found : Option Seat) →
            all_fit (elim found [ None ↦ [] | Some seat ↦ seat_left asked seat ]) asked.db ≡ true →
            all_fit (elim found as (λ _. Decision) [
              | None ↦ done_with [] []
              | Some seat ↦ end_session asked seat
            ]).effects asked.db
            ≡ true
        by None fit = refl
        by (Some seat) fit = fit

  -- whoever is logged in is logged out first
  after-left : (person : ℕ) (found : Option Seat) → is_some (person_of asked.db person) ≡ true →
      IfSome found (IsSeated asked.db) →
      all_fit ((elim found as (λ _. List Effect) [ None ↦ [] | Some seat ↦ seat_left asked seat ])
      ++ effect.LoggedIn person asked.moment (elim found as (λ _. List ℕ) [ None ↦ [] | Some seat ↦ seat.user ]) ∷ [])
      asked.db ≡ true
  unfolding fits
  after-left person None there seated = logged_in-fits asked.db person asked.moment [] there refl
  after-left person (Some seat) there seated =
      let short : nat_le (length seat.user) LONGEST_USER_NAME ≡ true =
      le-leb (length seat.user) LONGEST_USER_NAME seated.user in
      let by : ℕ = asked.moment - seat.login in
      let alone = logged_in-fits asked.db person asked.moment seat.user there short in
      elim (cases_Bool (seat.person == 0)) [
        | inl zero ↦ rw zero alone
        | inr some ↦
            let here : is_some (person_of asked.db seat.person) ≡ true = rw some at seated.person in
            elim (cases_Bool (by == 0)) [
              | inl none ↦ rw some (rw none alone)
              | inr long ↦ rw some (rw long (fit-then (effect.Counted seat.person counter.TimePresent by)
                  (effect.LoggedIn person asked.moment seat.user ∷ []) asked.db here
                  (logged_in-fits (after_effect (effect.Counted seat.person counter.TimePresent by) asked.db) person
                  asked.moment seat.user (counted-there asked.db person seat.person counter.TimePresent by there)
                  short)))
            ]
      ]

  pub login-fits : (person : ℕ) (password : List ℕ) (invisible : Bool) → AreSeated asked.db asked.seats →
      (login asked person password invisible).early ≡ None →
      all_fit (login asked person password invisible).rest.effects asked.db ≡ true
  login-fits person password invisible seated passes =
      let pass = all-pass (person_guard asked.db person
      ∷ password_guard asked.db (caller asked) person password ∷ []) passes in
      after-left person (find (λ (seat : Seat). seat.number == asked.session) asked.seats)
      (person-there asked.db person pass.0)
      (seated-found asked.db (λ (seat : Seat). seat.number == asked.session) asked.seats seated)
