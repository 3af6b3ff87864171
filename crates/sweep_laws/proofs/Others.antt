-- The calls of a sweep beside delete-text change persons alone, and of these what logins count.
use Rattle.std.proofs.Common.{◌≡◌, ℕ, ◌==◌, ◌-◌, Bool, true, false, cond, List, [], ◌∷◌, ◌++◌, Option, Some, None}
use Rattle.std.proofs.Common.{refl, sym, ap, ◌∙◌, inl, inr, subst, true≢false}
use Rattle.std.specs.Prelude.{map, nat_lt}
use Rattle.std.specs.List.{AllByRecursion}
use Rattle.std.proofs.lemmas.Bool.{cases_Bool}
use Rattle.row_table.specs.Tables.{changed_row}
use Rattle.kom_types.specs.declared.acts.Act.{Act}
use Rattle.kom_types.specs.declared.acts.Act.TheVariants as act
use Rattle.kom_types.specs.declared.acts.Record.{Record}
use Rattle.kom_types.specs.declared.calls.Call.{Call}
use Rattle.kom_types.specs.declared.calls.Call.TheVariants as call
use Rattle.kom_types.specs.declared.conferences.ConferenceRow.{ConferenceRow}
use Rattle.kom_types.specs.declared.effects.Counter.TheVariants as counter
use Rattle.kom_types.specs.declared.effects.Effect.{Effect}
use Rattle.kom_types.specs.declared.effects.Effect.TheVariants as effect
use Rattle.kom_types.specs.declared.persons.PersonRow.{PersonRow}
use Rattle.kom_types.specs.declared.seats.Seat.{Seat}
use Rattle.kom_types.specs.declared.texts.TextRow.{TextRow}
use Rattle.kom_types.specs.tables.Persons.{number_of_person, logged_in, count_up}
use Rattle.kom_model.specs.After.{after, moment_of}
use Rattle.kom_model.specs.Db.{Db, conferences_of, texts_of}
use Rattle.kom_model.specs.Decide.{asked_in, decision_of, definition_of}
use Rattle.kom_model.specs.Effects.{fits, after_effect, apply, apply_all}
use Rattle.kom_model.specs.Kept.{kept_of}
use Rattle.kom_model.specs.State.{State}
use Rattle.kom_model.specs.calls.Call.{Asked, seat_of}
use Rattle.kom_model.specs.calls.Conferences.{nearest, first_seen}
use Rattle.kom_model.specs.calls.Sessions.{seat_left, leaving_effects, user_of}
use Rattle.kom_model.specs.calls.Texts.{nearest_text, first_read}
use Rattle.kom_model.proofs.Deciding.{decision-holds}
use Rattle.kom_model.proofs.Kept.{kept_makes, apply_all-fitting}
use Rattle.sweep_laws.specs.Leaving.{is_other_call, passes, OtherLeaves}
use Rattle.sweep_laws.specs.Without.{without_logins, IsWithout}
use Rattle.sweep_laws.proofs.Deleting.{none-without}

-- ---- what a login and a logout make of rows
-- all rows stay but persons, and these but for their logins
pub record Stay (old new : Db) : Type 0 where
  pub rows : new ≡ record old { persons = new.persons }
  pub persons : map without_logins new.persons ≡ map without_logins old.persons

pub stay : (db : Db) → Stay db db
stay db = record { rows = refl; persons = refl }

pub stay-then : (one two three : Db) → Stay one two → Stay two three → Stay one three
stay-then one two three first second = record {
  rows = second.rows ∙ ap (λ (db : Db). record db { persons = three.persons }) first.rows;
  persons = second.persons ∙ first.persons;
}

changed : (number : ℕ) (change : PersonRow → PersonRow) →
    ((row : PersonRow) → without_logins (change row) ≡ without_logins row) → (rows : List PersonRow) →
    map without_logins (changed_row number_of_person number change rows) ≡ map without_logins rows
changed number change same [] = refl
changed number change same (row ∷ rows) =
    let rest = changed number change same rows in
    elim (cases_Bool (row.number == number)) [
      | inl here ↦ rw here (rw (same row) (ap (λ others. without_logins row ∷ others) rest))
      | inr there ↦ rw there (ap (λ others. without_logins row ∷ others) rest)
    ]

-- an effect that logs in or out
abbrev IsLogin : Effect → Type 0
IsLogin (effect.LoggedIn number at user) = Unit {0}
IsLogin (effect.Counted number counter.TimePresent by) = Unit {0}
IsLogin other = ⊥

made-stay : (what : Effect) (db : Db) → IsLogin what → Stay db (after_effect what db)
unfolding after_effect
made-stay (effect.LoggedIn number at user) db is = record {
  rows = refl;
  persons = changed number (logged_in at user) (λ row. refl) db.persons;
}
made-stay (effect.Counted number counter.TimePresent by) db is = record {
  rows = refl;
  persons = changed number (count_up counter.TimePresent by) (λ row. refl) db.persons;
}
made-stay other db is = absurd is

applied-stay : (what : Effect) (db : Db) → IsLogin what → Stay db (apply what db)
applied-stay what db is = elim (cases_Bool (fits what db)) [
  | inl fit ↦ rw fit (made-stay what db is)
  | inr unfit ↦ rw unfit (stay db)
]

all-stay : (effects : List Effect) (db : Db) → AllByRecursion IsLogin effects → Stay db (apply_all effects db)
all-stay [] db all = stay db
all-stay (what ∷ effects) db all = stay-then db (apply what db) (apply_all effects (apply what db))
    (applied-stay what db all.0) (all-stay effects (apply what db) all.1)

-- ---- the effects of the calls
left-by : (asked : Asked) (seat : Seat) (nobody none : Bool) → AllByRecursion IsLogin (cond nobody []
    (cond none [] (effect.Counted seat.person counter.TimePresent (asked.moment - seat.login) ∷ [])))
left-by asked seat true none = tt
left-by asked seat false true = tt
left-by asked seat false false = (tt, tt)

left-all : (asked : Asked) (found : Option Seat) → AllByRecursion IsLogin (elim found as (λ _. List Effect) [
  | None ↦ []
  | Some seat ↦ seat_left asked seat
])
left-all asked None = tt
left-all asked (Some seat) = left-by asked seat (seat.person == 0) ((asked.moment - seat.login) == 0)

and-last : (P : Effect → Type 0) (effects : List Effect) (last : Effect) → AllByRecursion P effects → P last →
    AllByRecursion P (effects ++ last ∷ [])
and-last P [] last all here = (here, tt)
and-last P (what ∷ effects) last all here = (all.0, and-last P effects last all.1 here)

nearest-none : (asked : Asked) (start : ℕ) (found : Option ConferenceRow) →
    AllByRecursion IsLogin (nearest asked start found).rest.effects
nearest-none asked start None = tt
nearest-none asked start (Some row) = tt

nearest_text-none : (asked : Asked) (start : ℕ) (found : Option TextRow) →
    AllByRecursion IsLogin (nearest_text asked start found).rest.effects
nearest_text-none asked start None = tt
nearest_text-none asked start (Some row) = tt

rest-logins : (asked : Asked) (what : Call) → is_other_call what ≡ true →
    AllByRecursion IsLogin (definition_of asked what).rest.effects
rest-logins asked (call.Login person password invisible) is =
    and-last IsLogin (leaving_effects asked) (effect.LoggedIn person asked.moment (user_of asked))
    (left-all asked (seat_of asked)) tt
rest-logins asked (call.Enable level) is = tt
rest-logins asked call.SyncKom is = tt
rest-logins asked (call.FindNextConfNo start) is =
    nearest-none asked start (first_seen asked (λ row. nat_lt start row.number) (conferences_of asked.db))
rest-logins asked (call.GetConfStat conference) is = tt
rest-logins asked (call.GetPersonStat person) is = tt
rest-logins asked (call.FindNextTextNo start) is =
    nearest_text-none asked start (first_read asked (λ row. nat_lt start row.number) (texts_of asked.db))
rest-logins asked (call.GetTextStat text) is = tt
rest-logins asked call.Logout is = left-all asked (seat_of asked)
rest-logins asked other is = absurd (true≢false (sym is))

decided-logins : (asked : Asked) (what : Call) → is_other_call what ≡ true →
    AllByRecursion IsLogin (decision_of asked what).effects
decided-logins asked what is =
    decision-holds (AllByRecursion IsLogin) tt asked what (λ passes. rest-logins asked what is)

-- ---- the acts
kept-stay : (state : State) (pass moment : ℕ) (what : Act) (session : ℕ) (short : Bool) →
    let made : Record = record {
      entry = record { pass = pass; moment = moment; act = what };
      session = session;
      short = short;
    } in
    passes is_other_call what ≡ true → Stay state.db (apply_all (kept_of state made) state.db)
kept-stay state pass moment (act.Call number reference what) session true is = stay state.db
kept-stay state pass moment (act.Call number reference what) session false is =
    let asked : Asked = asked_in state (moment_of state moment) number reference in
    subst (λ (db : Db). Stay state.db db) (sym (apply_all-fitting (decision_of asked what).effects state.db))
    (all-stay (decision_of asked what).effects state.db (decided-logins asked what is))
kept-stay state pass moment (act.Connect user host) session true is = stay state.db
kept-stay state pass moment (act.Connect user host) session false is = stay state.db
kept-stay state pass moment (act.Broken number) session true is = stay state.db
kept-stay state pass moment (act.Broken number) session false is = stay state.db
kept-stay state pass moment (act.Drain number) session true is = stay state.db
kept-stay state pass moment (act.Drain number) session false is = stay state.db
kept-stay state pass moment act.Flush session true is = stay state.db
kept-stay state pass moment act.Flush session false is = stay state.db
kept-stay state pass moment (act.Close number) session true is = stay state.db
kept-stay state pass moment (act.Close number) session false is = stay state.db

pub as-without : (old new : Db) → Stay old new → IsWithout [] old new
as-without old new is = record {
  rows = is.rows ∙ ap (λ (db : Db). record db { persons = new.persons }) (sym (none-without old));
  persons = is.persons;
}

pub other-leaves : OtherLeaves
other-leaves state made is = as-without state.db (after state made).db
    (subst (λ (db : Db). Stay state.db db) (kept_makes state made)
    (kept-stay state made.entry.pass made.entry.moment made.entry.act made.session made.short is))
