-- What a change of one row makes of the rows, where there is none, and along a list of changes.
use Rattle.std.proofs.Common.{◌≡◌, ℕ, Bool, true, false, cond, ◌||◌, Bor, List, [], ◌∷◌, ◌++◌, map, Option, Some}
use Rattle.std.proofs.Common.{None, refl, sym, ap, inl, inr}
use Rattle.std.specs.List.{find}
use Rattle.std.specs.Option.{is_some, option_copied}
use Rattle.std.proofs.lemmas.Bool.{cases_Bool}
use Rattle.kom_types.specs.declared.session_changes.SessionChange.{SessionChange}
use Rattle.kom_types.specs.declared.session_changes.SessionChange.TheVariants.{Stop}
use Rattle.kom_types.specs.Sessions.{Session, Limits, is_session, changed_session, after_change, is_stop}
use Rattle.kom_model.specs.State.{State}
use Rattle.kom_model.specs.Sending.{Delivery}
use Rattle.kom_model.specs.After.{with_session, queue_all, make_change, make_changes}
use Rattle.kom_model.proofs.Finding.{changed_row}

none_from : {A : Type 0} (found : Option A) → is_some found ≡ false → found ≡ None
none_from None absent = refl
none_from (Some one) absent = cc

map-absent : (number : ℕ) (change : Session → Session) (rows : List Session) → find (is_session number) rows ≡ None →
    map (changed_row number change) rows ≡ rows
map-absent number change [] none = refl
map-absent number change (row ∷ rows) none =
    elim (cases_Bool (is_session number row)) [
      | inl here ↦ let wrong : Some row ≡ None = rw here at none in cc
      | inr there ↦ rw there (ap (λ rest. row ∷ rest) (map-absent number change rows (rw there at none)))
    ]

-- a change in the row of a session that is not there
pub absent_stays : (session : ℕ) (change : Session → Session) (state : State) →
    is_some (find (is_session session) state.sessions) ≡ false → state ≡ with_session session change state
absent_stays session change state gone =
    ap (λ rows. record state { sessions = rows }) (sym (map-absent session change state.sessions (none_from _ gone)))

pub gone-copied : (got : Option (Bor Session)) (found : Option Session) → option_copied got ≡ found →
    is_some got ≡ false → is_some found ≡ false
gone-copied None found copied gone = ap is_some (sym copied)
gone-copied (Some row) found copied gone = cc

or-false : (b : Bool) → (b || false) ≡ b
or-false true = refl
or-false false = refl

-- a change of a session that is not there
pub change_absent : (moment session : ℕ) (change : SessionChange) (state : State) →
    (session ≡ changed_session change) × (is_stop change ≡ false) →
    is_some (find (is_session session) state.sessions) ≡ false → state ≡ make_change moment change state
change_absent moment session change state of gone =
    let gone' : is_some (find (is_session (changed_session change)) state.sessions) ≡ false = rw (← of.0) gone in
    let rows : map (changed_row (changed_session change) (after_change change moment)) state.sessions ≡ state.sessions =
    map-absent (changed_session change) (after_change change moment) state.sessions (none_from _ gone') in
    let stopped : (state.stopped || is_stop change) ≡ state.stopped = rw of.1 (or-false state.stopped) in
    rw (rows, stopped) refl

same_row : (number : ℕ) (change : Session → Session) → ((row : Session) → change row ≡ row) → (row : Session) →
    changed_row number change row ≡ row
same_row number change same row =
    elim (is_session number row) as (λ b. cond b (change row) row ≡ row) [ true ↦ same row | false ↦ refl ]

pub map-same : (number : ℕ) (change : Session → Session) → ((row : Session) → change row ≡ row) →
    (rows : List Session) → map (changed_row number change) rows ≡ rows
map-same number change same [] = refl
map-same number change same (row ∷ rows) =
    let first : changed_row number change row ≡ row = same_row number change same row in
    let rest : map (changed_row number change) rows ≡ rows = map-same number change same rows in
    cc

-- one delivery more
pub queue_all-push : (limits : Limits) (deliveries : List Delivery) (one : Delivery) (state : State) →
    queue_all limits (deliveries ++ one ∷ []) state ≡ queue_all limits (one ∷ []) (queue_all limits deliveries state)
queue_all-push limits [] one state = refl
queue_all-push limits (delivery ∷ deliveries) one state = queue_all-push limits deliveries one _

-- one change more
pub make_changes-push : (moment : ℕ) (changes : List SessionChange) (one : SessionChange) (state : State) →
    make_changes moment (changes ++ one ∷ []) state ≡ make_change moment one (make_changes moment changes state)
make_changes-push moment [] one state = refl
make_changes-push moment (change ∷ changes) one state = make_changes-push moment changes one _

or-true : (b : Bool) → (b || true) ≡ true
or-true true = refl
or-true false = refl

-- the change that shuts the server down
pub stop_made : (moment : ℕ) (state : State) → record state { stopped = true } ≡ make_change moment Stop state
stop_made moment state =
    let rows : map (changed_row 0 (after_change Stop moment)) state.sessions ≡ state.sessions =
    map-same 0 (after_change Stop moment) (λ row. refl) state.sessions in
    rw (rows, or-true state.stopped) refl
