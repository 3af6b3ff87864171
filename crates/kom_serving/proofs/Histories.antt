-- What holds of legal histories and of the sessions that their records have.
use Rattle.std.proofs.Common.{◌≡◌, ℕ, ◌+◌, ◌<◌, ◌⊎◌, inl, inr, Bool, true, false, ◌||◌, ◌&&◌, eqb, ◌==◌, List, [], ◌∷◌}
use Rattle.std.proofs.Common.{◌++◌, Option, None, refl, ap, ◌∙◌, arith}
use Rattle.std.specs.List.{find, AllByRecursion}
use Rattle.std.specs.Option.{is_some, IsSome}
use Rattle.std.proofs.lemmas.Bool.{cases_Bool, eqb-true}
use Rattle.kom_types.specs.declared.acts.Act.{Act}
use Rattle.kom_types.specs.declared.acts.Act.TheVariants as act
use Rattle.kom_types.specs.declared.acts.Record.{Record}
use Rattle.kom_types.specs.Sessions.{Session, is_session}
use Rattle.kom_links.specs.DeskCalls.{record_of}
use Rattle.kom_links.specs.Records.{is_connect, has_connect, has_session}
use Rattle.kom_model.specs.State.{State, session_of}
use Rattle.kom_model.specs.After.{MayFollow, after}
use Rattle.kom_model.specs.Legal.{IsLegal, AreByOwners, state_after}
use Rattle.kom_model.proofs.Closing.{IsOver, IsOver-after}
use Rattle.hall_desk.specs.Passes.{of_pass, connects_in}
use Rattle.hall_desk.proofs.Starting.{IsStart}
use Rattle.hall_desk.proofs.Stepping.{connects-after, acting_stands}
use Rattle.hall_desk.proofs.Histories.{or_cases, and_both, or_second, undrawn_absent}

pub or_first : (a b : Bool) → a ≡ true → (a || b) ≡ true
or_first true b here = refl
or_first false b here = cc

pub not_both : (a : Bool) → a ≡ true → a ≡ false → ⊥
not_both a here there = cc

-- ---- histories one after the other

pub legal_prefix : (state : State) (a b : List Record) → IsLegal state (a ++ b) → IsLegal state a
legal_prefix state [] b legal = tt
legal_prefix state (made ∷ a) b legal = (legal.0, legal_prefix (after state made) a b legal.1)

pub legal_tail : (state : State) (a b : List Record) → IsLegal state (a ++ b) → IsLegal (state_after state a) b
legal_tail state [] b legal = legal
legal_tail state (made ∷ a) b legal = legal_tail (after state made) a b legal.1

pub owners_prefix : (state : State) (a b : List Record) → AreByOwners state (a ++ b) → AreByOwners state a
owners_prefix state [] b owned = tt
owners_prefix state (made ∷ a) b owned = (owned.0, owners_prefix (after state made) a b owned.1)

-- ---- numbers are drawn in order

connect_above_step : (n : ℕ) (state : State) (pass moment : ℕ) (what : Act) (session : ℕ) (short : Bool) →
    MayFollow state (record_of pass moment what session short) → (is_connect what && (session == n)) ≡ true →
    state.connects < n
connect_above_step n state pass moment (act.Connect user host) session short may here =
    let at : session ≡ n = eqb-true _ _ here in omega (arith, may.session)
connect_above_step n state pass moment (act.Call number reference call) session short may here = cc
connect_above_step n state pass moment (act.Broken number) session short may here = cc
connect_above_step n state pass moment (act.Drain number) session short may here = cc
connect_above_step n state pass moment act.Flush session short may here = cc
connect_above_step n state pass moment (act.Close number) session short may here = cc

-- a session that is connected along a history was not drawn before
pub connect_above : (n : ℕ) (state : State) (history : List Record) → IsLegal state history →
    has_connect n history ≡ true → state.connects < n
connect_above n state [] legal connected = cc
connect_above n state (made ∷ history) legal connected =
    elim (or_cases (is_connect made.entry.act && (made.session == n)) (has_connect n history) connected) [
      | inl here ↦
          (connect_above_step n state made.entry.pass made.entry.moment made.entry.act made.session made.short legal.0
          here)
      | inr later ↦
          let grown : (after state made).connects ≡ state.connects + connects_in (made ∷ []) =
          connects-after state made in
          let above : (after state made).connects < n = connect_above n (after state made) history legal.1 later in
          omega arith
    ]

-- a session that was connected after a history is in none of its records
pub fresh_before : (start : State) → IsStart start → (n : ℕ) (history added : List Record) →
    IsLegal start (history ++ added) → has_connect n added ≡ true → has_session n history ≡ false
fresh_before start begins n history added legal connected =
    undrawn_absent n start history begins.drawn (legal_prefix start history added legal)
    (connect_above n (state_after start history) added (legal_tail start history added legal) connected)

-- ---- the sessions of records

pub session_of-connect : (n : ℕ) (history : List Record) → has_connect n history ≡ true → has_session n history ≡ true
session_of-connect n [] connected = cc
session_of-connect n (made ∷ history) connected =
    elim (or_cases (is_connect made.entry.act && (made.session == n)) (has_connect n history) connected) [
      | inl here ↦
          or_first (eqb made.session n) (has_session n history)
          (and_both (is_connect made.entry.act) (made.session == n) here).1
      | inr later ↦ or_second (eqb made.session n) (has_session n history) (session_of-connect n history later)
    ]

pub connect_more : (n : ℕ) (history added : List Record) → has_connect n history ≡ true →
    has_connect n (history ++ added) ≡ true
connect_more n [] added connected = cc
connect_more n (made ∷ history) added connected =
    elim (or_cases (is_connect made.entry.act && (made.session == n)) (has_connect n history) connected) [
      | inl here ↦ or_first (is_connect made.entry.act && (made.session == n)) (has_connect n (history ++ added)) here
      | inr later ↦
          or_second (is_connect made.entry.act
          && (made.session == n)) (has_connect n (history ++ added)) (connect_more n history added later)
    ]

pub connect_rear : (n : ℕ) (history added : List Record) → has_connect n added ≡ true →
    has_connect n (history ++ added) ≡ true
connect_rear n [] added connected = connected
connect_rear n (made ∷ history) added connected =
    or_second (is_connect made.entry.act
    && (made.session == n)) (has_connect n (history ++ added)) (connect_rear n history added connected)

-- what a pass connected was connected
pub connect_of : (n pass : ℕ) (history : List Record) → has_connect n (of_pass pass history) ≡ true →
    has_connect n history ≡ true
connect_of n pass [] connected = cc
connect_of n pass (made ∷ history) connected =
    elim (cases_Bool (eqb made.entry.pass pass)) [
      | inl here ↦
          let all : has_connect n (made ∷ of_pass pass history) ≡ true = rw here at connected in
          elim (or_cases (is_connect made.entry.act && (made.session == n)) (has_connect n (of_pass pass history))
          all) [
            | inl now ↦ or_first (is_connect made.entry.act && (made.session == n)) (has_connect n history) now
            | inr later ↦
                or_second (is_connect made.entry.act && (made.session == n)) (has_connect n history)
                (connect_of n pass history later)
          ]
      | inr there ↦
          or_second (is_connect made.entry.act && (made.session == n)) (has_connect n history)
          (connect_of n pass history (rw there at connected))
    ]

-- what holds of all records holds of those of a pass
pub all_of : (P : Record → Type 0) (pass : ℕ) (history : List Record) → AllByRecursion P history →
    AllByRecursion P (of_pass pass history)
all_of P pass [] all = tt
all_of P pass (made ∷ history) all =
    elim (cases_Bool (eqb made.entry.pass pass)) [
      | inl here ↦ rw here (all.0, all_of P pass history all.1)
      | inr there ↦ rw there (all_of P pass history all.1)
    ]

-- ---- records of no session

-- a flush of no session, or another act of some session
abbrev pub IsPlain : Record → Type 0
IsPlain made = ((made.entry.act ≡ act.Flush) × (made.session ≡ 0))
    ⊎ ((made.session ≡ 0 → ⊥) × (made.entry.act ≡ act.Flush → ⊥))

plain_acting : (state : State) (pass moment : ℕ) (what : Act) (session : ℕ) (short : Bool) → IsOver 0 state →
    MayFollow state (record_of pass moment what session short) → is_connect what ≡ false → (what ≡ act.Flush → ⊥) →
    IsPlain (record_of pass moment what session short)
plain_acting state pass moment what session short over may other some =
    inr (
      λ zero.
          let stands : IsSome (session_of session state) =
          acting_stands state pass moment what session short may other some
          in
          let none : session_of session state ≡ None = ap (λ (n : ℕ). session_of n state) zero ∙ over.absent in
          let no : is_some (session_of session state) ≡ false = ap (λ (found : Option Session). is_some found) none in
          cc,
      some,
    )

plain_step : (state : State) (pass moment : ℕ) (what : Act) (session : ℕ) (short : Bool) → IsOver 0 state →
    MayFollow state (record_of pass moment what session short) → IsPlain (record_of pass moment what session short)
plain_step state pass moment (act.Connect user host) session short over may =
    inr (λ zero. omega (arith, may.session, zero), λ flush. cc)
plain_step state pass moment (act.Call number reference call) session short over may =
    plain_acting state pass moment (act.Call number reference call) session short over may refl (λ e. cc)
plain_step state pass moment (act.Broken number) session short over may =
    plain_acting state pass moment (act.Broken number) session short over may refl (λ e. cc)
plain_step state pass moment (act.Drain number) session short over may =
    plain_acting state pass moment (act.Drain number) session short over may refl (λ e. cc)
plain_step state pass moment act.Flush session short over may = inl (refl, may.session)
plain_step state pass moment (act.Close number) session short over may =
    plain_acting state pass moment (act.Close number) session short over may refl (λ e. cc)

plain_from : (state : State) (history : List Record) → IsOver 0 state → IsLegal state history →
    AllByRecursion IsPlain history
plain_from state [] over legal = tt
plain_from state (made ∷ history) over legal = (
  plain_step state made.entry.pass made.entry.moment made.entry.act made.session made.short over legal.0,
  plain_from (after state made) history (IsOver-after 0 state made over) legal.1,
)

pub plain : (start : State) → IsStart start → (history : List Record) → IsLegal start history →
    AllByRecursion IsPlain history
plain start begins history legal =
    plain_from start history
    (record { drawn = omega arith; absent = ap (λ (rows : List Session). find (is_session 0) rows) begins.sessions })
    legal
