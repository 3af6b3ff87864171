-- Two histories in which nothing is opened to a group.
use Rattle.std.specs.Prelude.{◌≡◌, ℕ, Bool, true, false, ◌||◌, ◌&&◌, not, List, [], ◌∷◌, filter}
use Rattle.std.specs.Prelude.{Option, Some, None, IsTrue, ◌⊎◌}
use Rattle.std.specs.List.{AllByRecursion}
use Rattle.kom_types.specs.declared.acts.Act.{Act}
use Rattle.kom_types.specs.declared.acts.Act.TheVariants as act
use Rattle.kom_types.specs.declared.acts.Entry.{Entry}
use Rattle.kom_types.specs.declared.acts.Record.{Record}
use Rattle.kom_types.specs.declared.calls.Call.{Call}
use Rattle.kom_types.specs.declared.calls.Call.TheVariants as call
use Rattle.kom_types.specs.declared.decisions.Decision.{Decision}
use Rattle.kom_types.specs.declared.effects.Effect.{Effect}
use Rattle.kom_types.specs.declared.session_changes.SessionChange.{SessionChange}
use Rattle.kom_types.specs.declared.texts.MiscInput.{MiscInput}
use Rattle.kom_types.specs.declared.texts.NewText.{NewText}
use Rattle.kom_model.specs.After.{MayFollow, decision_at, after}
use Rattle.kom_model.specs.Db.{Db}
use Rattle.kom_model.specs.Kinds.{is_among}
use Rattle.kom_model.specs.State.{State}
use Rattle.kom_model.specs.ToWhom.{is_refused}
use Rattle.kom_model.specs.Viewers.{is_strong_seat}
use Rattle.kom_model.specs.calls.NewTexts.{names_recipient}
use Rattle.kom_laws.specs.Groups.{Group, is_unseen}
use Rattle.noninterference.specs.steps.Steps.{HasNoOpening}
use Rattle.noninterference.specs.respect.Hidden.{is_hidden, person_at, text_of_act}

-- no session of the group is strong
abbrev pub AreWeak : Group → State → Type 0
AreWeak group state = AllByRecursion
    (λ session. IsTrue (not (is_among group.sessions session.seat.number
    && is_strong_seat state.db session.seat))) state.sessions

-- what the call of an entry comes to, if it is one
abbrev pub decision_in : State → Entry → Option Decision
decision_in state entry = elim entry.act [
  | act.Connect user host ↦ None
  | act.Call session reference call ↦
      Some (decision_at state entry.moment session reference call)
  | act.Broken session ↦ None
  | act.Drain session ↦ None
  | act.Flush ↦ None
  | act.Close session ↦ None
]

-- the call of an entry is accepted
abbrev pub is_accepted : State → Entry → Bool
is_accepted state entry = elim (decision_in state entry) [
  | None ↦ false
  | Some decision ↦ not (is_refused decision.reply)
]

-- the session that makes the call of an act, and the person that it logs in
abbrev pub caller_of : Act → ℕ
caller_of (act.Connect user host) = 0
caller_of (act.Call session reference call) = session
caller_of (act.Broken session) = 0
caller_of (act.Drain session) = 0
caller_of act.Flush = 0
caller_of (act.Close session) = 0

abbrev pub login_of : Call → Option ℕ
login_of (call.Login person password invisible) = Some person
login_of other = None

abbrev pub login_in : Act → Option ℕ
login_in (act.Connect user host) = None
login_in (act.Call session reference call) = login_of call
login_in (act.Broken session) = None
login_in (act.Drain session) = None
login_in act.Flush = None
login_in (act.Close session) = None

-- an accepted login of a session of the group names a person of the group
abbrev pub logs_in_own : Group → State → Entry → Bool
logs_in_own group state entry = elim (login_in entry.act) [
  | None ↦ true
  | Some person ↦ not (is_among group.sessions (caller_of entry.act) && is_accepted state entry)
      || is_among group.persons person
]

-- A record may follow; it is not short; it is no Opening, and makes no session of the group strong;
-- and the group logs in as itself.
pub record IsQuiet (group : Group) (state : State) (made : Record) : Type 0 where
  pub follows : MayFollow state made
  pub long : made.short ≡ false
  pub closed : HasNoOpening group state.db (after state made).db
  pub weak : AreWeak group (after state made)
  pub own : IsTrue (logs_in_own group state made.entry)

-- the recipients of a new text that the group sees, with their tags, in order
abbrev pub recipients_seen : Group → Db → NewText → List MiscInput
recipients_seen group db given =
    filter (λ item. names_recipient item && not (is_unseen group db item.value)) given.misc_inputs

-- Two hidden texts are both made or both refused; those that are made have the same author and, as
-- far as the group sees them, the same recipients.
pub record AreMadeAlike (group : Group) (one other : State) (made made' : Entry)
    (given given' : NewText) : Type 0 where
  pub accepted : is_accepted one made ≡ is_accepted other made'
  pub author : IsTrue (is_accepted one made)
      → person_at one (caller_of made.act) ≡ person_at other (caller_of made'.act)
  pub recipients : IsTrue (is_accepted one made)
      → recipients_seen group one.db given ≡ recipients_seen group other.db given'

-- an entry is hidden in each of two states
abbrev pub AreHidden : Group → State → State → Entry → Entry → Type 0
AreHidden group one other made made' =
    IsTrue (is_hidden group one made) × IsTrue (is_hidden group other made')

-- what an entry's call changes
abbrev pub effects_in : State → Entry → List Effect
effects_in state entry =
    elim (decision_in state entry) [ None ↦ [] | Some decision ↦ decision.effects ]

abbrev pub changes_in : State → Entry → List SessionChange
changes_in state entry =
    elim (decision_in state entry) [ None ↦ [] | Some decision ↦ decision.changes ]

-- the same effects, and the same changes of sessions
pub record ChangesSame (one other : State) (entry : Entry) : Type 0 where
  pub effects : effects_in one entry ≡ effects_in other entry
  pub changes : changes_in one entry ≡ changes_in other entry

-- Two records at one place: each is quiet; entries that differ are hidden, each in its own state;
-- two hidden texts are made alike; and an equal call from outside the group is hidden in both
-- states, or changes the same in both.
pub record AreQuietly (group : Group) (one other : State) (made made' : Record) : Type 0 where
  pub first : IsQuiet group one made
  pub second : IsQuiet group other made'
  pub hidden : (made.entry ≡ made'.entry) ⊎ AreHidden group one other made.entry made'.entry
  pub texts : (given given' : NewText) → AreHidden group one other made.entry made'.entry
      → text_of_act made.entry.act ≡ Some given → text_of_act made'.entry.act ≡ Some given'
      → AreMadeAlike group one other made.entry made'.entry given given'
  pub outside : made.entry ≡ made'.entry
      → IsTrue (not (is_among group.sessions (caller_of made.entry.act)))
      → AreHidden group one other made.entry made'.entry ⊎ ChangesSame one other made.entry

-- The same along two histories.
abbrev pub AreQuiet : Group → State → List Record → State → List Record → Type 0
AreQuiet group one [] other [] = Unit {0}
AreQuiet group one [] other (made' ∷ others) = ⊥
AreQuiet group one (made ∷ ones) other [] = ⊥
AreQuiet group one (made ∷ ones) other (made' ∷ others) =
    AreQuietly group one other made made'
    × AreQuiet group (after one made) ones (after other made') others
