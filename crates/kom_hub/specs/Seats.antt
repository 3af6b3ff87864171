-- What one of many guests is shown of the desk that they share.
use Rattle.std.specs.Prelude.{◌≡◌, ◌≢◌, ◌⊎◌, ℕ, ◌==◌, ◌||◌, Bool, true, false, List, [], ◌∷◌, ◌++◌}
use Rattle.std.specs.Prelude.{filter, Err}
use Rattle.std.specs.List.{AllByRecursion}
use Rattle.kom_types.specs.declared.acts.Act.{Act}
use Rattle.kom_types.specs.declared.acts.Act.TheVariants as act
use Rattle.kom_types.specs.declared.acts.Record.{Record}
use Rattle.kom_links.specs.declared.deeds.Deed.TheVariants as deed
use Rattle.kom_types.specs.declared.answers.NotMade.TheVariants as fault
use Rattle.kom_links.specs.Answers.{Answer}
use Rattle.kom_links.specs.DeskCalls.{DeskView}
use Rattle.kom_links.specs.Records.{has_session}
use Rattle.kom_hub.specs.declared.place.Place.{Place}

abbrev pub is_flush : Act → Bool
is_flush (act.Connect user host) = false
is_flush (act.Call session reference call) = false
is_flush (act.Broken session) = false
is_flush (act.Drain session) = false
is_flush act.Flush = true
is_flush (act.Close session) = false

-- a record of this session, or a flush
abbrev pub is_shown : ℕ → Record → Bool
is_shown session made = (made.session == session) || is_flush made.entry.act

-- those from the session's first record on
abbrev pub since_at : Bool → Record → List Record → List Record → List Record
since_at true made later rest = made ∷ later
since_at false made later rest = rest

abbrev pub since : ℕ → List Record → List Record
since session [] = []
since session (made ∷ records) = since_at (made.session == session) made
    (filter (is_shown session) records) (since session records)

-- all flushes, if the session has no record
abbrev pub from_first : Bool → ℕ → List Record → List Record
from_first true session records = since session records
from_first false session records = filter (λ made. is_flush made.entry.act) records

abbrev pub shown_at : Bool → List Record → List Record
shown_at true records = []
shown_at false records = records

-- The records that a seat shows: without a session none; else those of the session, and the
-- flushes from its first record on.
abbrev pub seat_records : ℕ → List Record → List Record
seat_records session records =
    shown_at (session == 0) (from_first (has_session session records) session records)

abbrev pub only_by : {X : Type 0} → Bool → Bool → X → X → X
only_by true own none kept = none
only_by false true none kept = kept
only_by false false none kept = none

-- what is kept for each session, as a seat shows it: that of its own, and for others nothing
abbrev pub only : {X : Type 0} → ℕ → X → (ℕ → X) → ℕ → X
only session none kept number = only_by (number == 0) (number == session) none (kept number)

-- what a seat at which so much was answered shows to this session of a desk
abbrev pub seat_of : ℕ → List Answer → DeskView → DeskView
seat_of session answers view = record {
  pass = view.pass;
  mine = seat_records session view.mine;
  gave_to = only session [] view.gave_to;
  answers = answers;
  lock_full = view.lock_full;
}

abbrev pub seat_view : Place → DeskView → DeskView
seat_view place view = seat_of place.session place.answers.items view

-- a flush
abbrev pub IsFlush : Record → Type 0
IsFlush made = (is_flush made.entry.act ≡ true) × (made.session ≡ 0)

-- a record of this session, if it is one, and no flush
abbrev pub IsOwn : ℕ → Record → Type 0
IsOwn session made =
    (session ≢ 0) × (made.session ≡ session) × (is_flush made.entry.act ≡ false)

-- a record of this session, or a flush
abbrev pub IsOfSeat : ℕ → Record → Type 0
IsOfSeat session made = IsOwn session made ⊎ IsFlush made

-- a record of some session, or a flush
abbrev pub IsMade : Record → Type 0
IsMade made = (made.session ≢ 0) ⊎ IsFlush made

-- a desk answered so
abbrev pub IsAnswered : DeskView → Answer → Type 0
IsAnswered desk answer =
    (before rest : List Answer) × (desk.answers ≡ before ++ answer ∷ rest)

-- An answer at a seat of this session is one of the desk's; or the seat found that memory ran out,
-- at a connect, or where it has no session.
abbrev pub IsSeatAnswer : ℕ → DeskView → Answer → Type 0
IsSeatAnswer session desk answer = IsAnswered desk answer
    ⊎ ((answer.1 ≡ Err fault.Memory) × (session ≢ 0 → answer.0 ≡ deed.Connect))

-- What was answered at a place was answered by the desk, but for what a seat refuses: a second
-- connect, and a flush where nothing was connected, which spends it.
pub record IsHeard (desk : DeskView) (place : Place) : Type 0 where
  pub all : AllByRecursion (λ answer. IsAnswered desk answer ⊎ ((answer.1 ≡ Err fault.Memory)
      × (place.is_spent ≡ false → answer.0 ≡ deed.Connect))) place.answers.items
  pub spent : place.is_spent ≡ true → place.session ≡ 0

-- What a desk answered more was heard at a place.
pub record Hears (old : Place) (before : DeskView) (new : Place) (after : DeskView) : Type 0 where
  pub more : List Answer
  pub grown : after.answers ≡ before.answers ++ more
  pub heard : IsHeard before old → IsHeard after new

-- What the turns of one seat leave of the desk: its own records and flushes were added, and it
-- shows each of them; what was given to the other sessions stays. A session that was connected is
-- one that had no record. What the desk answered was heard.
pub record Leaves (old : Place) (before : DeskView) (new : Place) (after : DeskView) : Type 0 where
  pub more : List Record
  pub mine : after.mine ≡ before.mine ++ more
  pub shows : seat_records new.session after.mine ≡ seat_records old.session before.mine ++ more
  pub own : AllByRecursion (IsOfSeat new.session) more
  pub stays : old.session ≢ 0 → new.session ≡ old.session
  pub fresh : old.session ≡ 0 → new.session ≢ 0 → has_session new.session before.mine ≡ false
  pub has : (old.session ≢ 0 → has_session old.session before.mine ≡ true) → new.session ≢ 0
      → has_session new.session after.mine ≡ true
  pub given : (number : ℕ) → number ≢ 0 → number ≢ new.session
      → after.gave_to number ≡ before.gave_to number
  pub pass : after.pass ≡ before.pass
  pub lock : after.lock_full ≡ false → before.lock_full ≡ false
  pub hears : Hears old before new after
