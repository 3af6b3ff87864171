-- What a whole sweep leaves of the stored rows.
use Rattle.std.specs.Prelude.{◌≡◌, ℕ, ◌⊎◌, false, List, [], ◌∷◌, ◌++◌, length, Option}
use Rattle.std.specs.List.{AllByRecursion}
use Rattle.kom_types.specs.declared.acts.Act.TheVariants as act
use Rattle.kom_types.specs.declared.acts.Record.{Record}
use Rattle.kom_types.specs.declared.effects.Effect.{Effect}
use Rattle.kom_types.specs.declared.errors.TheConstants as error
use Rattle.kom_links.specs.DeskCalls.{DeskView}
use Rattle.kom_model.specs.After.{after, reply_in}
use Rattle.kom_model.specs.Db.{Db, empty_db}
use Rattle.kom_model.specs.Effects.{apply_all}
use Rattle.kom_model.specs.Legal.{IsLegal, state_after}
use Rattle.kom_model.specs.Out.{given_by_pass}
use Rattle.kom_model.specs.State.{State, IsSound, opening_state}
use Rattle.kom_sweep.specs.declared.ends.SweepEnd.TheVariants as end
use Rattle.kom_sweep.specs.Acting.{Seen}
use Rattle.kom_sweep.specs.Replies.{has_code, refusal_in}
use Rattle.kom_sweep.specs.Sweeps.{IsSession, IsSwept}
use Rattle.kom_sweep.specs.Told.{Told, tell}
use Rattle.sweep_laws.specs.Due.{AreNumbered, due_texts}
use Rattle.sweep_laws.specs.Without.{IsWithout}

-- the call of a record, with its reply, if its act is one
abbrev pub told_by : State → Record → List Told
told_by state made = elim made.entry.act [
  | act.Connect user host ↦ []
  | act.Call session reference call ↦ tell call (reply_in state made) ∷ []
  | act.Broken session ↦ []
  | act.Drain session ↦ []
  | act.Flush ↦ []
  | act.Close session ↦ []
]

-- the calls along a history, each with its reply
abbrev pub told_along : State → List Record → List Told
told_along state [] = []
told_along state (made ∷ history) = told_by state made ++ told_along (after state made) history

-- the act of a record is of this session, or a flush
abbrev pub IsOf : ℕ → Record → Type 0
IsOf session made = (made.session ≡ session) ⊎ (made.entry.act ≡ act.Flush)

-- no reply was refused since its line would be longer than such a line may be
abbrev pub NoneIsTooLong : List Told → Type 0
NoneIsTooLong calls =
    AllByRecursion (λ one. has_code error.LONG_ARRAY (refusal_in one.reply) ≡ false) calls

-- Of these rows the texts went that were due at a moment, and nothing else did; so many, and so
-- many are left.
pub record LeavesUndue (moment : ℕ) (old new : Db) (swept kept : ℕ) : Type 0 where
  pub rows : IsWithout (due_texts old moment) old new
  pub gone : swept ≡ length (due_texts old moment)
  pub left : kept ≡ length new.texts

-- Where the calls along a legal history of one session are those of a whole sweep, and no reply was
-- too long, exactly the texts went that were due by the rows before it.
abbrev pub SweptLeaves : Type 0
SweptLeaves = (state : State) (history : List Record) (session moment person : ℕ)
    (password : List ℕ) (swept kept : ℕ) → IsSound state → AreNumbered state.db →
    IsLegal state history → AllByRecursion (IsOf session) history →
    IsSwept moment person password (told_along state history) swept kept →
    NoneIsTooLong (told_along state history) →
    LeavesUndue moment state.db (state_after state history).db swept kept

-- all of a history was made at one desk, and what a session was given there is what its drains gave
pub record IsAllOf (start : State) (history : List Record) (session : ℕ) (old : Seen)
    (desk : DeskView) : Type 0 where
  pub sound : IsSound start
  pub legal : IsLegal start history
  pub none : old.desk.mine ≡ []
  pub mine : desk.mine ≡ history
  pub gave : desk.gave_to session ≡ given_by_pass start desk.pass session history

-- The replies that the session of a whole sweep was given are those of its history.
abbrev pub SessionTells : Type 0
SessionTells = (db : Db) (history : List Record) (moment session person : ℕ) (password : List ℕ)
    (old : Seen) (desk : DeskView) (gave : Option (List ℕ)) (swept kept : ℕ) →
    IsAllOf (opening_state db) history session old desk →
    IsSession moment session person password old desk gave (end.Done swept kept) →
    IsSwept moment person password (told_along (opening_state db) history) swept kept

-- So after such a session, where no reply was too long, exactly the texts are gone that were due.
abbrev pub SessionLeaves : Type 0
SessionLeaves = (db : Db) (history : List Record) (moment session person : ℕ)
    (password : List ℕ) (old : Seen) (desk : DeskView) (gave : Option (List ℕ))
    (swept kept : ℕ) → AreNumbered db → IsAllOf (opening_state db) history session old desk →
    IsSession moment session person password old desk gave (end.Done swept kept) →
    NoneIsTooLong (told_along (opening_state db) history) →
    LeavesUndue moment db (state_after (opening_state db) history).db swept kept

-- Rows that effects lead to from none on have no text of number 0.
abbrev pub ReachedNumbered : Type 0
ReachedNumbered = (effects : List Effect) → AreNumbered (apply_all effects empty_db)
