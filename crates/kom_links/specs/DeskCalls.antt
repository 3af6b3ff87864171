-- What the calls of a desk say.
use Rattle.std.specs.Prelude.{◌≡◌, ◌≢◌, ℕ, ◌≤◌, ◌^◌, ◌==◌, ◌||◌, ◌⊎◌, nat_le, Bool, true, false}
use Rattle.std.specs.Prelude.{List, [], ◌∷◌, ◌++◌, Result, Ok, Err, IfOk, IfErr}
use Rattle.std.specs.Prelude.{OnOk, OnErr, if◌then◌else◌}
use Rattle.kom_types.specs.declared.limits.TheConstants.{MOST_SESSIONS}
use Rattle.kom_types.specs.declared.acts.Act.{Act}
use Rattle.kom_types.specs.declared.acts.Act.TheVariants as act
use Rattle.kom_types.specs.declared.acts.Record.{Record}
use Rattle.kom_types.specs.declared.answers.Why.TheVariants as why
use Rattle.kom_types.specs.declared.items.Item.{Item}
use Rattle.kom_types.specs.declared.answers.NotMade.{NotMade}
use Rattle.kom_types.specs.declared.answers.NotMade.TheVariants as fault
use Rattle.kom_links.specs.declared.deeds.Deed.{Deed}
use Rattle.kom_links.specs.declared.deeds.Deed.TheVariants as deed
use Rattle.kom_links.specs.Answers.{Answer, without_value, said_stopped, deed_of, is_nothing}
use Rattle.kom_links.specs.Records.{has_session}

-- What contracts see of a desk: the number of its pass; the records of the acts that it made; for
-- each session the lists of items that its drains gave, one for each drain; what it answered, in
-- order; and whether it answered that no turn of the server's lock is left.
pub record DeskView : Type 0 where
  pub pass : ℕ
  pub mine : List Record
  pub gave_to : ℕ → List (List Item)
  pub answers : List Answer
  pub lock_full : Bool

-- what is kept for each session stays as it was, but for this one
abbrev pub StaysBut : {X : Type 0} → ℕ → (ℕ → X) → (ℕ → X) → Type 0
StaysBut session old new = (number : ℕ) → number ≢ session → new number ≡ old number

-- what is kept for each session stays as it was
abbrev pub StaysForAll : {X : Type 0} → (ℕ → X) → (ℕ → X) → Type 0
StaysForAll old new = (number : ℕ) → new number ≡ old number

-- what is kept for this session becomes this, and for all others stays as it was
abbrev pub ChangesAt : {X : Type 0} → ℕ → X → (ℕ → X) → (ℕ → X) → Type 0
ChangesAt session value old new = (new session ≡ value) × StaysBut session old new

-- the record of an act of this session, made by this pass at this moment
abbrev pub record_of : ℕ → ℕ → Act → ℕ → Bool → Record
record_of pass moment act session short = record {
  entry = record { pass = pass; moment = moment; act = act };
  session = session;
  short = short;
}

-- an answer says that no turn of the server's lock is left
abbrev pub is_lock_full : {X : Type 0} → Result X NotMade → Bool
is_lock_full (Ok value) = false
is_lock_full (Err (fault.Gone why)) = false
is_lock_full (Err (fault.Full number)) = nat_le (2 ^ 62) number
is_lock_full (Err fault.Memory) = false

-- Why a connect may be refused: the server was shut down or its store refused a flush; the numbers
-- of sessions are used up, or the turns of the lock; or memory ran out.
abbrev pub IsConnectFault : NotMade → Type 0
IsConnectFault (fault.Gone why.Absent) = ⊥
IsConnectFault (fault.Gone why.Dropped) = ⊥
IsConnectFault (fault.Gone why.Overrun) = ⊥
IsConnectFault (fault.Gone why.Stopped) = Unit {0}
IsConnectFault (fault.Full number) = (number ≡ MOST_SESSIONS) ⊎ (2 ^ 62 ≤ number)
IsConnectFault fault.Memory = Unit {0}

-- Why an act of an open session may be refused. That the session is not there is no reason.
abbrev pub IsActFault : NotMade → Type 0
IsActFault (fault.Gone why.Absent) = ⊥
IsActFault (fault.Gone why.Dropped) = Unit {0}
IsActFault (fault.Gone why.Overrun) = Unit {0}
IsActFault (fault.Gone why.Stopped) = Unit {0}
IsActFault (fault.Full number) = 2 ^ 62 ≤ number
IsActFault fault.Memory = Unit {0}

-- why a flush may be refused
abbrev pub IsFlushFault : NotMade → Type 0
IsFlushFault (fault.Gone why.Absent) = ⊥
IsFlushFault (fault.Gone why.Dropped) = ⊥
IsFlushFault (fault.Gone why.Overrun) = ⊥
IsFlushFault (fault.Gone why.Stopped) = Unit {0}
IsFlushFault (fault.Full number) = 2 ^ 62 ≤ number
IsFlushFault fault.Memory = Unit {0}

-- no turn of the lock is left, which alone keeps a session from being closed
abbrev pub IsLockFault : NotMade → Type 0
IsLockFault (fault.Gone why) = ⊥
IsLockFault (fault.Full number) = 2 ^ 62 ≤ number
IsLockFault fault.Memory = ⊥

-- A deed and what was answered to it stand at the end of the desk's answers.
abbrev pub IsAnswered : {X : Type 0} → DeskView → Deed → Result X NotMade → DeskView → Type 0
IsAnswered old deed answer new = new.answers ≡ old.answers ++ (deed, without_value answer) ∷ []

-- A session was connected, by a number that no record of the desk has, and nothing was given to it;
-- or the desk refused.
pub record Connects (old : DeskView) (moment : ℕ) (user host : List ℕ)
    (answer : Result ℕ NotMade) (new : DeskView) : Type 0 where
  pub added : IfOk answer (λ session. new.mine
      ≡ old.mine ++ record_of old.pass moment (act.Connect user host) session false ∷ [])
  pub new_number : IfOk answer (λ session. (session ≢ 0) × (has_session session old.mine ≡ false))
  pub given : IfOk answer (λ session. ChangesAt session [] old.gave_to new.gave_to)
  pub none_added : OnErr answer (new.mine ≡ old.mine)
  pub none_given : OnErr answer (StaysForAll old.gave_to new.gave_to)
  pub tells : IsAnswered old deed.Connect answer new
  pub why : IfErr answer IsConnectFault
  pub lock_full : new.lock_full ≡ (old.lock_full || is_lock_full answer)
  pub pass : new.pass ≡ old.pass

-- What an answer to a deed leaves: a deed that is refused adds no record.
pub record IsTold {X : Type 0} (old : DeskView) (deed : Deed) (answer : Result X NotMade)
    (new : DeskView) : Type 0 where
  pub none_added : OnErr answer (new.mine ≡ old.mine)
  pub tells : IsAnswered old deed answer new
  pub lock_full : new.lock_full ≡ (old.lock_full || is_lock_full answer)
  pub pass : new.pass ≡ old.pass

-- An act of a session was made, and its record was added; or the desk refused.
pub record Acts {X : Type 0} (old : DeskView) (moment : ℕ) (act : Act) (session : ℕ)
    (answer : Result X NotMade) (new : DeskView) : Type 0 where
  pub added : OnOk answer (new.mine ≡ old.mine ++ record_of old.pass moment act session false ∷ [])
  pub given : StaysForAll old.gave_to new.gave_to
  pub why : IfErr answer IsActFault
  pub rest : IsTold old (deed_of act) answer new

-- The same of a call, which may have been answered that memory ran out.
pub record Calls {X : Type 0} (old : DeskView) (moment : ℕ) (act : Act) (session : ℕ)
    (answer : Result X NotMade) (new : DeskView) : Type 0 where
  pub added : OnOk answer ((short : Bool)
      × (new.mine ≡ old.mine ++ record_of old.pass moment act session short ∷ []))
  pub given : StaysForAll old.gave_to new.gave_to
  pub why : IfErr answer IsActFault
  pub rest : IsTold old (deed_of act) answer new

-- A session was drained of these items, which were given to it; or the desk refused, and there are
-- none.
pub record Drains {X : Type 0} (old : DeskView) (moment session : ℕ) (items : List Item)
    (answer : Result X NotMade) (new : DeskView) : Type 0 where
  pub added : OnOk answer (new.mine
      ≡ old.mine ++ record_of old.pass moment (act.Drain session) session false ∷ [])
  pub given : OnOk answer
      (ChangesAt session (old.gave_to session ++ items ∷ []) old.gave_to new.gave_to)
  pub none_given : OnErr answer (StaysForAll old.gave_to new.gave_to × (items ≡ []))
  pub why : IfErr answer IsActFault
  pub rest : IsTold old (deed.Drain session (is_nothing items)) answer new

-- A flush that is refused adds nothing; one that the store refuses, for which the desk is stopped,
-- may add its short record.
abbrev pub AddsNoneOrShort : DeskView → ℕ → NotMade → DeskView → Type 0
AddsNoneOrShort old moment (fault.Gone why.Stopped) new = (new.mine ≡ old.mine)
    ⊎ (new.mine ≡ old.mine ++ record_of old.pass moment act.Flush 0 true ∷ [])
AddsNoneOrShort old moment (fault.Gone why.Absent) new = new.mine ≡ old.mine
AddsNoneOrShort old moment (fault.Gone why.Dropped) new = new.mine ≡ old.mine
AddsNoneOrShort old moment (fault.Gone why.Overrun) new = new.mine ≡ old.mine
AddsNoneOrShort old moment (fault.Full number) new = new.mine ≡ old.mine
AddsNoneOrShort old moment fault.Memory new = new.mine ≡ old.mine

-- What was done so far was made stable; or the desk refused.
pub record Flushes {X : Type 0} (old : DeskView) (moment : ℕ) (answer : Result X NotMade)
    (new : DeskView) : Type 0 where
  pub added : OnOk answer (new.mine ≡ old.mine ++ record_of old.pass moment act.Flush 0 false ∷ [])
  pub none_added : IfErr answer (λ fault. AddsNoneOrShort old moment fault new)
  pub given : StaysForAll old.gave_to new.gave_to
  pub tells : IsAnswered old deed.Flush answer new
  pub why : IfErr answer IsFlushFault
  pub lock_full : new.lock_full ≡ (old.lock_full || is_lock_full answer)
  pub pass : new.pass ≡ old.pass

-- A session was closed, unless no turn of the lock is left.
pub record Closes {X : Type 0} (old : DeskView) (moment session : ℕ)
    (answer : Result X NotMade) (new : DeskView) : Type 0 where
  pub added : OnOk answer (new.mine
      ≡ old.mine ++ record_of old.pass moment (act.Close session) session false ∷ [])
  pub given : StaysForAll old.gave_to new.gave_to
  pub why : IfErr answer IsLockFault
  pub rest : IsTold old (deed.Close session) answer new

-- The desk was asked whether it is stopped, which makes no act.
pub record AsksStopped (old : DeskView) (answer : Result Bool NotMade)
    (new : DeskView) : Type 0 where
  pub mine : new.mine ≡ old.mine
  pub given : StaysForAll old.gave_to new.gave_to
  pub answers : new.answers ≡ old.answers ++ (deed.Ask, said_stopped answer) ∷ []
  pub why : IfErr answer IsLockFault
  pub lock_full : new.lock_full ≡ (old.lock_full || is_lock_full answer)
  pub pass : new.pass ≡ old.pass

-- The desk was looked at, which makes no act and answers no fault. It may have found that no turn
-- of the server's lock is left.
pub record IsLookedAt (old new : DeskView) : Type 0 where
  pub mine : new.mine ≡ old.mine
  pub given : StaysForAll old.gave_to new.gave_to
  pub answers : new.answers ≡ old.answers
  pub lock_full : old.lock_full ≡ true → new.lock_full ≡ true
  pub pass : new.pass ≡ old.pass
