-- A sweep: what one session of a desk asks and deletes, and what that comes to.
use Rattle.std.specs.Prelude.{◌≡◌, ◌≢◌, ℕ, ◌-◌, ◌⊎◌, true, false, not, codes, List, [], ◌∷◌}
use Rattle.std.specs.Prelude.{◌++◌, length, map, filter, flat_map, Option, Some, None, Err}
use Rattle.std.specs.List.{AllByRecursion}
use Rattle.kom_types.specs.declared.acts.Act.{Act}
use Rattle.kom_types.specs.declared.acts.Act.TheVariants as act
use Rattle.kom_types.specs.declared.acts.Record.{Record}
use Rattle.kom_types.specs.declared.calls.Call.TheVariants as call
use Rattle.kom_types.specs.declared.errors.TheConstants.{OUT_OF_MEMORY}
use Rattle.kom_types.specs.declared.replies.Reply.{Reply}
use Rattle.kom_types.specs.declared.replies.Reply.TheVariants as reply
use Rattle.kom_links.specs.declared.deeds.Deed.TheVariants as deed
use Rattle.kom_types.specs.declared.answers.NotMade.{NotMade}
use Rattle.kom_types.specs.declared.answers.NotMade.TheVariants as fault
use Rattle.kom_links.specs.Answers.{Answer, first_of}
use Rattle.kom_links.specs.DeskCalls.{DeskView, StaysForAll, ChangesAt}
use Rattle.kom_links.specs.Doors.{GivesFirst}
use Rattle.kom_links.specs.Records.{has_session}
use Rattle.kom_links.specs.Talk.{AreTimed}
use Rattle.kom_sweep.specs.declared.ends.SweepEnd.{SweepEnd}
use Rattle.kom_sweep.specs.declared.ends.SweepEnd.TheVariants as end
use Rattle.kom_sweep.specs.Told.{Told, tell, Exchange, Last, told_of, acts_of, told_last}
use Rattle.kom_sweep.specs.Told.{acts_last, AreNumbered, IsNumbered, only_asks, IsAbout}
use Rattle.kom_sweep.specs.Replies.{is_refused, is_short}
use Rattle.kom_sweep.specs.Acting.{Seen, acts_in, faults_in, IsOwn, MayLeave}
use Rattle.kom_sweep.specs.Due.{Walk, Room, Look}
use Rattle.kom_sweep.specs.Walks.{IsRoomWalk, IsTextWalk, told_rooms, told_texts, due_in}
use Rattle.kom_sweep.specs.Walks.{told_deletions}
use Rattle.kom_sweep.specs.Ends.{end_at}

-- for whom the session begins, and where
abbrev pub user : List ℕ
user = codes "sweep"

abbrev pub host : List ℕ
host = codes "memory"

-- ---- the calls

-- what a session is answered that logs in, visibly, uses all its rights, and has all made stable
pub record Entry : Type 0 where
  pub login : Option Reply
  pub rights : Option Reply
  pub stable : Option Reply

abbrev pub told_entry : ℕ → List ℕ → Entry → List Told
told_entry person password entry = tell (call.Login person password false) entry.login
    ∷ tell (call.Enable 255) entry.rights ∷ tell call.SyncKom entry.stable ∷ []

-- the person was not logged in, or may not have all made stable; that memory ran out is no refusal
abbrev pub IsRefusal : ℕ → List ℕ → List Told → ℕ → ℕ → Type 0
IsRefusal person password calls code status = (code ≢ OUT_OF_MEMORY)
    × ((calls ≡ tell (call.Login person password false) (Some (reply.Refused code status)) ∷ [])
    ⊎ ((entry : Entry) × (calls ≡ told_entry person password entry)
    × (is_refused entry.login ≡ false) × (entry.stable ≡ Some (reply.Refused code status))))

-- what was found before anything is deleted: the conferences and then the texts were walked over
pub record Findings : Type 0 where
  pub entry : Entry
  pub rooms : Walk Room
  pub texts : Walk Look

pub record IsFound (found : Findings) : Type 0 where
  pub login : is_refused found.entry.login ≡ false
  pub stable : is_refused found.entry.stable ≡ false
  pub rooms : IsRoomWalk found.rooms
  pub texts : IsTextWalk found.texts

abbrev pub told_findings : ℕ → List ℕ → Findings → List Told
told_findings person password found =
    told_entry person password found.entry ++ told_rooms found.rooms ++ told_texts found.texts

-- the texts that are due at a moment by what was found, in order
abbrev pub due : ℕ → Findings → List ℕ
due moment found = due_in moment found.rooms found.texts.steps

-- how many deletions were not refused
abbrev pub swept_in : List (ℕ × Option Reply) → ℕ
swept_in gone = length (filter (λ one. not (is_refused one.1)) gone)

-- A whole sweep: after both walks the texts that are due were deleted, in order, and the person was
-- logged out; and for none of its calls memory ran out.
pub record IsSwept (moment person : ℕ) (password : List ℕ) (calls : List Told)
    (gone_count left_count : ℕ) : Type 0 where
  pub found : Findings
  pub is_found : IsFound found
  pub gone : List (ℕ × Option Reply)
  pub logout : Option Reply
  pub are : calls ≡ told_findings person password found ++ told_deletions gone
      ++ tell call.Logout logout ∷ []
  pub are_due : map (λ one. one.0) gone ≡ due moment found
  pub swept : gone_count ≡ swept_in gone
  pub kept : left_count ≡ length found.texts.steps - gone_count
  pub sound : AllByRecursion (λ one. is_short one.reply ≡ false) calls

-- a sweep that began to delete: the first of the texts that are due
pub record IsPartlySwept (moment person : ℕ) (password : List ℕ) (calls : List Told) : Type 0 where
  pub found : Findings
  pub is_found : IsFound found
  pub gone : List (ℕ × Option Reply)
  pub rest : List ℕ
  pub after : List Told
  pub are : calls ≡ told_findings person password found ++ told_deletions gone ++ after
  pub are_due : map (λ one. one.0) gone ++ rest ≡ due moment found
  pub logout : IsAbout call.Logout after

-- a sweep that deleted nothing: at most it logged this person in, visibly, and asked
abbrev pub HasAsked : ℕ → List ℕ → List Told → Type 0
HasAsked person password calls = (calls ≡ []) ⊎ ((answer : Option Reply) × (after : List Told)
    × (calls ≡ tell (call.Login person password false) answer ∷ after) × (only_asks after ≡ true))

-- A sweep that was broken off deleted nothing, or the first of the texts that are due.
abbrev pub IsBrokenOff : ℕ → ℕ → List ℕ → List Told → Type 0
IsBrokenOff moment person password calls =
    HasAsked person password calls ⊎ IsPartlySwept moment person password calls

-- ---- the ends

-- What an end says of the calls, and of the first fault with which the desk refused, if it did.
abbrev pub AtEnd : ℕ → ℕ → List ℕ → List Told → Option NotMade → SweepEnd → Type 0
AtEnd moment person password calls cause (end.Done swept kept) =
    (cause ≡ None) × IsSwept moment person password calls swept kept
AtEnd moment person password calls cause (end.Refused code status) =
    (cause ≡ None) × IsRefusal person password calls code status
AtEnd moment person password calls cause (end.Gone why) =
    (cause ≡ Some (fault.Gone why)) × IsBrokenOff moment person password calls
AtEnd moment person password calls cause (end.Full number) =
    (cause ≡ Some (fault.Full number)) × IsBrokenOff moment person password calls
AtEnd moment person password calls cause end.Memory =
    ((cause ≡ None) ⊎ (cause ≡ Some fault.Memory)) × IsBrokenOff moment person password calls

-- the session was closed, unless no turn of the server's lock is left
abbrev pub IsClosing : ℕ → DeskView → List Act → Type 0
IsClosing session desk closing =
    (closing ≡ act.Close session ∷ []) ⊎ ((closing ≡ []) × (desk.lock_full ≡ true))

-- no session was connected, and that is the end
pub record IsNotConnected (old : Seen) (desk : DeskView) (gave : Option (List ℕ))
    (ending : SweepEnd) : Type 0 where
  pub why : NotMade
  pub mine : desk.mine ≡ old.desk.mine
  pub given : StaysForAll old.desk.gave_to desk.gave_to
  pub tells : desk.answers ≡ old.desk.answers ++ (deed.Connect, Err why) ∷ []
  pub timed : AreTimed old.gave gave []
  pub pass : desk.pass ≡ old.desk.pass
  pub ends : ending ≡ end_at why

-- A session of a number of its own was connected at a moment. It made calls, each flushed and
-- drained before the next, by references from 1 on; what they come to by what it was given is the
-- end; and it was closed. All records that were added are of it, or flushes, each at a moment that
-- the clock gave for it.
pub record IsSession (moment session person : ℕ) (password : List ℕ) (old : Seen)
    (desk : DeskView) (gave : Option (List ℕ)) (ending : SweepEnd) : Type 0 where
  pub is_session : session ≢ 0
  pub is_new : has_session session old.desk.mine ≡ false
  pub exchanges : List Exchange
  pub last : Last
  pub next : ℕ
  pub closing : List Act
  pub added : List Record
  pub answers : List Answer
  pub mine : desk.mine ≡ old.desk.mine ++ added
  pub acts : acts_in added ≡ act.Connect user host ∷ flat_map (acts_of session) exchanges
      ++ acts_last session last ++ closing
  pub begins : (later : List ℕ) × (map (λ made. made.entry.moment) added ≡ moment ∷ later)
  pub own : AllByRecursion (IsOwn old.desk.pass session) added
  pub given : ChangesAt session (map (λ one. one.items) exchanges) old.desk.gave_to desk.gave_to
  pub tells : desk.answers ≡ old.desk.answers ++ answers
  pub timed : AreTimed old.gave gave added
  pub pass : desk.pass ≡ old.desk.pass
  pub numbered : AreNumbered 1 exchanges next
  pub last_numbered : IsNumbered next last
  pub left : MayLeave (faults_in answers) last
  pub closed : IsClosing session desk closing
  pub ends : AtEnd moment person password (map told_of exchanges ++ told_last last)
      (first_of (faults_in answers)) ending

-- A desk was swept by one session for this person, from a moment on that a clock gave then.
abbrev pub IsSweep : ℕ → List ℕ → Option ℕ → Seen → DeskView → Option (List ℕ) → SweepEnd →
    Type 0
IsSweep person password first old desk gave ending = (moment : ℕ)
    × GivesFirst first old.gave moment × (IsNotConnected old desk gave ending
    ⊎ ((session : ℕ) × IsSession moment session person password old desk gave ending))

-- A session logged in, or was refused.
abbrev pub LogsIn : ℕ → List ℕ → List Told → Option (ℕ × ℕ) → Type 0
LogsIn person password calls None = (entry : Entry)
    × (calls ≡ told_entry person password entry)
    × (is_refused entry.login ≡ false) × (is_refused entry.stable ≡ false)
LogsIn person password calls (Some (code, status)) = IsRefusal person password calls code status

-- What all its calls come to, where the desk refused nothing.
abbrev pub Works : ℕ → ℕ → List ℕ → List Told → SweepEnd → Type 0
Works moment person password calls (end.Done swept kept) =
    IsSwept moment person password calls swept kept
Works moment person password calls (end.Refused code status) =
    IsRefusal person password calls code status
Works moment person password calls (end.Gone why) = ⊥
Works moment person password calls (end.Full number) = ⊥
Works moment person password calls end.Memory = ⊥
