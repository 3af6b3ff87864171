-- How far the service of a link has come.
use Rattle.std.specs.Prelude.{◌≡◌, ◌≢◌, ℕ, ◌⊎◌, Bool, true, false, List, [], ◌∷◌, ◌++◌, length, map}
use Rattle.std.specs.Prelude.{take, Option, Some, None, IsSome, IfSome, IsTrue}
use Rattle.std.specs.List.{AllByRecursion}
use Rattle.kom_types.specs.declared.acts.Record.{Record}
use Rattle.kom_types.specs.declared.items.Item.{Item}
use Rattle.kom_types.specs.declared.items.Item.TheVariants as item
use Rattle.kom_types.specs.Stream.{Line, stream_of}
use Rattle.kom_types.specs.Reading.{Request, reading_of, fault_of}
use Rattle.kom_types.specs.Printing.{print_of}
use Rattle.kom_framing.specs.declared.units.Unit.{Unit as StreamUnit}
use Rattle.kom_framing.specs.declared.units.Unit.TheVariants as unit
use Rattle.kom_types.specs.declared.answers.NotMade.{NotMade}
use Rattle.kom_links.specs.declared.served.Served.{Served}
use Rattle.kom_links.specs.declared.served.SessionEnd.{SessionEnd}
use Rattle.kom_links.specs.declared.served.SessionEnd.TheVariants as end
use Rattle.kom_links.specs.Outside.{LinkView, Rose, with_bytes}
use Rattle.kom_links.specs.Records.{IsOpen, has_connect}
use Rattle.kom_links.specs.DeskCalls.{DeskView, IsConnectFault}
use Rattle.kom_links.specs.Answers.{Answer, first_fault_of, IsFlushedAfter, IsSettledAfter}
use Rattle.kom_links.specs.Answers.{HasRefused}
use Rattle.kom_links.specs.Talk.{Step, steps_of, lines_before, print_of_drains, AreTimed, IsTalk}
use Rattle.kom_session.specs.declared.phase.Phase.{Phase}
use Rattle.kom_session.specs.declared.phase.Phase.TheVariants as phase
use Rattle.kom_session.specs.Course.{IsFlushed, IsSettled, IsRecent, IsCourse}
use Rattle.kom_session.specs.Ends.{IsOwn, IsUntouched, HasCause, HasCarried, TellsFault, given_to}
use Rattle.kom_session.specs.Known.{Known, Seen, LeavesOthers}
use Rattle.kom_session.specs.Left.{IsSending, IfSending, IsSentAll}
use Rattle.kom_session.specs.Waits.{IsChecked, AreAnswered, NoneWaits}

-- Who is served: nobody, who is told these bytes; or the session of a user, with the calls that it
-- made, and whether it was said that its stream is at fault.
pub data Party : Type 0 where
  Nobody : List ℕ → Party
  Somebody : List ℕ → List Request → Bool → Party

-- what was read since the start, and who is served
pub record Past : Type 0 where
  pub fed : List ℕ
  pub party : Party

-- what is to be put in all
abbrev pub owed_to : Party → List (List Item) → List ℕ
owed_to (Nobody told) given = told
owed_to (Somebody user requests broken) given = print_of_drains given

-- the stream's greeting is of this user, and its first lines are these calls
pub record AreFirst (fed user : List ℕ) (requests : List Request) : Type 0 where
  pub greeting : (stream_of fed).greeting ≡ Some user
  pub calls : map Some requests
      ≡ map (λ line. reading_of line.tokens) (take (length requests) (stream_of fed).lines)

-- the stream is at fault at this place, and all lines before it are these calls
abbrev pub IsFaultAfter : List ℕ → ℕ → List Request → Type 0
IsFaultAfter fed place requests = (fault_of fed ≡ Some place)
    × (length requests ≡ lines_before place (stream_of fed).lines)

-- Without a session nothing was done; nothing is told, or that the greeting is at fault.
pub record IsNobody (fed told : List ℕ) (session : ℕ) (reached : Phase)
    (added : List Record) : Type 0 where
  pub none : session ≡ 0
  pub calm : reached ≡ phase.Calm
  pub nothing : added ≡ []
  pub may_tell : (told ≡ [])
      ⊎ (((stream_of fed).greeting ≡ None) × IsSome (fault_of fed) × (told ≡ print_of item.Fault))

-- A session of this user at this host made these calls, the first of the stream.
pub record IsSomebody (host fed user : List ℕ) (requests : List Request) (broken : Bool)
    (session : ℕ) (mine added : List Record) (given : List (List Item)) : Type 0 where
  pub some : session ≢ 0
  pub course : IsCourse session host user requests broken added given
  pub is_open : IsOpen session mine
  pub first : AreFirst fed user requests
  pub at_fault : broken ≡ true → ((place : ℕ) × IsFaultAfter fed place requests)

abbrev pub IsParty : List ℕ → Party → Seen → Known → Seen → List Record → Type 0
IsParty fed (Nobody told) start known now added = IsNobody fed told known.session known.phase added
IsParty fed (Somebody user requests broken) start known now added =
    IsSomebody start.link.host fed user requests broken
    known.session now.desk.mine added (now.desk.gave_to known.session)

-- What a phase says of the steps before the last read of the link, which found something or not,
-- and of those since.
abbrev pub IsPhase : Phase → Bool → List Step → List Step → Type 0
IsPhase phase.Calm waited place recent =
    ((place ++ recent ≡ []) ⊎ IsSettled (place ++ recent)) × IsChecked waited place recent
IsPhase (phase.Due lines) waited place recent = IsRecent lines (place ++ recent)
IsPhase phase.Owing waited place recent = Unit {0}
IsPhase phase.Draining waited place recent = IsFlushed recent
IsPhase phase.Denied waited place recent = Unit {0}

-- What a phase says of the desk's answers since the first fault of a session, where what waits for
-- it is still sent: a flush was made since; and after it a drain gave nothing; or one was refused.
abbrev pub IsSince : Phase → ℕ → List Answer → Type 0
IsSince phase.Calm session answers = IsSettledAfter session answers
IsSince (phase.Due lines) session answers = Unit {0}
IsSince phase.Owing session answers = Unit {0}
IsSince phase.Draining session answers = IsFlushedAfter session answers
IsSince phase.Denied session answers = HasRefused session answers

-- A link was served since the start so far: these records and answers were added; what was put,
-- with what is pending, is what is owed; each read has its place; the cause is the first fault that
-- concerns the session, and where there is no session and no cause, no answer is a fault.
pub record IsServed (start : Seen) (past : Past) (known : Known) (now : Seen) : Type 0 where
  pub added : List Record
  pub more : List Answer
  pub bytes : List ℕ
  pub waited : Bool
  pub place : List Step
  pub recent : List Step
  pub mine : now.desk.mine ≡ start.desk.mine ++ added
  pub answers : now.desk.answers ≡ start.desk.answers ++ more
  pub own : AllByRecursion (IsOwn known.session) added
  pub taken : now.link.taken ≡ with_bytes past.fed start.link.taken
  pub put : now.link.put ≡ with_bytes bytes start.link.put
  pub owed : bytes ++ known.pending ≡ owed_to past.party (now.desk.gave_to known.session)
  pub party : IsParty past.fed past.party start known now added
  pub steps : steps_of known.session added (now.desk.gave_to known.session) ≡ place ++ recent
  pub looked : IfSome now.link.reads (λ looks. AreAnswered false [] looks waited place)
  pub phase : IsPhase known.phase waited place recent
  pub cause : first_fault_of known.session more ≡ known.cause
  pub unrefused : known.session ≡ 0 → known.cause ≡ None →
      (number : ℕ) → first_fault_of number more ≡ None
  pub since : known.session ≢ 0 → IsSending known.cause → IsSince known.phase known.session more
  pub others : LeavesOthers known.session start now
  pub untouched : IsUntouched start.link

-- The units taken are the greeting and these calls, or none.
abbrev pub AreCalled : Party → List StreamUnit → Type 0
AreCalled (Nobody told) units = (told ≡ []) × (units ≡ [])
AreCalled (Somebody user requests broken) units =
    (lines : List Line) × (units ≡ unit.Hello user ∷ map unit.Line lines)
    × (map Some requests ≡ map (λ line. reading_of line.tokens) lines) × (broken ≡ false)

-- the whole stream was served, and it has no fault
abbrev pub IsWhole : List ℕ → Party → Phase → Type 0
IsWhole fed (Nobody told) reached =
    ((stream_of fed).greeting ≡ None) × (fault_of fed ≡ None) × (told ≡ [])
IsWhole fed (Somebody user requests broken) reached = (fault_of fed ≡ None)
    × (length requests ≡ length (stream_of fed).lines) × (reached ≡ phase.Calm)

-- the stream was served up to its fault at this place, which was told
abbrev pub IsBroken : ℕ → List ℕ → Party → Phase → Type 0
IsBroken place fed (Nobody told) reached =
    ((stream_of fed).greeting ≡ None) × (fault_of fed ≡ Some place)
    × (told ≡ print_of item.Fault)
IsBroken place fed (Somebody user requests broken) reached =
    (broken ≡ true) × IsFaultAfter fed place requests
    × (reached ≡ phase.Calm)

-- the desk answered this fault, without a session only where it may refuse a connect, or no
-- greeting came
abbrev pub IsRefused : NotMade → List ℕ → Party → Type 0
IsRefused why fed (Nobody told) =
    (told ≡ []) × (((stream_of fed).greeting ≡ None) ⊎ IsConnectFault why)
IsRefused why fed (Somebody user requests broken) = Unit {0}

-- The end that the loop gives, by the desk's first fault.
abbrev pub Plans : SessionEnd → Option NotMade → Past → Known → Type 0
Plans end.End None past known = (known.pending ≡ []) × IsWhole past.fed past.party known.phase
Plans end.End (Some why) past known = (known.pending ≡ []) × IsRefused why past.fed past.party
Plans (end.Broken place) None past known =
    (known.pending ≡ []) × IsBroken place past.fed past.party known.phase
Plans (end.Broken place) (Some why) past known =
    (known.pending ≡ []) × IsRefused why past.fed past.party
Plans end.LinkFault cause past known = Unit {0}
Plans end.Memory cause past known = Unit {0}
Plans end.Overrun cause past known = ⊥
Plans end.Dropped cause past known = ⊥
Plans end.Stopped cause past known = ⊥
Plans (end.Full number) cause past known = ⊥

-- what an end says of the link: it failed, or it has ended, where the desk answered no fault
abbrev pub IsHeard : SessionEnd → Option NotMade → LinkView → LinkView → Type 0
IsHeard end.End None before after = after.ended ≡ true
IsHeard end.End (Some why) before after = Unit {0}
IsHeard (end.Broken place) cause before after = Unit {0}
IsHeard end.LinkFault cause before after = Rose before.faults after.faults
IsHeard end.Memory cause before after = Unit {0}
IsHeard end.Overrun cause before after = Unit {0}
IsHeard end.Dropped cause before after = Unit {0}
IsHeard end.Stopped cause before after = Unit {0}
IsHeard (end.Full number) cause before after = Unit {0}

-- an end before which what waits is sent: the desk answered a fault, or the stream is at fault
abbrev pub IsFinal : SessionEnd → Option NotMade → Type 0
IsFinal end.End cause = cause ≢ None
IsFinal (end.Broken place) cause = Unit {0}
IsFinal end.LinkFault cause = ⊥
IsFinal end.Memory cause = ⊥
IsFinal end.Overrun cause = ⊥
IsFinal end.Dropped cause = ⊥
IsFinal end.Stopped cause = ⊥
IsFinal (end.Full number) cause = ⊥

-- These records and answers were added to a desk, and a fact of them.
abbrev pub Adds : DeskView → DeskView → (List Record → List Answer → Type 0) → Type 0
Adds old new P = (added : List Record) × (answers : List Answer)
    × (new.mine ≡ old.mine ++ added) × (new.answers ≡ old.answers ++ answers) × P added answers

-- the steps of the served session among these records
abbrev pub steps_in : Seen → ℕ → List Record → List Step
steps_in now session added =
    steps_of session added (given_to session (now.desk.gave_to session))

-- A link was served from its greeting to its end, as the contract of serve_link says.
pub record ServesLink (old : Seen) (result : Served) (new : Seen) : Type 0 where
  pub talk : Adds old.desk new.desk (λ added answers. AllByRecursion (IsOwn result.session) added
      × AreTimed old.gave new.gave added
      × (input output : List ℕ) × HasCarried new.link input output
      × TellsFault old.link.faults new.link.faults
      (first_fault_of result.session answers) input result.end
      × IsTalk old.link.host input output new.link.ended added result.session
      (given_to result.session (new.desk.gave_to result.session)) result.end new.desk.lock_full)
  pub session : Adds old.desk new.desk (λ added answers.
      result.session ≢ 0 → IsTrue (has_connect result.session added))
  pub waits : Adds old.desk new.desk (λ added answers.
      IfSome new.link.reads (NoneWaits (steps_in new result.session added)))
  pub cause : Adds old.desk new.desk (λ added answers. HasCause old.link.faults new.link.faults
      (first_fault_of result.session answers) new.link.ended result.end)
  pub left : Adds old.desk new.desk (λ added answers. result.session ≢ 0 →
      IfSending result.end (IsSentAll (steps_in new result.session added) result.session answers))
  pub others : LeavesOthers result.session old new
