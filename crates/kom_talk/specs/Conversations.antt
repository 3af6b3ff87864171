-- How far a conversation has come, and what is left of one that is over.
use Rattle.std.specs.Prelude.{◌≡◌, ◌≢◌, ℕ, IsTrue, List, [], Option, None, IfSome}
use Rattle.std.specs.List.{AllByRecursion}
use Rattle.kom_links.specs.declared.served.Served.{Served}
use Rattle.kom_links.specs.Answers.{first_fault_of}
use Rattle.kom_links.specs.DeskCalls.{DeskView}
use Rattle.kom_links.specs.Outside.{LinkView, IsFresh}
use Rattle.kom_links.specs.Records.{has_connect}
use Rattle.kom_links.specs.Talk.{Step, steps_of, IsTalk}
use Rattle.kom_hub.specs.Passing.{IsBlank}
use Rattle.kom_session.specs.Ends.{HasCause, TellsFault, IsOwn, HasCarried, given_to}
use Rattle.kom_session.specs.Kept.{IsKept}
use Rattle.kom_session.specs.Known.{Seen, State, state, sight, known_by}
use Rattle.kom_session.specs.Left.{IfSending, IsSentAll}
use Rattle.kom_session.specs.Waits.{NoneWaits}
use Rattle.kom_talk.specs.declared.conversation.Conversation.{Conversation}

-- the state of a conversation, with what is seen
abbrev pub at : Conversation → DeskView → LinkView → Option (List ℕ) → State
at talk desk link gave = state (known_by talk.machine) (sight desk link gave)

-- A conversation is kept up since a start at which its desk showed nothing and nothing was done on
-- its link. No reading of a clock is asked for: each turn tells those of its own records.
pub record IsKeptUp (talk : Conversation) (desk : DeskView) (link : LinkView) : Type 0 where
  pub start : Seen
  pub blank : IsBlank start.desk
  pub fresh : IsFresh start.link
  pub kept : IsKept start (known_by talk.machine) (sight desk link None)

-- the steps of a session by all that a desk shows
abbrev pub steps_at : ℕ → DeskView → List Step
steps_at session desk = steps_of session desk.mine (given_to session (desk.gave_to session))

-- A link was served from its greeting to its end by all that a desk shows: the records of its
-- session and flushes. It is in talk with them. The session is one that they connected. Nothing
-- waited unanswered while the link was read. The cause of the end is the first fault that the desk
-- answered and that concerns the session, and a stream at fault is told so. Where a call ended the
-- session or the server was stopped, what waited for it was sent. Nothing was given to others.
pub record IsServedLink (desk : DeskView) (link : LinkView) (served : Served) : Type 0 where
  pub input : List ℕ
  pub output : List ℕ
  pub tells : HasCarried link input output
  pub talk : IsTalk link.host input output link.ended desk.mine served.session
      (given_to served.session (desk.gave_to served.session)) served.end desk.lock_full
  pub own : AllByRecursion (IsOwn served.session) desk.mine
  pub session : served.session ≢ 0 → IsTrue (has_connect served.session desk.mine)
  pub waits : IfSome link.reads (NoneWaits (steps_at served.session desk))
  pub cause : HasCause 0 link.faults
      (first_fault_of served.session desk.answers) link.ended served.end
  pub told : TellsFault 0 link.faults (first_fault_of served.session desk.answers) input served.end
  pub left : served.session ≢ 0 → IfSending served.end
      (IsSentAll (steps_at served.session desk) served.session desk.answers)
  pub others : (number : ℕ) → (served.session ≢ 0 → number ≢ served.session)
      → desk.gave_to number ≡ []
