-- What is known of a conversation, and of what is outside it.
use Rattle.std.specs.Prelude.{◌≡◌, ◌≢◌, ℕ, ◌+◌, ◌≤◌, ◌<◌, ◌++◌, List, drop, flat_map}
use Rattle.std.specs.Prelude.{Option, Some, None}
use Rattle.kom_types.specs.declared.items.Item.{Item}
use Rattle.kom_types.specs.Printing.{print_of}
use Rattle.kom_framing.specs.Splitting.{Splitting}
use Rattle.kom_types.specs.declared.answers.Why.TheVariants as why
use Rattle.kom_types.specs.declared.answers.NotMade.{NotMade}
use Rattle.kom_types.specs.declared.answers.NotMade.TheVariants as fault
use Rattle.kom_links.specs.declared.served.SessionEnd.TheVariants as end
use Rattle.kom_links.specs.DeskCalls.{DeskView}
use Rattle.kom_links.specs.Outside.{LinkView, with_bytes}
use Rattle.kom_links.specs.Records.{is_open}
use Rattle.kom_session.specs.declared.machine.Machine.{Machine}
use Rattle.kom_session.specs.declared.phase.Phase.{Phase}
use Rattle.kom_session.specs.declared.phase.Phase.TheVariants as phase
use Rattle.kom_session.specs.declared.phase.Stage.{Stage}
use Rattle.kom_session.specs.declared.phase.Stage.TheVariants as stage

-- What is known of a link that is served: what its splitter holds; the bytes of items that were
-- drained and are yet to be written; its session, 0 for none, with the first fault that the desk
-- answered; how far that is settled; how far the stream is served; and where it is at fault, if it
-- is so far.
pub record Known : Type 0 where
  pub splitting : Splitting
  pub pending : List ℕ
  pub session : ℕ
  pub cause : Option NotMade
  pub phase : Phase
  pub stage : Stage
  pub bad : Option ℕ

-- the items of a machine that are yet to be printed
abbrev pub to_print : Machine → List Item
to_print machine = drop machine.printed machine.items.items

-- the bytes of a machine that are yet to be written
abbrev pub to_write : Machine → List ℕ
to_write machine = drop machine.written machine.writer.bytes

-- what a machine knows
abbrev pub known_by : Machine → Known
known_by machine = record {
  splitting = machine.splitter;
  pending = to_write machine ++ flat_map print_of (to_print machine);
  session = machine.session;
  cause = machine.cause;
  phase = machine.phase;
  stage = machine.stage;
  bad = machine.bad;
}

-- what is seen of a desk, a link and a clock at a moment
pub record Seen : Type 0 where
  pub desk : DeskView
  pub link : LinkView
  pub gave : Option (List ℕ)

abbrev pub sight : DeskView → LinkView → Option (List ℕ) → Seen
sight desk link gave = record { desk = desk; link = link; gave = gave }

-- What is known of a link, and what is seen of its desk, link and clock.
pub record State : Type 0 where
  pub known : Known
  pub seen : Seen

abbrev pub state : Known → Seen → State
state known seen = record { known = known; seen = seen }

-- the first fault that was answered, after this one
abbrev pub note_fault : Option NotMade → NotMade → Option NotMade
note_fault (Some first) fault = Some first
note_fault None fault = Some fault

-- one more line can be called before it must be settled
abbrev pub HasRoom : Phase → Type 0
HasRoom phase.Calm = Unit {0}
HasRoom (phase.Due lines) = lines < 4
HasRoom phase.Owing = ⊥
HasRoom phase.Draining = ⊥
HasRoom phase.Denied = ⊥

-- the phase after one more line was called
abbrev pub with_line : Phase → Phase
with_line phase.Calm = phase.Due 1
with_line (phase.Due lines) = phase.Due (lines + 1)
with_line phase.Owing = phase.Owing
with_line phase.Draining = phase.Draining
with_line phase.Denied = phase.Denied

-- the phase after a flush was made
abbrev pub with_flush : Phase → Phase
with_flush phase.Calm = phase.Draining
with_flush (phase.Due lines) = phase.Draining
with_flush phase.Owing = phase.Draining
with_flush phase.Draining = phase.Draining
with_flush phase.Denied = phase.Denied

-- The phase after a call was refused so: what waits is sent where it ended the session or found the
-- server stopped.
abbrev pub phase_after : NotMade → Phase
phase_after (fault.Gone why.Absent) = phase.Denied
phase_after (fault.Gone why.Dropped) = phase.Owing
phase_after (fault.Gone why.Overrun) = phase.Denied
phase_after (fault.Gone why.Stopped) = phase.Owing
phase_after (fault.Full number) = phase.Denied
phase_after fault.Memory = phase.Denied

-- the stage after the desk answered a session a fault: what waits is sent
abbrev pub after_fault : Stage → Stage
after_fault stage.Serving = stage.Last end.End
after_fault (stage.Last ending) = stage.Last ending
after_fault (stage.Over ending) = stage.Over ending

-- What the steps that settle leave alone: the session and the stream; and a fault stays one.
-- Without a session none is answered any more.
pub record Keeps (old new : Known) : Type 0 where
  pub session : new.session ≡ old.session
  pub splitting : new.splitting ≡ old.splitting
  pub first : new.cause ≡ None → old.cause ≡ None
  pub silent : old.session ≡ 0 → new.cause ≡ old.cause

-- These bytes were put to a link, and nothing else changed of it, but that it may have failed.
pub record Puts (before : LinkView) (bytes : List ℕ) (after : LinkView) : Type 0 where
  pub put : after.put ≡ with_bytes bytes before.put
  pub taken : after.taken ≡ before.taken
  pub ended : after.ended ≡ before.ended
  pub host : after.host ≡ before.host
  pub reads : after.reads ≡ before.reads
  pub faults : before.faults ≤ after.faults

-- What the service of a session leaves alone of a desk and a link: the pass and the host; what is
-- given to others, and which of them are open.
pub record LeavesOthers (session : ℕ) (before after : Seen) : Type 0 where
  pub pass : after.desk.pass ≡ before.desk.pass
  pub host : after.link.host ≡ before.link.host
  pub faults : before.link.faults ≤ after.link.faults
  pub given : (number : ℕ) → (session ≢ 0 → number ≢ session)
      → after.desk.gave_to number ≡ before.desk.gave_to number
  pub opened : (number : ℕ) → number ≢ 0 → number ≢ session →
      is_open number after.desk.mine ≡ is_open number before.desk.mine
