-- The session of a service that is over is closed.
use Rattle.std.proofs.Common.{◌≡◌, ◌≢◌, ℕ, ◌↔◌, Bool, true, false, List, [], ◌∷◌, ◌++◌, Option, Some, None, Result}
use Rattle.std.proofs.Common.{Ok, Err, refl, sym, ◌∙◌, ap, subst, append-nil}
use Rattle.std.specs.Prelude.{⊤, IfSome, IsTrue}
use Rattle.std.proofs.lemmas.List.{append_cancel_left}
use Rattle.kom_types.specs.declared.acts.Act.TheVariants as act
use Rattle.kom_types.specs.declared.acts.Record.{Record}
use Rattle.kom_types.specs.declared.answers.NotMade.{NotMade}
use Rattle.kom_links.specs.declared.served.SessionEnd.{SessionEnd}
use Rattle.kom_links.specs.declared.served.SessionEnd.TheVariants as end
use Rattle.kom_links.specs.Doors.{Gains}
use Rattle.kom_links.specs.DeskCalls.{DeskView, record_of}
use Rattle.kom_links.specs.DeskCalls.{Closes as ClosesOf}
use Rattle.kom_links.specs.Outside.{Rose, with_bytes, IsNothing}
use Rattle.kom_links.specs.Talk.{AreTimed}
use Rattle.kom_session.specs.declared.phase.Stage.{Stage}
use Rattle.kom_session.specs.declared.phase.Stage.TheVariants as stage
use Rattle.kom_session.specs.Ends.{HasCause, TellsFault, ending_with}
use Rattle.kom_session.specs.Known.{Known, Seen, sight}
use Rattle.kom_session.specs.Serving.{Past, IsServed, ServesLink}
use Rattle.kom_session.specs.Kept.{IsOver, IsStage, IfClosed, AddsClose}
use Rattle.kom_session.proofs.Answered.{with_answer}
use Rattle.kom_session.proofs.Causes.{over_planned, has_cause, tells_fault, heard_lost, heard_ended}
use Rattle.kom_session.proofs.Ends.{Told, silent_told, session_told}
use Rattle.kom_session.proofs.Leaving.{left_link}
use Rattle.kom_session.proofs.Times.{timed_none, timed_more, timed_skip}

-- what is told, where nothing was before
told_so : (bytes : List ℕ) (before after : Option (List ℕ)) → IsNothing before
    → after ≡ with_bytes bytes before → IfSome after (λ told. told ≡ bytes)
told_so bytes None after nothing e =
    subst (λ (told : Option (List ℕ)). IfSome told (λ told. told ≡ bytes)) (sym e) tt
told_so bytes (Some first) after nothing e =
    subst (λ (told : Option (List ℕ)). IfSome told (λ told. told ≡ bytes)) (sym e)
    (ap (λ first. first ++ bytes) nothing)

-- what a link's service comes to, once its session was closed
served_link : {start : Seen} {past : Past} {known : Known} {now : Seen} {planned : SessionEnd}
    → IsOver start past known now planned → (risen : Bool)
    → (IsTrue risen ↔ Rose start.link.faults now.link.faults) →
    (desk : DeskView) (gave : Option (List ℕ)) (cause : Option NotMade)
    → (cause ≡ None → known.cause ≡ None) →
    Told start past.fed known.session cause known.phase (sight desk now.link gave)
    (ending_with risen planned cause) →
    ServesLink start (record { session = known.session; end = ending_with risen planned cause })
    (sight desk now.link gave)
served_link {start} {past} {known} {now} {planned} over risen rises desk gave cause first told =
    let lost : planned ≡ end.LinkFault → risen ≡ true = λ e. rises.1 (heard_lost over e) in
    record {
      talk = (
        told.added,
        told.more,
        told.mine,
        told.answers,
        (
          told.own,
          told.timed,
          past.fed,
          told.bytes,
          (
            told_so past.fed start.link.taken now.link.taken told.untouched.nothing_taken told.taken,
            told_so told.bytes start.link.put now.link.put told.untouched.nothing_put told.put,
          ),
          subst
              (λ (first : Option NotMade). TellsFault start.link.faults now.link.faults first
              past.fed (ending_with risen planned cause)) (sym told.cause_is)
              (tells_fault over risen start.link.faults now.link.faults cause rises.0 lost first),
          told.talk,
        ),
      );
      session = (told.added, told.more, told.mine, told.answers, told.connects);
      waits = (told.added, told.more, told.mine, told.answers, told.waits);
      cause = (
        told.added,
        told.more,
        told.mine,
        told.answers,
        subst
            (λ (first : Option NotMade). HasCause start.link.faults now.link.faults first
            now.link.ended (ending_with risen planned cause)) (sym told.cause_is)
            (has_cause risen planned cause start.link.faults now.link.faults now.link.ended
            (over_planned over) rises.0 (λ e rose. let so = rises.1 rose in cc) lost
            (λ e none. heard_ended over e (first none))),
      );
      left = (
        told.added,
        told.more,
        told.mine,
        told.answers,
        left_link risen planned told (over_planned over) lost over.sent,
      );
      others = told.others;
    }

over_now : {start : Seen} {past : Past} {known : Known} {now : Seen} (planned : SessionEnd)
    → known.stage ≡ stage.Over planned → IsStage known.stage start past known now
    → IsOver start past known now planned
over_now {start} {past} {known} {now} planned over is =
    subst (λ (stage : Stage). IsStage stage start past known now) over is

-- the records that were added are timed, whichever way they are known
times_so : {start : Seen} {past : Past} {known : Known} {now : Seen}
    (s : IsServed start past known now) → (added : List Record)
    → now.desk.mine ≡ start.desk.mine ++ added → AreTimed start.gave now.gave added
    → AreTimed start.gave now.gave s.added
times_so {start} {now = now} s added mine timed =
    subst (λ added. AreTimed start.gave now.gave added)
    (append_cancel_left start.desk.mine added s.added (sym mine ∙ s.mine)) timed

first_kept : (cause : Option NotMade) (answer : Result ⊤ NotMade)
    → with_answer cause answer ≡ None → cause ≡ None
first_kept None answer e = refl
first_kept (Some first) (Ok done) e = absurd (cc e)
first_kept (Some first) (Err reason) e = absurd (cc e)

-- there is no session
pub closed_none : (risen : Bool) (planned : SessionEnd) (known : Known) (desk : DeskView)
    (gave : Option (List ℕ)) → known.stage ≡ stage.Over planned → known.session ≡ 0 →
    IfClosed risen known desk gave
    (record { session = known.session; end = ending_with risen planned known.cause }) desk gave
closed_none risen planned known desk gave over none start link rises (added, mine, timed) kept =
    let is = over_now planned over kept.stage in
    served_link is risen rises desk gave known.cause (λ none. none)
    (silent_told kept.served is none risen (times_so kept.served added mine timed)
    (λ e. rises.1 (heard_lost is e)) (heard_ended is))

-- the session was closed, or no turn of the lock is left
pub closed_some : (risen : Bool) (planned : SessionEnd) (known : Known) (desk desk' : DeskView)
    (gave gave' : Option (List ℕ)) → known.stage ≡ stage.Over planned → known.session ≢ 0 →
    (moment : ℕ) (answer : Result ⊤ NotMade)
    → ClosesOf desk moment known.session answer desk' → Gains gave moment gave' →
    IfClosed risen known desk gave
    (record {
      session = known.session;
      end = ending_with risen planned (with_answer known.cause answer);
    }) desk' gave'
closed_some risen planned known desk desk' gave gave' over some moment answer closes gains start
    link rises (added, mine, timed) kept =
    let is = over_now planned over kept.stage in
    let first = first_kept known.cause answer in
    served_link is risen rises desk' gave' (with_answer known.cause answer) first
    (session_told kept.served is some risen (times_so kept.served added mine timed) moment answer
    desk' gave' closes gains (λ e. rises.1 (heard_lost is e))
    (λ e none. heard_ended is e (first none)))

-- what the close of a session adds
pub adds_close : (desk desk' : DeskView) (gave gave' : Option (List ℕ)) (moment session : ℕ)
    (answer : Result ⊤ NotMade) → session ≢ 0 → ClosesOf desk moment session answer desk'
    → Gains gave moment gave' → AddsClose session desk gave desk' gave'
adds_close desk desk' gave gave' moment session (Ok done) some closes gains = record {
  added = record_of desk.pass moment (act.Close session) session false ∷ [];
  mine = closes.added;
  timed = timed_more gave gave gave' [] moment
      (record_of desk.pass moment (act.Close session) session false) (timed_none gave) gains refl;
  none = λ zero. absurd (some zero);
}
adds_close desk desk' gave gave' moment session (Err reason) some closes gains = record {
  added = [];
  mine = closes.rest.none_added ∙ sym (append-nil desk.mine);
  timed = timed_skip gave gave gave' [] moment (timed_none gave) gains;
  none = λ zero. refl;
}

pub adds_none : (session : ℕ) (desk : DeskView) (gave : Option (List ℕ)) → AddsClose session desk gave desk gave
adds_none session desk gave = record {
  added = [];
  mine = sym (append-nil desk.mine);
  timed = timed_none gave;
  none = λ zero. refl;
}
