-- What a flush, and the question whether the desk is stopped, are to a machine.
use Rattle.std.proofs.Common.{◌≡◌, ◌≢◌, ℕ, Bool, true, false, inl, inr, List, [], ◌++◌, Option, Some, None}
use Rattle.std.proofs.Common.{Result, Ok, Err, refl, sym, ◌∙◌, ap, subst, is_some}
use Rattle.std.specs.Prelude.{⊤, IfErr}
use Rattle.kom_types.specs.declared.acts.Act.TheVariants as act
use Rattle.kom_types.specs.declared.answers.Why.TheVariants as why
use Rattle.kom_types.specs.declared.items.Item.{Item}
use Rattle.kom_framing.specs.declared.units.Unit.{Unit as StreamUnit}
use Rattle.kom_links.specs.declared.deeds.Deed.TheVariants as deed
use Rattle.kom_types.specs.declared.answers.NotMade.{NotMade}
use Rattle.kom_types.specs.declared.answers.NotMade.TheVariants as fault
use Rattle.kom_links.specs.declared.served.SessionEnd.TheVariants as end
use Rattle.kom_links.specs.Answers.{said_stopped}
use Rattle.kom_links.specs.DeskCalls.{record_of, AddsNoneOrShort, IsLockFault}
use Rattle.kom_links.specs.DeskCalls.{IsConnectFault}
use Rattle.kom_links.specs.Outside.{LinkView}
use Rattle.kom_links.specs.DeskCalls.{Flushes as FlushesOf}
use Rattle.kom_session.specs.declared.phase.Phase.{Phase}
use Rattle.kom_session.specs.declared.phase.Phase.TheVariants as phase
use Rattle.kom_session.specs.declared.phase.Stage.TheVariants as stage
use Rattle.kom_session.specs.Known.{Known, Seen, state, sight, note_fault, with_flush, after_fault}
use Rattle.kom_session.specs.Serving.{Party, Nobody, Somebody, Past, owed_to, IsParty, IsServed, AreCalled, IsRefused}
use Rattle.kom_session.specs.Serving.{Plans, IsHeard}
use Rattle.kom_session.specs.Kept.{IsEarly, IsAtRest, IsKept, Goes, IsOn, MayFlush, IfFlushed, IfAsked}
use Rattle.kom_session.proofs.Answered.{with_answer}
use Rattle.kom_session.proofs.Going.{goes_record, goes_refused, goes_answer}
use Rattle.kom_session.proofs.Served.{second_nil, served_calm, served_known, served_asked, asked_fault, flush_made}
use Rattle.kom_session.proofs.Served.{flush_refused}
use Rattle.kom_session.proofs.Stages.{at_stream, noted_some, on_later, fault_stage}

-- ---- a flush

-- where a flush may be told, there is a session
flushes_some : {start : Seen} {past : Past} {known : Known} {now : Seen}
    → IsServed start past known now → MayFlush known → known.session ≢ 0
flushes_some s (inl some) = some
flushes_some s (inr busy) = λ none. busy (served_calm s none)

flush_early : (reached : Phase) → IsEarly reached → IsEarly (with_flush reached)
flush_early phase.Calm early = tt
flush_early (phase.Due lines) early = tt
flush_early phase.Owing early = absurd early
flush_early phase.Draining early = tt
flush_early phase.Denied early = absurd early

flush_denied : (reached : Phase) → with_flush reached ≡ phase.Denied → reached ≡ phase.Denied
flush_denied phase.Calm e = absurd (cc e)
flush_denied (phase.Due lines) e = absurd (cc e)
flush_denied phase.Owing e = absurd (cc e)
flush_denied phase.Draining e = absurd (cc e)
flush_denied phase.Denied e = refl

pub flushed_ok : (known : Known) → IsOn known.stage → MayFlush known
    → IfFlushed known (Ok tt) (record known { phase = with_flush known.phase })
flushed_ok known on may now moment desk gave flushes gains =
    goes_record deed.Flush (Ok tt) (record_of now.desk.pass moment act.Flush 0 false) gains
    (λ some. refl) flushes.added flushes.tells
    (λ start kept. record {
      past = kept.past;
      served =
          flush_made kept.served (flushes_some kept.served may) moment tt desk gave flushes;
      stage = on_later start kept.past known now (record known { phase = with_flush known.phase })
          (sight desk now.link gave) refl refl refl refl (flush_early known.phase)
          (flush_denied known.phase) known.stage on kept.stage;
    })

pub flushed_err : (known : Known) → IsOn known.stage → MayFlush known → (reason : NotMade)
    → IfFlushed known (Err reason)
    (record known {
      cause = note_fault known.cause reason;
      phase = phase.Denied;
      stage = after_fault known.stage;
    })
flushed_err known on may reason now moment desk gave flushes gains =
    go reason flushes flushes.none_added
  where
    after : NotMade → Known
    after reason = record known {
      cause = note_fault known.cause reason;
      phase = phase.Denied;
      stage = after_fault known.stage;
    }

    kept : (reason : NotMade) → FlushesOf {X = ⊤} now.desk moment (Err reason) desk →
        (start : Seen) → IsKept start known now → IsKept start (after reason) (sight desk now.link gave)
    kept reason flushes start k =
        let some : known.session ≢ 0 = flushes_some k.served may in
        record {
          past = k.past;
          served =
              served_known (flush_refused k.served some moment reason desk gave flushes)
              known.splitting (after_fault known.stage) known.bad;
          stage = fault_stage k.served some on k.stage reason phase.Denied
              (sight desk now.link gave);
        }

    still : (reason : NotMade) → FlushesOf {X = ⊤} now.desk moment (Err reason) desk
        → desk.mine ≡ now.desk.mine →
        Goes (state known now) (state (after reason) (sight desk now.link gave))
    still reason flushes same =
        goes_refused deed.Flush (Err reason) moment gains (λ some. refl) same flushes.tells
        (kept reason flushes)

    go : (reason : NotMade) → FlushesOf {X = ⊤} now.desk moment (Err reason) desk
        → AddsNoneOrShort now.desk moment reason desk →
        Goes (state known now) (state (after reason) (sight desk now.link gave))
    go (fault.Gone why.Stopped) flushes (inl same) = still (fault.Gone why.Stopped) flushes same
    go (fault.Gone why.Stopped) flushes (inr short) =
        goes_record deed.Flush (Err (fault.Gone why.Stopped))
        (record_of now.desk.pass moment act.Flush 0 true) gains (λ some. refl) short flushes.tells
        (kept (fault.Gone why.Stopped) flushes)
    go (fault.Gone why.Absent) flushes same = still (fault.Gone why.Absent) flushes same
    go (fault.Gone why.Dropped) flushes same = still (fault.Gone why.Dropped) flushes same
    go (fault.Gone why.Overrun) flushes same = still (fault.Gone why.Overrun) flushes same
    go (fault.Full number) flushes same = still (fault.Full number) flushes same
    go fault.Memory flushes same = still fault.Memory flushes same

-- ---- the question whether the desk is stopped

noted_again : (cause : Option NotMade) (reason : NotMade) → is_some cause ≡ true
    → note_fault cause reason ≡ cause
noted_again None reason some = absurd (cc some)
noted_again (Some first) reason some = refl

-- it was answered with no fault, or with one that is not noted
pub asked_same : (known : Known) → IsOn known.stage → (answer : Result Bool NotMade)
    → with_answer known.cause (said_stopped answer) ≡ known.cause → IfAsked known answer known
asked_same known on answer same now desk asks =
    goes_answer deed.Ask (said_stopped answer) (λ some. refl) asks.mine asks.answers
    (λ start kept. record {
      past = kept.past;
      served = served_asked kept.served answer desk asks same;
      stage = on_later start kept.past known now known (sight desk now.link now.gave) refl refl refl
          refl (λ early. early) (λ e. e) known.stage on kept.stage;
    })

-- with a fault after the first
pub asked_again : (known : Known) → IsOn known.stage → is_some known.cause ≡ true
    → (answer : Result Bool NotMade) (reason : NotMade) → said_stopped answer ≡ Err reason →
    IfAsked known answer known
asked_again known on some answer reason said =
    asked_same known on answer
    (ap (with_answer known.cause) said ∙ noted_again known.cause reason some)

-- with the first fault of a session
pub asked_some : (known : Known) → IsOn known.stage → known.session ≢ 0
    → (answer : Result Bool NotMade) (reason : NotMade) → said_stopped answer ≡ Err reason →
    IfAsked known answer
    (record known {
      cause = note_fault known.cause reason;
      phase = phase.Owing;
      stage = after_fault known.stage;
    })
asked_some known on some answer reason said now desk asks =
    goes_answer deed.Ask (said_stopped answer) (λ some. refl) asks.mine asks.answers
    (λ start kept. record {
      past = kept.past;
      served =
          served_known
          (asked_fault kept.served answer reason desk asks said phase.Owing (inl (some, refl)))
          known.splitting (after_fault known.stage) known.bad;
      stage = fault_stage kept.served some on kept.stage reason phase.Owing
          (sight desk now.link now.gave);
    })

-- why a question is answered with a fault, a connect may be refused
connect_lock : (reason : NotMade) → IsLockFault reason → IsConnectFault reason
connect_lock (fault.Gone why) is = absurd is
connect_lock (fault.Full number) is = inr is
connect_lock fault.Memory is = absurd is

asked_connect : (answer : Result Bool NotMade) (reason : NotMade)
    → said_stopped answer ≡ Err reason → IfErr answer IsLockFault → IsConnectFault reason
asked_connect (Ok false) reason e is = absurd (cc e)
asked_connect (Ok true) reason e is =
    let same : fault.Gone why.Stopped ≡ reason = cc e in subst IsConnectFault same tt
asked_connect (Err first) reason e is =
    let same : first ≡ reason = cc e in subst IsConnectFault same (connect_lock first is)

heard_some : (cause : Option NotMade) (before after : LinkView) → cause ≢ None
    → IsHeard end.End cause before after
heard_some None before after some = absurd (some refl)
heard_some (Some reason) before after some = tt

-- with a fault where there is no session
pub asked_none : (known : Known) → known.stage ≡ stage.Serving → known.session ≡ 0
    → (answer : Result Bool NotMade) (reason : NotMade) → said_stopped answer ≡ Err reason →
    IfAsked known answer
    (record known { cause = note_fault known.cause reason; stage = stage.Over end.End })
asked_none known serving none answer reason said now desk asks =
    goes_answer deed.Ask (said_stopped answer) (λ some. refl) asks.mine asks.answers
    (λ start kept.
    let at = at_stream start kept.past known now serving kept.stage in
    record {
      past = kept.past;
      served =
          served_known
          (asked_fault kept.served answer reason desk asks said known.phase (inr (none, refl)))
          known.splitting (stage.Over end.End) known.bad;
      stage = record {
        plan =
            subst (λ (cause : Option NotMade). Plans end.End (note_fault cause reason) kept.past
            (record known { cause = note_fault known.cause reason; stage = stage.Over end.End }))
            (sym at.sound)
            (plan kept.past.fed kept.past.party (now.desk.gave_to known.session) kept.served.bytes
            kept.served.owed (nobody start kept.past known now kept.served none at.units at.called)
            (asked_connect answer reason said asks.why));
        heard = heard_some (note_fault known.cause reason) start.link now.link
            (noted_some known.cause reason);
        sent = subst IsAtRest (sym (served_calm kept.served none)) tt;
      };
    })
  where
    nobody : (start : Seen) (past : Past) (known : Known) (now : Seen)
        → IsServed start past known now → known.session ≡ 0 → (units : List StreamUnit)
        → AreCalled past.party units → past.party ≡ Nobody []
    nobody start past known now s none units called = go past.party s.party called
      where
        go : (party : Party) → IsParty past.fed party start known now s.added
            → AreCalled party units → party ≡ Nobody []
        go (Nobody told) is called = ap Nobody called.0
        go (Somebody user requests broken) is called = absurd (is.some none)

    plan : (fed : List ℕ) (party : Party) (given : List (List Item)) (bytes : List ℕ)
        → bytes ++ known.pending ≡ owed_to party given → party ≡ Nobody []
        → IsConnectFault reason → (known.pending ≡ []) × IsRefused reason fed party
    plan fed party given bytes owed same is = (
      second_nil bytes known.pending (owed ∙ ap (λ party. owed_to party given) same),
      subst (λ (party : Party). IsRefused reason fed party) (sym same) (refl, inr is),
    )
