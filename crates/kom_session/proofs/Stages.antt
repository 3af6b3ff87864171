-- How far a stream is served, after one step more.
use Rattle.std.proofs.Common.{◌≡◌, ◌≢◌, ℕ, Bool, List, [], Option, Some, None, refl, sym, ◌∙◌, subst}
use Rattle.kom_types.specs.Reading.{Request}
use Rattle.kom_framing.specs.Splitting.{Splitting, IsAt}
use Rattle.kom_types.specs.declared.answers.NotMade.{NotMade}
use Rattle.kom_links.specs.declared.served.SessionEnd.{SessionEnd}
use Rattle.kom_links.specs.declared.served.SessionEnd.TheVariants as end
use Rattle.kom_session.specs.declared.phase.Phase.{Phase}
use Rattle.kom_session.specs.declared.phase.Phase.TheVariants as phase
use Rattle.kom_session.specs.declared.phase.Stage.{Stage}
use Rattle.kom_session.specs.declared.phase.Stage.TheVariants as stage
use Rattle.kom_session.specs.Known.{Known, Seen, Keeps, note_fault, after_fault}
use Rattle.kom_session.specs.Serving.{Party, Somebody, Past, Plans, IsRefused, IsFinal, IsServed}
use Rattle.kom_session.specs.Kept.{IsEarly, IsAtStream, IsLast, IsStage, IsOn}
use Rattle.kom_session.proofs.Served.{somebody}

pub at_stream : (start : Seen) (past : Past) (known : Known) (now : Seen)
    → known.stage ≡ stage.Serving → IsStage known.stage start past known now
    → IsAtStream past known
at_stream start past known now serving is =
    subst (λ (stage : Stage). IsStage stage start past known now) serving is

-- ---- what is kept

pub keeps_trans : {a b c : Known} → Keeps a b → Keeps b c → Keeps a c
keeps_trans p q = record {
  session = q.session ∙ p.session;
  splitting = q.splitting ∙ p.splitting;
  first = λ none. p.first (q.first none);
  silent = λ none. q.silent (p.session ∙ none) ∙ p.silent none;
}

-- a fault that was noted is one
pub noted_some : (cause : Option NotMade) (fault : NotMade) → note_fault cause fault ≢ None
noted_some None fault = λ e. cc e
noted_some (Some first) fault = λ e. cc e

pub keeps_noted : (known : Known) → known.session ≢ 0
    → (fault : NotMade) (reached : Phase) (stage : Stage) →
    Keeps known (record known { cause = note_fault known.cause fault; phase = reached; stage = stage })
keeps_noted known some fault reached stage =
    record {
      session = refl;
      splitting = refl;
      first = λ none. absurd (noted_some known.cause fault none);
      silent = λ none. absurd (some none);
    }

final_later : (ending : SessionEnd) (cause cause' : Option NotMade)
    → (cause' ≡ None → cause ≡ None) → IsFinal ending cause → IsFinal ending cause'
final_later end.End cause cause' first some = λ none. some (first none)
final_later (end.Broken place) cause cause' first final = tt
final_later end.Overrun cause cause' first final = absurd final
final_later end.Dropped cause cause' first final = absurd final
final_later end.Stopped cause cause' first final = absurd final
final_later end.LinkFault cause cause' first final = absurd final
final_later (end.Full number) cause cause' first final = absurd final
final_later end.Memory cause cause' first final = absurd final

-- ---- what waits is sent

pub last_later : {past : Past} {known : Known} {ending : SessionEnd} → IsLast past known ending
    → (known' : Known) → Keeps known known'
    → (known'.phase ≡ phase.Denied → known'.cause ≢ None) → IsLast past known' ending
last_later {past} {known} {ending} last known' keeps denied = record {
  final = final_later ending known.cause known'.cause keeps.first last.final;
  plan = λ later keeps'. last.plan later (keeps_trans keeps keeps');
  denied = denied;
}

-- a session that the desk answered a fault
plan_some : (cause : Option NotMade) (past : Past) (known : Known) (user : List ℕ)
    (requests : List Request) (broken : Bool) → past.party ≡ Somebody user requests broken
    → cause ≢ None → known.pending ≡ [] → Plans end.End cause past known
plan_some None past known user requests broken party some nothing = absurd (some refl)
plan_some (Some why) past known user requests broken party some nothing =
    (nothing, subst (λ (party : Party). IsRefused why past.fed party) (sym party) tt)

-- The desk answered a session that is not over a fault.
pub fault_stage : {start : Seen} {past : Past} {known : Known} {now : Seen}
    → IsServed start past known now → known.session ≢ 0 → IsOn known.stage
    → IsStage known.stage start past known now → (fault : NotMade) (reached : Phase) (now' : Seen)
    → IsStage (after_fault known.stage) start past
    (record known {
      cause = note_fault known.cause fault;
      phase = reached;
      stage = after_fault known.stage;
    }) now'
fault_stage {start} {past} {known} {now} s some on is fault reached now' = go known.stage on is
  where
    after : Stage → Known
    after stage = record known {
      cause = note_fault known.cause fault;
      phase = reached;
      stage = stage;
    }

    go : (stage : Stage) → IsOn stage → IsStage stage start past known now
        → IsStage (after_fault stage) start past (after (after_fault stage)) now'
    go stage.Serving on is =
        let party = somebody s some in
        record {
          final = noted_some known.cause fault;
          plan = λ later keeps nothing calm. plan_some later.cause past later party.0 party.1
              party.2 party.3 (λ none. noted_some known.cause fault (keeps.first none)) nothing;
          denied = λ e. noted_some known.cause fault;
        }
    go (stage.Last ending) on is =
        last_later is (after (stage.Last ending))
        (keeps_noted known some fault reached (stage.Last ending)) (λ e. noted_some known.cause fault)
    go (stage.Over ending) on is = absurd on

-- What the stage looks at is as it was, but that a phase may be new.
pub on_later : (start : Seen) (past : Past) (known : Known) (now : Seen) (known' : Known)
    (now' : Seen) → known'.session ≡ known.session → known'.splitting ≡ known.splitting
    → known'.cause ≡ known.cause → known'.bad ≡ known.bad
    → (IsEarly known.phase → IsEarly known'.phase)
    → (known'.phase ≡ phase.Denied → known.phase ≡ phase.Denied) →
    (stage : Stage) → IsOn stage → IsStage stage start past known now
    → IsStage stage start past known' now'
on_later start past known now known' now' session splitting cause bad early denied stage.Serving on
    at = record {
      units = at.units;
      at =
          subst (λ (splitting : Splitting). IsAt splitting past.fed at.units) (sym splitting) at.at;
      called = at.called;
      sound = cause ∙ at.sound;
      bad = at.bad ∙ sym bad;
      early = early at.early;
    }
on_later start past known now known' now' session splitting cause bad early denied
    (stage.Last ending) on last =
    last_later last known'
    (record {
      session = session;
      splitting = splitting;
      first = λ none. sym cause ∙ none;
      silent = λ none. cause;
    })
    (λ e none. last.denied (denied e) (sym cause ∙ none))
on_later start past known now known' now' session splitting cause bad early denied
    (stage.Over ending) on over = absurd on
