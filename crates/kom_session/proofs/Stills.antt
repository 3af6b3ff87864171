-- What a machine does where nothing happens outside.
use Rattle.std.proofs.Common.{◌≡◌, ◌≢◌, [], Option, Some, None, refl, subst}
use Rattle.kom_types.specs.declared.answers.NotMade.{NotMade}
use Rattle.kom_links.specs.declared.served.SessionEnd.{SessionEnd}
use Rattle.kom_links.specs.declared.served.SessionEnd.TheVariants as end
use Rattle.kom_links.specs.Outside.{LinkView}
use Rattle.kom_session.specs.declared.phase.Phase.{Phase}
use Rattle.kom_session.specs.declared.phase.Phase.TheVariants as phase
use Rattle.kom_session.specs.declared.phase.Stage.TheVariants as stage
use Rattle.kom_session.specs.Known.{Known, state}
use Rattle.kom_session.specs.Serving.{IsFinal, IsHeard}
use Rattle.kom_session.specs.Kept.{IsLast, IsStage, IsAtRest, IsSent, IfStill}
use Rattle.kom_session.proofs.Going.{goes_same, goes_link}
use Rattle.kom_session.proofs.Served.{served_known}

pub still_same : (known : Known) → IfStill known known
still_same known now = goes_same (state known now)

-- memory ran out
pub memory_over : (known : Known) → IfStill known (record known { stage = stage.Over end.Memory })
memory_over known now = goes_link (λ some. refl) (λ start kept. record {
  past = kept.past;
  served = served_known kept.served known.splitting (stage.Over end.Memory) known.bad;
  stage = record { plan = tt; heard = tt; sent = tt };
})

final_heard : (ending : SessionEnd) (cause : Option NotMade) (before after : LinkView)
    → IsFinal ending cause → IsHeard ending cause before after
final_heard end.End None before after some = absurd (some refl)
final_heard end.End (Some why) before after some = tt
final_heard (end.Broken place) cause before after final = tt
final_heard end.Overrun cause before after final = absurd final
final_heard end.Dropped cause before after final = absurd final
final_heard end.Stopped cause before after final = absurd final
final_heard end.LinkFault cause before after final = absurd final
final_heard (end.Full number) cause before after final = absurd final
final_heard end.Memory cause before after final = absurd final

final_sent : (ending : SessionEnd) (cause : Option NotMade) (reached : Phase)
    → IsFinal ending cause → IsAtRest reached → IsSent ending reached
final_sent end.End cause reached final rest = rest
final_sent (end.Broken place) cause reached final rest = rest
final_sent end.Overrun cause reached final rest = absurd final
final_sent end.Dropped cause reached final rest = absurd final
final_sent end.Stopped cause reached final rest = absurd final
final_sent end.LinkFault cause reached final rest = absurd final
final_sent (end.Full number) cause reached final rest = absurd final
final_sent end.Memory cause reached final rest = absurd final

rest_calm : (reached : Phase) (cause : Option NotMade) → IsAtRest reached
    → (reached ≡ phase.Denied → cause ≢ None) → cause ≡ None → reached ≡ phase.Calm
rest_calm phase.Calm cause rest denied none = refl
rest_calm (phase.Due lines) cause rest denied none = absurd rest
rest_calm phase.Owing cause rest denied none = absurd rest
rest_calm phase.Draining cause rest denied none = absurd rest
rest_calm phase.Denied cause rest denied none = absurd (denied refl none)

-- nothing is left to be sent at the last stage
pub last_over : (known : Known) (ending : SessionEnd) → known.stage ≡ stage.Last ending
    → known.pending ≡ [] → IsAtRest known.phase →
    IfStill known (record known { stage = stage.Over ending })
last_over known ending is nothing rest now = goes_link (λ some. refl) (λ start kept.
    let last : IsLast kept.past known ending =
    subst (λ stage. IsStage stage start kept.past known now) is kept.stage in
    record {
      past = kept.past;
      served = served_known kept.served known.splitting (stage.Over ending) known.bad;
      stage = record {
        plan = last.plan (record known { stage = stage.Over ending })
            (record {
              session = refl;
              splitting = refl;
              first = λ none. none;
              silent = λ none. refl;
            }) nothing
            (rest_calm known.phase known.cause rest last.denied);
        heard = final_heard ending known.cause start.link now.link last.final;
        sent = final_sent ending known.cause known.phase last.final rest;
      };
    })
