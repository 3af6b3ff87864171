-- What a read of the link is to a machine.
use Rattle.std.proofs.Common.{◌≡◌, ◌≢◌, ℕ, ◌⊎◌, ◌||◌, ◌≤◌, Bool, true, false, inl, inr, List, [], ◌∷◌, ◌++◌, length}
use Rattle.std.proofs.Common.{take}
use Rattle.std.proofs.Common.{Option, Some, None, option_map, refl, sym, ◌∙◌, ap, subst, subst₂, append-nil, arith}
use Rattle.std.specs.Prelude.{IfSome}
use Rattle.kom_types.specs.Stream.{Fault, stream_of}
use Rattle.kom_types.specs.Reading.{place_of}
use Rattle.kom_framing.specs.declared.units.Unit.{Unit as StreamUnit}
use Rattle.kom_framing.specs.Splitting.{Splitting, IsAt, units_of}
use Rattle.kom_types.specs.declared.answers.NotMade.{NotMade}
use Rattle.kom_links.specs.declared.link.Got.{Got}
use Rattle.kom_links.specs.declared.link.Got.TheVariants as got
use Rattle.kom_links.specs.declared.served.SessionEnd.{SessionEnd}
use Rattle.kom_links.specs.declared.served.SessionEnd.TheVariants as end
use Rattle.kom_links.specs.Outside.{Look, LinkView, Reads, Rose, IsNothing, with_bytes, read_bytes, is_not_yet}
use Rattle.kom_links.specs.Talk.{Step, steps_of, requests_in, print_of_drains}
use Rattle.kom_session.specs.declared.phase.Phase.{Phase}
use Rattle.kom_session.specs.declared.phase.Phase.TheVariants as phase
use Rattle.kom_session.specs.declared.phase.Stage.{Stage}
use Rattle.kom_session.specs.declared.phase.Stage.TheVariants as stage
use Rattle.kom_session.specs.Course.{IsSettled}
use Rattle.kom_session.specs.Known.{Known, Seen}
use Rattle.kom_session.specs.Left.{IsSending}
use Rattle.kom_session.specs.Serving.{Party, Nobody, Somebody, Past, owed_to, AreFirst, IsParty, IsPhase, IsServed}
use Rattle.kom_session.specs.Serving.{AreCalled, IsWhole, Plans, IsHeard}
use Rattle.kom_session.specs.Waits.{given_in, IsAnsweredBy, IsAnswered, IsChecked, AreAnswered}
use Rattle.kom_session.specs.Kept.{IsAtStream, IsStage, IsOver, IsAtRest, MayRead, IfRead}
use Rattle.kom_session.proofs.Going.{goes_link}
use Rattle.kom_session.proofs.Others.{others_trans}
use Rattle.kom_session.proofs.Served.{grown-append, served_known}
use Rattle.kom_session.proofs.Stages.{at_stream}
use Rattle.kom_session.proofs.Courses.{recent_settled}
use Rattle.kom_session.proofs.Steps.{given_of, steps_connected}
use Rattle.kom_session.proofs.Units.{begins, begins_more, first_calls, no_greeting, all_sound}
use Rattle.kom_session.proofs.Streams.{fault_none_greeting}

-- ---- a read

answered_push : (waited : Bool) (before : List Step) (looks : List Look) (last : Bool)
    (place more : List Step) (look : Look) → AreAnswered waited before looks last place
    → IsAnswered look (place ++ more) → IsChecked last place more →
    AreAnswered waited before (looks ++ look ∷ []) look.waited (place ++ more)
answered_push waited before [] last place more look (p, q) answered checked = (
  more,
  subst (λ place. IsAnswered look (place ++ more)) q answered,
  subst₂ (λ (last : Bool) (place : List Step). IsChecked last place more) p q checked,
  (refl, ap (λ place. place ++ more) q),
)
answered_push waited before (first ∷ looks) last place more look (steps, is, fresh, rest) answered
    checked = (
      steps,
      is,
      fresh,
      answered_push first.waited (before ++ steps) looks last place more look rest
          answered checked,
    )

-- what is told, where nothing was before
pub told_is : (bytes told : List ℕ) (before after : Option (List ℕ)) → IsNothing before
    → after ≡ with_bytes bytes before → after ≡ Some told → told ≡ bytes
told_is bytes told None after nothing e some = absurd (cc (e, some))
told_is bytes told (Some first) after nothing e some =
    let same : first ++ bytes ≡ told =
    cc (e, some) in sym same ∙ ap (λ first. first ++ bytes) nothing

pub no_fault : (fault : Option Fault) → option_map place_of fault ≡ None → fault ≡ None
no_fault None e = refl
no_fault (Some fault) e = absurd (cc (e))

-- ---- all that came was called, settled and put

first_not_nil : (step : Step) (rest steps : List Step) → steps ≡ step ∷ rest → steps ≡ [] → ⊥
first_not_nil step rest steps e none = cc (e, none)

answered_by : (look : Look) (steps : List Step) (greeting : Option (List ℕ))
    → (stream_of look.taken).greeting ≡ greeting → IsAnsweredBy greeting look steps
    → IsAnswered look steps
answered_by look steps greeting e is =
    subst (λ (greeting : Option (List ℕ)). IsAnsweredBy greeting look steps) (sym e) is

module _ {start : Seen} {past : Past} {known : Known} {now : Seen}
    (s : IsServed start past known now) (at : IsAtStream past known) (may : MayRead known) where
  calm : IsPhase phase.Calm s.waited s.place s.recent
  calm = subst (λ reached. IsPhase reached s.waited s.place s.recent) may.calm s.phase

  all : units_of (stream_of past.fed) ≡ at.units
  all =
      at.at.units ∙ ap (λ rest. at.units ++ rest) may.none_left ∙ append-nil at.units

  sound : (stream_of past.fed).fault ≡ None
  sound = no_fault (stream_of past.fed).fault (at.bad ∙ may.not_bad)

  pub whole : IsWhole past.fed past.party phase.Calm
  whole = go past.party s.party at.called
    where
      go : (party : Party) → IsParty past.fed party start known now s.added
          → AreCalled party at.units → IsWhole past.fed party phase.Calm
      go (Nobody told) is called =
          let none : (stream_of past.fed).greeting ≡ None = no_greeting past.fed (all ∙ called.1) in
          (none, fault_none_greeting past.fed none sound, called.0)
      go (Somebody user requests broken) is (lines, taken, read, unbroken) =
          let facts =
          all_sound past.fed user at.units lines requests (all ∙ sym (append-nil at.units)) taken
          read sound in (facts.0, facts.1, refl)

  -- as the link is read again, all is answered
  answered : (waited : Bool) (taken put : List ℕ) → now.link.taken ≡ Some taken
      → now.link.put ≡ Some put →
      IsAnswered (record { taken = taken; put = put; waited = waited }) (s.place ++ s.recent)
  answered waited taken put took puts =
      subst₂ (λ (taken put : List ℕ). IsAnswered
      (record { taken = taken; put = put; waited = waited }) (s.place ++ s.recent))
      (sym (told_is past.fed taken start.link.taken now.link.taken s.untouched.nothing_taken
      s.taken took))
      (sym (told_is s.bytes put start.link.put now.link.put s.untouched.nothing_put s.put puts))
      (go past.party s.party at.called whole
      (sym (append-nil s.bytes) ∙ ap (λ rest. s.bytes ++ rest) (sym may.all_put) ∙ s.owed))
    where
      go : (party : Party) → IsParty past.fed party start known now s.added
          → AreCalled party at.units → IsWhole past.fed party phase.Calm
          → s.bytes ≡ owed_to party (now.desk.gave_to known.session) →
          IsAnswered (record { taken = past.fed; put = s.bytes; waited = waited })
          (s.place ++ s.recent)
      go (Nobody told) is called all owed =
          answered_by (record { taken = past.fed; put = s.bytes; waited = waited })
          (s.place ++ s.recent) None all.0 (
            sym s.steps
                ∙ ap (λ added. steps_of known.session added (now.desk.gave_to known.session))
                is.nothing,
            owed ∙ called.0,
          )
      go (Somebody user requests broken) is called all owed =
          let course = is.course in
          let given : given_in (s.place ++ s.recent) ≡ now.desk.gave_to known.session =
          ap given_in (sym s.steps)
          ∙ given_of known.session s.added (now.desk.gave_to known.session) course.drains in
          let begun = course.connected in
          let some : (s.place ++ s.recent ≡ []) → ⊥ =
          first_not_nil _ _ _
          (sym s.steps
          ∙ ap (λ added. steps_of known.session added (now.desk.gave_to known.session)) begun.2
          ∙ steps_connected known.session user start.link.host begun.0 begun.1
          (now.desk.gave_to known.session) begun.3 begun.4) in
          answered_by (record { taken = past.fed; put = s.bytes; waited = waited })
          (s.place ++ s.recent) (Some user) is.first.greeting (
            ap (λ steps. length (requests_in steps)) (sym s.steps)
                ∙ ap length course.asked
                ∙ all.1,
            elim calm.0 [ inl none ↦ absurd (some none) | inr settled ↦ settled ],
            owed ∙ ap print_of_drains (sym given),
          )

  -- the link was read
  pub read_served : (buffer : List ℕ) (answer : Got) (link : LinkView)
      → Reads now.link buffer answer link → (fed : List ℕ)
      → fed ≡ past.fed ++ read_bytes answer buffer → (reached : Phase)
      → (known.session ≡ 0 → reached ≡ phase.Calm)
      → IsPhase reached (is_not_yet answer) (s.place ++ s.recent) [] →
      IsServed start (record { fed = fed; party = past.party })
      (record known { phase = reached }) (record now { link = link })
  read_served buffer answer link reads fed grows reached calm' is_phase =
      let piece : List ℕ = read_bytes answer buffer in
      record {
        added = s.added;
        more = s.more;
        bytes = s.bytes;
        waited = is_not_yet answer;
        place = s.place ++ s.recent;
        recent = [];
        mine = s.mine;
        answers = s.answers;
        own = s.own;
        taken =
            reads.taken ∙ ap (with_bytes piece) s.taken ∙ grown-append past.fed piece start.link.taken
            ∙ ap (λ fed. with_bytes fed start.link.taken) (sym grows);
        put = reads.put ∙ s.put;
        owed = s.owed;
        party = party past.party s.party at.called;
        steps = s.steps ∙ sym (append-nil (s.place ++ s.recent));
        looked = looked link.reads reads.looked;
        phase = is_phase;
        cause = s.cause;
        unrefused = s.unrefused;
        since = λ some sending. absurd
            (subst (λ (cause : Option NotMade). IsSending cause) at.sound sending);
        others = others_trans s.others (record {
          pass = refl;
          host = reads.host;
          faults = reads.faults;
          given = λ number other. refl;
          opened = λ number some other. refl;
        });
        untouched = s.untouched;
      }
    where
      party : (party : Party) → IsParty past.fed party start known now s.added
          → AreCalled party at.units →
          IsParty fed party start (record known { phase = reached })
          (record now { link = link }) s.added
      party (Nobody told) is called = record {
        none = is.none;
        calm = calm' is.none;
        nothing = is.nothing;
        may_tell = inl called.0;
      }
      party (Somebody user requests broken) is (lines, taken, read, unbroken) =
          let more =
          begins_more past.fed user lines known.splitting.held (read_bytes answer buffer)
          (begins past.fed user at.units known.splitting.held lines at.at.units taken) in
          record {
            some = is.some;
            course = is.course;
            is_open = is.is_open;
            first =
                subst (λ fed. AreFirst fed user requests) (sym grows)
                (first_calls (past.fed ++ read_bytes answer buffer) user more.0 lines requests
                more.1 read);
            at_fault = λ e. absurd (cc (e, unbroken));
          }

      looked : (told : Option (List Look))
          → IfSome told
          (λ after. (before : List Look) × (taken put : List ℕ) × (now.link.reads ≡ Some before)
          × (now.link.taken ≡ Some taken) × (now.link.put ≡ Some put)
          × (after ≡ before
          ++ record { taken = taken; put = put; waited = is_not_yet answer } ∷ [])) →
          IfSome told (λ looks. AreAnswered false [] looks (is_not_yet answer)
          (s.place ++ s.recent))
      looked None facts = tt
      looked (Some after) (before, taken, put, told, took, puts, e) =
          let earlier : AreAnswered false [] before s.waited s.place =
          subst (λ (reads : Option (List Look)). IfSome reads
          (λ looks. AreAnswered false [] looks s.waited s.place)) told s.looked in
          subst (λ looks. AreAnswered false [] looks (is_not_yet answer)
          (s.place ++ s.recent)) (sym e)
          (answered_push false [] before s.waited s.place s.recent
          (record { taken = taken; put = put; waited = is_not_yet answer }) earlier
          (answered (is_not_yet answer) taken put took puts) calm.1)

  -- nothing was done since
  pub still_calm : (s.place ++ s.recent ++ [] ≡ []) ⊎ IsSettled (s.place ++ s.recent ++ [])
  still_calm = elim calm.0 [
    | inl none ↦ inl (append-nil (s.place ++ s.recent) ∙ none)
    | inr settled ↦
        inr (subst (λ steps. IsSettled steps) (sym (append-nil (s.place ++ s.recent))) settled)
  ]

  -- without a session there are no steps
  silent_steps : known.session ≡ 0 → s.place ++ s.recent ≡ []
  silent_steps none = go past.party s.party
    where
      go : (party : Party) → IsParty past.fed party start known now s.added
          → s.place ++ s.recent ≡ []
      go (Nobody told) is =
          sym s.steps ∙ ap
          (λ added. steps_of known.session added (now.desk.gave_to known.session)) is.nothing
      go (Somebody user requests broken) is = absurd (is.some none)

  -- the link was read, and no phase is new
  pub read_calm : (buffer : List ℕ) (answer : Got) (link : LinkView)
      → Reads now.link buffer answer link → (fed : List ℕ)
      → fed ≡ past.fed ++ read_bytes answer buffer
      → (is_not_yet answer ≡ true → known.session ≡ 0) →
      IsServed start (record { fed = fed; party = past.party }) known (record now { link = link })
  read_calm buffer answer link reads fed grows silent =
      subst (λ (reached : Phase). IsServed start (record { fed = fed; party = past.party })
      (record known { phase = reached }) (record now { link = link })) (sym may.calm)
      (read_served buffer answer link reads fed grows phase.Calm (λ none. refl)
      (still_calm, λ waited some. absurd (some (silent_steps (silent waited)))))

-- ---- what a read gave

-- a piece came, which the splitter took, or found to be at fault
pub fed_on : (known : Known) → MayRead known → (buffer piece : List ℕ) (count : ℕ)
    → piece ≡ take count buffer → (splitting : Splitting) (bad : Option ℕ) →
    ((fed : List ℕ) (taken : List StreamUnit) → IsAt known.splitting fed taken
    → IsAt splitting (fed ++ piece) taken
    × (option_map place_of (stream_of (fed ++ piece)).fault ≡ bad)) →
    IfRead known buffer (got.Some count) (record known { splitting = splitting; bad = bad })
fed_on known may buffer piece count e splitting bad feeds now link reads =
    goes_link (λ some. refl) (λ start kept.
    let at = at_stream start kept.past known now may.serving kept.stage in
    let fed : List ℕ = kept.past.fed ++ piece in
    let facts = feeds kept.past.fed at.units at.at in
    record {
      past = record { fed = fed; party = kept.past.party };
      served =
          served_known
          (read_calm kept.served at may buffer (got.Some count) link reads fed
          (ap (λ piece. kept.past.fed ++ piece) e) (λ waited. absurd (cc waited)))
          splitting known.stage bad;
      stage =
          subst (λ (at : Stage). IsStage at start (record { fed = fed; party = kept.past.party })
          (record known { splitting = splitting; bad = bad }) (record now { link = link }))
          (sym may.serving)
          (record {
            units = at.units;
            at = facts.0;
            called = at.called;
            sound = at.sound;
            bad = facts.1;
            early = at.early;
          });
    })

-- the service of a stream that was read is over
read_over : (known : Known) → MayRead known → (buffer : List ℕ) (answer : Got)
    → is_not_yet answer ≡ false → (splitting : Splitting) (ending : SessionEnd) →
    ((start : Seen) (past : Past) (now : Seen) (link : LinkView) → Reads now.link buffer answer link
    → (s : IsServed start past known now) → IsAtStream past known →
    IsOver start (record { fed = past.fed ++ read_bytes answer buffer; party = past.party })
    (record known { splitting = splitting; stage = stage.Over ending })
    (record now { link = link }) ending) →
    IfRead known buffer answer (record known { splitting = splitting; stage = stage.Over ending })
read_over known may buffer answer told splitting ending over now link reads =
    goes_link (λ some. refl) (λ start kept.
    let at = at_stream start kept.past known now may.serving kept.stage in
    record {
      past = record {
        fed = kept.past.fed ++ read_bytes answer buffer;
        party = kept.past.party;
      };
      served =
          served_known
          (read_calm kept.served at may buffer answer link reads
          (kept.past.fed ++ read_bytes answer buffer) refl (λ waited. absurd (cc (waited, told))))
          splitting (stage.Over ending) known.bad;
      stage = over start kept.past now link reads kept.served at;
    })

-- a piece came for which there was no memory
pub fed_over : (known : Known) → MayRead known → (buffer : List ℕ) (count : ℕ)
    (splitting : Splitting) →
    IfRead known buffer (got.Some count)
    (record known { splitting = splitting; stage = stage.Over end.Memory })
fed_over known may buffer count splitting =
    read_over known may buffer (got.Some count) refl splitting end.Memory
    (λ start past now link reads s at. record { plan = tt; heard = tt; sent = tt })

or_true : (a : Bool) → (a || true) ≡ true
or_true true = refl
or_true false = refl

-- the stream has ended
pub ended_over : (known : Known) → MayRead known → (buffer : List ℕ)
    → IfRead known buffer got.End (record known { stage = stage.Over end.End })
ended_over known may buffer =
    read_over known may buffer got.End refl known.splitting end.End
    (λ start past now link reads s at.
    let fed : List ℕ = past.fed ++ [] in
    record {
      plan =
          subst (λ (cause : Option NotMade). Plans end.End cause
          (record { fed = fed; party = past.party })
          (record known { stage = stage.Over end.End })) (sym at.sound) (
            may.all_put,
            subst₂ (λ (fed : List ℕ) (reached : Phase). IsWhole fed past.party reached)
                (sym (append-nil past.fed)) (sym may.calm) (whole s at may),
          );
      heard =
          subst (λ (cause : Option NotMade). IsHeard end.End cause start.link link)
          (sym at.sound) (reads.ended ∙ or_true now.link.ended);
      sent = subst (λ reached. IsAtRest reached) (sym may.calm) tt;
    })

-- a count that rose later rose since
pub rose_since : (before mid after : ℕ) → before ≤ mid → Rose mid after → Rose before after
rose_since before mid after below (inl rose) = inl (omega arith)
rose_since before mid after below (inr still) = inr still

-- the link failed
pub unread_over : (known : Known) → MayRead known → (buffer : List ℕ)
    → IfRead known buffer got.Failed (record known { stage = stage.Over end.LinkFault })
unread_over known may buffer =
    read_over known may buffer got.Failed refl known.splitting end.LinkFault
    (λ start past now link reads s at. record {
      plan = tt;
      heard =
          rose_since start.link.faults now.link.faults link.faults s.others.faults reads.may;
      sent = tt;
    })

-- nothing was there, and there is no session
pub waited_silent : (known : Known) → MayRead known → known.session ≡ 0 → (buffer : List ℕ)
    → IfRead known buffer got.NotYet known
waited_silent known may none buffer now link reads =
    goes_link (λ some. refl) (λ start kept.
    let at = at_stream start kept.past known now may.serving kept.stage in
    record {
      past = kept.past;
      served = read_calm kept.served at may buffer got.NotYet link reads kept.past.fed
          (sym (append-nil kept.past.fed)) (λ waited. none);
      stage =
          subst (λ (stage : Stage). IsStage stage start kept.past known (record now { link = link }))
          (sym may.serving) at;
    })

-- nothing was there, so that a session is to be settled again
pub waited_due : (known : Known) → MayRead known → known.session ≢ 0 → (buffer : List ℕ)
    → IfRead known buffer got.NotYet (record known { phase = phase.Due 0 })
waited_due known may some buffer now link reads =
    goes_link (λ some. refl) (λ start kept.
    let at = at_stream start kept.past known now may.serving kept.stage in
    record {
      past = kept.past;
      served = read_served kept.served at may buffer got.NotYet link reads kept.past.fed
          (sym (append-nil kept.past.fed)) (phase.Due 0) (λ none. absurd (some none))
          (recent_settled (kept.served.place ++ kept.served.recent ++ [])
          (still_calm kept.served at may));
      stage =
          subst (λ (stage : Stage). IsStage stage start kept.past
          (record known { phase = phase.Due 0 }) (record now { link = link }))
          (sym may.serving)
          (record {
            units = at.units;
            at = at.at;
            called = at.called;
            sound = at.sound;
            bad = at.bad;
            early = omega arith;
          });
    })
