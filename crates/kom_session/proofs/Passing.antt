-- What the flushes of others are to a machine.
use Rattle.std.proofs.Common.{◌≡◌, ◌≢◌, ℕ, ◌+◌, ◌&&◌, Bool, true, inl, inr, List, [], ◌∷◌, ◌++◌, Option}
use Rattle.std.proofs.Common.{refl, sym, ◌∙◌, ap, ap₂, subst, append-nil, append_assoc, arith}
use Rattle.std.specs.List.{AllByRecursion}
use Rattle.std.proofs.lemmas.List.Folds.{list_all-append}
use Rattle.kom_types.specs.declared.acts.Act.{Act}
use Rattle.kom_types.specs.declared.acts.Act.TheVariants as act
use Rattle.kom_types.specs.declared.acts.Record.{Record}
use Rattle.kom_types.specs.declared.items.Item.{Item}
use Rattle.kom_types.specs.Reading.{Request}
use Rattle.kom_links.specs.DeskCalls.{DeskView, StaysForAll, record_of}
use Rattle.kom_links.specs.Records.{is_open, IsOpen}
use Rattle.kom_links.specs.Talk.{Step, Flushes, Drains, Settles, steps_of, print_of_drains}
use Rattle.kom_session.specs.declared.phase.Phase.{Phase}
use Rattle.kom_session.specs.declared.phase.Phase.TheVariants as phase
use Rattle.kom_session.specs.declared.phase.Stage.{Stage}
use Rattle.kom_session.specs.declared.phase.Stage.TheVariants as stage
use Rattle.kom_session.specs.Course.{is_still, IsSettled, IsRecent, IsCourse}
use Rattle.kom_session.specs.Ends.{IsOwn}
use Rattle.kom_session.specs.Known.{Known, Seen, sight}
use Rattle.kom_session.specs.Serving.{Party, Nobody, Somebody, Past, IsPhase, IsServed, IsParty, owed_to}
use Rattle.kom_session.specs.Kept.{IsStage, IsKept, IsFlush, PassesBy}
use Rattle.kom_session.proofs.Courses.{open_push, course_flushed, recent_other, flushed_push}
use Rattle.kom_session.proofs.Others.{others_trans, others_open}
use Rattle.kom_session.proofs.Steps.{steps-append, drains_in-append, steps_connected}

-- ---- one flush more

-- a flush of others is the record of one
as_flush : (made : Record) → IsFlush made →
    record_of made.entry.pass made.entry.moment act.Flush 0 made.short ≡ made
as_flush made is =
    ap₂ (λ (act : Act) (session : ℕ). record_of made.entry.pass made.entry.moment act session
    made.short) (sym is.0) (sym is.1)

settled_push : (steps : List Step) → IsSettled steps → IsSettled (steps ++ Flushes ∷ [])
settled_push steps (before, between, after, e, still, rest, drains) = (
  before,
  between,
  after ++ Flushes ∷ [],
  ap (λ all. all ++ Flushes ∷ []) e
      ∙ append_assoc (before ++ Flushes ∷ between) (Drains [] ∷ after) (Flushes ∷ []),
  still,
  list_all-append is_still after (Flushes ∷ []) ∙ ap (λ b. b && true) rest,
  drains_in-append after (Flushes ∷ []) ∙ ap (λ n. n + 0) drains,
)

settles_push : (steps : List Step) → Settles steps → Settles (steps ++ Flushes ∷ [])
settles_push steps (before, between, after, e) = (
  before,
  between,
  after ++ Flushes ∷ [],
  ap (λ all. all ++ Flushes ∷ []) e
      ∙ append_assoc (before ++ Flushes ∷ between) (Drains [] ∷ after) (Flushes ∷ []),
)

phase_push : (reached : Phase) (waited : Bool) (place recent : List Step)
    → (place ++ recent ≡ [] → ⊥) → IsPhase reached waited place recent
    → IsPhase reached waited place (recent ++ Flushes ∷ [])
phase_push phase.Calm waited place recent some (inl none, checked) = absurd (some none)
phase_push phase.Calm waited place recent some (inr settled, checked) = (
  inr (subst (λ steps. IsSettled steps) (append_assoc place recent (Flushes ∷ []))
      (settled_push (place ++ recent) settled)),
  λ was before. settles_push recent (checked was before),
)
phase_push (phase.Due lines) waited place recent some is =
    subst (λ steps. IsRecent lines steps) (append_assoc place recent (Flushes ∷ []))
    (recent_other lines (place ++ recent) Flushes refl is)
phase_push phase.Owing waited place recent some is = tt
phase_push phase.Draining waited place recent some is = flushed_push recent
phase_push phase.Denied waited place recent some is = tt

-- ---- all of them

not_nil : (first second : List Step) → (first ≡ [] → ⊥) → first ++ second ≡ [] → ⊥
not_nil [] second some e = some refl
not_nil (step ∷ first) second some e = cc e

flush_step : (session : ℕ) (made : Record) (rest : List Record) → IsFlush made →
    steps_of session (made ∷ rest) [] ≡ Flushes ∷ steps_of session rest []
flush_step session made rest is =
    ap (λ made. steps_of session (made ∷ rest) []) (sym (as_flush made is))

phase_passes : (session : ℕ) (reached : Phase) (waited : Bool) (place recent : List Step)
    (flushes : List Record) → AllByRecursion IsFlush flushes → (place ++ recent ≡ [] → ⊥)
    → IsPhase reached waited place recent
    → IsPhase reached waited place (recent ++ steps_of session flushes [])
phase_passes session reached waited place recent [] all some is =
    subst (λ steps. IsPhase reached waited place steps) (sym (append-nil recent)) is
phase_passes session reached waited place recent (made ∷ flushes) all some is =
    subst (λ steps. IsPhase reached waited place steps)
    (append_assoc recent (Flushes ∷ []) (steps_of session flushes [])
    ∙ ap (λ steps. recent ++ steps) (sym (flush_step session made flushes all.0)))
    (phase_passes session reached waited place (recent ++ Flushes ∷ []) flushes all.1
    (λ none. not_nil (place ++ recent) (Flushes ∷ []) some
    (append_assoc place recent (Flushes ∷ []) ∙ none))
    (phase_push reached waited place recent some is))

course_passes : {session : ℕ} {host user : List ℕ} {requests : List Request} {fault : Bool}
    {added : List Record} {given : List (List Item)}
    → IsCourse session host user requests fault added given → (flushes : List Record)
    → AllByRecursion IsFlush flushes
    → IsCourse session host user requests fault (added ++ flushes) given
course_passes {session} {host} {user} {requests} {fault} {added} {given} course [] all =
    subst (λ added. IsCourse session host user requests fault added given) (sym (append-nil added))
    course
course_passes {session} {host} {user} {requests} {fault} {added} {given} course (made ∷ flushes) all =
    subst (λ added. IsCourse session host user requests fault added given)
    (append_assoc added (made ∷ []) flushes)
    (course_passes
    (subst (λ made. IsCourse session host user requests fault (added ++ made ∷ []) given)
    (as_flush made all.0)
    (course_flushed course made.entry.pass made.entry.moment made.short)) flushes all.1)

open_passes : (session : ℕ) (mine flushes : List Record) → AllByRecursion IsFlush flushes
    → IsOpen session mine → IsOpen session (mine ++ flushes)
open_passes session mine [] all is =
    subst (λ mine. IsOpen session mine) (sym (append-nil mine)) is
open_passes session mine (made ∷ flushes) all is =
    subst (λ mine. IsOpen session mine) (append_assoc mine (made ∷ []) flushes)
    (open_passes session (mine ++ made ∷ []) flushes all.1
    (subst (λ made. IsOpen session (mine ++ made ∷ [])) (as_flush made all.0)
    (open_push session mine (record_of made.entry.pass made.entry.moment act.Flush 0 made.short)
    refl is)))

opened_passes : (number : ℕ) → number ≢ 0 → (mine flushes : List Record)
    → AllByRecursion IsFlush flushes → is_open number (mine ++ flushes) ≡ is_open number mine
opened_passes number some mine [] all = ap (is_open number) (append-nil mine)
opened_passes number some mine (made ∷ flushes) all =
    ap (is_open number) (sym (append_assoc mine (made ∷ []) flushes))
    ∙ opened_passes number some (mine ++ made ∷ []) flushes all.1
    ∙ others_open number mine made (λ e. some (sym e ∙ all.0.1))

own_passes : (session : ℕ) (added flushes : List Record)
    → AllByRecursion (IsOwn session) added → AllByRecursion IsFlush flushes
    → AllByRecursion (IsOwn session) (added ++ flushes)
own_passes session [] [] own all = tt
own_passes session [] (made ∷ flushes) own all =
    (inr all.0.0, own_passes session [] flushes tt all.1)
own_passes session (first ∷ added) flushes own all =
    (own.0, own_passes session added flushes own.1 all)

-- ---- the service

first_step : (step : Step) (rest steps : List Step) → steps ≡ step ∷ rest → steps ≡ [] → ⊥
first_step step rest steps e none = cc (e, none)

served_passes : {start : Seen} {fed : List ℕ} {known : Known} {now : Seen} (party : Party)
    (s : IsServed start (record { fed = fed; party = party }) known now) → known.session ≢ 0
    → (desk : DeskView) (gave : Option (List ℕ)) → PassesBy now.desk desk →
    IsServed start (record { fed = fed; party = party }) known (sight desk now.link gave)
served_passes (Nobody told) s some desk gave passes = absurd (some s.party.none)
served_passes {start} {fed} {known} {now} (Somebody user requests broken) s some desk gave passes =
    record {
      added = s.added ++ passes.flushes;
      more = s.more;
      bytes = s.bytes;
      waited = s.waited;
      place = s.place;
      recent = s.recent ++ steps_of known.session passes.flushes [];
      mine =
          passes.mine ∙ ap (λ first. first ++ passes.flushes) s.mine
          ∙ append_assoc start.desk.mine s.added passes.flushes;
      answers = passes.answers ∙ s.answers;
      own = own_passes known.session s.added passes.flushes s.own passes.all;
      taken = s.taken;
      put = s.put;
      owed = s.owed ∙ ap print_of_drains (sym (passes.given known.session));
      party = record {
        some = some;
        course =
            subst (λ (lists : List (List Item)). IsCourse known.session start.link.host user
            requests broken (s.added ++ passes.flushes) lists) (sym (passes.given known.session))
            (course_passes s.party.course passes.flushes passes.all);
        is_open =
            subst (λ (mine : List Record). IsOpen known.session mine) (sym passes.mine)
            (open_passes known.session now.desk.mine passes.flushes passes.all s.party.is_open);
        first = s.party.first;
        at_fault = s.party.at_fault;
      };
      steps =
          ap (steps_of known.session (s.added ++ passes.flushes))
          (passes.given known.session ∙ sym (append-nil (now.desk.gave_to known.session)))
          ∙ steps-append known.session s.added passes.flushes (now.desk.gave_to known.session) []
          s.party.course.drains
          ∙ ap (λ first. first ++ steps_of known.session passes.flushes []) s.steps
          ∙ append_assoc s.place s.recent (steps_of known.session passes.flushes []);
      looked = s.looked;
      phase =
          phase_passes known.session known.phase s.waited s.place s.recent passes.flushes passes.all
          begun s.phase;
      cause = s.cause;
      unrefused = s.unrefused;
      since = s.since;
      others = others_trans s.others (record {
        pass = passes.pass;
        host = refl;
        faults = omega arith;
        given = λ number other. passes.given number;
        opened = λ number some other. ap (is_open number) passes.mine
            ∙ opened_passes number some now.desk.mine passes.flushes passes.all;
      });
      untouched = s.untouched;
    }
  where
    begun : s.place ++ s.recent ≡ [] → ⊥
    begun =
        let c = s.party.course.connected in
        first_step _ _ _
        (sym s.steps
        ∙ ap (λ added. steps_of known.session added (now.desk.gave_to known.session)) c.2
        ∙ steps_connected known.session user start.link.host c.0 c.1
        (now.desk.gave_to known.session) c.3 c.4)

-- the stage looks at no desk
stage_passes : (start : Seen) (past : Past) (known : Known) (now : Seen) (desk : DeskView)
    (gave : Option (List ℕ)) (stage : Stage) → IsStage stage start past known now
    → IsStage stage start past known (sight desk now.link gave)
stage_passes start past known now desk gave stage.Serving is = is
stage_passes start past known now desk gave (stage.Last ending) is = is
stage_passes start past known now desk gave (stage.Over ending) is =
    record { plan = is.plan; heard = is.heard; sent = is.sent }

pub kept_passes : (start : Seen) (known : Known) (now : Seen) (desk : DeskView)
    (gave : Option (List ℕ)) → known.session ≢ 0 → PassesBy now.desk desk → IsKept start known now
    → IsKept start known (sight desk now.link gave)
kept_passes start known now desk gave some passes kept = record {
  past = kept.past;
  served = served_passes kept.past.party kept.served some desk gave passes;
  stage = stage_passes start kept.past known now desk gave known.stage kept.stage;
}

-- ---- a desk that shows the same

party_alike : (party : Party) (start : Seen) (fed : List ℕ) (known : Known) (now : Seen) (added : List Record)
    (desk : DeskView) (gave : Option (List ℕ)) → desk.mine ≡ now.desk.mine
    → StaysForAll now.desk.gave_to desk.gave_to → IsParty fed party start known now added
    → IsParty fed party start known (sight desk now.link gave) added
party_alike (Nobody told) start fed known now added desk gave mine given is = is
party_alike (Somebody user requests broken) start fed known now added desk gave mine given is = record {
  some = is.some;
  course =
      subst (λ (lists : List (List Item)). IsCourse known.session start.link.host user requests broken added lists)
      (sym (given known.session)) is.course;
  is_open = subst (λ (mine : List Record). IsOpen known.session mine) (sym mine) is.is_open;
  first = is.first;
  at_fault = is.at_fault;
}

owed_alike : (party : Party) (lists lists' : List (List Item)) → lists' ≡ lists
    → owed_to party lists ≡ owed_to party lists'
owed_alike (Nobody told) lists lists' e = refl
owed_alike (Somebody user requests broken) lists lists' e = ap print_of_drains (sym e)

-- A desk that shows the same and a clock that tells something else keep what is kept.
pub kept_alike : (start : Seen) (known : Known) (now : Seen) (desk : DeskView) (gave : Option (List ℕ))
    → desk.mine ≡ now.desk.mine → StaysForAll now.desk.gave_to desk.gave_to
    → desk.answers ≡ now.desk.answers → desk.pass ≡ now.desk.pass → IsKept start known now
    → IsKept start known (sight desk now.link gave)
kept_alike start known now desk gave mine given answers pass kept = record {
  past = kept.past;
  served = record {
    added = kept.served.added;
    more = kept.served.more;
    bytes = kept.served.bytes;
    waited = kept.served.waited;
    place = kept.served.place;
    recent = kept.served.recent;
    mine = mine ∙ kept.served.mine;
    answers = answers ∙ kept.served.answers;
    own = kept.served.own;
    taken = kept.served.taken;
    put = kept.served.put;
    owed = kept.served.owed ∙ owed_alike kept.past.party (now.desk.gave_to known.session)
        (desk.gave_to known.session) (given known.session);
    party = party_alike kept.past.party start kept.past.fed known now kept.served.added desk gave mine given
        kept.served.party;
    steps = ap (steps_of known.session kept.served.added) (given known.session) ∙ kept.served.steps;
    looked = kept.served.looked;
    phase = kept.served.phase;
    cause = kept.served.cause;
    unrefused = kept.served.unrefused;
    since = kept.served.since;
    others = record {
      pass = pass ∙ kept.served.others.pass;
      host = kept.served.others.host;
      faults = kept.served.others.faults;
      given = λ number other. given number ∙ kept.served.others.given number other;
      opened = λ number some other. ap (is_open number) mine ∙ kept.served.others.opened number some other;
    };
    untouched = kept.served.untouched;
  };
  stage = stage_passes start kept.past known now desk gave known.stage kept.stage;
}

-- where there is no session the desk shows the records that it showed at the start
pub nobody_mine : (start : Seen) (known : Known) (now : Seen) → known.session ≡ 0 → IsKept start known now
    → now.desk.mine ≡ start.desk.mine
nobody_mine start known now none kept = go kept.past.party kept.served.party
  where
    go : (party : Party) → IsParty kept.past.fed party start known now kept.served.added
        → now.desk.mine ≡ start.desk.mine
    go (Nobody told) is =
        kept.served.mine ∙ ap (λ added. start.desk.mine ++ added) is.nothing ∙ append-nil start.desk.mine
    go (Somebody user requests broken) is = absurd (is.some none)
