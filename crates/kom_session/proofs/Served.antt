-- The service of a link, one step more at a time.
use Rattle.std.proofs.Common.{◌≡◌, ◌≢◌, ℕ, ◌⊎◌, Bool, true, false, inl, inr, List, [], ◌∷◌, ◌++◌, Option}
use Rattle.std.proofs.Common.{Some, None, Result, Ok, Err, refl, sym, ◌∙◌, ap, ap₂, subst, append-nil, append_assoc}
use Rattle.std.proofs.Common.{eq-eqb}
use Rattle.std.specs.Prelude.{⊤, IfSome, flat_map}
use Rattle.std.specs.List.{AllByRecursion}
use Rattle.std.proofs.lemmas.Grind.{flat_map-append}
use Rattle.kom_types.specs.declared.acts.Act.TheVariants as act
use Rattle.kom_types.specs.declared.acts.Record.{Record}
use Rattle.kom_types.specs.declared.answers.Why.TheVariants as why
use Rattle.kom_types.specs.declared.items.Item.{Item}
use Rattle.kom_types.specs.Printing.{print_of}
use Rattle.kom_types.specs.Reading.{Request}
use Rattle.kom_framing.specs.Splitting.{Splitting}
use Rattle.kom_links.specs.declared.deeds.Deed.{Deed}
use Rattle.kom_links.specs.declared.deeds.Deed.TheVariants as deed
use Rattle.kom_types.specs.declared.answers.NotMade.{NotMade}
use Rattle.kom_types.specs.declared.answers.NotMade.TheVariants as fault
use Rattle.kom_links.specs.Answers.{Answer, without_value, said_stopped, is_nothing, concerns, first_fault_of}
use Rattle.kom_links.specs.Outside.{Look, LinkView, with_bytes}
use Rattle.kom_links.specs.Records.{is_open, IsOpen}
use Rattle.kom_links.specs.DeskCalls.{DeskView, record_of, AddsNoneOrShort, AsksStopped}
use Rattle.kom_links.specs.DeskCalls.{Drains as DrainsOf, Flushes as FlushesOf}
use Rattle.kom_links.specs.Talk.{Step, Flushes, Drains, steps_of, print_of_drains}
use Rattle.kom_session.specs.declared.phase.Phase.{Phase}
use Rattle.kom_session.specs.declared.phase.Phase.TheVariants as phase
use Rattle.kom_session.specs.declared.phase.Stage.{Stage}
use Rattle.kom_session.specs.Course.{IsFlushed, IsSettled, IsCourse}
use Rattle.kom_session.specs.Ends.{IsOwn}
use Rattle.kom_session.specs.Known.{Known, Seen, sight, Puts, LeavesOthers, note_fault, with_flush}
use Rattle.kom_session.specs.Left.{IsSending}
use Rattle.kom_session.specs.Serving.{Party, Nobody, Somebody, Past, owed_to, IsSomebody, IsParty, IsPhase, IsSince}
use Rattle.kom_session.specs.Serving.{IsServed}
use Rattle.kom_session.specs.Waits.{AreAnswered}
use Rattle.kom_session.proofs.Answered.{with_answer, refused_push, unrefused_push, since_kept, flushed_after}
use Rattle.kom_session.proofs.Answered.{drained_after, refused_after, sending_some}
use Rattle.kom_session.proofs.Steps.{steps-append}
use Rattle.kom_session.proofs.Courses.{open_push, drain_steps, course_flushed, course_drained}
use Rattle.kom_session.proofs.Courses.{flushed_push, flushed_drained, settled_drained, settled_after, settled_settles}
use Rattle.kom_session.proofs.Others.{others_trans, puts_leaves, stop_leaves, flush_leaves, act_leaves, others_open}

-- ---- the party

pub somebody : {start : Seen} {past : Past} {known : Known} {now : Seen}
    → IsServed start past known now → known.session ≢ 0 →
    ((user : List ℕ) × (requests : List Request) × (broken : Bool)
    × (past.party ≡ Somebody user requests broken))
somebody {start} {past} {known} {now} s some = go past.party s.party
  where
    go : (party : Party) → IsParty past.fed party start known now s.added
        → ((user : List ℕ) × (requests : List Request) × (broken : Bool)
        × (party ≡ Somebody user requests broken))
    go (Nobody told) is = absurd (some is.none)
    go (Somebody user requests broken) is = (user, requests, broken, refl)

pub served_open : {start : Seen} {past : Past} {known : Known} {now : Seen}
    → IsServed start past known now → known.session ≢ 0 → IsOpen known.session now.desk.mine
served_open {start} {past} {known} {now} s some = go past.party s.party
  where
    go : (party : Party) → IsParty past.fed party start known now s.added
        → IsOpen known.session now.desk.mine
    go (Nobody told) is = absurd (some is.none)
    go (Somebody user requests broken) is = is.is_open

-- without a session it is calm
pub served_calm : {start : Seen} {past : Past} {known : Known} {now : Seen}
    → IsServed start past known now → known.session ≡ 0 → known.phase ≡ phase.Calm
served_calm {start} {past} {known} {now} s none = go past.party s.party
  where
    go : (party : Party) → IsParty past.fed party start known now s.added
        → known.phase ≡ phase.Calm
    go (Nobody told) is = is.calm
    go (Somebody user requests broken) is = absurd (is.some none)

-- the same party, where no record was added
pub same_party : (start : Seen) (known : Known) (now : Seen) (added : List Record) (fed : List ℕ)
    (party : Party) (known' : Known) (now' : Seen) → IsParty fed party start known now added
    → known'.session ≡ known.session → (known.session ≡ 0 → known'.phase ≡ phase.Calm)
    → now'.desk.mine ≡ now.desk.mine
    → now'.desk.gave_to known.session ≡ now.desk.gave_to known.session →
    IsParty fed party start known' now' added
same_party start known now added fed (Nobody told) known' now' is same calm mine given = record {
  none = same ∙ is.none;
  calm = calm is.none;
  nothing = is.nothing;
  may_tell = is.may_tell;
}
same_party start known now added fed (Somebody user requests broken) known' now' is same
    calm mine given =
    subst (λ (session : ℕ). IsSomebody start.link.host fed user requests broken session
    now'.desk.mine added (now'.desk.gave_to session)) (sym same)
    (record {
      some = is.some;
      course =
          subst (λ (lists : List (List Item)). IsCourse known.session start.link.host user requests
          broken added lists) (sym given) is.course;
      is_open = subst (λ (mine : List Record). IsOpen known.session mine) (sym mine) is.is_open;
      first = is.first;
      at_fault = is.at_fault;
    })

-- ---- what is put

pub first_nil : {X : Type 0} (first second : List X) → first ++ second ≡ [] → first ≡ []
first_nil [] second e = refl
first_nil (one ∷ first) second e = absurd (cc e)

pub second_nil : {X : Type 0} (first second : List X) → first ++ second ≡ [] → second ≡ []
second_nil [] second e = e
second_nil (one ∷ first) second e = absurd (cc e)

pub grown-append : (first second : List ℕ) (told : Option (List ℕ))
    → with_bytes second (with_bytes first told) ≡ with_bytes (first ++ second) told
grown-append first second None = refl
grown-append first second (Some before) = ap Some (append_assoc before first second)

-- These bytes of what was pending were put.
pub served_sent : {start : Seen} {past : Past} {known : Known} {now : Seen}
    → IsServed start past known now → (bytes pending : List ℕ) (link : LinkView) →
    known.pending ≡ bytes ++ pending → Puts now.link bytes link
    → IsServed start past (record known { pending = pending }) (record now { link = link })
served_sent {start} {past} {known} {now} s bytes pending link e puts = record {
  added = s.added;
  more = s.more;
  bytes = s.bytes ++ bytes;
  waited = s.waited;
  place = s.place;
  recent = s.recent;
  mine = s.mine;
  answers = s.answers;
  own = s.own;
  taken = puts.taken ∙ s.taken;
  put = puts.put ∙ ap (with_bytes bytes) s.put ∙ grown-append s.bytes bytes start.link.put;
  owed = append_assoc s.bytes bytes pending ∙ ap (λ rest. s.bytes ++ rest) (sym e) ∙ s.owed;
  party = same_party start known now s.added past.fed past.party (record known { pending = pending })
      (record now { link = link }) s.party refl (served_calm s) refl refl;
  steps = s.steps;
  looked =
      subst (λ (reads : Option (List Look)). IfSome reads
      (λ looks. AreAnswered false [] looks s.waited s.place)) (sym puts.reads) s.looked;
  phase = s.phase;
  cause = s.cause;
  unrefused = s.unrefused;
  since = s.since;
  others = others_trans s.others (puts_leaves known.session now bytes link puts);
  untouched = s.untouched;
}

-- ---- no record more

-- What the service does not look at may change.
pub served_known : {start : Seen} {past : Past} {known : Known} {now : Seen}
    → IsServed start past known now → (splitting : Splitting) (stage : Stage) (bad : Option ℕ)
    → IsServed start past (record known { splitting = splitting; stage = stage; bad = bad }) now
served_known {start} {past} {known} {now} s splitting stage bad = record {
  added = s.added;
  more = s.more;
  bytes = s.bytes;
  waited = s.waited;
  place = s.place;
  recent = s.recent;
  mine = s.mine;
  answers = s.answers;
  own = s.own;
  taken = s.taken;
  put = s.put;
  owed = s.owed;
  party = same_party start known now s.added past.fed past.party
      (record known { splitting = splitting; stage = stage; bad = bad }) now s.party refl
      (served_calm s) refl refl;
  steps = s.steps;
  looked = s.looked;
  phase = s.phase;
  cause = s.cause;
  unrefused = s.unrefused;
  since = s.since;
  others = s.others;
  untouched = s.untouched;
}

-- A deed that concerns the session was answered, and added no record; and this phase was reached.
pub record Answers {start : Seen} {past : Past} {known : Known} {now : Seen}
    (s : IsServed start past known now) (desk : DeskView) (deed : Deed)
    (answer : Result ⊤ NotMade) (reached : Phase) : Type 0 where
  pub mine : desk.mine ≡ now.desk.mine
  pub given : desk.gave_to known.session ≡ now.desk.gave_to known.session
  pub tells : desk.answers ≡ now.desk.answers ++ (deed, answer) ∷ []
  pub concerns : concerns known.session deed ≡ true
  pub calm : known.session ≡ 0 → reached ≡ phase.Calm
  pub is_phase : IsPhase reached s.waited s.place s.recent
  pub since : known.session ≢ 0 → IsSending (with_answer known.cause answer)
      → IsSince reached known.session (s.more ++ (deed, answer) ∷ [])

pub served_still : {start : Seen} {past : Past} {known : Known} {now : Seen}
    (s : IsServed start past known now) (desk : DeskView) (gave : Option (List ℕ)) (deed : Deed)
    (answer : Result ⊤ NotMade) (reached : Phase) → Answers s desk deed answer reached
    → LeavesOthers known.session now (sight desk now.link gave)
    → IsServed start past
    (record known { cause = with_answer known.cause answer; phase = reached })
    (sight desk now.link gave)
served_still {start} {past} {known} {now} s desk gave deed answer reached a leaves = record {
  added = s.added;
  more = s.more ++ (deed, answer) ∷ [];
  bytes = s.bytes;
  waited = s.waited;
  place = s.place;
  recent = s.recent;
  mine = a.mine ∙ s.mine;
  answers =
      a.tells ∙ ap (λ first. first ++ (deed, answer) ∷ []) s.answers
      ∙ append_assoc start.desk.answers s.more ((deed, answer) ∷ []);
  own = s.own;
  taken = s.taken;
  put = s.put;
  owed = s.owed ∙ ap (owed_to past.party) (sym a.given);
  party = same_party start known now s.added past.fed past.party
      (record known { cause = with_answer known.cause answer; phase = reached })
      (sight desk now.link gave) s.party refl a.calm a.mine a.given;
  steps = ap (steps_of known.session s.added) a.given ∙ s.steps;
  looked = s.looked;
  phase = a.is_phase;
  cause =
      refused_push known.session s.more deed answer a.concerns
      ∙ ap (λ cause. with_answer cause answer) s.cause;
  unrefused = λ none e. unrefused_push s.more deed answer known.cause (s.unrefused none) e;
  since = a.since;
  others = others_trans s.others leaves;
  untouched = s.untouched;
}

-- The desk was asked whether it is stopped: the phase is kept, or, where a fault of a session is
-- new, what waits is sent once more.
pub served_asked : {start : Seen} {past : Past} {known : Known} {now : Seen}
    → IsServed start past known now → (answer : Result Bool NotMade) (desk : DeskView)
    → AsksStopped now.desk answer desk → with_answer known.cause (said_stopped answer) ≡ known.cause
    → IsServed start past known (sight desk now.link now.gave)
served_asked {start} {past} {known} {now} s answer desk asks same =
    subst (λ (cause : Option NotMade). IsServed start past (record known { cause = cause })
    (sight desk now.link now.gave)) same
    (served_still s desk now.gave deed.Ask (said_stopped answer) known.phase
    (record {
      mine = asks.mine;
      given = asks.given known.session;
      tells = asks.answers;
      concerns = refl;
      calm = served_calm s;
      is_phase = s.phase;
      since = λ some sending. since_kept known.phase known.session s.more
          ((deed.Ask, said_stopped answer) ∷ [])
          (s.since some (subst (λ cause. IsSending cause) same sending));
    })
    (stop_leaves known.session now answer desk asks))

-- the desk answered a question with a fault
pub asked_fault : {start : Seen} {past : Past} {known : Known} {now : Seen}
    → IsServed start past known now → (answer : Result Bool NotMade) (fault : NotMade)
    (desk : DeskView) → AsksStopped now.desk answer desk → said_stopped answer ≡ Err fault →
    (reached : Phase) → ((known.session ≢ 0) × (reached ≡ phase.Owing))
    ⊎ ((known.session ≡ 0) × (reached ≡ known.phase)) →
    IsServed start past (record known { cause = note_fault known.cause fault; phase = reached })
    (sight desk now.link now.gave)
asked_fault {start} {past} {known} {now} s answer fault desk asks said reached which =
    served_still s desk now.gave deed.Ask (Err fault) reached
    (record {
      mine = asks.mine;
      given = asks.given known.session;
      tells = asks.answers
          ∙ ap (λ (said : Result ⊤ NotMade). now.desk.answers ++ (deed.Ask, said) ∷ []) said;
      concerns = refl;
      calm = calm which;
      is_phase = is_phase which;
      since = λ some sending. since which some;
    })
    (stop_leaves known.session now answer desk asks)
  where
    calm : ((known.session ≢ 0) × (reached ≡ phase.Owing))
        ⊎ ((known.session ≡ 0) × (reached ≡ known.phase)) → known.session ≡ 0
        → reached ≡ phase.Calm
    calm (inl (some, e)) none = absurd (some none)
    calm (inr (none, e)) none' = e ∙ served_calm s none

    is_phase : ((known.session ≢ 0) × (reached ≡ phase.Owing))
        ⊎ ((known.session ≡ 0) × (reached ≡ known.phase)) →
        IsPhase reached s.waited s.place s.recent
    is_phase (inl (some, e)) =
        subst (λ (reached : Phase). IsPhase reached s.waited s.place s.recent) (sym e) tt
    is_phase (inr (none, e)) =
        subst (λ (reached : Phase). IsPhase reached s.waited s.place s.recent) (sym e) s.phase

    since : ((known.session ≢ 0) × (reached ≡ phase.Owing))
        ⊎ ((known.session ≡ 0) × (reached ≡ known.phase)) → known.session ≢ 0 →
        IsSince reached known.session (s.more ++ (deed.Ask, Err fault) ∷ [])
    since (inl (some, e)) some' =
        subst (λ (reached : Phase). IsSince reached known.session
        (s.more ++ (deed.Ask, Err fault) ∷ [])) (sym e) tt
    since (inr (none, e)) some = absurd (some none)

-- ---- one record more

-- What one record more is, with its step and its answer: the session's own or a flush; and this
-- phase was reached.
pub record Pushes {start : Seen} {past : Past} {known : Known} {now : Seen}
    (s : IsServed start past known now) (desk : DeskView) (gave : Option (List ℕ))
    (made : Record) (lists : List (List Item)) (step : Step) (deed : Deed)
    (answer : Result ⊤ NotMade) (reached : Phase) : Type 0 where
  pub mine : desk.mine ≡ now.desk.mine ++ made ∷ []
  pub given : desk.gave_to known.session ≡ now.desk.gave_to known.session ++ lists
  pub tells : desk.answers ≡ now.desk.answers ++ (deed, answer) ∷ []
  pub concerns : concerns known.session deed ≡ true
  pub step_is : steps_of known.session (made ∷ []) lists ≡ step ∷ []
  pub own : IsOwn known.session made
  pub is_phase : IsPhase reached s.waited s.place (s.recent ++ step ∷ [])
  pub since : IsSending (with_answer known.cause answer)
      → IsSince reached known.session (s.more ++ (deed, answer) ∷ [])
  pub leaves : LeavesOthers known.session now (sight desk now.link gave)

pub push : {start : Seen} {known : Known} {now : Seen} (fed user : List ℕ)
    (requests requests' : List Request) (broken broken' : Bool) →
    (s : IsServed start (record { fed = fed; party = Somebody user requests broken }) known now)
    → (desk : DeskView) (gave : Option (List ℕ)) (made : Record) (lists : List (List Item))
    (step : Step) (deed : Deed) (answer : Result ⊤ NotMade) (reached : Phase) →
    Pushes s desk gave made lists step deed answer reached → (pending : List ℕ) →
    s.bytes ++ pending ≡ print_of_drains (desk.gave_to known.session) →
    IsSomebody start.link.host fed user requests' broken' known.session desk.mine
    (s.added ++ made ∷ []) (desk.gave_to known.session) →
    IsServed start (record { fed = fed; party = Somebody user requests' broken' })
    (record known {
      pending = pending;
      cause = with_answer known.cause answer;
      phase = reached;
    }) (sight desk now.link gave)
push {start} {known} {now} fed user requests requests' broken broken' s desk gave made lists step
    deed answer reached pushes pending owed party = record {
      added = s.added ++ made ∷ [];
      more = s.more ++ (deed, answer) ∷ [];
      bytes = s.bytes;
      waited = s.waited;
      place = s.place;
      recent = s.recent ++ step ∷ [];
      mine =
          pushes.mine ∙ ap (λ first. first ++ made ∷ []) s.mine
          ∙ append_assoc start.desk.mine s.added (made ∷ []);
      answers =
          pushes.tells ∙ ap (λ first. first ++ (deed, answer) ∷ []) s.answers
          ∙ append_assoc start.desk.answers s.more ((deed, answer) ∷ []);
      own = own_push s.added s.own;
      taken = s.taken;
      put = s.put;
      owed = owed;
      party = party;
      steps = ap (steps_of known.session (s.added ++ made ∷ [])) pushes.given
          ∙ steps-append known.session s.added (made ∷ []) (now.desk.gave_to known.session) lists
          s.party.course.drains
          ∙ ap₂ (λ first last. first ++ last) s.steps pushes.step_is
          ∙ append_assoc s.place s.recent (step ∷ []);
      looked = s.looked;
      phase = pushes.is_phase;
      cause =
          refused_push known.session s.more deed answer pushes.concerns
          ∙ ap (λ cause. with_answer cause answer) s.cause;
      unrefused = λ none. absurd (s.party.some none);
      since = λ some. pushes.since;
      others = others_trans s.others pushes.leaves;
      untouched = s.untouched;
    }
  where
    own_push : (added : List Record) → AllByRecursion (IsOwn known.session) added
        → AllByRecursion (IsOwn known.session) (added ++ made ∷ [])
    own_push [] own = (pushes.own, tt)
    own_push (first ∷ added) own = (own.0, own_push added own.1)

-- ---- a flush

-- after a flush whose record was added, which may be short, with an answer of it
flush_more : {X : Type 0} {start : Seen} {known : Known} {now : Seen} (fed user : List ℕ)
    (requests : List Request) (broken : Bool)
    (s : IsServed start (record { fed = fed; party = Somebody user requests broken }) known now) →
    (moment : ℕ) (answer : Result X NotMade) (short : Bool) (desk : DeskView)
    (gave : Option (List ℕ)) → FlushesOf now.desk moment answer desk →
    desk.mine ≡ now.desk.mine ++ record_of now.desk.pass moment act.Flush 0 short ∷ []
    → (reached : Phase) → IsPhase reached s.waited s.place (s.recent ++ Flushes ∷ []) →
    (IsSending (with_answer known.cause (without_value answer))
    → IsSince reached known.session (s.more ++ (deed.Flush, without_value answer) ∷ [])) →
    IsServed start (record { fed = fed; party = Somebody user requests broken })
    (record known { cause = with_answer known.cause (without_value answer); phase = reached })
    (sight desk now.link gave)
flush_more {start = start} {known = known} {now = now} fed user requests broken s moment answer
    short desk gave flushes mine reached is_phase since =
    let made : Record = record_of now.desk.pass moment act.Flush 0 short in
    push fed user requests requests broken broken s desk gave made [] Flushes deed.Flush
    (without_value answer) reached
    (record {
      mine = mine;
      given = flushes.given known.session ∙ sym (append-nil (now.desk.gave_to known.session));
      tells = flushes.tells;
      concerns = refl;
      step_is = refl;
      own = inr refl;
      is_phase = is_phase;
      since = since;
      leaves = flush_leaves known.session now moment answer desk gave flushes;
    })
    known.pending (s.owed ∙ ap print_of_drains (sym (flushes.given known.session)))
    (record {
      some = s.party.some;
      course =
          subst (λ (lists : List (List Item)). IsCourse known.session start.link.host user requests
          broken (s.added ++ made ∷ []) lists) (sym (flushes.given known.session))
          (course_flushed s.party.course now.desk.pass moment short);
      is_open =
          subst (λ (mine : List Record). IsOpen known.session mine) (sym mine)
          (open_push known.session now.desk.mine made refl s.party.is_open);
      first = s.party.first;
      at_fault = s.party.at_fault;
    })

-- a flush was made: the session is to be drained, unless the desk refused it something
flush_phase : (reached : Phase) (waited : Bool) (place recent : List Step)
    → IsPhase (with_flush reached) waited place (recent ++ Flushes ∷ [])
flush_phase phase.Calm waited place recent = flushed_push recent
flush_phase (phase.Due lines) waited place recent = flushed_push recent
flush_phase phase.Owing waited place recent = flushed_push recent
flush_phase phase.Draining waited place recent = flushed_push recent
flush_phase phase.Denied waited place recent = tt

flush_since : (reached : Phase) (session : ℕ) (more : List Answer)
    → IsSince reached session more → first_fault_of session more ≢ None
    → IsSince (with_flush reached) session (more ++ (deed.Flush, Ok tt) ∷ [])
flush_since phase.Calm session more since some = flushed_after session more some
flush_since (phase.Due lines) session more since some = flushed_after session more some
flush_since phase.Owing session more since some = flushed_after session more some
flush_since phase.Draining session more since some = flushed_after session more some
flush_since phase.Denied session more since some =
    since_kept phase.Denied session more ((deed.Flush, Ok tt) ∷ []) since

pub flush_made : {X : Type 0} {start : Seen} {past : Past} {known : Known} {now : Seen}
    → IsServed start past known now → known.session ≢ 0 →
    (moment : ℕ) (done : X) (desk : DeskView) (gave : Option (List ℕ))
    → FlushesOf now.desk moment (Ok done) desk →
    IsServed start past (record known { phase = with_flush known.phase })
    (sight desk now.link gave)
flush_made {X} {start} {past} {known} {now} s some moment done desk gave flushes =
    go past.party s
  where
    go : (party : Party)
        → (s : IsServed start (record { fed = past.fed; party = party }) known now) →
        IsServed start (record { fed = past.fed; party = party })
        (record known { phase = with_flush known.phase }) (sight desk now.link gave)
    go (Nobody told) s = absurd (some s.party.none)
    go (Somebody user requests broken) s =
        flush_more past.fed user requests broken s moment (Ok done) false desk gave flushes
        flushes.added (with_flush known.phase)
        (flush_phase known.phase s.waited s.place s.recent)
        (λ sending. flush_since known.phase known.session s.more (s.since some sending)
        (λ none. sending_some known.cause sending (sym s.cause ∙ none)))

-- a flush was refused: the session is only to be closed
pub flush_refused : {X : Type 0} {start : Seen} {past : Past} {known : Known} {now : Seen}
    → IsServed start past known now → known.session ≢ 0 →
    (moment : ℕ) (reason : NotMade) (desk : DeskView) (gave : Option (List ℕ))
    → FlushesOf {X = X} now.desk moment (Err reason) desk →
    IsServed start past (record known { cause = note_fault known.cause reason; phase = phase.Denied })
    (sight desk now.link gave)
flush_refused {X} {start} {past} {known} {now} s some moment reason desk gave flushes =
    go past.party s reason flushes flushes.none_added
  where
    still : (reason : NotMade) → FlushesOf {X = X} now.desk moment (Err reason) desk
        → desk.mine ≡ now.desk.mine →
        IsServed start past
        (record known { cause = note_fault known.cause reason; phase = phase.Denied })
        (sight desk now.link gave)
    still reason flushes same =
        served_still s desk gave deed.Flush (Err reason) phase.Denied
        (record {
          mine = same;
          given = flushes.given known.session;
          tells = flushes.tells;
          concerns = refl;
          calm = λ none. absurd (some none);
          is_phase = tt;
          since = λ some sending. refused_after known.session s.more deed.Flush reason refl;
        })
        (flush_leaves {X = X} known.session now moment (Err reason) desk gave flushes)

    short : (reason : NotMade) → FlushesOf {X = X} now.desk moment (Err reason) desk
        → desk.mine ≡ now.desk.mine ++ record_of now.desk.pass moment act.Flush 0 true ∷ [] →
        (party : Party)
        → (s : IsServed start (record { fed = past.fed; party = party }) known now) →
        IsServed start (record { fed = past.fed; party = party })
        (record known { cause = note_fault known.cause reason; phase = phase.Denied })
        (sight desk now.link gave)
    short reason flushes mine (Nobody told) s = absurd (some s.party.none)
    short reason flushes mine (Somebody user requests broken) s =
        flush_more {X = X} past.fed user requests broken s moment (Err reason) true desk gave
        flushes mine phase.Denied tt
        (λ sending. refused_after known.session s.more deed.Flush reason refl)

    go : (party : Party) → IsServed start past known now → (reason : NotMade)
        → FlushesOf {X = X} now.desk moment (Err reason) desk
        → AddsNoneOrShort now.desk moment reason desk →
        IsServed start past
        (record known { cause = note_fault known.cause reason; phase = phase.Denied })
        (sight desk now.link gave)
    go party s (fault.Gone why.Stopped) flushes (inl same) =
        still (fault.Gone why.Stopped) flushes same
    go party s (fault.Gone why.Stopped) flushes (inr mine) =
        short (fault.Gone why.Stopped) flushes mine past.party s
    go party s (fault.Gone why.Absent) flushes same = still (fault.Gone why.Absent) flushes same
    go party s (fault.Gone why.Dropped) flushes same = still (fault.Gone why.Dropped) flushes same
    go party s (fault.Gone why.Overrun) flushes same = still (fault.Gone why.Overrun) flushes same
    go party s (fault.Full number) flushes same = still (fault.Full number) flushes same
    go party s fault.Memory flushes same = still fault.Memory flushes same

-- ---- a drain

printed_push : (lists : List (List Item)) (items : List Item)
    → print_of_drains (lists ++ items ∷ []) ≡ print_of_drains lists ++ flat_map print_of items
printed_push lists items =
    flat_map-append (flat_map print_of) lists (items ∷ [])
    ∙ ap (λ rest. print_of_drains lists ++ rest) (append-nil (flat_map print_of items))

-- what was given comes after what is pending
drained : {X : Type 0} {start : Seen} {fed : List ℕ} {known : Known} {now : Seen}
    (party : Party) (s : IsServed start (record { fed = fed; party = party }) known now)
    → known.session ≢ 0 →
    (moment : ℕ) (done : X) (items : List Item) (desk : DeskView) (gave : Option (List ℕ))
    → DrainsOf now.desk moment known.session items (Ok done) desk →
    (reached : Phase) → IsPhase reached s.waited s.place (s.recent ++ Drains items ∷ []) →
    (IsSending known.cause → IsSince reached known.session
    (s.more ++ (deed.Drain known.session (is_nothing items), Ok tt) ∷ [])) →
    IsServed start (record { fed = fed; party = party })
    (record known { pending = known.pending ++ flat_map print_of items; phase = reached })
    (sight desk now.link gave)
drained (Nobody told) s some moment done items desk gave drains reached is_phase since =
    absurd (some s.party.none)
drained {X} {start} {fed} {known} {now} (Somebody user requests broken) s some moment done
    items desk gave drains reached is_phase since =
    let made : Record =
    record_of now.desk.pass moment (act.Drain known.session) known.session false in
    push fed user requests requests broken broken s desk gave made (items ∷ []) (Drains items)
    (deed.Drain known.session (is_nothing items)) (Ok tt) reached
    (record {
      mine = drains.added;
      given = drains.given.0;
      tells = drains.rest.tells;
      concerns = eq-eqb known.session known.session refl;
      step_is = drain_steps known.session now.desk.pass moment items;
      own = inl refl;
      is_phase = is_phase;
      since = since;
      leaves =
          act_leaves known.session now desk gave drains.rest.pass
          (λ number other. drains.given.1 number (other some))
          (λ number other. ap (is_open number) drains.added
          ∙ others_open number now.desk.mine made (λ e. other (sym e)));
    })
    (known.pending ++ flat_map print_of items)
    (sym (append_assoc s.bytes known.pending (flat_map print_of items))
    ∙ ap (λ first. first ++ flat_map print_of items) s.owed
    ∙ sym (printed_push (now.desk.gave_to known.session) items) ∙ ap print_of_drains (sym drains.given.0))
    (record {
      some = some;
      course =
          subst (λ (lists : List (List Item)). IsCourse known.session start.link.host user requests
          broken (s.added ++ made ∷ []) lists) (sym drains.given.0)
          (course_drained s.party.course now.desk.pass moment items);
      is_open =
          subst (λ (mine : List Record). IsOpen known.session mine) (sym drains.added)
          (open_push known.session now.desk.mine made refl s.party.is_open);
      first = s.party.first;
      at_fault = s.party.at_fault;
    })

-- a drain that gave items, of a session that was flushed
pub drained_some : {X : Type 0} {start : Seen} {past : Past} {known : Known} {now : Seen}
    (s : IsServed start past known now) → known.session ≢ 0 → known.phase ≡ phase.Draining →
    (moment : ℕ) (done : X) (items : List Item) (desk : DeskView) (gave : Option (List ℕ))
    → DrainsOf now.desk moment known.session items (Ok done) desk →
    IsServed start past
    (record known { pending = known.pending ++ flat_map print_of items }) (sight desk now.link gave)
drained_some {past = past} {known = known} s some draining moment done items desk gave drains =
    drained past.party s some moment done items desk gave drains known.phase
    (subst (λ reached. IsPhase reached s.waited s.place (s.recent ++ Drains items ∷ []))
    (sym draining)
    (flushed_drained s.recent items
    (subst (λ reached. IsPhase reached s.waited s.place s.recent) draining s.phase)))
    (λ sending. since_kept known.phase known.session s.more
    ((deed.Drain known.session (is_nothing items), Ok tt) ∷ []) (s.since some sending))

-- a drain that gave nothing, which settles
pub drained_none : {X : Type 0} {start : Seen} {past : Past} {known : Known} {now : Seen}
    (s : IsServed start past known now) → known.session ≢ 0 → known.phase ≡ phase.Draining →
    (moment : ℕ) (done : X) (desk : DeskView) (gave : Option (List ℕ))
    → DrainsOf now.desk moment known.session [] (Ok done) desk →
    IsServed start past (record known { phase = phase.Calm }) (sight desk now.link gave)
drained_none {X} {start} {past} {known} {now} s some draining moment done desk gave drains =
    let flushed : IsFlushed s.recent =
    subst (λ reached. IsPhase reached s.waited s.place s.recent) draining s.phase in
    let settled : IsSettled (s.recent ++ Drains [] ∷ []) = settled_drained s.recent flushed in
    subst (λ (pending : List ℕ). IsServed start past
    (record known { pending = pending; phase = phase.Calm }) (sight desk now.link gave))
    (append-nil known.pending)
    (drained past.party s some moment done [] desk gave drains phase.Calm (
      inr (settled_after s.place (s.recent ++ Drains [] ∷ []) settled),
      λ waited some. settled_settles (s.recent ++ Drains [] ∷ []) settled,
    )
    (λ sending. drained_after known.session s.more
    (subst (λ reached. IsSince reached known.session s.more) draining (s.since some sending))))

-- a drain that was refused: the session is only to be closed
pub drain_refused : {X : Type 0} {start : Seen} {past : Past} {known : Known} {now : Seen}
    (s : IsServed start past known now) → known.session ≢ 0 →
    (moment : ℕ) (fault : NotMade) (items : List Item) (desk : DeskView) (gave : Option (List ℕ))
    → DrainsOf {X = X} now.desk moment known.session items (Err fault) desk →
    IsServed start past (record known { cause = note_fault known.cause fault; phase = phase.Denied })
    (sight desk now.link gave)
drain_refused {X} {known = known} {now = now} s some moment fault items desk gave drains =
    served_still s desk gave (deed.Drain known.session (is_nothing items)) (Err fault) phase.Denied
    (record {
      mine = drains.rest.none_added;
      given = drains.none_given.0 known.session;
      tells = drains.rest.tells;
      concerns = eq-eqb known.session known.session refl;
      calm = λ none. absurd (some none);
      is_phase = tt;
      since = λ some sending. refused_after known.session s.more
          (deed.Drain known.session (is_nothing items)) fault
          (eq-eqb known.session known.session refl);
    })
    (act_leaves known.session now desk gave drains.rest.pass
    (λ number other. drains.none_given.0 number)
    (λ number other. ap (is_open number) drains.rest.none_added))
