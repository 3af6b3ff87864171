-- From the end that a machine plans to the end of the service.
use Rattle.std.proofs.Common.{◌≡◌, ◌≢◌, ℕ, ◌^◌, ◌⊎◌, ◌==◌, ◌&&◌, ◌||◌, not, Bool, true, false, inl, inr, List, []}
use Rattle.std.proofs.Common.{◌∷◌, ◌++◌, length, Option, Some, None, Result, Ok, Err, refl, sym, ◌∙◌, ap, ap₂, subst}
use Rattle.std.proofs.Common.{append-nil, append_assoc, eq-eqb, ne_eqb, le-leb}
use Rattle.std.specs.Prelude.{⊤, IfErr, IfSome, IsSome, IsTrue}
use Rattle.std.specs.List.{AllByRecursion}
use Rattle.std.proofs.lemmas.List.Folds.{list_any-append}
use Rattle.kom_types.specs.declared.acts.Act.TheVariants as act
use Rattle.kom_types.specs.declared.acts.Record.{Record}
use Rattle.kom_types.specs.declared.answers.Why.TheVariants as why
use Rattle.kom_types.specs.declared.items.Item.{Item}
use Rattle.kom_types.specs.declared.items.Item.TheVariants as item
use Rattle.kom_types.specs.Printing.{print_of}
use Rattle.kom_types.specs.Stream.{stream_of}
use Rattle.kom_types.specs.Reading.{Request, fault_of}
use Rattle.kom_links.specs.declared.deeds.Deed.TheVariants as deed
use Rattle.kom_types.specs.declared.answers.NotMade.{NotMade}
use Rattle.kom_types.specs.declared.answers.NotMade.TheVariants as fault
use Rattle.kom_links.specs.declared.served.SessionEnd.{SessionEnd}
use Rattle.kom_links.specs.declared.served.SessionEnd.TheVariants as end
use Rattle.kom_links.specs.Answers.{Answer, first_fault_of}
use Rattle.kom_links.specs.Outside.{Look, with_bytes}
use Rattle.kom_links.specs.Doors.{Gains}
use Rattle.kom_links.specs.Records.{is_connect, is_open, has_connect, has_close, IsOpen}
use Rattle.kom_links.specs.DeskCalls.{DeskView, record_of, is_lock_full, IsLockFault, IsConnectFault}
use Rattle.kom_links.specs.DeskCalls.{Closes as ClosesOf}
use Rattle.kom_links.specs.Talk.{Step, Closes, steps_of, print_of_drains, lines_before, IsPrefix, IsDrained, AreTimed}
use Rattle.kom_links.specs.Talk.{IsTalk}
use Rattle.kom_session.specs.declared.phase.Phase.{Phase}
use Rattle.kom_session.specs.declared.phase.Phase.TheVariants as phase
use Rattle.kom_session.specs.Course.{IsSettled}
use Rattle.kom_session.specs.Ends.{IsOwn, IsUntouched, given_to, end_at, ending_with}
use Rattle.kom_session.specs.Known.{Known, Seen, sight, LeavesOthers, note_fault}
use Rattle.kom_session.specs.Left.{IsSending}
use Rattle.kom_session.specs.Serving.{Party, Nobody, Somebody, Past, owed_to, IsFaultAfter, IsSomebody, IsParty}
use Rattle.kom_session.specs.Serving.{IsPhase, IsSince, IsServed, Plans}
use Rattle.kom_session.specs.Kept.{IsOver}
use Rattle.kom_session.specs.Waits.{AreAnswered, NoneWaits}
use Rattle.kom_session.proofs.Answered.{with_answer, refused_push, since_kept}
use Rattle.kom_session.proofs.Times.{timed_more, timed_skip}
use Rattle.kom_session.proofs.Talks.{EndFacts, SilentFacts, settled_drained, settled_closed, talk_closed, talk_open}
use Rattle.kom_session.proofs.Talks.{talk_silent}
use Rattle.kom_session.proofs.Courses.{and_left, or_true, own_step-same}
use Rattle.kom_session.proofs.Others.{others_trans, others_open, act_leaves}
use Rattle.kom_session.proofs.Served.{first_nil}
use Rattle.kom_session.proofs.Steps.{steps_push, steps_connected}

-- ---- the facts of the end

silent_at_fault : (why : NotMade) (fed bytes : List ℕ) (ended : Bool) → bytes ≡ []
    → ((stream_of fed).greeting ≡ None) ⊎ IsConnectFault why
    → SilentFacts (end_at why) fed bytes ended
silent_at_fault (fault.Gone why.Absent) fed bytes ended nil known = inl nil
silent_at_fault (fault.Gone why.Dropped) fed bytes ended nil (inl none) = (none, nil)
silent_at_fault (fault.Gone why.Dropped) fed bytes ended nil (inr known) = absurd known
silent_at_fault (fault.Gone why.Overrun) fed bytes ended nil (inl none) = (none, nil)
silent_at_fault (fault.Gone why.Overrun) fed bytes ended nil (inr known) = absurd known
silent_at_fault (fault.Gone why.Stopped) fed bytes ended nil known = nil
silent_at_fault (fault.Full number) fed bytes ended nil known = nil
silent_at_fault fault.Memory fed bytes ended nil known = inl nil

-- without a session, some of what may be told
abbrev MayPut : List ℕ → List ℕ → Type 0
MayPut fed bytes =
    (bytes ≡ []) ⊎ (((stream_of fed).greeting ≡ None) × IsSome (fault_of fed)
    × IsPrefix bytes (print_of item.Fault))

may_put : (fed told bytes pending : List ℕ) → bytes ++ pending ≡ told → (told ≡ [])
    ⊎ (((stream_of fed).greeting ≡ None) × IsSome (fault_of fed) × (told ≡ print_of item.Fault))
    → MayPut fed bytes
may_put fed told bytes pending e (inl none) = inl (first_nil bytes pending (e ∙ none))
may_put fed told bytes pending e (inr (none, fault, all)) = inr (none, fault, (pending, e ∙ all))

all_put : (told bytes pending : List ℕ) → bytes ++ pending ≡ told → pending ≡ [] → bytes ≡ told
all_put told bytes pending e none =
    sym (append-nil bytes) ∙ ap (λ rest. bytes ++ rest) (sym none) ∙ e

silent_facts : (risen : Bool) (planned : SessionEnd) (cause : Option NotMade)
    (fed told bytes : List ℕ) (ended : Bool) (known : Known) → bytes ++ known.pending ≡ told
    → MayPut fed bytes →
    Plans planned cause (record { fed = fed; party = Nobody told }) known →
    (planned ≡ end.LinkFault → risen ≡ true) → (planned ≡ end.End → cause ≡ None → ended ≡ true)
    → SilentFacts (ending_with risen planned cause) fed bytes ended
silent_facts true planned cause fed told bytes ended known e may plan lost has_ended = may
silent_facts false end.End None fed told bytes ended known e may
    (none, (greeting, sound, nothing)) lost
    has_ended = (
      greeting,
      has_ended refl refl,
      sound,
      all_put told bytes known.pending e none
          ∙ nothing,
    )
silent_facts false end.End (Some reason) fed told bytes ended known e may
    (none, (nothing, which)) lost has_ended = silent_at_fault reason fed bytes ended
    (all_put told bytes known.pending e none ∙ nothing) which
silent_facts false (end.Broken place) None fed told bytes ended known e may
    (none, (greeting, fault, all)) lost
    has_ended = (greeting, fault, all_put told bytes known.pending e none ∙ all)
silent_facts false (end.Broken place) (Some reason) fed told bytes ended known e may
    (none, (nothing, which)) lost has_ended = silent_at_fault reason fed bytes ended
    (all_put told bytes known.pending e none ∙ nothing) which
silent_facts false end.LinkFault cause fed told bytes ended known e may plan lost has_ended =
    absurd (cc (lost refl))
silent_facts false end.Memory None fed told bytes ended known e may plan lost has_ended = may
silent_facts false end.Memory (Some reason) fed told bytes ended known e may plan lost has_ended =
    may
silent_facts false end.Overrun cause fed told bytes ended known e may plan lost has_ended =
    absurd plan
silent_facts false end.Dropped cause fed told bytes ended known e may plan lost has_ended =
    absurd plan
silent_facts false end.Stopped cause fed told bytes ended known e may plan lost has_ended =
    absurd plan
silent_facts false (end.Full number) cause fed told bytes ended known e may plan lost has_ended =
    absurd plan

session_at_fault : (why : NotMade) (fed bytes : List ℕ) (ended : Bool) (requests : List Request)
    (broken : Bool) (steps : List Step) (given : List (List Item)) → bytes ≡ print_of_drains given
    → EndFacts (end_at why) fed bytes ended requests broken steps given
session_at_fault (fault.Gone why.Absent) fed bytes ended requests broken steps given all = tt
session_at_fault (fault.Gone why.Dropped) fed bytes ended requests broken steps given all = all
session_at_fault (fault.Gone why.Overrun) fed bytes ended requests broken steps given all = all
session_at_fault (fault.Gone why.Stopped) fed bytes ended requests broken steps given all = all
session_at_fault (fault.Full number) fed bytes ended requests broken steps given all = all
session_at_fault fault.Memory fed bytes ended requests broken steps given all = tt

session_facts : (risen : Bool) (planned : SessionEnd) (cause : Option NotMade)
    (fed user bytes : List ℕ) (ended : Bool) (requests : List Request) (broken : Bool)
    (known : Known) (steps : List Step) (given : List (List Item)) →
    bytes ++ known.pending ≡ print_of_drains given → (known.phase ≡ phase.Calm → IsSettled steps)
    → Plans planned cause (record { fed = fed; party = Somebody user requests broken }) known →
    (planned ≡ end.LinkFault → risen ≡ true) → (planned ≡ end.End → cause ≡ None → ended ≡ true)
    → EndFacts (ending_with risen planned cause) fed bytes ended requests broken steps given
session_facts true planned cause fed user bytes ended requests broken known steps given e settled
    plan lost has_ended = tt
session_facts false end.End None fed user bytes ended requests broken known steps given e settled
    (none, (sound, count, calm)) lost has_ended = (
      has_ended refl refl,
      sound,
      count,
      all_put (print_of_drains given) bytes known.pending e none,
      settled
          calm,
    )
session_facts false end.End (Some reason) fed user bytes ended requests broken known steps given e
    settled (none, done) lost has_ended =
    session_at_fault reason fed bytes ended requests broken steps given
    (all_put (print_of_drains given) bytes known.pending e none)
session_facts false (end.Broken place) None fed user bytes ended requests broken known steps given e
    settled (none, (told, fault, calm)) lost has_ended =
    (told, fault.0, fault.1, all_put (print_of_drains given) bytes known.pending e none, settled calm)
session_facts false (end.Broken place) (Some reason) fed user bytes ended requests broken known
    steps given e settled (none, done) lost has_ended =
    session_at_fault reason fed bytes ended requests broken steps given
    (all_put (print_of_drains given) bytes known.pending e none)
session_facts false end.LinkFault cause fed user bytes ended requests broken known steps given e
    settled plan lost has_ended = absurd (cc (lost refl))
session_facts false end.Memory None fed user bytes ended requests broken known steps given e settled
    plan lost has_ended = tt
session_facts false end.Memory (Some reason) fed user bytes ended requests broken known steps given
    e settled plan lost has_ended = tt
session_facts false end.Overrun cause fed user bytes ended requests broken known steps given e
    settled plan lost has_ended = absurd plan
session_facts false end.Dropped cause fed user bytes ended requests broken known steps given e
    settled plan lost has_ended = absurd plan
session_facts false end.Stopped cause fed user bytes ended requests broken known steps given e
    settled plan lost has_ended = absurd plan
session_facts false (end.Full number) cause fed user bytes ended requests broken known steps given e
    settled plan lost has_ended = absurd plan

-- a fault that the Close met counts too
plan_later : (planned : SessionEnd) (cause : Option NotMade) (reason : NotMade)
    (fed user : List ℕ) (requests : List Request) (broken : Bool) (known : Known) →
    Plans planned cause (record { fed = fed; party = Somebody user requests broken }) known
    → Plans planned (note_fault cause reason)
    (record { fed = fed; party = Somebody user requests broken }) known
plan_later planned (Some first) reason fed user requests broken known plan = plan
plan_later end.End None reason fed user requests broken known plan = (plan.0, tt)
plan_later (end.Broken place) None reason fed user requests broken known plan = (plan.0, tt)
plan_later end.LinkFault None reason fed user requests broken known plan = tt
plan_later end.Memory None reason fed user requests broken known plan = tt
plan_later end.Overrun None reason fed user requests broken known plan = plan
plan_later end.Dropped None reason fed user requests broken known plan = plan
plan_later end.Stopped None reason fed user requests broken known plan = plan
plan_later (end.Full number) None reason fed user requests broken known plan = plan

-- a session that is open over these records was connected by them, whatever comes after
connected_more : (session : ℕ) (added : List Record) (last : Record) → IsOpen session added
    → has_connect session (added ++ last ∷ []) ≡ true
connected_more session added last is_open =
    list_any-append (λ made. is_connect made.entry.act && made.session == session) added (last ∷ [])
    ∙ or_true (has_connect session added) (has_connect session (last ∷ []))
    (and_left (has_connect session added) (not (has_close session added)) is_open)

of_some : (none : Bool) (given : List (List Item)) → none ≡ false
    → elim none [ true ↦ [] | false ↦ given ] ≡ given
of_some true given e = absurd (cc)
of_some false given e = refl

given_some : (session : ℕ) (given : List (List Item)) → session ≢ 0 → given_to session given ≡ given
given_some session given some = of_some (session == 0) given (ne_eqb session 0 some)

flat : (fed : List ℕ) (requests : List Request) (fault : Bool)
    → (fault ≡ true → ((place : ℕ) × IsFaultAfter fed place requests)) →
    fault ≡ true → ((place : ℕ) × (fault_of fed ≡ Some place)
    × (length requests ≡ lines_before place (stream_of fed).lines))
flat fed requests fault at_fault e = let found = at_fault e in (found.0, found.1.0, found.1.1)

-- what is told of a service at its end
pub record Told (start : Seen) (fed : List ℕ) (session : ℕ) (cause : Option NotMade)
    (reached : Phase) (after : Seen) (final : SessionEnd) : Type 0 where
  pub added : List Record
  pub more : List Answer
  pub bytes : List ℕ
  pub mine : after.desk.mine ≡ start.desk.mine ++ added
  pub answers : after.desk.answers ≡ start.desk.answers ++ more
  pub own : AllByRecursion (IsOwn session) added
  pub connects : session ≢ 0 → IsTrue (has_connect session added)
  pub timed : AreTimed start.gave after.gave added
  pub taken : after.link.taken ≡ with_bytes fed start.link.taken
  pub put : after.link.put ≡ with_bytes bytes start.link.put
  pub talk : IsTalk start.link.host fed bytes after.link.ended added session
      (given_to session (after.desk.gave_to session)) final after.desk.lock_full
  pub waits : IfSome after.link.reads
      (λ looks. NoneWaits
      (steps_of session added (given_to session (after.desk.gave_to session))) looks)
  pub drained : session ≢ 0 → reached ≡ phase.Calm
      → IsDrained (steps_of session added (given_to session (after.desk.gave_to session)))
  pub cause_is : first_fault_of session more ≡ cause
  pub since : session ≢ 0 → IsSending cause → IsSince reached session more
  pub others : LeavesOthers session start after
  pub untouched : IsUntouched start.link

-- a look's place, whatever comes after it
waits_so : (told : Option (List Look)) (waited : Bool) (place after steps : List Step)
    → steps ≡ place ++ after → IfSome told (λ looks. AreAnswered false [] looks waited place)
    → IfSome told (λ looks. NoneWaits steps looks)
waits_so None waited place after steps e looked = tt
waits_so (Some looks) waited place after steps e looked = (waited, place, after, looked, e)

-- no session was connected
pub silent_told : {start : Seen} {past : Past} {known : Known} {now : Seen} {planned : SessionEnd}
    (s : IsServed start past known now) → IsOver start past known now planned
    → known.session ≡ 0 → (risen : Bool) → AreTimed start.gave now.gave s.added →
    (planned ≡ end.LinkFault → risen ≡ true)
    → (planned ≡ end.End → known.cause ≡ None → now.link.ended ≡ true)
    → Told start past.fed known.session known.cause known.phase now (ending_with risen planned known.cause)
silent_told {start} {past} {known} {now} {planned} s over none risen timed lost has_ended =
    go past.party s.party s.owed over.plan
  where
    go : (party : Party) → IsParty past.fed party start known now s.added
        → s.bytes ++ known.pending ≡ owed_to party (now.desk.gave_to known.session) →
        Plans planned known.cause (record { fed = past.fed; party = party }) known
        → Told start past.fed known.session known.cause known.phase now (ending_with risen planned known.cause)
    go (Nobody told) is owed plan =
        let talk : IsTalk start.link.host past.fed s.bytes now.link.ended [] 0
        (given_to 0 (now.desk.gave_to known.session))
        (ending_with risen planned known.cause) now.desk.lock_full
        =
        talk_silent (ending_with risen planned known.cause) start.link.host past.fed s.bytes
        now.link.ended now.desk.lock_full
        (silent_facts risen planned known.cause past.fed told s.bytes now.link.ended known owed
        (may_put past.fed told s.bytes known.pending owed is.may_tell) plan lost has_ended) in
        let steps : [] ≡ s.place ++ s.recent =
        ap (λ added. steps_of known.session added (now.desk.gave_to known.session))
        (sym is.nothing) ∙ s.steps in
        record {
          added = [];
          more = s.more;
          bytes = s.bytes;
          mine = s.mine ∙ ap (λ added. start.desk.mine ++ added) is.nothing;
          answers = s.answers;
          own = tt;
          connects = λ some. absurd (some none);
          timed = subst (λ added. AreTimed start.gave now.gave added) is.nothing timed;
          taken = s.taken;
          put = s.put;
          talk =
              subst (λ (session : ℕ). IsTalk start.link.host past.fed s.bytes
              now.link.ended [] session (given_to session (now.desk.gave_to known.session))
              (ending_with risen planned known.cause) now.desk.lock_full) (sym none) talk;
          waits = waits_so now.link.reads s.waited s.place s.recent [] steps s.looked;
          drained = λ some calm. absurd (some none);
          cause_is = s.cause;
          since = s.since;
          others = s.others;
          untouched = s.untouched;
        }
    go (Somebody user requests broken) is owed plan = absurd (is.some none)

settled_of : {start : Seen} {past : Past} {known : Known} {now : Seen}
    (s : IsServed start past known now) → s.place ++ s.recent ≢ [] → known.phase ≡ phase.Calm
    → IsSettled (s.place ++ s.recent)
settled_of s some calm =
    let is : IsPhase phase.Calm s.waited s.place s.recent =
    subst (λ reached. IsPhase reached s.waited s.place s.recent) calm s.phase in
    elim is.0 [ inl none ↦ absurd (some none) | inr settled ↦ settled ]

full_now : (old : Bool) (reason : NotMade) → IsLockFault reason
    → (old || is_lock_full {X = ⊤} (Err reason)) ≡ true
full_now true reason is = refl
full_now false (fault.Gone reason) is = absurd is
full_now false (fault.Full number) is = le-leb (2 ^ 62) number is
full_now false fault.Memory is = absurd is

own_push : {session : ℕ} (added : List Record) → AllByRecursion (IsOwn session) added
    → (made : Record) → made.session ≡ session → AllByRecursion (IsOwn session) (added ++ made ∷ [])
own_push [] own made of = (inl of, tt)
own_push (first ∷ added) own made of = (own.0, own_push added own.1 made of)

-- the Close meets no fault after which what waits is still sent
closed_sending : (cause : Option NotMade) (answer : Result ⊤ NotMade)
    → IfErr answer IsLockFault → IsSending (with_answer cause answer) → IsSending cause
closed_sending (Some first) (Ok done) may sending = sending
closed_sending (Some first) (Err reason) may sending = sending
closed_sending None (Ok done) may sending = sending
closed_sending None (Err (fault.Gone reason)) may sending = absurd may
closed_sending None (Err (fault.Full number)) may sending = absurd sending
closed_sending None (Err fault.Memory) may sending = absurd may

-- a session was closed, or no turn of the lock is left
pub session_told : {start : Seen} {past : Past} {known : Known} {now : Seen} {planned : SessionEnd}
    (s : IsServed start past known now) → IsOver start past known now planned
    → known.session ≢ 0 → (risen : Bool) → AreTimed start.gave now.gave s.added →
    (moment : ℕ) (answer : Result ⊤ NotMade) (desk : DeskView) (gave : Option (List ℕ))
    → ClosesOf now.desk moment known.session answer desk → Gains now.gave moment gave →
    (planned ≡ end.LinkFault → risen ≡ true)
    → (planned ≡ end.End → with_answer known.cause answer ≡ None → now.link.ended ≡ true) →
    Told start past.fed known.session (with_answer known.cause answer) known.phase
    (sight desk now.link gave) (ending_with risen planned (with_answer known.cause answer))
session_told {start} {past} {known} {now} {planned} s over some risen timed moment answer desk gave
    closes gains lost has_ended = go past.party s.party s.owed over.plan answer closes has_ended
  where
    given : List (List Item)
    given = now.desk.gave_to known.session

    leaves : (answer : Result ⊤ NotMade) → ClosesOf now.desk moment known.session answer desk
        → ((number : ℕ) → number ≢ known.session
        → is_open number desk.mine ≡ is_open number now.desk.mine)
        → LeavesOthers known.session start (sight desk now.link gave)
    leaves answer closes opened =
        others_trans s.others
        (act_leaves known.session now desk gave closes.rest.pass
        (λ number other. closes.given number) opened)

    begun : (user : List ℕ) (requests : List Request) (broken : Bool)
        → IsSomebody start.link.host past.fed user requests broken known.session now.desk.mine
        s.added given → s.place ++ s.recent ≡ [] → ⊥
    begun user requests broken is none =
        let first = is.course.connected in
        cc (
          none,
          sym s.steps
              ∙ ap (λ added. steps_of known.session added (now.desk.gave_to known.session)) first.2
              ∙ steps_connected known.session user start.link.host first.0 first.1
              (now.desk.gave_to known.session) first.3 first.4,
        )

    tells : (answer : Result ⊤ NotMade) → desk.answers
        ≡ now.desk.answers ++ (deed.Close known.session, answer) ∷ []
        → desk.answers ≡ start.desk.answers ++ (s.more ++ (deed.Close known.session, answer) ∷ [])
    tells answer told =
        told ∙ ap (λ first. first ++ (deed.Close known.session, answer) ∷ []) s.answers
        ∙ append_assoc start.desk.answers s.more ((deed.Close known.session, answer) ∷ [])

    cause : (answer : Result ⊤ NotMade)
        → first_fault_of known.session (s.more ++ (deed.Close known.session, answer) ∷ [])
        ≡ with_answer known.cause answer
    cause answer =
        refused_push known.session s.more (deed.Close known.session) answer
        (eq-eqb known.session known.session refl)
        ∙ ap (λ cause. with_answer cause answer) s.cause

    since : (answer : Result ⊤ NotMade) → IfErr answer IsLockFault
        → IsSending (with_answer known.cause answer) → IsSince known.phase known.session
        (s.more ++ (deed.Close known.session, answer) ∷ [])
    since answer may sending =
        since_kept known.phase known.session s.more ((deed.Close known.session, answer) ∷ [])
        (s.since some (closed_sending known.cause answer may sending))

    go : (party : Party) → IsParty past.fed party start known now s.added
        → s.bytes ++ known.pending ≡ owed_to party given →
        Plans planned known.cause (record { fed = past.fed; party = party }) known
        → (answer : Result ⊤ NotMade) → ClosesOf now.desk moment known.session answer desk →
        (planned ≡ end.End → with_answer known.cause answer ≡ None → now.link.ended ≡ true)
        → Told start past.fed known.session (with_answer known.cause answer) known.phase
        (sight desk now.link gave) (ending_with risen planned (with_answer known.cause answer))
    go (Nobody told) is owed plan answer closes has_ended = absurd (some is.none)
    go (Somebody user requests broken) is owed plan (Ok done) closes has_ended =
        let last : Record =
        record_of now.desk.pass moment (act.Close known.session) known.session false in
        let now_given : given_to known.session (desk.gave_to known.session) ≡ given =
        given_some known.session (desk.gave_to known.session) some
        ∙ closes.given known.session in
        let all : steps_of known.session (s.added ++ last ∷ []) given ≡ s.place
        ++ (s.recent ++ Closes ∷ [])
        =
        steps_push known.session s.added (last ∷ []) given is.course.drains
        ∙ ap₂ (λ first rest. first ++ rest) s.steps (own_step-same known.session Closes [])
        ∙ append_assoc s.place s.recent (Closes ∷ []) in
        record {
          added = s.added ++ last ∷ [];
          more = s.more ++ (deed.Close known.session, Ok tt) ∷ [];
          bytes = s.bytes;
          mine =
              closes.added ∙ ap (λ first. first ++ last ∷ []) s.mine
              ∙ append_assoc start.desk.mine s.added (last ∷ []);
          answers = tells (Ok tt) closes.rest.tells;
          own = own_push s.added s.own last refl;
          connects = λ some. connected_more known.session s.added last is.course.is_open;
          timed = timed_more start.gave now.gave gave s.added moment last timed gains refl;
          taken = s.taken;
          put = s.put;
          talk =
              subst (λ (given : List (List Item)). IsTalk start.link.host past.fed s.bytes
              now.link.ended (s.added ++ last ∷ []) known.session given
              (ending_with risen planned known.cause) desk.lock_full) (sym now_given)
              (talk_closed (ending_with risen planned known.cause) past.fed
              s.bytes now.link.ended desk.lock_full now.desk.pass moment some is.course
              is.first.greeting is.first.calls (known.pending, owed)
              (flat past.fed requests broken is.at_fault)
              (session_facts risen planned known.cause past.fed user s.bytes
              now.link.ended requests broken known (steps_of known.session s.added given) given
              owed
              (λ calm. subst (λ steps. IsSettled steps) (sym s.steps)
              (settled_of s (begun user requests broken is) calm)) plan lost has_ended));
          waits =
              subst (λ (given : List (List Item)). IfSome now.link.reads
              (λ looks. NoneWaits (steps_of known.session (s.added ++ last ∷ []) given) looks))
              (sym now_given)
              (waits_so now.link.reads s.waited s.place (s.recent ++ Closes ∷ [])
              (steps_of known.session (s.added ++ last ∷ []) given) all s.looked);
          drained =
              λ some calm. subst (λ (given : List (List Item)). IsDrained
              (steps_of known.session (s.added ++ last ∷ []) given)) (sym now_given)
              (subst (λ steps. IsDrained steps)
              (sym (all ∙ sym (append_assoc s.place s.recent (Closes ∷ []))))
              (settled_drained ((s.place ++ s.recent) ++ Closes ∷ [])
              (settled_closed (s.place ++ s.recent)
              (settled_of s (begun user requests broken is) calm))));
          cause_is = cause (Ok tt);
          since = λ some. since (Ok tt) tt;
          others =
              leaves (Ok done) closes
              (λ number other. ap (is_open number) closes.added
              ∙ others_open number now.desk.mine last (λ e. other (sym e)));
          untouched = s.untouched;
        }
    go (Somebody user requests broken) is owed plan (Err reason) closes has_ended =
        let now_given : given_to known.session (desk.gave_to known.session) ≡ given =
        given_some known.session (desk.gave_to known.session) some
        ∙ closes.given known.session in
        record {
          added = s.added;
          more = s.more ++ (deed.Close known.session, Err reason) ∷ [];
          bytes = s.bytes;
          mine = closes.rest.none_added ∙ s.mine;
          answers = tells (Err reason) closes.rest.tells;
          own = s.own;
          connects =
              λ some. and_left (has_connect known.session s.added)
              (not (has_close known.session s.added)) is.course.is_open;
          timed = timed_skip start.gave now.gave gave s.added moment timed gains;
          taken = s.taken;
          put = s.put;
          talk =
              subst (λ (given : List (List Item)). IsTalk start.link.host past.fed s.bytes
              now.link.ended s.added known.session given
              (ending_with risen planned (note_fault known.cause reason)) desk.lock_full) (sym now_given)
              (talk_open (ending_with risen planned (note_fault known.cause reason)) past.fed s.bytes
              now.link.ended desk.lock_full some is.course is.first.greeting is.first.calls
              (known.pending, owed) (flat past.fed requests broken is.at_fault)
              (session_facts risen planned (note_fault known.cause reason) past.fed
              user s.bytes now.link.ended requests broken known
              (steps_of known.session s.added given) given owed
              (λ calm. subst (λ steps. IsSettled steps) (sym s.steps)
              (settled_of s (begun user requests broken is) calm))
              (plan_later planned known.cause reason past.fed user requests broken known plan) lost
              has_ended)
              (closes.rest.lock_full ∙ full_now now.desk.lock_full reason closes.why));
          waits =
              subst (λ (given : List (List Item)). IfSome now.link.reads
              (λ looks. NoneWaits (steps_of known.session s.added given) looks)) (sym now_given)
              (waits_so now.link.reads s.waited s.place s.recent
              (steps_of known.session s.added given) s.steps s.looked);
          drained =
              λ some calm. subst (λ (given : List (List Item)). IsDrained
              (steps_of known.session s.added given)) (sym now_given)
              (subst (λ steps. IsDrained steps) (sym s.steps)
              (settled_drained (s.place ++ s.recent)
              (settled_of s (begun user requests broken is) calm)));
          cause_is = cause (Err reason);
          since = λ some. since (Err reason) closes.why;
          others =
              leaves (Err reason) closes
              (λ number other. ap (is_open number) closes.rest.none_added);
          untouched = s.untouched;
        }
