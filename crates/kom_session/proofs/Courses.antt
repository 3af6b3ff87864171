-- The service of a session, one record more at a time.
use Rattle.std.proofs.Common.{◌≡◌, ◌≢◌, ℕ, ◌+◌, ◌<◌, ◌⊎◌, arith, Bool, true, false, not, ◌&&◌, ◌||◌, IsTrue, ◌==◌, inl}
use Rattle.std.proofs.Common.{inr, List, [], ◌∷◌, ◌++◌, length, length-append, refl, sym, ◌∙◌, ap, ap₂, subst, subst₂}
use Rattle.std.proofs.Common.{append-nil, append_assoc, eq-eqb}
use Rattle.std.specs.List.{list_all, list_any}
use Rattle.std.proofs.lemmas.List.Folds.{list_all-append, list_any-append}
use Rattle.kom_types.specs.declared.acts.Act.TheVariants as act
use Rattle.kom_types.specs.declared.acts.Record.{Record}
use Rattle.kom_types.specs.declared.items.Item.{Item}
use Rattle.kom_types.specs.declared.calls.Call.{Call}
use Rattle.kom_types.specs.Reading.{Request}
use Rattle.kom_links.specs.Records.{is_connect, is_close, has_connect, has_close, has_session, IsOpen}
use Rattle.kom_links.specs.DeskCalls.{record_of}
use Rattle.kom_links.specs.Talk.{Step, Connects, Asks, Breaks, Flushes, Drains, own_step, steps_of, requests_in}
use Rattle.kom_links.specs.Talk.{drains_in, breaks_in, Settles, IsSpaced}
use Rattle.kom_session.specs.Course.{is_still, IsFlushed, IsSettled, IsRecent, IsAtFault, IsCourse}
use Rattle.kom_session.proofs.Steps.{requests_in-append, drains_in-append, breaks_in-append, push_split, append_split}
use Rattle.kom_session.proofs.Steps.{steps-append}

-- ---- tests

pub and_left : (a b : Bool) → (a && b) ≡ true → a ≡ true
and_left true b e = refl
and_left false b e = e

pub and_right : (a b : Bool) → (a && b) ≡ true → b ≡ true
and_right true b e = e
and_right false b e = cc

pub both : (a b : Bool) → a ≡ true → b ≡ true → (a && b) ≡ true
both true b p q = q
both false b p q = p

or_left : (a b : Bool) → (a || b) ≡ false → a ≡ false
or_left true b e = e
or_left false b e = refl

or_right : (a b : Bool) → (a || b) ≡ false → b ≡ false
or_right true b e = cc
or_right false b e = e

pub or_true : (a b : Bool) → a ≡ true → (a || b) ≡ true
or_true true b e = refl
or_true false b e = cc

none_so : (a b c : Bool) → b ≡ false → c ≡ false → ((a && b) || c) ≡ false
none_so true b c p q = ap (λ x. x || c) p ∙ q
none_so false b c p q = q

still_none : (a b c : Bool) → not a ≡ true → b ≡ false → not (a || ((b && c) || false)) ≡ true
still_none true b c p q = p
still_none false true c p q = cc
still_none false false c p q = refl

-- where no element passes a test, none passes it and another
none_of : {X : Type 0} (p q : X → Bool) (xs : List X) → list_any q xs ≡ false
    → list_any (λ x. p x && q x) xs ≡ false
none_of p q [] e = refl
none_of p q (x ∷ xs) e =
    none_so (p x) (q x) (list_any (λ x. p x && q x) xs) (or_left (q x) (list_any q xs) e)
    (none_of p q xs (or_right (q x) (list_any q xs) e))

-- ---- the last step of some

nil_inside : (before tail : List Step) (step : Step) → [] ≡ before ++ step ∷ tail → ⊥
nil_inside [] tail step e = cc
nil_inside (first ∷ before) tail step e = cc

-- a step that is not still is not among steps that are
not_among : (steps before tail : List Step) (step : Step) → IsTrue (list_all is_still steps)
    → is_still step ≡ false → steps ≡ before ++ step ∷ tail → ⊥
not_among steps before tail step still moves e =
    go before (ap (list_all is_still) (sym e) ∙ still)
  where
    go : (prefix : List Step) → list_all is_still (prefix ++ step ∷ tail) ≡ true → ⊥
    go [] h = cc (moves, and_left (is_still step) (list_all is_still tail) h)
    go (first ∷ prefix) h =
        go prefix (and_right (is_still first) (list_all is_still (prefix ++ step ∷ tail)) h)

-- the flush and the drain of a settled session stand after all that is not still
pub settled_tail : (steps : List Step) → IsSettled steps
    → (before tail : List Step) (step : Step) → is_still step ≡ false
    → steps ≡ before ++ step ∷ tail → Settles tail
settled_tail steps settled before tail step moves e =
    elim (append_split (settled.0 ++ Flushes ∷ settled.1) (Drains [] ∷ settled.2) before tail step
    (sym settled.3 ∙ e)) [
      | inl prefix ↦ elim (append_split settled.0 (Flushes ∷ settled.1) before prefix.0 step
          prefix.1) [
            | inl inner ↦ (
              inner.0,
              settled.1,
              settled.2,
              prefix.2
                  ∙ ap (λ steps. steps ++ Drains [] ∷ settled.2) inner.2,
            )
            | inr inner ↦ absurd
                (not_among (Flushes ∷ settled.1) inner.0 prefix.0 step settled.4 moves inner.1)
          ]
      | inr rear ↦ absurd
          (not_among (Drains [] ∷ settled.2) rear.0 tail step settled.5 moves rear.1)
    ]

settles_more : (prefix rear : List Step) → Settles prefix → Settles (prefix ++ rear)
settles_more prefix rear settles = (
  settles.0,
  settles.1,
  settles.2 ++ rear,
  ap (λ steps. steps ++ rear) settles.3
      ∙ append_assoc (settles.0 ++ Flushes ∷ settles.1) (Drains [] ∷ settles.2) rear,
)

spaced_more : (steps : List Step) (step : Step) → IsSpaced steps →
    ((before between : List Step) (first fourth : Request) → step ≡ Asks fourth
    → steps ≡ before ++ Asks first ∷ between →
    length (requests_in between) ≡ 3 → Settles between) → IsSpaced (steps ++ step ∷ [])
spaced_more steps step spaced last before between after first fourth e three =
    elim (push_split steps (before ++ Asks first ∷ between) after step (Asks fourth) e) [
      | inl at_end ↦ last before between first fourth at_end.1 at_end.2 three
      | inr inside ↦ spaced before between inside.0 first fourth inside.2 three
    ]

pub spaced_other : (steps : List Step) (step : Step) → requests_in (step ∷ []) ≡ [] → IsSpaced steps
    → IsSpaced (steps ++ step ∷ [])
spaced_other steps step none spaced = spaced_more steps step spaced
    (λ before between first fourth same e three. absurd
    (cc (none, ap (λ (step : Step). requests_in (step ∷ [])) same)))

no_request : (before after : List Request) (request : Request) → [] ≡ before ++ request ∷ after → ⊥
no_request [] after request e = cc
no_request (first ∷ before) after request e = cc

-- a call after fewer than four since the last that was settled
pub spaced_call : (steps : List Step) (lines : ℕ) (request : Request) → IsSpaced steps
    → IsRecent lines steps → lines < 4 → IsSpaced (steps ++ Asks request ∷ [])
spaced_call steps lines request spaced (settled, recent, joined, which, count) few =
    spaced_more steps (Asks request) spaced (λ before between first fourth same e three.
    go before between first three
    (append_split settled recent before between (Asks first) (sym joined ∙ e)))
  where
    old : (before rest : List Step) (first : Request) → settled ≡ before ++ Asks first ∷ rest
        → Settles rest
    old before rest first e = elim which [
      | inl none ↦ absurd
          (no_request (requests_in before) (requests_in rest) first
          (sym none ∙ ap requests_in e ∙ requests_in-append before (Asks first ∷ rest)))
      | inr done ↦ settled_tail settled done before rest (Asks first) refl e
    ]

    go : (before between : List Step) (first : Request) → length (requests_in between) ≡ 3 →
        ((rest : List Step) × (settled ≡ before ++ Asks first ∷ rest)
        × (between ≡ rest ++ recent)) ⊎
        ((rest : List Step) × (recent ≡ rest ++ Asks first ∷ between) × (before ≡ settled ++ rest))
        → Settles between
    go before between first three (inl (rest, e, p)) =
        subst (λ steps. Settles steps) (sym p) (settles_more rest recent (old before rest first e))
    go before between first three (inr (rest, e, p)) =
        let all : length (requests_in recent)
        ≡ length (requests_in rest) + (1 + length (requests_in between))
        =
        ap (λ steps. length (requests_in steps)) e
        ∙ ap length (requests_in-append rest (Asks first ∷ between))
        ∙ length-append (requests_in rest) (first ∷ requests_in between)
        ∙ ap (λ n. length (requests_in rest) + n) (omega arith) in
        absurd (omega arith)

-- ---- what was called since the last that was settled

pub recent_settled : (steps : List Step) → (steps ≡ []) ⊎ IsSettled steps → IsRecent 0 steps
recent_settled steps (inl none) =
    (steps, [], sym (append-nil steps), inl (ap requests_in none), refl)
recent_settled steps (inr settled) = (steps, [], sym (append-nil steps), inr settled, refl)

pub recent_other : (lines : ℕ) (steps : List Step) (step : Step) → requests_in (step ∷ []) ≡ []
    → IsRecent lines steps → IsRecent lines (steps ++ step ∷ [])
recent_other lines steps step none (settled, recent, e, which, count) = (
  settled,
  recent ++ step ∷ [],
  ap (λ prefix. prefix ++ step ∷ []) e ∙ append_assoc settled recent (step ∷ []),
  which,
  ap length (requests_in-append recent (step ∷ []) ∙ ap (λ rest. requests_in recent ++ rest) none
      ∙ append-nil (requests_in recent)) ∙ count,
)

pub recent_call : (lines : ℕ) (steps : List Step) (request : Request) → IsRecent lines steps
    → IsRecent (lines + 1) (steps ++ Asks request ∷ [])
recent_call lines steps request (settled, recent, e, which, count) = (
  settled,
  recent ++ Asks request ∷ [],
  ap (λ prefix. prefix ++ Asks request ∷ []) e ∙ append_assoc settled recent (Asks request ∷ []),
  which,
  ap length (requests_in-append recent (Asks request ∷ []))
      ∙ length-append (requests_in recent) (request ∷ []) ∙ ap (λ n. n + 1) count,
)

pub flushed_push : (steps : List Step) → IsFlushed (steps ++ Flushes ∷ [])
flushed_push steps = (steps, [], refl, refl)

pub flushed_drained : (steps : List Step) (items : List Item) → IsFlushed steps
    → IsFlushed (steps ++ Drains items ∷ [])
flushed_drained steps items (before, after, e, still) = (
  before,
  after ++ Drains items ∷ [],
  ap (λ prefix. prefix ++ Drains items ∷ []) e
      ∙ append_assoc before (Flushes ∷ after) (Drains items ∷ []),
  list_all-append is_still after (Drains items ∷ []) ∙ ap (λ prefix. prefix && true) still,
)

pub settled_drained : (steps : List Step) → IsFlushed steps → IsSettled (steps ++ Drains [] ∷ [])
settled_drained steps (before, after, e, still) =
    (before, after, [], ap (λ prefix. prefix ++ Drains [] ∷ []) e, still, refl, refl)

pub settled_after : (place recent : List Step) → IsSettled recent → IsSettled (place ++ recent)
settled_after place recent (before, between, after, e, still, rest, drains) = (
  place ++ before,
  between,
  after,
  ap (λ recent. place ++ recent) e
      ∙ sym (append_assoc place (before ++ Flushes ∷ between) (Drains [] ∷ after))
      ∙ ap (λ prefix. prefix ++ Drains [] ∷ after)
      (sym (append_assoc place before (Flushes ∷ between))),
  still,
  rest,
  drains,
)

pub settled_settles : (steps : List Step) → IsSettled steps → Settles steps
settled_settles steps (before, between, after, e, still, rest, drains) = (before, between, after, e)

still_breaks : (step : Step) → IsTrue (is_still step) → breaks_in (step ∷ []) ≡ 0
still_breaks Breaks still = cc
still_breaks _ still = refl

still_requests : (step : Step) → IsTrue (is_still step) → requests_in (step ∷ []) ≡ []
still_requests (Asks request) still = cc
still_requests _ still = refl

pub fault_still : (fault : Bool) (steps : List Step) (step : Step) → IsTrue (is_still step)
    → IsAtFault fault steps → IsAtFault fault (steps ++ step ∷ [])
fault_still false steps step still none =
    breaks_in-append steps (step ∷ []) ∙ ap₂ (λ m n. m + n) none (still_breaks step still)
fault_still true steps step still at = (
  at.0,
  at.1 ++ step ∷ [],
  ap (λ prefix. prefix ++ step ∷ []) at.2 ∙ append_assoc at.0 (Breaks ∷ at.1) (step ∷ []),
  at.3,
  breaks_in-append at.1 (step ∷ []) ∙ ap₂ (λ m n. m + n) at.4 (still_breaks step still),
  requests_in-append at.1 (step ∷ []) ∙ ap₂ (λ m n. m ++ n) at.5 (still_requests step still),
)

pub open_push : (session : ℕ) (added : List Record) (made : Record)
    → is_close made.entry.act ≡ false → IsOpen session added → IsOpen session (added ++ made ∷ [])
open_push session added made other is_open =
    both (has_connect session (added ++ made ∷ [])) (not (has_close session (added ++ made ∷ [])))
    (list_any-append (λ made. is_connect made.entry.act && made.session == session) added
    (made ∷ [])
    ∙ or_true (has_connect session added) (has_connect session (made ∷ []))
    (and_left (has_connect session added) (not (has_close session added)) is_open))
    (ap not (list_any-append (λ made. is_close made.entry.act && made.session == session) added
    (made ∷ []))
    ∙ still_none (has_close session added) (is_close made.entry.act) (made.session == session)
    (and_right (has_connect session added) (not (has_close session added)) is_open) other)

-- ---- one record more

pub own_step-same : (session : ℕ) (step : Step) (steps : List Step)
    → own_step (session == session) step steps ≡ step ∷ steps
own_step-same session step steps = ap (λ own. own_step own step steps) (eq-eqb session session refl)

pub drain_steps : (session pass moment : ℕ) (items : List Item) →
    steps_of session (record_of pass moment (act.Drain session) session false ∷ []) (items ∷ [])
    ≡ Drains items ∷ []
drain_steps session pass moment items = go (session == session) (eq-eqb session session refl)
  where
    go : (own : Bool) → own ≡ true
        → elim own [ true ↦ Drains items ∷ [] | false ↦ [] ] ≡ Drains items ∷ []
    go true e = refl
    go false e = cc

-- the steps with one more
more_steps : {session : ℕ} {host user : List ℕ} {requests : List
    Request} {fault : Bool} {added : List Record} {given : List (List Item)} →
    IsCourse session host user requests fault added given
    → (made : Record) (more : List (List Item)) (step : Step) →
    steps_of session (made ∷ []) more ≡ step ∷ [] →
    steps_of session (added ++ made ∷ []) (given ++ more) ≡ steps_of session added given
    ++ step ∷ []
more_steps {session} {added = added} {given = given} course made more step e =
    steps-append session added (made ∷ []) given more course.drains
    ∙ ap (λ rest. steps_of session added given ++ rest) e

course_more : {session : ℕ} {host user : List ℕ} {requests : List
    Request} {fault : Bool} {added : List Record} {given : List (List Item)} →
    IsCourse session host user requests fault added given
    → (made : Record) (more : List (List Item)) (step : Step) →
    steps_of session (made ∷ []) more ≡ step ∷ [] → drains_in (step ∷ []) ≡ length more
    → is_close made.entry.act ≡ false →
    (fault' : Bool) → IsAtFault fault' (steps_of session added given ++ step ∷ [])
    → IsSpaced (steps_of session added given ++ step ∷ []) →
    IsCourse session host user (requests ++ requests_in (step ∷ [])) fault' (added ++ made ∷ [])
    (given ++ more)
course_more {session} {added = added} {given = given} course made more step e drains other
    fault' at_fault spaced =
    let connected = course.connected in
    let all = more_steps course made more step e in
    record {
      connected = (
        connected.0,
        connected.1
            ++ made ∷ [],
        ap (λ prefix. prefix ++ made ∷ []) connected.2,
        connected.3,
        connected.4,
      );
      asked =
          ap requests_in all ∙ requests_in-append (steps_of session added given) (step ∷ [])
          ∙ ap (λ prefix. prefix ++ requests_in (step ∷ [])) course.asked;
      drains =
          ap drains_in all ∙ drains_in-append (steps_of session added given) (step ∷ [])
          ∙ ap₂ (λ m n. m + n) course.drains drains ∙ sym (length-append given more);
      at_fault = subst (λ steps. IsAtFault fault' steps) (sym all) at_fault;
      spaced = subst (λ steps. IsSpaced steps) (sym all) spaced;
      is_open = open_push session added made other course.is_open;
    }

course_as : {session : ℕ} {host user : List ℕ} {requests requests' : List
    Request} {fault : Bool} {added : List Record} {given given' : List (List Item)} →
    IsCourse session host user requests fault added given → requests ≡ requests' → given ≡ given'
    → IsCourse session host user requests' fault added given'
course_as {session} {host} {user} {fault = fault} {added = added} course p q =
    subst₂ (λ (requests : List Request) (given : List (List Item)). IsCourse session host user
    requests fault added given) p q course

-- a step that is neither a Connect, a call nor a Broken
course_still : {session : ℕ} {host user : List ℕ} {requests : List
    Request} {fault : Bool} {added : List Record} {given : List (List Item)} →
    IsCourse session host user requests fault added given
    → (made : Record) (more : List (List Item)) (step : Step) →
    steps_of session (made ∷ []) more ≡ step ∷ [] → drains_in (step ∷ []) ≡ length more
    → IsTrue (is_still step) → is_close made.entry.act ≡ false →
    IsCourse session host user requests fault (added ++ made ∷ []) (given ++ more)
course_still {session} {requests = requests} {fault = fault} {added = added} {given = given} course
    made more step e drains still other =
    course_as
    (course_more course made more step e drains other fault
    (fault_still fault (steps_of session added given) step still course.at_fault)
    (spaced_other (steps_of session added given) step
    (still_requests step still) course.spaced))
    (ap (λ rest. requests ++ rest) (still_requests step still) ∙ append-nil requests) refl

pub course_started : (session pass moment : ℕ) (host user : List ℕ) → session ≢ 0 →
    IsCourse session host user [] false
    (record_of pass moment (act.Connect user host) session false ∷ []) []
course_started session pass moment host user some =
    let made = record_of pass moment (act.Connect user host) session false in
    let all : steps_of session (made ∷ []) [] ≡ Connects user host ∷ [] =
    own_step-same session (Connects user host) [] in
    record {
      connected = (made, [], refl, refl, refl);
      asked = ap requests_in all;
      drains = ap drains_in all;
      at_fault = ap breaks_in all;
      spaced =
          subst (λ steps. IsSpaced steps) (sym all)
          (spaced_other [] (Connects user host) refl
          (λ before between after first fourth e three. absurd
          (nil_inside (before ++ Asks first ∷ between) after (Asks fourth) e)));
      is_open = ap (λ (own : Bool). (own || false) && true) (eq-eqb session session refl);
    }

pub course_called : {session : ℕ} {host user : List ℕ} {requests : List Request} {added : List
    Record} {given : List (List Item)} →
    IsCourse session host user requests false added given → (lines : ℕ)
    → IsRecent lines (steps_of session added given) → lines < 4 →
    (pass moment reference : ℕ) (call : Call) (short : Bool) →
    IsCourse session host user
    (requests ++ record { reference = reference; call = call } ∷ []) false
    (added ++ record_of pass moment (act.Call session reference call) session short ∷ []) given
course_called {session} {added = added} {given = given} course lines recent few pass moment
    reference call short =
    let request : Request = record { reference = reference; call = call } in
    course_as
    (course_more course (record_of pass moment (act.Call session reference call) session short) []
    (Asks request) (own_step-same session (Asks request) []) refl refl false
    (breaks_in-append (steps_of session added given) (Asks request ∷ [])
    ∙ ap (λ n. n + 0) course.at_fault)
    (spaced_call (steps_of session added given) lines request course.spaced recent few))
    refl (append-nil given)

pub course_flushed : {session : ℕ} {host user : List ℕ} {requests : List
    Request} {fault : Bool} {added : List Record} {given : List (List Item)} →
    IsCourse session host user requests fault added given → (pass moment : ℕ) (short : Bool) →
    IsCourse session host user requests fault
    (added ++ record_of pass moment act.Flush 0 short ∷ []) given
course_flushed {given = given} course pass moment short =
    course_as (course_still course (record_of pass moment act.Flush 0 short) [] Flushes refl refl
    refl refl) refl (append-nil given)

pub course_drained : {session : ℕ} {host user : List ℕ} {requests : List
    Request} {fault : Bool} {added : List Record} {given : List (List Item)} →
    IsCourse session host user requests fault added given → (pass moment : ℕ) (items : List Item) →
    IsCourse session host user requests fault
    (added ++ record_of pass moment (act.Drain session) session false ∷ [])
    (given ++ items ∷ [])
course_drained {session} course pass moment items =
    course_still course (record_of pass moment (act.Drain session) session false) (items ∷ [])
    (Drains items) (drain_steps session pass moment items) refl refl refl

pub course_broken : {session : ℕ} {host user : List ℕ} {requests : List Request} {added : List
    Record} {given : List (List Item)} →
    IsCourse session host user requests false added given → (pass moment : ℕ) →
    IsCourse session host user requests true
    (added ++ record_of pass moment (act.Broken session) session false ∷ []) given
course_broken {session} {requests = requests} {added = added} {given = given} course pass moment =
    course_as
    (course_more course (record_of pass moment (act.Broken session) session false) [] Breaks
    (own_step-same session Breaks []) refl refl true
    (steps_of session added given, [], refl, course.at_fault, refl, refl)
    (spaced_other (steps_of session added given) Breaks refl course.spaced))
    (append-nil requests) (append-nil given)

-- ---- beside the records of others

pub open_tail : (session : ℕ) (mine added : List Record) → has_session session mine ≡ false
    → IsOpen session added → IsOpen session (mine ++ added)
open_tail session mine added none is_open =
    let own : Record → Bool = λ made. made.session == session in
    let connects : has_connect session (mine ++ added) ≡ has_connect session added =
    list_any-append (λ made. is_connect made.entry.act && made.session == session) mine added
    ∙ ap (λ prefix. prefix || has_connect session added)
    (none_of (λ made. is_connect made.entry.act) own mine none) in
    let closes : has_close session (mine ++ added) ≡ has_close session added =
    list_any-append (λ made. is_close made.entry.act && made.session == session) mine added
    ∙ ap (λ prefix. prefix || has_close session added)
    (none_of (λ made. is_close made.entry.act) own mine none) in
    ap₂ (λ a b. a && not b) connects closes ∙ is_open
