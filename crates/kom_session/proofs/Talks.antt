-- A session's course with its end is a link's talk.
use Rattle.std.proofs.Common.{◌≡◌, ◌≢◌, ℕ, ◌+◌, Bool, true, false, IsTrue, ◌==◌, ◌⊎◌, inl, inr, List, [], ◌∷◌, ◌++◌}
use Rattle.std.proofs.Common.{length, map, filter, take, Some, None, IsSome, refl, sym, ◌∙◌, ap, subst, append-nil}
use Rattle.std.proofs.Common.{append_assoc, add-zero, eq-eqb, ne_eqb, cond, ◌&&◌, is_some, arith}
use Rattle.std.specs.List.{list_all}
use Rattle.std.proofs.lemmas.List.Folds.{list_all-append}
use Rattle.std.proofs.lemmas.List.Elements.{filter-append}
use Rattle.kom_types.specs.declared.acts.Act.TheVariants as act
use Rattle.kom_types.specs.declared.acts.Record.{Record}
use Rattle.kom_types.specs.declared.items.Item.{Item}
use Rattle.kom_types.specs.declared.items.Item.TheVariants as item
use Rattle.kom_types.specs.Stream.{stream_of}
use Rattle.kom_types.specs.Reading.{Request, reading_of, fault_of}
use Rattle.kom_types.specs.Printing.{print_of}
use Rattle.kom_links.specs.declared.served.SessionEnd.{SessionEnd}
use Rattle.kom_links.specs.declared.served.SessionEnd.TheVariants as end
use Rattle.kom_links.specs.DeskCalls.{record_of}
use Rattle.kom_links.specs.Talk.{Step, Connects, Asks, Breaks, Flushes, Drains, Closes, steps_of, records_of}
use Rattle.kom_links.specs.Talk.{requests_in, drains_in, breaks_in, Begins, EndsClosed, IsCutShort, lines_before}
use Rattle.kom_links.specs.Talk.{print_of_drains, IsPrefix, is_quiet, IsDrained, IsBroken, MayBreak, WasWritten}
use Rattle.kom_links.specs.Talk.{AtItsEnd}
use Rattle.kom_links.specs.Talk.{IsSpaced, IsTalk}
use Rattle.kom_session.specs.Course.{is_still, IsSettled, IsAtFault, IsConnected, IsCourse}
use Rattle.kom_session.proofs.Steps.{requests_in-append, drains_in-append, breaks_in-append, append_split, steps_push}
use Rattle.kom_session.proofs.Courses.{and_left, and_right, both, own_step-same, settled_tail, spaced_other}
use Rattle.kom_session.proofs.Courses.{fault_still}
use Rattle.kom_session.proofs.Streams.{no_lines_before_greeting}

-- What each end says of a session that was connected.
abbrev pub EndFacts : SessionEnd → List ℕ → List ℕ → Bool → List Request → Bool → List Step
    → List (List Item) → Type 0
EndFacts end.End input output ended requests fault steps given =
    (ended ≡ true) × (fault_of input ≡ None)
    × (length requests ≡ length (stream_of input).lines) × (output ≡ print_of_drains given)
    × IsSettled steps
EndFacts (end.Broken place) input output ended requests fault steps given =
    (fault ≡ true) × (fault_of input ≡ Some place)
    × (length requests ≡ lines_before place (stream_of input).lines) × (output ≡ print_of_drains given)
    × IsSettled steps
EndFacts end.Dropped input output ended requests fault steps given = output ≡ print_of_drains given
EndFacts end.Overrun input output ended requests fault steps given = output ≡ print_of_drains given
EndFacts end.Stopped input output ended requests fault steps given = output ≡ print_of_drains given
EndFacts (end.Full number) input output ended requests fault steps given = output ≡ print_of_drains given
EndFacts end.LinkFault input output ended requests fault steps given = Unit {0}
EndFacts end.Memory input output ended requests fault steps given = Unit {0}

-- What each end says of a link that was connected to no session.
abbrev pub SilentFacts : SessionEnd → List ℕ → List ℕ → Bool → Type 0
SilentFacts end.End input output ended =
    ((stream_of input).greeting ≡ None) × (ended ≡ true) × (fault_of input ≡ None) × (output ≡ [])
SilentFacts (end.Broken place) input output ended =
    ((stream_of input).greeting ≡ None) × (fault_of input ≡ Some place)
    × (output ≡ print_of item.Fault)
SilentFacts end.Dropped input output ended = ((stream_of input).greeting ≡ None) × (output ≡ [])
SilentFacts end.Overrun input output ended = ((stream_of input).greeting ≡ None) × (output ≡ [])
SilentFacts end.Stopped input output ended = output ≡ []
SilentFacts (end.Full number) input output ended = output ≡ []
SilentFacts end.LinkFault input output ended =
    (output ≡ [])
    ⊎ (((stream_of input).greeting ≡ None) × IsSome (fault_of input)
    × IsPrefix output (print_of item.Fault))
SilentFacts end.Memory input output ended =
    (output ≡ [])
    ⊎ (((stream_of input).greeting ≡ None) × IsSome (fault_of input)
    × IsPrefix output (print_of item.Fault))

-- ---- what is settled

still_quiet : (step : Step) → is_still step ≡ true → is_quiet step ≡ true
still_quiet (Connects user host) still = cc
still_quiet (Asks request) still = cc
still_quiet _ still = refl

all_quiet : (steps : List Step) → IsTrue (list_all is_still steps)
    → IsTrue (list_all is_quiet steps)
all_quiet [] still = refl
all_quiet (step ∷ steps) still = both (is_quiet step) (list_all is_quiet steps)
    (still_quiet step (and_left (is_still step) (list_all is_still steps) still))
    (all_quiet steps (and_right (is_still step) (list_all is_still steps) still))

pub settled_drained : (steps : List Step) → IsSettled steps → IsDrained steps
settled_drained steps settled = (
  settled.0,
  settled.1,
  settled.2,
  settled.3,
  all_quiet settled.1 settled.4,
  all_quiet settled.2
      settled.5,
  settled.6,
)

settled_broken : (steps : List Step) → IsAtFault true steps → IsSettled steps → IsBroken steps
settled_broken steps at settled =
    (at.0, at.1, at.2, at.3, at.4, at.5, settled_tail steps settled at.0 at.1 Breaks refl at.2)

pub settled_closed : (steps : List Step) → IsSettled steps → IsSettled (steps ++ Closes ∷ [])
settled_closed steps settled = (
  settled.0,
  settled.1,
  settled.2 ++ Closes ∷ [],
  ap (λ prefix. prefix ++ Closes ∷ []) settled.3
      ∙ append_assoc (settled.0 ++ Flushes ∷ settled.1) (Drains [] ∷ settled.2) (Closes ∷ []),
  settled.4,
  list_all-append is_still settled.2 (Closes ∷ []) ∙ ap (λ prefix. prefix && true) settled.5,
  drains_in-append settled.2 (Closes ∷ []) ∙ ap (λ n. n + 0) settled.6,
)

-- ---- where a stream was said to be at fault

no_break : (steps before tail : List Step) → breaks_in steps ≡ 0
    → steps ≡ before ++ Breaks ∷ tail → ⊥
no_break steps before tail none e =
    let count : breaks_in steps ≡ breaks_in before + (1 + breaks_in tail) =
    ap breaks_in e ∙ breaks_in-append before (Breaks ∷ tail) in omega arith

sole_break : (steps before tail : List Step) → IsAtFault true steps
    → steps ≡ before ++ Breaks ∷ tail →
    (breaks_in before ≡ 0) × (breaks_in tail ≡ 0) × (requests_in tail ≡ [])
sole_break steps before tail at e =
    elim (append_split at.0 (Breaks ∷ at.1) before tail Breaks (sym at.2 ∙ e)) [
      | inl prefix ↦ absurd (no_break at.0 before prefix.0 at.3 prefix.1)
      | inr rear ↦ here rear.0 rear.1 rear.2
    ]
  where
    here : (rest : List Step) → Breaks ∷ at.1 ≡ rest ++ Breaks ∷ tail → before ≡ at.0 ++ rest →
        (breaks_in before ≡ 0) × (breaks_in tail ≡ 0) × (requests_in tail ≡ [])
    here [] p q = let same : at.1 ≡ tail = cc in (
      ap breaks_in (q ∙ append-nil at.0) ∙ at.3,
      ap breaks_in (sym same)
          ∙ at.4,
      ap requests_in (sym same) ∙ at.5,
    )
    here (step ∷ rest) p q = absurd (no_break at.1 rest tail at.4 (cc))

may_break : (input : List ℕ) (requests : List Request) (fault : Bool) (steps : List Step)
    → requests_in steps ≡ requests → IsAtFault fault steps →
    (fault ≡ true
    → ((place : ℕ) × (fault_of input ≡ Some place)
    × (length requests ≡ lines_before place (stream_of input).lines))) →
    MayBreak input steps
may_break input requests false steps asked at place before tail e =
    absurd (no_break steps before tail at e)
may_break input requests true steps asked at place before tail e =
    let sole = sole_break steps before tail at e in
    let there = place refl in
    (sole.0, sole.1, sole.2, there.0, there.1, ap length asked ∙ there.2)

-- ---- the records of a session that was connected

of_some : (none : Bool) (records : List Record) → none ≡ false
    → elim none [ true ↦ [] | false ↦ records ] ≡ records
of_some true records e = cc
of_some false records e = refl

records_of-some : (session : ℕ) (records : List Record) → session ≢ 0
    → records_of session records ≡ filter (λ made. made.session == session) records
records_of-some session records some =
    of_some (session == 0) (filter (λ made. made.session == session) records)
    (ne_eqb session 0 some)

filter-first : (session : ℕ) (first : Record) (rest : List Record) → first.session ≡ session →
    filter (λ made. made.session == session) (first ∷ rest)
    ≡ first ∷ filter (λ made. made.session == session) rest
filter-first session first rest own =
    let others = filter (λ (made : Record). made.session == session) rest in
    ap (λ passes. cond passes (first ∷ others) others) (eq-eqb first.session session own)

ends_closed : (session pass moment : ℕ) (added : List Record) → session ≢ 0 →
    EndsClosed (records_of session
    (added ++ record_of pass moment (act.Close session) session false ∷ []))
ends_closed session pass moment added some =
    let own : Record → Bool = λ made. made.session == session in
    let last = record_of pass moment (act.Close session) session false in (
      filter own added,
      last,
      session,
      records_of-some session (added ++ last ∷ []) some ∙ filter-append own added (last ∷ [])
          ∙ ap (λ rest. filter own added ++ rest) (filter-first session last [] refl),
      refl,
    )

-- ---- the talk

at_its_end : (end : SessionEnd) (input output : List ℕ) (ended : Bool) (requests : List Request)
    (fault : Bool) (first : Record) (rest : List Record) (steps : List Step)
    (given : List (List Item)) →
    requests_in steps ≡ requests → IsAtFault fault steps
    → EndFacts end input output ended requests fault steps given
    → AtItsEnd end input output ended (first ∷ rest) steps given
at_its_end end.End input output ended requests fault first rest steps given asked at facts =
    record {
      has_ended = facts.0;
      no_fault = facts.1;
      all_lines = ap length asked ∙ facts.2;
      all_written = facts.3;
      drained = λ some. settled_drained steps facts.4;
    }
at_its_end (end.Broken place) input output ended requests fault first rest steps given asked at
    facts = record {
      fault = facts.1;
      all_lines = ap length asked ∙ facts.2;
      greeting_line = λ none. absurd (cc none);
      all_written = λ some. facts.3;
      broken = λ some. settled_broken steps (subst (λ fault. IsAtFault fault steps) facts.0 at) facts.4;
    }
at_its_end end.Dropped input output ended requests fault first rest steps given asked at facts =
    facts
at_its_end end.Overrun input output ended requests fault first rest steps given asked at facts =
    facts
at_its_end end.Stopped input output ended requests fault first rest steps given asked at facts =
    facts
at_its_end (end.Full number) input output ended requests fault first rest steps given asked at
    facts = facts
at_its_end end.LinkFault input output ended requests fault first rest steps given asked at facts =
    tt
at_its_end end.Memory input output ended requests fault first rest steps given asked at facts = tt

-- the talk of these records, whatever their last one is
talk_of : (end : SessionEnd) (host user input output : List ℕ) (ended full : Bool) (session : ℕ)
    (requests : List Request) (fault : Bool) (pass : List Record) (given : List (List Item)) →
    session ≢ 0 → IsConnected session host user pass →
    requests_in (steps_of session pass given) ≡ requests
    → drains_in (steps_of session pass given) ≡ length given →
    IsAtFault fault (steps_of session pass given) → IsSpaced (steps_of session pass given) →
    (stream_of input).greeting ≡ Some user →
    map Some requests
    ≡ map (λ line. reading_of line.tokens) (take (length requests) (stream_of input).lines) →
    IsPrefix output (print_of_drains given) →
    (fault ≡ true
    → ((place : ℕ) × (fault_of input ≡ Some place)
    × (length requests ≡ lines_before place (stream_of input).lines))) →
    EndFacts end input output ended requests fault (steps_of session pass given) given →
    (full ≡ false → EndsClosed (records_of session pass)) →
    IsTalk host input output ended pass session given end full
talk_of end host user input output ended full session requests fault pass given some connected asked
    drains at spaced greeting calls written broken facts closed =
    let first = connected.0 in
    let rest = filter (λ (made : Record). made.session == session) connected.1 in
    let own : records_of session pass ≡ first ∷ rest =
    ap (records_of session) connected.2 ∙ records_of-some session (first ∷ connected.1) some
    ∙ filter-first session first connected.1 connected.4 in
    record {
      begins =
          subst (λ records. Begins host (stream_of input).greeting records) (sym own)
          (user, greeting, connected.3);
      silent = λ none. absurd (cc (own, none));
      drains = drains;
      calls =
          subst (λ (requests : List Request). map Some requests
          ≡ map (λ line. reading_of line.tokens)
          (take (length requests) (stream_of input).lines)) (sym asked) calls;
      breaks = may_break input requests fault (steps_of session pass given) asked at broken;
      written = subst (λ records. WasWritten input output records given) (sym own) written;
      at_end =
          subst (λ records. AtItsEnd end input output ended records
          (steps_of session pass given) given) (sym own)
          (at_its_end end input output ended requests fault first rest
          (steps_of session pass given) given asked at facts);
      closed = λ h. inr (closed h);
      spaced = spaced;
    }

facts_closed : (end : SessionEnd) (input output : List ℕ) (ended : Bool) (requests : List Request)
    (fault : Bool) (steps : List Step) (given : List (List Item)) →
    EndFacts end input output ended requests fault steps given
    → EndFacts end input output ended requests fault (steps ++ Closes ∷ []) given
facts_closed end.End input output ended requests fault steps given facts =
    (facts.0, facts.1, facts.2, facts.3, settled_closed steps facts.4)
facts_closed (end.Broken place) input output ended requests fault steps given facts =
    (facts.0, facts.1, facts.2, facts.3, settled_closed steps facts.4)
facts_closed end.Dropped input output ended requests fault steps given facts = facts
facts_closed end.Overrun input output ended requests fault steps given facts = facts
facts_closed end.Stopped input output ended requests fault steps given facts = facts
facts_closed (end.Full number) input output ended requests fault steps given facts = facts
facts_closed end.LinkFault input output ended requests fault steps given facts = tt
facts_closed end.Memory input output ended requests fault steps given facts = tt

pub talk_open : {session : ℕ} {host user : List ℕ} {requests : List
    Request} {fault : Bool} {added : List Record} {given : List (List Item)} →
    (end : SessionEnd) (input output : List ℕ) (ended full : Bool) → session ≢ 0
    → IsCourse session host user requests fault added given →
    (stream_of input).greeting ≡ Some user →
    map Some requests
    ≡ map (λ line. reading_of line.tokens) (take (length requests) (stream_of input).lines) →
    IsPrefix output (print_of_drains given) →
    (fault ≡ true
    → ((place : ℕ) × (fault_of input ≡ Some place)
    × (length requests ≡ lines_before place (stream_of input).lines))) →
    EndFacts end input output ended requests fault (steps_of session added given) given →
    full ≡ true →
    IsTalk host input output ended added session given end full
talk_open {session} {host} {user} {requests} {fault} {added} {given} end input output ended full
    some course greeting calls written broken facts is_full =
    talk_of end host user input output ended full session requests fault added given some
    course.connected course.asked course.drains course.at_fault course.spaced
    greeting calls written broken facts (λ h. absurd (cc (h, is_full)))

pub talk_closed : {session : ℕ} {host user : List ℕ} {requests : List
    Request} {fault : Bool} {added : List Record} {given : List (List Item)} →
    (end : SessionEnd) (input output : List ℕ) (ended full : Bool) (pass moment : ℕ) → session ≢ 0
    → IsCourse session host user requests fault added given →
    (stream_of input).greeting ≡ Some user →
    map Some requests
    ≡ map (λ line. reading_of line.tokens) (take (length requests) (stream_of input).lines) →
    IsPrefix output (print_of_drains given) →
    (fault ≡ true
    → ((place : ℕ) × (fault_of input ≡ Some place)
    × (length requests ≡ lines_before place (stream_of input).lines))) →
    EndFacts end input output ended requests fault (steps_of session added given) given →
    IsTalk host input output ended
    (added ++ record_of pass moment (act.Close session) session false ∷ []) session given end
    full
talk_closed {session} {host} {user} {requests} {fault} {added} {given} end input output ended full
    pass moment some course greeting calls written broken facts =
    let last = record_of pass moment (act.Close session) session false in
    let steps = steps_of session added given in
    let connected = course.connected in
    let all : steps_of session (added ++ last ∷ []) given ≡ steps ++ Closes ∷ [] =
    steps_push session added (last ∷ []) given course.drains
    ∙ ap (λ rest. steps ++ rest) (own_step-same session Closes []) in
    talk_of end host user input output ended full session requests fault (added ++ last ∷ []) given
    some (
      connected.0,
      connected.1
          ++ last ∷ [],
      ap (λ prefix. prefix ++ last ∷ []) connected.2,
      connected.3,
      connected.4,
    )
    (ap requests_in all ∙ requests_in-append steps (Closes ∷ []) ∙ append-nil (requests_in steps)
    ∙ course.asked)
    (ap drains_in all ∙ drains_in-append steps (Closes ∷ []) ∙ add-zero (drains_in steps)
    ∙ course.drains)
    (subst (λ steps. IsAtFault fault steps) (sym all)
    (fault_still fault steps Closes refl course.at_fault))
    (subst (λ steps. IsSpaced steps) (sym all) (spaced_other steps Closes refl course.spaced))
    greeting calls written broken
    (subst (λ steps. EndFacts end input output ended requests fault steps given) (sym all)
    (facts_closed end input output ended requests fault steps given facts))
    (λ h. ends_closed session pass moment added some)

-- ---- a link that was connected to no session

no_step : (before tail : List Step) (step : Step) → [] ≡ before ++ step ∷ tail → ⊥
no_step [] tail step e = cc
no_step (first ∷ before) tail step e = cc

silent_of : (end : SessionEnd) (host input output : List ℕ) (ended full : Bool)
    → ((stream_of input).greeting ≡ None) ⊎ IsCutShort end →
    (output ≡ [])
    ⊎ (((stream_of input).greeting ≡ None) × IsSome (fault_of input)
    × IsPrefix output (print_of item.Fault)) →
    AtItsEnd end input output ended [] [] [] → IsTalk host input output ended [] 0 [] end full
silent_of end host input output ended full silent written at_end = record {
  begins = tt;
  silent = λ none. silent;
  drains = refl;
  calls = refl;
  breaks = λ before tail e. absurd (no_step before tail Breaks e);
  written = written;
  at_end = at_end;
  closed = λ h. inl refl;
  spaced =
      λ before between tail first fourth e three. absurd
      (no_step (before ++ Asks first ∷ between) tail (Asks fourth) e);
}

pub talk_silent : (end : SessionEnd) (host input output : List ℕ) (ended full : Bool)
    → SilentFacts end input output ended →
    IsTalk host input output ended [] 0 [] end full
talk_silent end.End host input output ended full facts =
    silent_of end.End host input output ended full (inl facts.0) (inl facts.3) (record {
      has_ended = facts.1;
      no_fault = facts.2;
      all_lines = sym (ap length (no_lines_before_greeting input facts.0));
      all_written = facts.3;
      drained = λ some. absurd (some refl);
    })
talk_silent (end.Broken place) host input output ended full facts =
    silent_of (end.Broken place) host input output ended full (inl facts.0)
    (inr (facts.0, ap is_some facts.1, ([], append-nil output ∙ facts.2))) (record {
      fault = facts.1;
      all_lines = sym (ap (lines_before place) (no_lines_before_greeting input facts.0));
      greeting_line = λ none. facts.2;
      all_written = λ some. absurd (some refl);
      broken = λ some. absurd (some refl);
    })
talk_silent end.Dropped host input output ended full facts =
    silent_of end.Dropped host input output ended full (inl facts.0) (inl facts.1) facts.1
talk_silent end.Overrun host input output ended full facts =
    silent_of end.Overrun host input output ended full (inl facts.0) (inl facts.1) facts.1
talk_silent end.Stopped host input output ended full facts =
    silent_of end.Stopped host input output ended full (inr tt) (inl facts) facts
talk_silent (end.Full number) host input output ended full facts =
    silent_of (end.Full number) host input output ended full (inr tt) (inl facts) facts
talk_silent end.LinkFault host input output ended full facts =
    silent_of end.LinkFault host input output ended full (inr tt) facts tt
talk_silent end.Memory host input output ended full facts =
    silent_of end.Memory host input output ended full (inr tt) facts tt
