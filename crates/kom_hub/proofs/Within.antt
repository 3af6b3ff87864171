-- A talk stays one among records of others, before and after.
use Rattle.std.proofs.Common.{◌≡◌, ℕ, ◌⊎◌, inl, inr, Bool, true, false, ◌&&◌, ◌==◌, eqb, List, [], ◌∷◌, ◌++◌, length}
use Rattle.std.proofs.Common.{map, take, Some, refl, sym, ap, subst, ◌∙◌, arith, append-nil, append_assoc}
use Rattle.std.specs.List.{filter, list_all, AllByRecursion}
use Rattle.std.specs.Bool.{IsTrue}
use Rattle.std.proofs.lemmas.Bool.{eq-eqb}
use Rattle.std.proofs.lemmas.List.Elements.{filter-append}
use Rattle.std.proofs.lemmas.List.Folds.{list_all-append}
use Rattle.kom_types.specs.declared.acts.Act.{Act}
use Rattle.kom_types.specs.declared.acts.Act.TheVariants as act
use Rattle.kom_types.specs.declared.acts.Record.{Record}
use Rattle.kom_types.specs.declared.items.Item.{Item}
use Rattle.kom_types.specs.Stream.{stream_of}
use Rattle.kom_types.specs.Reading.{Request, reading_of}
use Rattle.kom_links.specs.declared.served.SessionEnd.{SessionEnd}
use Rattle.kom_links.specs.declared.served.SessionEnd.TheVariants as end
use Rattle.kom_links.specs.DeskCalls.{record_of}
use Rattle.kom_links.specs.Talk.{Step, Connects, Asks, Breaks, Flushes, Drains, Closes, own_step, steps_of, records_of}
use Rattle.kom_links.specs.Talk.{requests_in, drains_in, breaks_in, is_quiet, Begins, EndsClosed, WasWritten, Settles}
use Rattle.kom_links.specs.Talk.{IsDrained, IsBroken, MayBreak, IsSpaced, AtItsEnd, IsTalk}
use Rattle.kom_hub.proofs.Steps.{requests_in-append, drains_in-append, breaks_in-append, append_split}
use Rattle.kom_links.specs.Records.{has_session}
use Rattle.kom_hub.specs.Seats.{is_shown, since, since_at, seat_records, IsMade}
use Rattle.kom_hub.specs.Seats.{is_flush as IsFlushAct}
use Rattle.kom_hub.proofs.Shown.{shown_by}
use Rattle.std.proofs.Common.{◌≢◌, ne_eqb}
use Rattle.std.proofs.lemmas.Bool.{cases_eq}
use Rattle.kom_hub.proofs.Whole.{steps_since, own_filtered}
use Rattle.std.proofs.Common.{cond}

-- a record of another session, or without a session a flush
abbrev pub IsApart : ℕ → Record → Type 0
IsApart session made = ((made.session == session) ≡ false) ⊎ ((session ≡ 0) × (made.entry.act ≡ act.Flush))

-- ---- flushes alone

abbrev pub is_flush : Step → Bool
is_flush (Connects user host) = false
is_flush (Asks request) = false
is_flush Breaks = false
is_flush Flushes = true
is_flush (Drains items) = false
is_flush Closes = false

abbrev pub AreFlushes : List Step → Type 0
AreFlushes steps = IsTrue (list_all is_flush steps)

apart_step : (session : ℕ) (pass moment : ℕ) (what : Act) (named : ℕ) (short : Bool) (records : List Record) →
    IsApart session (record_of pass moment what named short) →
    AreFlushes (steps_of session records []) →
    AreFlushes (steps_of session (record_of pass moment what named short ∷ records) [])
apart_step session pass moment (act.Connect user host) named short records (inl other) rest =
    subst (λ (own : Bool). AreFlushes (own_step own (Connects user host) (steps_of session records []))) (sym other)
    rest
apart_step session pass moment (act.Call caller reference call) named short records (inl other) rest =
    subst (λ (own : Bool). AreFlushes
    (own_step own (Asks (record { reference = reference; call = call })) (steps_of session records []))) (sym other)
    rest
apart_step session pass moment (act.Broken caller) named short records (inl other) rest =
    subst (λ (own : Bool). AreFlushes (own_step own Breaks (steps_of session records []))) (sym other) rest
apart_step session pass moment (act.Drain caller) named short records (inl other) rest =
    subst (λ (own : Bool). AreFlushes
    (elim own [ true ↦ Drains [] ∷ steps_of session records [] | false ↦ steps_of session records [] ])) (sym other)
    rest
apart_step session pass moment act.Flush named short records apart rest = rest
apart_step session pass moment (act.Close caller) named short records (inl other) rest =
    subst (λ (own : Bool). AreFlushes (own_step own Closes (steps_of session records []))) (sym other) rest
apart_step session pass moment (act.Connect user host) named short records (inr flush) rest =
    let no : act.Connect user host ≡ act.Flush = flush.1 in cc
apart_step session pass moment (act.Call caller reference call) named short records (inr flush) rest =
    let no : act.Call caller reference call ≡ act.Flush = flush.1 in cc
apart_step session pass moment (act.Broken caller) named short records (inr flush) rest =
    let no : act.Broken caller ≡ act.Flush = flush.1 in cc
apart_step session pass moment (act.Drain caller) named short records (inr flush) rest =
    let no : act.Drain caller ≡ act.Flush = flush.1 in cc
apart_step session pass moment (act.Close caller) named short records (inr flush) rest =
    let no : act.Close caller ≡ act.Flush = flush.1 in cc

pub apart_steps : (session : ℕ) (records : List Record) → AllByRecursion (IsApart session) records →
    AreFlushes (steps_of session records [])
apart_steps session [] apart = refl
apart_steps session (made ∷ records) apart =
    apart_step session made.entry.pass made.entry.moment made.entry.act made.session made.short records apart.0
    (apart_steps session records apart.1)

flush_requests : (steps : List Step) → AreFlushes steps → requests_in steps ≡ []
flush_requests [] all = refl
flush_requests (Flushes ∷ steps) all = flush_requests steps all
flush_requests (Connects user host ∷ steps) all = cc
flush_requests (Asks request ∷ steps) all = cc
flush_requests (Breaks ∷ steps) all = cc
flush_requests (Drains items ∷ steps) all = cc
flush_requests (Closes ∷ steps) all = cc

flush_drains : (steps : List Step) → AreFlushes steps → drains_in steps ≡ 0
flush_drains [] all = refl
flush_drains (Flushes ∷ steps) all = flush_drains steps all
flush_drains (Connects user host ∷ steps) all = cc
flush_drains (Asks request ∷ steps) all = cc
flush_drains (Breaks ∷ steps) all = cc
flush_drains (Drains items ∷ steps) all = cc
flush_drains (Closes ∷ steps) all = cc

flush_breaks : (steps : List Step) → AreFlushes steps → breaks_in steps ≡ 0
flush_breaks [] all = refl
flush_breaks (Flushes ∷ steps) all = flush_breaks steps all
flush_breaks (Connects user host ∷ steps) all = cc
flush_breaks (Asks request ∷ steps) all = cc
flush_breaks (Breaks ∷ steps) all = cc
flush_breaks (Drains items ∷ steps) all = cc
flush_breaks (Closes ∷ steps) all = cc

flush_quiet : (steps : List Step) → AreFlushes steps → IsTrue (list_all is_quiet steps)
flush_quiet [] all = refl
flush_quiet (Flushes ∷ steps) all = flush_quiet steps all
flush_quiet (Connects user host ∷ steps) all = cc
flush_quiet (Asks request ∷ steps) all = cc
flush_quiet (Breaks ∷ steps) all = cc
flush_quiet (Drains items ∷ steps) all = cc
flush_quiet (Closes ∷ steps) all = cc

and_parts : (a b : Bool) → (a && b) ≡ true → (a ≡ true) × (b ≡ true)
and_parts true b e = (refl, e)
and_parts false b e = cc

and_true : (a b : Bool) → a ≡ true → b ≡ true → (a && b) ≡ true
and_true true b here there = there
and_true false b here there = cc

no_flush : (steps before tail : List Step) (step : Step) → AreFlushes steps → is_flush step ≡ false →
    steps ≡ before ++ step ∷ tail → ⊥
no_flush [] [] tail step all other e = cc
no_flush [] (one ∷ before) tail step all other e = cc
no_flush (one ∷ steps) [] tail step all other e =
    let same : is_flush one ≡ is_flush step = let at : one ≡ step = cc in ap is_flush at in
    let here : is_flush one ≡ true = (and_parts _ _ all).0 in
    cc
no_flush (one ∷ steps) (two ∷ before) tail step all other e =
    no_flush steps before tail step (and_parts (is_flush one) (list_all is_flush steps) all).1 other (cc)

-- ---- steps with flushes before and after them

-- what is no flush stands among the steps in between
inside : (prefix steps rear before tail : List Step) (step : Step) → AreFlushes prefix → AreFlushes rear →
    is_flush step ≡ false → prefix ++ (steps ++ rear) ≡ before ++ step ∷ tail →
    (before' tail' : List Step) × (steps ≡ before' ++ step ∷ tail') × (before ≡ prefix ++ before')
    × (tail ≡ tail' ++ rear)
inside prefix steps rear before tail step flushes flushes' other e =
    elim (append_split prefix (steps ++ rear) before tail step e) [
      | inl (rest, first, last) ↦ absurd (no_flush prefix before rest step flushes other first)
      | inr (rest, second, first) ↦ elim (append_split steps rear rest tail step second) [
        | inl (last, here, end) ↦ (rest, last, here, first, end)
        | inr (last, there, end) ↦ absurd (no_flush rear last tail step flushes' other there)
      ]
    ]

requests_around : (prefix steps rear : List Step) → AreFlushes prefix → AreFlushes rear →
    requests_in (prefix ++ (steps ++ rear)) ≡ requests_in steps
requests_around prefix steps rear flushes flushes' =
    requests_in-append prefix (steps ++ rear) ∙ ap (λ first.
    first ++ requests_in (steps ++ rear)) (flush_requests prefix flushes)
    ∙ requests_in-append steps rear ∙ ap (λ last.
    requests_in steps ++ last) (flush_requests rear flushes') ∙ append-nil (requests_in steps)

drains_around : (prefix steps rear : List Step) → AreFlushes prefix → AreFlushes rear →
    drains_in (prefix ++ (steps ++ rear)) ≡ drains_in steps
drains_around prefix steps rear flushes flushes' =
    omega (
      arith,
      drains_in-append prefix (steps
          ++ rear),
      drains_in-append steps rear,
      flush_drains prefix flushes,
      flush_drains rear flushes',
    )

break_around : (input : List ℕ) (prefix steps rear : List Step) → AreFlushes prefix → AreFlushes rear →
    MayBreak input steps → MayBreak input (prefix ++ (steps ++ rear))
break_around input prefix steps rear flushes flushes' may before tail e =
    let (before', tail', here, first, last) = inside prefix steps rear before tail Breaks flushes flushes' refl e in
    let told = may before' tail' here in (
      rw first (omega (arith, breaks_in-append prefix before', flush_breaks prefix flushes, told.0)),
      rw last (omega (arith, breaks_in-append tail' rear, flush_breaks rear flushes', told.1)),
      rw last (requests_in-append tail' rear ∙ ap (λ rest.
          requests_in tail' ++ rest) (flush_requests rear flushes') ∙ append-nil (requests_in tail') ∙ told.2),
      told.3,
      told.4,
      ap length (requests_around prefix steps rear flushes flushes') ∙ told.5,
    )

regroup : (prefix before between tail rear : List Step) (one two : Step) →
    prefix ++ (((before ++ one ∷ between) ++ two ∷ tail) ++ rear) ≡ ((prefix ++ before) ++ one ∷ between) ++ two
    ∷ (tail ++ rear)
regroup prefix before between tail rear one two = simp append_assoc

settles_more : (steps rear : List Step) → Settles steps → Settles (steps ++ rear)
settles_more steps rear settles = (
  settles.0,
  settles.1,
  settles.2
      ++ rear,
  ap (λ all. all ++ rear) settles.3 ∙ regroup [] settles.0 settles.1 settles.2 rear Flushes (Drains []),
)

pub drained_around : (prefix steps rear : List Step) → AreFlushes prefix → AreFlushes rear → IsDrained steps →
    IsDrained (prefix ++ (steps ++ rear))
drained_around prefix steps rear flushes flushes' drained = (
  prefix ++ drained.0,
  drained.1,
  drained.2 ++ rear,
  ap (λ all. prefix ++ (all ++ rear)) drained.3 ∙ regroup prefix drained.0 drained.1 drained.2 rear Flushes (Drains []),
  drained.4,
  list_all-append is_quiet drained.2 rear ∙ and_true _ _ drained.5 (flush_quiet rear flushes'),
  omega (arith, drains_in-append drained.2 rear, flush_drains rear flushes', drained.6),
)

broken_around : (prefix steps rear : List Step) → AreFlushes prefix → AreFlushes rear → IsBroken steps →
    IsBroken (prefix ++ (steps ++ rear))
broken_around prefix steps rear flushes flushes' broken = (
  prefix ++ broken.0,
  broken.1 ++ rear,
  ap (λ all. prefix ++ (all ++ rear)) broken.2 ∙ regroup_one prefix broken.0 broken.1 rear Breaks,
  omega (arith, breaks_in-append prefix broken.0, flush_breaks prefix flushes, broken.3),
  omega (arith, breaks_in-append broken.1 rear, flush_breaks rear flushes', broken.4),
  requests_in-append broken.1 rear ∙ ap (λ rest.
      requests_in broken.1 ++ rest) (flush_requests rear flushes') ∙ append-nil (requests_in broken.1) ∙ broken.5,
  settles_more broken.1 rear broken.6,
)
  where
    regroup_one : (prefix before tail rear : List Step) (one : Step) →
        prefix ++ ((before ++ one ∷ tail) ++ rear) ≡ (prefix ++ before) ++ one ∷ (tail ++ rear)
    regroup_one prefix before tail rear one = simp append_assoc

spaced_around : (prefix steps rear : List Step) → AreFlushes prefix → AreFlushes rear → IsSpaced steps →
    IsSpaced (prefix ++ (steps ++ rear))
spaced_around prefix steps rear flushes flushes' spaced before between tail first fourth e three =
    let (before', tail', here, early, late) =
    inside prefix steps rear (before ++ Asks first ∷ between) tail (Asks fourth) flushes flushes' refl e in
    elim (append_split prefix before' before between (Asks first) (sym early)) [
      | inl (rest, wrong, last) ↦ absurd (no_flush prefix before rest (Asks first) flushes refl wrong)
      | inr (rest, right, last) ↦
          spaced rest between tail' first fourth (here ∙ ap (λ all. all ++ Asks fourth ∷ tail') right) three
    ]

at_end_around : (end : SessionEnd) (input output : List ℕ) (ended : Bool) (records : List Record)
    (prefix steps rear : List Step) (given : List (List Item)) → AreFlushes prefix → AreFlushes rear →
    AtItsEnd end input output ended records steps given →
    AtItsEnd end input output ended records (prefix ++ (steps ++ rear)) given
at_end_around end.End input output ended records prefix steps rear given flushes flushes' at = record {
  has_ended = at.has_ended;
  no_fault = at.no_fault;
  all_lines = ap length (requests_around prefix steps rear flushes flushes') ∙ at.all_lines;
  all_written = at.all_written;
  drained = λ some. drained_around prefix steps rear flushes flushes' (at.drained some);
}
at_end_around (end.Broken place) input output ended records prefix steps rear given flushes flushes' at = record {
  fault = at.fault;
  all_lines = ap length (requests_around prefix steps rear flushes flushes') ∙ at.all_lines;
  greeting_line = at.greeting_line;
  all_written = at.all_written;
  broken = λ some. broken_around prefix steps rear flushes flushes' (at.broken some);
}
at_end_around end.Dropped input output ended records prefix steps rear given flushes flushes' at = at
at_end_around end.Overrun input output ended records prefix steps rear given flushes flushes' at = at
at_end_around end.Stopped input output ended records prefix steps rear given flushes flushes' at = at
at_end_around (end.Full number) input output ended records prefix steps rear given flushes flushes' at = at
at_end_around end.LinkFault input output ended records prefix steps rear given flushes flushes' at = at
at_end_around end.Memory input output ended records prefix steps rear given flushes flushes' at = at

-- ---- records of others

filter_apart : (session : ℕ) (records : List Record) → (session ≡ 0 → ⊥) → AllByRecursion (IsApart session) records →
    filter (λ made. made.session == session) records ≡ []
filter_apart session [] some apart = refl
filter_apart session (made ∷ records) some apart = elim apart.0 [
  | inl other ↦ rw other (filter_apart session records some apart.1)
  | inr none ↦ absurd (some none.0)
]

pub records_of-within : (session : ℕ) (before added tail : List Record) → AllByRecursion (IsApart session) before →
    AllByRecursion (IsApart session) tail →
    records_of session (before ++ (added ++ tail)) ≡ records_of session added
records_of-within session before added tail apart apart' =
    alike (session == 0) (filter own (before ++ (added ++ tail))) (filter own added) (λ some.
    let some' : session ≡ 0 → ⊥ = λ e. let same : eqb session 0 ≡ true =
    eq-eqb _ _ e in let no : eqb session 0 ≡ false = some in cc in
    filter-append own before (added ++ tail)
    ∙ ap (λ first. first ++ filter own (added ++ tail)) (filter_apart session before some' apart)
    ∙ filter-append own added tail
    ∙ ap (λ last. filter own added ++ last) (filter_apart session tail some' apart')
    ∙ append-nil (filter own added))
  where
    own : Record → Bool
    own made = made.session == session

    alike : (none : Bool) (xs ys : List Record) → (none ≡ false → xs ≡ ys) →
        ◌≡◌ {A = List Record} (elim none [ true ↦ [] | false ↦ xs ]) (elim none [ true ↦ [] | false ↦ ys ])
    alike true xs ys same = refl
    alike false xs ys same = same refl

-- ---- from a seat to the whole

are_flushes : (steps : List Step) → AllByRecursion (λ (step : Step). step ≡ Flushes) steps → AreFlushes steps
are_flushes [] all = refl
are_flushes (step ∷ steps) all =
    and_true (is_flush step) (list_all is_flush steps) (ap is_flush all.0) (are_flushes steps all.1)

abbrev picked : ℕ → List Record → List Record
picked session records = filter (is_shown session) records

own_since : (session : ℕ) (records : List Record)
    → filter (λ (made : Record). made.session == session) (since session records)
    ≡ filter (λ (made : Record). made.session == session) records
own_since session [] = refl
own_since session (made ∷ records) = go (made.session == session) refl (own_since session records)
  where
    own : Record → Bool
    own one = one.session == session

    go : (a : Bool) → (made.session == session) ≡ a → filter own (since session records) ≡ filter own records
        → filter own (since session (made ∷ records)) ≡ cond (own made) (made ∷ filter own records) (filter own records)
    go true here rest =
        ap (λ b. filter own (since_at b made (filter (is_shown session) records) (since session records))) here
        ∙ ap (λ b. cond b (made ∷ filter own (picked session records)) (filter own (picked session records))) here
        ∙ ap (λ all. made ∷ all) (own_filtered session records)
        ∙ sym (ap (λ b. cond b (made ∷ filter own records) (filter own records)) here)
    go false there rest =
        ap (λ b. filter own (since_at b made (filter (is_shown session) records) (since session records))) there
        ∙ rest
        ∙ sym (ap (λ b. cond b (made ∷ filter own records) (filter own records)) there)

records_since : (session : ℕ) (records : List Record)
    → records_of session records ≡ records_of session (since session records)
records_since session records =
    alike (session == 0) (filter (λ (made : Record). made.session == session) records)
    (filter (λ (made : Record). made.session == session) (since session records)) (sym (own_since session records))
  where
    alike : (none : Bool) (xs ys : List Record) → xs ≡ ys →
        ◌≡◌ {A = List Record} (elim none [ true ↦ [] | false ↦ xs ]) (elim none [ true ↦ [] | false ↦ ys ])
    alike true xs ys same = refl
    alike false xs ys same = same

-- A talk by some records is one by others, among which the session has the same records, and the same steps between
-- flushes.
pub talk_around : (host input output : List ℕ) (ended : Bool) (whole added : List Record) (session : ℕ)
    (given : List (List Item)) (end : SessionEnd) (full : Bool) (prefix rear : List Step)
    → AreFlushes prefix → AreFlushes rear
    → steps_of session whole given ≡ prefix ++ (steps_of session added given ++ rear)
    → records_of session whole ≡ records_of session added →
    IsTalk host input output ended added session given end full →
    IsTalk host input output ended whole session given end full
talk_around host input output ended whole added session given end full prefix rear flushes flushes' all records talk =
    let steps : List Step = steps_of session added given in
    let requests : requests_in (steps_of session whole given) ≡ requests_in steps =
    ap requests_in all ∙ requests_around prefix steps rear flushes flushes' in
    record {
      begins = subst (λ (made : List Record). Begins host (stream_of input).greeting made) (sym records) talk.begins;
      silent = λ none. talk.silent (sym records ∙ none);
      drains = ap drains_in all ∙ drains_around prefix steps rear flushes flushes' ∙ talk.drains;
      calls = subst (λ (asked : List Request). map Some asked
          ≡ map (λ line. reading_of line.tokens) (take (length asked) (stream_of input).lines)) (sym requests)
          talk.calls;
      breaks = subst (λ (all : List Step). MayBreak input all) (sym all)
          (break_around input prefix steps rear flushes flushes' talk.breaks);
      written = subst (λ (made : List Record). WasWritten input output made given) (sym records) talk.written;
      at_end = subst
          (λ (made : List Record). AtItsEnd end input output ended made
          (steps_of session whole given) given) (sym records)
          (subst (λ (all : List Step). AtItsEnd end input output ended (records_of session added) all given) (sym all)
          (at_end_around end input output ended (records_of session added) prefix steps rear given flushes flushes'
          talk.at_end));
      closed = λ home. elim (talk.closed home) [
        | inl none ↦ inl (records ∙ none)
        | inr last ↦ inr (subst (λ (made : List Record). EndsClosed made) (sym records) last)
      ];
      spaced = subst (λ (all : List Step). IsSpaced all) (sym all)
          (spaced_around prefix steps rear flushes flushes' talk.spaced);
    }

-- the same where there are no flushes after them
talk_after : (host input output : List ℕ) (ended : Bool) (whole added : List Record) (session : ℕ)
    (given : List (List Item)) (end : SessionEnd) (full : Bool) (prefix : List Step)
    → AllByRecursion (λ (step : Step). step ≡ Flushes) prefix
    → steps_of session whole given ≡ prefix ++ steps_of session added given
    → records_of session whole ≡ records_of session added →
    IsTalk host input output ended added session given end full →
    IsTalk host input output ended whole session given end full
talk_after host input output ended whole added session given end full prefix flush found records talk =
    talk_around host input output ended whole added session given end full prefix [] (are_flushes prefix flush) refl
    (found ∙ ap (λ last. prefix ++ last) (sym (append-nil (steps_of session added given)))) records talk

-- ---- nobody's steps

pub flush_is : (what : Act) → IsFlushAct what ≡ true → what ≡ act.Flush
flush_is (act.Connect user host) e = cc
flush_is (act.Call caller reference call) e = cc
flush_is (act.Broken caller) e = cc
flush_is (act.Drain caller) e = cc
flush_is act.Flush e = refl
flush_is (act.Close caller) e = cc

nobody_apart : (records : List Record) → AllByRecursion IsMade records → AllByRecursion (IsApart 0) records
nobody_apart [] all = tt
nobody_apart (made ∷ records) all = (one all.0, nobody_apart records all.1)
  where
    one : IsMade made → IsApart 0 made
    one (inl some) = inl (ne_eqb made.session 0 some)
    one (inr flush) = inr (refl, flush_is made.entry.act flush.0)

all_flush : (steps : List Step) → AreFlushes steps → AllByRecursion (λ (step : Step). step ≡ Flushes) steps
all_flush [] all = tt
all_flush (Flushes ∷ steps) all = (refl, all_flush steps all)
all_flush (Connects user host ∷ steps) all = cc
all_flush (Asks request ∷ steps) all = cc
all_flush (Breaks ∷ steps) all = cc
all_flush (Drains items ∷ steps) all = cc
all_flush (Closes ∷ steps) all = cc

none_given : (given : List (List Item)) → 0 ≡ length given → given ≡ []
none_given [] e = refl
none_given (items ∷ given) e = absurd (omega (arith, e))

-- without a session
talk_of_nobody : (host input output : List ℕ) (ended : Bool) (records : List Record)
    (given : List (List Item)) (end : SessionEnd) (full : Bool) → AllByRecursion IsMade records →
    IsTalk host input output ended [] 0 given end full → IsTalk host input output ended records 0 given end full
talk_of_nobody host input output ended records given end full made talk =
    let none : given ≡ [] = none_given given talk.drains in
    let flushes : AreFlushes (steps_of 0 records []) = apart_steps 0 records (nobody_apart records made) in
    let steps : List Step = steps_of 0 records given in
    talk_after host input output ended records [] 0 given end full steps
    (all_flush steps (subst (λ (lists : List (List Item)). AreFlushes (steps_of 0 records lists)) (sym none) flushes))
    (sym (append-nil steps)) refl talk

-- A talk by what its seat shows of the records of a desk is one by all of them.
pub talk_of_seat : (host input output : List ℕ) (ended : Bool) (records : List Record) (session : ℕ)
    (given : List (List Item)) (end : SessionEnd) (full : Bool) → AllByRecursion IsMade records
    → (session ≢ 0 → has_session session records ≡ true) →
    IsTalk host input output ended (seat_records session records) session given end full →
    IsTalk host input output ended records session given end full
talk_of_seat host input output ended records session given end full made has talk = elim (cases_eq session 0) [
  | inl zero ↦
      subst (λ (k : ℕ). IsTalk host input output ended records k given end full) (sym zero)
      (talk_of_nobody host input output ended records given end full made
      (subst (λ (k : ℕ). IsTalk host input output ended (seat_records k records) k given end full) zero talk))
  | inr some ↦
      let found : (before : List Step) × AllByRecursion (λ (step : Step). step ≡ Flushes) before
      × (steps_of session records given ≡ before ++ steps_of session (since session records) given) =
      steps_since session records given (has some) in
      talk_after host input output ended records (since session records) session given end full found.0 found.1
      found.2 (records_since session records)
      (subst (λ (made : List Record). IsTalk host input output ended made session given end full)
      (shown_by session records true some (has some)) talk)
]
