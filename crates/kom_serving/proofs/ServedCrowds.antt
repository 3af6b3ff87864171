-- What a pass leaves that served many links at a time.
use Rattle.std.proofs.Common.{◌≡◌, ◌≢◌, ℕ, ◌⊎◌, inl, inr, nat_eq, Bool, true, false, ◌&&◌, ◌==◌, eqb, List, []}
use Rattle.std.proofs.Common.{◌∷◌, ◌++◌, Option, Some, None, refl, sym, ap, subst, ◌∙◌, append_assoc}
use Rattle.std.specs.Option.{IfSome}
use Rattle.std.specs.List.{filter, list_any, AllByRecursion, IsDistinct}
use Rattle.std.proofs.lemmas.Bool.{cases_Bool, eq-eqb, eqb-true, ne_eqb}
use Rattle.kom_types.specs.declared.acts.Act.{Act}
use Rattle.kom_types.specs.declared.acts.Act.TheVariants as act
use Rattle.kom_types.specs.declared.acts.Record.{Record}
use Rattle.kom_types.specs.declared.items.Item.{Item}
use Rattle.kom_links.specs.declared.served.Served.{Served}
use Rattle.kom_links.specs.declared.served.SessionEnd.{SessionEnd}
use Rattle.kom_links.specs.declared.served.SessionEnd.TheVariants as end
use Rattle.kom_links.specs.Answers.{Answer, first_fault_of}
use Rattle.kom_links.specs.Outside.{LinkView}
use Rattle.kom_links.specs.Records.{is_connect, has_connect, has_session, is_open}
use Rattle.kom_links.specs.Talk.{IsTalk, IsChosen, AreTimed, IsDrained, EndsClosed, Step, Flushes, Drains}
use Rattle.kom_links.specs.Talk.{records_of, steps_of}
use Rattle.kom_model.specs.Out.{given_by_pass}
use Rattle.kom_session.specs.Ends.{given_to}
use Rattle.kom_session.specs.Left.{IfSending, IsSentAll}
use Rattle.kom_talk.specs.Conversations.{IsServedLink}
use Rattle.kom_hub.specs.Seats.{is_flush, is_shown, since, since_at, from_first, seat_records, shown_at, only_by, only}
use Rattle.kom_hub.specs.Seats.{seat_of, IsMade, IsSeatAnswer}
use Rattle.kom_hub.specs.Crowds.{IsAmong, AreDistinct}
use Rattle.kom_hub.specs.Hub.{IsServedCrowd, WasServed}
use Rattle.kom_hub.specs.Hub.{IsOfOne as IsOfLinks}
use Rattle.kom_hub.proofs.Shown.{shown_by}
use Rattle.kom_hub.proofs.Whole.{steps_since}
use Rattle.kom_hub.proofs.Within.{talk_of_seat}
use Rattle.hall_desk.specs.Desks.{Kept, desk_view, Stands}
use Rattle.hall_desk.proofs.Starting.{IsStart, starts}
use Rattle.hall_desk.proofs.Histories.{or_cases, or_second, and_both}
use Rattle.kom_serving.specs.Runs.{Talks, is_lock_full, sessions_of, IsOfOne}
use Rattle.kom_serving.specs.Serving.{Serves}
use Rattle.kom_serving.proofs.HeardAnswers.{seat_known, seat_refused}
use Rattle.kom_serving.proofs.Histories.{or_first, not_both, session_of-connect, all_of, IsPlain, plain}
use Rattle.kom_serving.proofs.Links.{all_map, IsDenied, Service, talks_new, waits_before, chosen-append}
use Rattle.kom_serving.proofs.Links.{moments_of}
use Rattle.kom_serving.proofs.Opened.{plain_connects, closed_now, ends_closed}

-- ---- what a seat shows

any_filter : (p q : Record → Bool) (records : List Record) → list_any p (filter q records) ≡ true →
    list_any p records ≡ true
any_filter p q [] some = cc
any_filter p q (made ∷ records) some = elim (cases_Bool (q made)) [
  | inl here ↦ elim (or_cases (p made) (list_any p (filter q records)) (rw here at some)) [
    | inl now ↦ or_first (p made) (list_any p records) now
    | inr later ↦ or_second (p made) (list_any p records) (any_filter p q records later)
  ]
  | inr there ↦ or_second (p made) (list_any p records) (any_filter p q records (rw there at some))
]

any_since : (p : Record → Bool) (session : ℕ) (records : List Record) → list_any p (since session records) ≡ true →
    list_any p records ≡ true
any_since p session [] some = cc
any_since p session (made ∷ records) some = go (made.session == session) (any_since p session records) some
  where
    go : (own : Bool) → (list_any p (since session records) ≡ true → list_any p records ≡ true) →
        list_any p (since_at own made (filter (is_shown session) records) (since session records)) ≡ true →
        list_any p (made ∷ records) ≡ true
    go true later some = elim (or_cases (p made) (list_any p (filter (is_shown session) records)) some) [
      | inl now ↦ or_first (p made) (list_any p records) now
      | inr later ↦ or_second (p made) (list_any p records) (any_filter p (is_shown session) records later)
    ]
    go false later some = or_second (p made) (list_any p records) (later some)

any_shown : (p : Record → Bool) (session : ℕ) (records : List Record) →
    list_any p (seat_records session records) ≡ true →
    list_any p records ≡ true
any_shown p session records some = go (session == 0) (has_session session records) some
  where
    go : (none has : Bool) → list_any p (shown_at none (from_first has session records)) ≡ true →
        list_any p records ≡ true
    go true has some = cc
    go false true some = any_since p session records some
    go false false some = any_filter p (λ made. is_flush made.entry.act) records some

-- what a seat's session was given is what its desk gave to it
given_seat : (session : ℕ) (given : ℕ → List (List Item)) →
    given_to session (only session [] given session) ≡ given_to session (given session)
given_seat session given = go (session == 0) (session == session) (eq-eqb session session refl)
  where
    go : (zero own : Bool) → own ≡ true →
        ◌≡◌ {A = List (List Item)}
        (elim zero as (λ b. List (List Item)) [ true ↦ [] | false ↦ only_by zero own [] (given session) ])
        (elim zero as (λ b. List (List Item)) [ true ↦ [] | false ↦ given session ])
    go true own is = refl
    go false true is = refl
    go false false is = cc

given_some : (session : ℕ) (given : List (List Item)) → session ≢ 0 → given_to session given ≡ given
given_some session given some =
    ap (λ (none : Bool). elim none as (λ b. List (List Item)) [ true ↦ [] | false ↦ given ]) (ne_eqb session 0 some)

-- flushes before do a drain no harm
drained_after : (before steps : List Step) → IsDrained steps → IsDrained (before ++ steps)
drained_after before steps (first, between, rest, is, quiet, quiet', last) =
    let flushed : List Step = Flushes ∷ between in
    let drained : List Step = Drains [] ∷ rest in
    let is' : before ++ steps ≡ ((before ++ first) ++ flushed) ++ drained =
    ap (λ steps. before ++ steps) is ∙ sym (append_assoc before (first ++ flushed) drained)
    ∙ ap (λ start. start ++ drained) (sym (append_assoc before first flushed)) in
    (before ++ first, between, rest, is', quiet, quiet', last)

plain_made : (made : Record) → IsPlain made → IsMade made
plain_made made (inl flush) = inr (ap is_flush flush.0, flush.1)
plain_made made (inr some) = inl some.0

flush_is : (what : Act) → is_flush what ≡ true → what ≡ act.Flush
flush_is (act.Connect user host) is = cc
flush_is (act.Call session reference call) is = cc
flush_is (act.Broken session) is = cc
flush_is (act.Drain session) is = cc
flush_is act.Flush is = refl
flush_is (act.Close session) is = cc

-- ---- one link

module _ (kept : Kept) (stands : Stands kept) where
  begins : IsStart kept.start
  begins = starts kept.start stands.opening

  plain_mine : AllByRecursion IsPlain kept.pass.mine
  plain_mine =
      subst (AllByRecursion IsPlain) (sym stands.knows.mine)
      (all_of IsPlain kept.pass.number kept.pass.seen (plain kept.start begins kept.pass.seen stands.knows.legal))

  abbrev Seat : LinkView → Served → List Answer → Type 0
  Seat link served answers = IsServedLink (seat_of served.session answers (desk_view kept)) link served

  abbrev given : ℕ → List (List Item)
  given session = given_by_pass kept.start kept.pass.number session kept.pass.seen

  -- all that the pass made, seen from one link
  abbrev Whole : LinkView → Served → List Answer → Type 0
  Whole link served answers =
      Service kept.start kept.pass.number [] kept.pass.seen [] kept.pass.mine kept.pass.drawn kept.pass.waits
      (first_fault_of served.session answers) link served

  module _ (link : LinkView) (served : Served) (answers : List Answer)
      (heard : AllByRecursion (IsSeatAnswer served.session (desk_view kept)) answers)
      (seat : Seat link served answers) where
    connected : served.session ≢ 0 → has_connect served.session kept.pass.mine ≡ true
    connected some =
        any_shown (λ made. is_connect made.entry.act && made.session == served.session) served.session kept.pass.mine
        (seat.session some)

    has : served.session ≢ 0 → has_session served.session kept.pass.mine ≡ true
    has some = session_of-connect served.session kept.pass.mine (connected some)

    -- what was sent of what waited, or why not
    sent : served.session ≢ 0 → served.end ≡ end.Dropped →
        IsDrained (steps_of served.session kept.pass.mine (given served.session))
        ⊎ IsDenied kept.start kept.pass.number served.session kept.pass.seen kept.pass.drawn
    sent some ends =
        go (subst (λ (given : List (List Item)).
        IsSentAll (steps_of served.session (seat_records served.session kept.pass.mine) given) served.session answers)
        (given_seat served.session given ∙ given_some served.session (given served.session) some)
        (subst (λ (ending : SessionEnd). IfSending ending (IsSentAll
        (steps_of served.session (seat_records served.session kept.pass.mine)
        (given_to served.session (only served.session [] given served.session))) served.session answers)) ends
        (seat.left some)))
      where
        go : IsSentAll (steps_of served.session (seat_records served.session kept.pass.mine) (given served.session))
            served.session answers →
            IsDrained (steps_of served.session kept.pass.mine (given served.session))
            ⊎ IsDenied kept.start kept.pass.number served.session kept.pass.seen kept.pass.drawn
        go (inl drained) =
            let whole : (before : List Step) × AllByRecursion (λ step. step ≡ Flushes) before
            × (steps_of served.session kept.pass.mine (given served.session)
            ≡ before ++ steps_of served.session (since served.session kept.pass.mine) (given served.session)) =
            steps_since served.session kept.pass.mine (given served.session) (has some) in
            inl (subst IsDrained (sym whole.2)
            (drained_after whole.0 _
            (subst (λ (records : List Record). IsDrained (steps_of served.session records (given served.session)))
            (shown_by served.session kept.pass.mine true some (has some)) drained.0)))
        go (inr refused') =
            inr (seat_refused kept stands.known served.session some answers heard refused')

    service : Whole link served answers
    service = record {
      legal = stands.knows.legal;
      by_owners = stands.knows.owned;
      mine_is = refl;
      added_is = stands.knows.mine;
      connected = connected;
      refused = stands.knows.refused;
      input = seat.input;
      output = seat.output;
      tells = seat.tells;
      talk = talk_of_seat link.host seat.input seat.output link.ended kept.pass.mine served.session
          (given_to served.session (given served.session)) served.end kept.pass.waits
          (all_map IsPlain IsMade kept.pass.mine plain_made plain_mine) has
          (subst (λ (given : List (List Item)). IsTalk link.host seat.input seat.output link.ended
          (seat_records served.session kept.pass.mine) served.session given served.end kept.pass.waits)
          (given_seat served.session given) seat.talk);
      tells_fault = seat.told;
      cause = seat.cause;
      known = seat_known kept stands.known served.session answers heard;
      sent = sent;
    }

    pub talks_of : Talks kept.start kept.pass.seen kept.pass.mine kept.pass.drawn link served
    talks_of =
        talks_new kept.start begins kept.pass.number [] kept.pass.seen [] kept.pass.mine kept.pass.drawn kept.pass.waits
        (first_fault_of served.session answers) link served service (λ free session. refl)

    -- its session is closed, unless no turn is left
    closed_of : is_lock_full kept.pass.drawn ≡ false →
        (records_of served.session kept.pass.mine ≡ []) ⊎ EndsClosed (records_of served.session kept.pass.mine)
    closed_of free = service.talk.closed (waits_before kept.pass.drawn kept.pass.waits stands.knows.refused free)

-- ---- all links

distinct_of : {L : Type 0} (links : List (L × Served)) → AreDistinct links → IsDistinct nat_eq (sessions_of links)
unfolding IsDistinct
distinct_of [] distinct = tt
distinct_of {L} (back ∷ links) distinct = elim (cases_Bool (eqb back.1.session 0)) [
  | inl zero ↦ rw zero (distinct_of links distinct.1)
  | inr some ↦ rw some (
    apart (λ zero. not_both _ (eq-eqb back.1.session 0 zero) some) links distinct.0,
    distinct_of links distinct.1,
  )
]
  where
    apart : back.1.session ≢ 0 → (links : List (L × Served)) →
        AllByRecursion (λ other. back.1.session ≢ 0 → other.1.session ≢ back.1.session) links →
        AllByRecursion (λ later. nat_eq back.1.session later ≡ false) (sessions_of links)
    apart some [] all = tt
    apart some (other ∷ links) all = elim (cases_Bool (eqb other.1.session 0)) [
      | inl zero ↦ rw zero (apart some links all.1)
      | inr there ↦ rw there (
        ne_eqb back.1.session other.1.session (λ same. all.0 some (sym same)),
        apart some links all.1,
      )
    ]

among_any : {L : Type 0} (links : List (L × Served)) (number : ℕ) → number ≢ 0 → IsAmong number links →
    list_any (λ session. session == number) (sessions_of links) ≡ true
among_any [] number some among = absurd among
among_any (back ∷ links) number some (inl same) =
    let there : eqb back.1.session 0 ≡ false = ne_eqb back.1.session 0 (λ zero. some (sym same ∙ zero)) in
    rw there (or_first (eqb back.1.session number) _ (eq-eqb back.1.session number same))
among_any (back ∷ links) number some (inr later) = elim (cases_Bool (eqb back.1.session 0)) [
  | inl zero ↦ rw zero (among_any links number some later)
  | inr there ↦ rw there (or_second (eqb back.1.session number) _ (among_any links number some later))
]

owned_of : {L : Type 0} (links : List (L × Served)) (made : Record) → IsOfLinks links made →
    IsOfOne (sessions_of links) made
owned_of links made (inl own) = inr (among_any links made.session own.0 own.1)
owned_of links made (inr flush) = inl (flush_is made.entry.act flush.0)

not_flush : (what : Act) → is_connect what ≡ true → is_flush what ≡ true → ⊥
not_flush what connects flush =
    let wrong : is_connect act.Flush ≡ true = ap is_connect (sym (flush_is what flush)) ∙ connects in cc

-- who is connected by a record is one of the links
connected_among : {L : Type 0} (links : List (L × Served)) (session : ℕ) (records : List Record) →
    AllByRecursion (IsOfLinks links) records → has_connect session records ≡ true → IsAmong session links
connected_among links session [] owned connected = cc
connected_among {L} links session (made ∷ records) owned connected =
    elim (or_cases (is_connect made.entry.act && made.session == session) (has_connect session records) connected) [
      | inl here ↦
          let both = and_both (is_connect made.entry.act) (made.session == session) here in
          of owned.0 both.0 (eqb-true made.session session both.1)
      | inr later ↦ connected_among links session records owned.1 later
    ]
  where
    of : IsOfLinks links made → is_connect made.entry.act ≡ true → made.session ≡ session → IsAmong session links
    of (inl own) connects same = subst (λ (number : ℕ). IsAmong {L = L} number links) same own.1
    of (inr flush) connects same = absurd (not_flush made.entry.act connects flush.0)

-- what holds of each link holds of that of a session
found : {L : Type 0} (P : L × Served → Type 0) (links : List (L × Served)) (session : ℕ) → AllByRecursion P links →
    IsAmong session links → (back : L × Served) × (back.1.session ≡ session) × P back
found P [] session all among = absurd among
found P (back ∷ links) session all (inl same) = (back, same, all.0)
found P (back ∷ links) session all (inr later) = found P links session all.1 later

timed_of : (begun gave : Option (List ℕ)) (mine : List Record) → AreTimed begun gave mine →
    IfSome gave (λ readings. IsChosen (moments_of mine) readings)
timed_of begun None mine timed = tt
timed_of begun (Some after) mine (earlier, readings, is, is', chosen) =
    subst (λ (readings : List ℕ). IsChosen (moments_of mine) readings) (sym is')
    (chosen-append [] earlier (moments_of mine) readings tt chosen)

abbrev IsTalking : {L : Type 0} → (L → LinkView) → Kept → L × Served → Type 0
IsTalking view kept back = Talks kept.start kept.pass.seen kept.pass.mine kept.pass.drawn (view back.0) back.1

-- Many links were served by the records of a pass, and have all been given back.
pub serves_crowd : {L : Type 0} (view : L → LinkView) (kept : Kept) (begun gave : Option (List ℕ))
    (returned : Option (List (L × Served))) → Stands kept →
    IsServedCrowd IsServedLink view begun (desk_view kept) gave returned →
    Serves view kept.start kept.pass returned gave
serves_crowd {L} view kept begun gave returned stands crowd = record {
  mine = stands.knows.mine;
  talks = all_told (λ links. AllByRecursion (IsTalking view kept) links) returned crowd.told
      (all_map (WasServed IsServedLink view (desk_view kept)) (IsTalking view kept) crowd.links
      (λ back is. talks_of kept stands (view back.0) back.1 is.answers is.heard is.talk) crowd.talk);
  owned = all_told (λ links. AllByRecursion (IsOfOne (sessions_of links)) kept.pass.mine) returned crowd.told
      (all_map (IsOfLinks crowd.links) (IsOfOne (sessions_of crowd.links)) kept.pass.mine (owned_of crowd.links)
      crowd.owned);
  timed = timed_of begun gave kept.pass.mine crowd.timed;
  distinct = all_told (λ links. IsDistinct nat_eq (sessions_of links)) returned crowd.told
      (distinct_of crowd.links crowd.distinct);
  closed = closed;
}
  where
    all_told : (P : List (L × Served) → Type 0) (returned : Option (List (L × Served))) →
        IfSome returned (λ told. told ≡ crowd.links) → P crowd.links → IfSome returned P
    all_told P None told is = tt
    all_told P (Some given) told is = subst P (sym told) is

    closed : is_lock_full kept.pass.drawn ≡ false → (session : ℕ) → is_open session kept.pass.mine ≡ false
    closed free session = elim (cases_Bool (has_connect session kept.pass.mine)) [
      | inl connected ↦
          let some : session ≢ 0 = λ zero.
          not_both _ (subst (λ (n : ℕ). has_connect n kept.pass.mine ≡ true) zero connected)
          (plain_connects kept.pass.mine (plain_mine kept stands)) in
          let one : (back : L × Served) × (back.1.session ≡ session)
          × WasServed IsServedLink view (desk_view kept) back =
          found (WasServed IsServedLink view (desk_view kept)) crowd.links session crowd.talk
          (connected_among crowd.links session kept.pass.mine crowd.owned connected) in
          closed_now session [] kept.pass.mine
          (ends_closed session kept.pass.mine some connected
          (subst (λ (n : ℕ). (records_of n kept.pass.mine ≡ []) ⊎ EndsClosed (records_of n kept.pass.mine)) one.1
          (closed_of kept stands (view one.0.0) one.0.1 one.2.answers one.2.heard one.2.talk free)))
      | inr never ↦ rw never refl
    ]
