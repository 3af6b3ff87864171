-- A call of a group comes to the same in states that are the same for the group, and leaves such states.
use Rattle.std.proofs.Common.{◌≡◌, ℕ, Bool, true, false, ◌==◌, List, [], ◌∷◌, ◌++◌, Some, refl, sym, ap}
use Rattle.std.proofs.Common.{ap₂, ◌∙◌, inl, inr, subst, eqb-true, cond, true≢false}
use Rattle.std.specs.Prelude.{map, max, IsTrue}
use Rattle.std.specs.List.{filter, filter_map, find, AllByRecursion}
use Rattle.std.proofs.lemmas.Bool.{cases_Bool, not-true}
use Rattle.std.proofs.lemmas.List.Elements.{filter-append}
use Rattle.kom_types.specs.declared.calls.Call.{Call}
use Rattle.kom_types.specs.declared.calls.Call.TheVariants as call
use Rattle.kom_types.specs.declared.decisions.Decision.{Decision}
use Rattle.kom_types.specs.declared.seats.Seat.{Seat}
use Rattle.kom_types.specs.Sessions.{Session}
use Rattle.kom_model.specs.After.{decision_at, after, moment_of, make_changes, reply_to, carry_out}
use Rattle.kom_model.specs.Db.{Db}
use Rattle.kom_model.specs.Decide.{asked_in, decision_of}
use Rattle.kom_model.specs.Effects.{apply_all}
use Rattle.kom_model.specs.Kinds.{is_among}
use Rattle.kom_model.specs.Sending.{Delivery}
use Rattle.kom_model.specs.State.{State, IsSound, seats_of}
use Rattle.kom_model.specs.Messages.{text_aux_changed}
use Rattle.kom_model.specs.ToWhom.{sendings, messages_of, sent_by, left_conference, of_made, items_named, items_made}
use Rattle.kom_model.specs.ToWhom.{is_refused}
use Rattle.kom_model.specs.ToWhom.{logged_out, logged_in}
use Rattle.kom_model.specs.Viewers.{viewer_of}
use Rattle.kom_model.specs.calls.Call.{Asked}
use Rattle.kom_model.specs.calls.Guards.{viewer_at}
use Rattle.kom_model.proofs.Changing.{make_changes-rows}
use Rattle.kom_laws.specs.Erasing.{erased_db, erased_session, erase, mask_of}
use Rattle.kom_laws.specs.Groups.{Group, IsOfGroup}
use Rattle.noninterference.specs.outputs.Answers.{erased_asked}
use Rattle.noninterference.specs.outputs.Brought.{brought_to}
use Rattle.noninterference.proofs.outputs.Alike.{viewer-same}
use Rattle.noninterference.proofs.outputs.Answering.{answers-erased}
use Rattle.noninterference.proofs.outputs.Brought.{messages-erased}
use Rattle.noninterference.proofs.outputs.Masked.{public-masked}
use Rattle.noninterference.specs.steps.Calls.{record_of_call, ActsAlike, CallsStandErased}
use Rattle.noninterference.specs.steps.Same.{IsSameFor}
use Rattle.noninterference.specs.steps.Steps.{IsReadyFor}
use Rattle.noninterference.proofs.steps.Changing.{changes-erased}
use Rattle.noninterference.proofs.steps.Delivering.{is_for, one-at, none-delivered, one-delivered}
use Rattle.noninterference.proofs.steps.Following.{after-same}
use Rattle.noninterference.proofs.steps.Queueing.{items_for}
use Rattle.noninterference.proofs.steps.Steps.{effects-erased}

-- ---- seats are never hidden
pub seats-erased : (group : Group) (rows : List Session) →
    map (λ (session : Session). session.seat) (map (erased_session group) rows) ≡ map (λ session. session.seat) rows
seats-erased group [] = refl
seats-erased group (row ∷ rows) =
    ap₂ (λ (first : Seat) (others : List Seat). first ∷ others) (seat-erased (is_among group.sessions row.seat.number))
    (seats-erased group rows) where
      seat-erased : (own : Bool) → (cond own row (record row { waiting = []; overrun = false })).seat ≡ row.seat
      seat-erased true = refl
      seat-erased false = refl

pub viewer-erased : (group : Group) (db : Db) (seat : Seat) → viewer_of (erased_db group db) seat ≡ viewer_of db seat
viewer-erased group db seat = viewer-same (erased_db group db) db (public-masked (mask_of group db) db) (Some seat)

-- who looks from a seat of the group is of it
abbrev pub IsOwn : Group → Db → Seat → Type 0
IsOwn group db seat = IsTrue (is_among group.sessions seat.number) → IsOfGroup group (viewer_of db seat)

pub all-onto : {X Y : Type 0} (P : Y → Type 0) (tell : X → Y) (rows : List X) →
    AllByRecursion (λ row. P (tell row)) rows → AllByRecursion P (map tell rows)
all-onto P tell [] all = tt
all-onto P tell (row ∷ rows) all = (all.0, all-onto P tell rows all.1)

all-also : {X : Type 0} (P Q : X → Type 0) → ((row : X) → P row → Q row) → (rows : List X) → AllByRecursion P rows →
    AllByRecursion Q rows
all-also P Q also [] all = tt
all-also P Q also (row ∷ rows) all = (also row all.0, all-also P Q also rows all.1)

found-own : (group : Group) (db : Db) (session : ℕ) (seats : List Seat) → AllByRecursion (IsOwn group db) seats →
    is_among group.sessions session ≡ true →
    IsOfGroup group (viewer_at db (find (λ seat. seat.number == session) seats))
found-own group db session [] own among = (refl, refl)
found-own group db session (seat ∷ seats) own among = by (seat.number == session)
    (λ here. own.0 (subst (λ n. is_among group.sessions n ≡ true) (sym (eqb-true seat.number session here)) among))
    (found-own group db session seats own.1 among) where
      by : (here : Bool) → (here ≡ true → IsOfGroup group (viewer_of db seat)) →
          IsOfGroup group (viewer_at db (find (λ seat. seat.number == session) seats)) →
          IsOfGroup group (viewer_at db (cond here (Some seat) (find (λ seat. seat.number == session) seats)))
      by true own rest = own refl
      by false own rest = rest

pub kept-own : (group : Group) (db : Db) (number : ℕ) (seats : List Seat) (seat : Seat) (others : List Seat) →
    AllByRecursion (IsOwn group db) seats → is_among group.sessions number ≡ true →
    filter (λ seat. number == seat.number) seats ≡ seat ∷ others → IsOfGroup group (viewer_of db seat)
kept-own group db number [] seat others own among is = cc
kept-own group db number (first ∷ seats) seat others own among is = by (number == first.number)
    (λ here. own.0 (subst (λ n. is_among group.sessions n ≡ true) (eqb-true number first.number here) among))
    (kept-own group db number seats seat others own.1 among) is where
      first-seat : {rest rest' : List Seat} {one other : Seat} → one ∷ rest ≡ other ∷ rest' → one ≡ other
      first-seat same = cc

      by : (here : Bool) → (here ≡ true → IsOfGroup group (viewer_of db first)) →
          (filter (λ seat. number == seat.number) seats ≡ seat ∷ others → IsOfGroup group (viewer_of db seat)) →
          cond here (first ∷ filter (λ seat. number == seat.number) seats)
          (filter (λ seat. number == seat.number) seats)
          ≡ seat ∷ others → IsOfGroup group (viewer_of db seat)
      by true own rest is = subst (λ seat. IsOfGroup group (viewer_of db seat)) (first-seat is) (own refl)
      by false own rest is = rest is

-- what a call sends hangs on what it changes, and on whether it is refused
sent-alike : (asked : Asked) (one other : Decision) (call : Call) → one.effects ≡ other.effects →
    sent_by asked one call ≡ sent_by asked other call
sent-alike asked one other (call.DeleteConf conference) same = ap (filter_map left_conference) same
sent-alike asked one other (call.SubMember conference person) same = ap (filter_map left_conference) same
sent-alike asked one other (call.CreateText given) same = ap (λ effects. of_made effects asked.db) same
sent-alike asked one other (call.CreateAnonymousText given) same = ap (λ effects. of_made effects asked.db) same
sent-alike asked one other (call.ModifyTextInfo given) same = ap (λ effects.
    text_aux_changed asked.db given.object (items_named asked.db given.object given.delete) (items_made effects)
    ∷ []) same
sent-alike asked one other any same = refl

sendings-alike : (asked : Asked) (one other : Decision) (call : Call) → ActsAlike one other →
    sendings asked call one ≡ sendings asked call other
sendings-alike asked one other call alike =
    let sent : sent_by asked one call ≡ sent_by asked other call = sent-alike asked one other call alike.effects in
    λ i. filter_map (logged_out asked) (alike.changes i) ++ filter_map logged_in (alike.changes i)
    ++ cond (alike.refused i) [] (sent i)

-- a reply is for the session of its call alone
reply-elsewhere : (group : Group) (session reference : ℕ) (one other : Decision) →
    is_among group.sessions session ≡ false → (number : ℕ) → is_among group.sessions number ≡ true →
    filter (is_for number) (reply_to session reference one.reply ∷ [])
    ≡ filter (is_for number) (reply_to session reference other.reply ∷ [])
reply-elsewhere group session reference one other outside number among =
    ap (λ here. cond here (reply_to session reference one.reply ∷ []) []) apart
    ∙ sym (ap (λ here. cond here (reply_to session reference other.reply ∷ []) []) apart) where
      apart : (number == session) ≡ false
      apart = elim (cases_Bool (number == session)) [
        | inl here ↦ absurd (true≢false
            (sym among ∙ ap (is_among group.sessions) (eqb-true number session here) ∙ outside))
        | inr there ↦ there
      ]

module _ (group : Group) (one other : State) (moment session reference : ℕ) (call : Call) (sound : IsSound one)
    (sound' : IsSound other) (worlds : IsSameFor group one other) where
  abbrev asked_at : State → Asked
  asked_at state = asked_in state (moment_of state moment) session reference

  abbrev decision : State → Decision
  decision state = decision_at state moment session reference call

  db-same : erased_db group one.db ≡ erased_db group other.db
  db-same = ap (λ (state : State). state.db) worlds.same

  pub seats-same : seats_of one ≡ seats_of other
  seats-same = sym (seats-erased group one.sessions)
      ∙ ap (λ (state : State). map (λ (session : Session). session.seat) state.sessions) worlds.same
      ∙ seats-erased group other.sessions

  pub viewers-same : (seat : Seat) → viewer_of one.db seat ≡ viewer_of other.db seat
  viewers-same seat = sym (viewer-erased group one.db seat) ∙ ap (λ db. viewer_of db seat) db-same
      ∙ viewer-erased group other.db seat

  one-own : AllByRecursion (IsOwn group one.db) (seats_of one)
  one-own = all-onto (IsOwn group one.db) (λ (session : Session). session.seat) one.sessions worlds.of_group

  pub other-own : AllByRecursion (IsOwn group other.db) (seats_of other)
  other-own = subst (λ seats. AllByRecursion (IsOwn group other.db) seats) seats-same
      (all-also (IsOwn group one.db) (IsOwn group other.db) (λ seat is among.
      subst (λ viewer. IsOfGroup group viewer) (viewers-same seat) (is among)) (seats_of one) one-own)

  -- the same is asked without what is hidden
  asked-erased : (state : State) →
      erased_asked group (asked_at state) ≡ asked_at (erase group state)
  asked-erased state =
      let seats = sym (seats-erased group state.sessions) in
      λ i. record {
        db = erased_db group state.db;
        seats = seats i;
        moment = max state.moment moment;
        session = session;
        reference = reference;
      }

  pub asked-same : erased_asked group (asked_at one) ≡ erased_asked group (asked_at other)
  asked-same = asked-erased one ∙ ap asked_at worlds.same ∙ sym (asked-erased other)

  pub decided-same : is_among group.sessions session ≡ true → decision one ≡ decision other
  decided-same own_session =
      sym (answers-erased.decided group (asked_at one) call sound.protected
      (found-own group one.db session (seats_of one) one-own own_session))
      ∙ ap (λ asked. decision_of asked call) asked-same
      ∙ answers-erased.decided group (asked_at other) call sound'.protected
      (found-own group other.db session (seats_of other) other-own own_session)

  pub decided-alike : is_among group.sessions session ≡ true → ActsAlike (decision one) (decision other)
  decided-alike own_session = record {
    effects = ap (λ (decision : Decision). decision.effects) (decided-same own_session);
    changes = ap (λ (decision : Decision). decision.changes) (decided-same own_session);
    refused = ap (λ (decision : Decision). is_refused decision.reply) (decided-same own_session);
  }

  pub replied-same : is_among group.sessions session ≡ true → (number : ℕ) →
      filter (is_for number) (reply_to session reference (decision one).reply ∷ [])
      ≡ filter (is_for number) (reply_to session reference (decision other).reply ∷ [])
  replied-same own_session number = ap (λ (decision : Decision).
      filter (is_for number) (reply_to session reference decision.reply ∷ [])) (decided-same own_session)

  module _ (alike : ActsAlike (decision one) (decision other))
      (replies : (number : ℕ) → is_among group.sessions number ≡ true →
      filter (is_for number) (reply_to session reference (decision one).reply ∷ [])
      ≡ filter (is_for number) (reply_to session reference (decision other).reply ∷ []))
      (ready : IsReadyFor group (decision one).effects one.db)
      (ready' : IsReadyFor group (decision other).effects other.db) where
    -- ---- what comes to a session of the group
    brought-same : (seat : Seat) → IsOfGroup group (viewer_of one.db seat) → IsOfGroup group (viewer_of other.db seat) →
        brought_to one.db seat (sendings (asked_at one) call (decision one))
        ≡ brought_to other.db seat (sendings (asked_at other) call (decision other))
    brought-same seat own own' =
        sym (messages-erased.brought group (asked_at one) call (decision one) seat ready.protected ready.whole own)
        ∙ ap (λ (asked : Asked). brought_to asked.db seat (sendings asked call (decision one))) asked-same
        ∙ ap (brought_to (erased_db group other.db) seat)
        (sendings-alike (erased_asked group (asked_at other)) (decision one) (decision other) call alike)
        ∙ messages-erased.brought group (asked_at other) call (decision other) seat ready'.protected ready'.whole own'

    messages-same : (number : ℕ) → is_among group.sessions number ≡ true →
        filter (is_for number) (messages_of (asked_at one) call (decision one))
        ≡ filter (is_for number) (messages_of (asked_at other) call (decision other))
    unfolding messages_of
    messages-same number among = elim (one-at number one.sessions sound.distinct) [
      | inl none ↦ none-delivered number one.db (seats_of one) _ none
          ∙ sym (none-delivered number other.db (seats_of other) _
          (ap (filter (λ seat. number == seat.number)) (sym seats-same) ∙ none))
      | inr found ↦
          let there : filter (λ seat. number == seat.number) (seats_of other) ≡ found.0 ∷ [] =
          ap (filter (λ seat. number == seat.number)) (sym seats-same) ∙ found.1 in
          one-delivered number one.db (seats_of one) _ found.0 found.1
          ∙ brought-same found.0 (kept-own group one.db number (seats_of one) found.0 [] one-own among found.1)
          (kept-own group other.db number (seats_of other) found.0 [] other-own among there)
          ∙ sym (one-delivered number other.db (seats_of other) _ found.0 there)
    ]

    abbrev delivers : State → List Delivery
    delivers state = messages_of (asked_at state) call (decision state)
        ++ reply_to session reference (decision state).reply ∷ []

    items-same : (number : ℕ) → is_among group.sessions number ≡ true →
        items_for number (delivers one) ≡ items_for number (delivers other)
    items-same number among = ap (map (λ (one : Delivery). one.item))
        (filter-append (is_for number) (messages_of (asked_at one) call (decision one)) _
        ∙ ap₂ (λ (first others : List Delivery). first ++ others) (messages-same number among) (replies number among)
        ∙ sym (filter-append (is_for number) (messages_of (asked_at other) call (decision other)) _))

    -- ---- what the call changes
    abbrev acts : State → State
    acts state = carry_out (moment_of state moment) (decision state) state

    effects-same : erased_db group (apply_all (decision one).effects one.db)
        ≡ erased_db group (apply_all (decision other).effects other.db)
    effects-same = effects-erased group (decision one).effects one.db other.db ready
        (subst (λ effects. IsReadyFor group effects other.db) (sym alike.effects) ready') db-same
        ∙ ap (λ effects. erased_db group (apply_all effects other.db)) alike.effects

    acted-same : erase group (acts one) ≡ erase group (acts other)
    acted-same =
        let moments : moment_of one moment ≡ moment_of other moment =
        ap (λ (state : State). max state.moment moment) worlds.same in
        let between : make_changes (moment_of one moment) (decision one).changes
        (record (erase group one) { db = erased_db group (apply_all (decision one).effects one.db) })
        ≡ make_changes (moment_of other moment) (decision other).changes
        (record (erase group other) { db = erased_db group (apply_all (decision other).effects other.db) }) =
        λ i. make_changes (moments i) (alike.changes i) (record (worlds.same i) { db = effects-same i }) in
        changes-erased group (moment_of one moment) (decision one).changes
        (record one { db = apply_all (decision one).effects one.db })
        ∙ between
        ∙ sym (changes-erased group (moment_of other moment) (decision other).changes
        (record other { db = apply_all (decision other).effects other.db }))

    entries-kept : (state : State) → (acts state).entries ≡ state.entries
    entries-kept state = ap (λ (state : State). state.entries) (make_changes-rows (moment_of state moment)
        (decision state).changes (record state { db = apply_all (decision state).effects state.db }))

    pub called-same : (pass : ℕ) → erase group (after one (record_of_call pass moment session reference call))
        ≡ erase group (after other (record_of_call pass moment session reference call))
    called-same pass =
        after-same group (record_of_call pass moment session reference call) one other worlds.same acted-same
        (entries-kept one) (entries-kept other) items-same

pub calls-erased : CallsStandErased
calls-erased = record {
  decided = λ group one other moment session reference call sound sound' worlds among.
      decided-same group one other moment session reference call sound sound' worlds among;
  own = λ group one other pass moment session reference call ready ready' worlds among.
      called-same group one other moment session reference call ready.sound ready'.sound worlds
      (decided-alike group one other moment session reference call ready.sound ready'.sound worlds among)
      (λ number is.
      replied-same group one other moment session reference call ready.sound ready'.sound worlds among number)
      ready.ready ready'.ready pass;
  outside = λ group one other pass moment session reference call ready ready' worlds apart alike.
      called-same group one other moment session reference call ready.sound ready'.sound worlds alike
      (reply-elsewhere group session reference (decision_at one moment session reference call)
      (decision_at other moment session reference call) (not-true _ apart)) ready.ready ready'.ready pass;
}
