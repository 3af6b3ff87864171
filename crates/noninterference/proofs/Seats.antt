-- The sessions of a group stay its own: nobody else logs in there.
use Rattle.std.proofs.Common.{◌≡◌, ℕ, ◌+◌, Bool, true, false, cond, not, ◌==◌, ◌||◌, ◌&&◌, List, [], ◌∷◌, ◌++◌}
use Rattle.std.proofs.Common.{Option, Some, None, refl, sym, ap, subst, ◌∙◌, inl, inr, true≢false, eqb-true}
use Rattle.std.specs.Prelude.{map, IsTrue}
use Rattle.std.specs.List.{AllByRecursion, filter, filter_map, cons_option, list_all}
use Rattle.std.proofs.lemmas.Bool.{cases_Bool, cond_both, and_from, or_left, or_right, or_cases, not-true, and_parts}
use Rattle.std.proofs.lemmas.List.Folds.{list_all-append}
use Rattle.kom_types.specs.declared.acts.Act.{Act}
use Rattle.kom_types.specs.declared.acts.Act.TheVariants as act
use Rattle.kom_types.specs.declared.acts.Record.{Record}
use Rattle.kom_types.specs.declared.aux_items.Adder.{Adder}
use Rattle.kom_types.specs.declared.aux_items.AuxChange.{AuxChange}
use Rattle.kom_types.specs.declared.aux_items.Object.{Object}
use Rattle.kom_types.specs.declared.aux_items.Object.TheVariants as object
use Rattle.kom_types.specs.declared.calls.Call.{Call}
use Rattle.kom_types.specs.declared.calls.Call.TheVariants as call
use Rattle.kom_types.specs.declared.conferences.ConferenceRow.{ConferenceRow}
use Rattle.kom_types.specs.declared.decisions.Decision.{Decision}
use Rattle.kom_types.specs.declared.replies.Reply.TheVariants as reply
use Rattle.kom_types.specs.declared.seats.Seat.{Seat}
use Rattle.kom_types.specs.declared.session_changes.SessionChange.{SessionChange}
use Rattle.kom_types.specs.declared.session_changes.SessionChange.TheVariants as change
use Rattle.kom_types.specs.declared.texts.NewText.{NewText}
use Rattle.kom_types.specs.declared.texts.TextRow.{TextRow}
use Rattle.kom_types.specs.Sessions.{Session, waiting_limits, fresh_session, is_session, after_drain, changed_session}
use Rattle.kom_types.specs.Sessions.{after_change, with_invisible}
use Rattle.kom_model.specs.After.{after, after_act, deliveries, decision_at, moment_of, make_change, make_changes}
use Rattle.kom_model.specs.Db.{next_conference_of, items_of}
use Rattle.kom_model.specs.Decide.{asked_in, decision_of, definition_of}
use Rattle.kom_model.specs.Effects.{apply_all}
use Rattle.kom_model.specs.Kinds.{is_among}
use Rattle.kom_model.specs.Shown.{text_adder, conference_adder}
use Rattle.kom_model.specs.State.{State}
use Rattle.kom_model.specs.ToWhom.{is_refused}
use Rattle.kom_model.specs.Viewers.{viewer_of, is_strong_seat}
use Rattle.kom_model.specs.calls.AuxItems as AuxItems
use Rattle.kom_model.specs.calls.AuxItems.{item_effects, object_of, numbers_guard}
use Rattle.kom_model.specs.calls.Call.{Asked, answer, done_with}
use Rattle.kom_model.specs.calls.Conferences.{nearest, left_by_deletion}
use Rattle.kom_model.specs.calls.Guards.{Guard, caller, with_items, first_refusal, items_guard, new_items_guard}
use Rattle.kom_model.specs.calls.Guards.{seat_at}
use Rattle.kom_model.specs.calls.Memberships.{is_in_conference}
use Rattle.kom_model.specs.calls.NewTexts.{new_text}
use Rattle.kom_model.specs.calls.Persons.{maker}
use Rattle.kom_model.specs.calls.Sessions.{leaving_changes, session_meant, end_session, static_of}
use Rattle.kom_model.specs.calls.Texts.{nearest_text}
use Rattle.kom_model.proofs.Deciding.{decision-meets}
use Rattle.kom_model.proofs.Soundness.{entries-acted}
use Rattle.kom_model.proofs.whole.Counts.{all-along, all-mapped, all-kept, all-more, all-weaker}
use Rattle.kom_laws.specs.Groups.{Group, IsOfGroup}
use Rattle.noninterference.specs.steps.Same.{AreOfGroup}
use Rattle.noninterference.proofs.steps.Queueing.{rows-filled, seat-row, items_for}
use Rattle.noninterference.specs.respect.Quiet.{IsQuiet, logs_in_own}
use Rattle.kom_laws.proofs.Refusing.{refused-idle, accepted-rest}

-- who logs in at a session of the group is of it
own-login : (among refused nobody own : Bool) → refused ≡ false → (not (among && not refused) || own) ≡ true →
    ((nobody || own) || not among) ≡ true
own-login false refused nobody own accepted is = or_right (nobody || own) true refl
own-login true true nobody own accepted is = absurd (true≢false accepted)
own-login true false nobody own accepted is = or_left (nobody || own) false (or_right nobody own is)

module _ (group : Group) where
  -- a person may sit at a session: it is nobody, or of the group; or the session is outside the group
  abbrev may_sit : ℕ → ℕ → Bool
  may_sit session person = is_among (0 ∷ group.persons) person || not (is_among group.sessions session)

  abbrev IsOwn : Session → Type 0
  IsOwn row = may_sit row.seat.number row.seat.person ≡ true

  -- a change seats nobody else
  abbrev seats_own : SessionChange → Bool
  seats_own (change.Person session person invisible) = may_sit session person
  seats_own other = true

  abbrev SeatOwn : List SessionChange → Type 0
  SeatOwn changes = list_all seats_own changes ≡ true

  -- ---- the changes of each call
  leaving-own : (asked : Asked) → SeatOwn (leaving_changes asked)
  leaving-own asked = cond_both ((caller asked).person == 0) [] (change.Person asked.session 0 false ∷ []) SeatOwn
      (λ _. refl) (λ _. refl)

  record SeatsOwn (decision : Decision) : Type 0 where
    sits : SeatOwn decision.changes

  seating : (decision : Decision) → SeatOwn decision.changes → SeatsOwn decision
  seating decision sits = record { sits = sits }

  ended-own : (asked : Asked) (found : Option Seat) → SeatsOwn (elim found as (λ _. Decision) [
    | None ↦ done_with [] []
    | Some seat ↦ end_session asked seat
  ])
  ended-own asked None = seating _ refl
  ended-own asked (Some seat) = seating (end_session asked seat)
      (cond_both (seat.person == 0) [] (change.Person seat.number 0 false ∷ [])
      (λ (changes : List SessionChange). SeatOwn (changes ++ change.Ended seat.number ∷ [])) (λ _. refl) (λ _. refl))

  static-own : (found : Option Seat) → SeatsOwn (elim found as (λ _. Decision) [
    | None ↦ done_with [] []
    | Some seat ↦ answer (reply.StaticSession (static_of seat))
  ])
  static-own None = seating _ refl
  static-own (Some seat) = seating _ refl

  nearest-own : (asked : Asked) (start : ℕ) (found : Option ConferenceRow) → SeatsOwn (nearest asked start found).rest
  nearest-own asked start None = seating _ refl
  nearest-own asked start (Some row) = seating _ refl

  nearest_text-own : (asked : Asked) (start : ℕ) (found : Option TextRow) →
      SeatsOwn (nearest_text asked start found).rest
  nearest_text-own asked start None = seating _ refl
  nearest_text-own asked start (Some row) = seating _ refl

  items-own : (guard : Guard) (decision : Decision) → SeatsOwn decision → SeatsOwn (with_items guard decision)
  items-own None decision is = is
  items-own (Some refused) decision is = seating _ refl

  change-own_items : (asked : Asked) (on_text : Bool) (on : Object) (adder : Adder) (given : AuxChange) →
      SeatsOwn (AuxItems.change_items asked on_text on adder given)
  change-own_items asked on_text on adder given = items-own
      (first_refusal
      (items_guard on adder (items_of asked.db on_text given.object) given.delete given.add
      ∷ numbers_guard asked.db on_text given ∷ [])) (done_with (item_effects asked on_text adder given) [])
      (seating _ refl)

  new_text-own : (anonymous : Bool) (asked : Asked) (given : NewText) → SeatsOwn (new_text anonymous asked given).rest
  new_text-own anonymous asked given =
      items-own (new_items_guard object.Text (caller asked).person given.aux_items) _ (seating _ refl)

  working-own : (seats : List Seat) → SeatOwn (map (λ seat. change.Working seat.number 0) seats)
  working-own [] = refl
  working-own (seat ∷ seats) = working-own seats

  deletion-own : (number : ℕ) (seats : List Seat) → SeatOwn (filter_map (left_by_deletion number) seats)
  deletion-own number [] = refl
  deletion-own number (seat ∷ seats) =
      let rest : List SessionChange = filter_map (left_by_deletion number) seats in
      let others : SeatOwn rest = deletion-own number seats in
      cond_both (seat.person == number) (Some (change.Person seat.number 0 false))
      (cond (seat.working == number) (Some (change.Working seat.number 0)) None)
      (λ (first : Option SessionChange). SeatOwn (cons_option first rest)) (λ _. others)
      (λ _. cond_both (seat.working == number) (Some (change.Working seat.number 0)) None
      (λ (first : Option SessionChange). SeatOwn (cons_option first rest)) (λ _. others) (λ _. others))

  abbrev logs_in : Call → Bool
  logs_in (call.Login person password invisible) = true
  logs_in other = false

  rest-own : (asked : Asked) (what : Call) → logs_in what ≡ false → SeatsOwn (definition_of asked what).rest
  rest-own asked (call.Login person password invisible) other = absurd (true≢false other)
  rest-own asked call.Logout other = seating _ (leaving-own asked)
  rest-own asked (call.DeleteConf number) other = seating _ (deletion-own number asked.seats)
  rest-own asked (call.Disconnect session) other = ended-own asked (seat_at asked.seats (session_meant asked session))
  rest-own asked (call.GetStaticSessionInfo session) other = static-own (seat_at asked.seats session)
  rest-own asked (call.CreatePerson given) other = items-own (new_items_guard object.Letterbox
      (maker (caller asked).person (next_conference_of asked.db)) given.aux_items) _ (seating _ refl)
  rest-own asked (call.CreateConf given) other =
      items-own (new_items_guard object.Conference (caller asked).person given.aux_items) _ (seating _ refl)
  rest-own asked (call.CreateText given) other = new_text-own false asked given
  rest-own asked (call.CreateAnonymousText given) other = new_text-own true asked given
  rest-own asked (call.ModifyTextInfo given) other =
      change-own_items asked true object.Text (text_adder asked.db (caller asked) given.object) given
  rest-own asked (call.ModifyConfInfo given) other = change-own_items asked false (object_of asked.db given.object)
      (conference_adder asked.db (caller asked) given.object) given
  rest-own asked (call.SubMember conference person) other =
      seating _ (working-own (filter (is_in_conference person conference) asked.seats))
  rest-own asked (call.FindNextTextNo start) other = nearest_text-own asked start _
  rest-own asked (call.FindPreviousTextNo start) other = nearest_text-own asked start _
  rest-own asked (call.FindNextConfNo start) other = nearest-own asked start _
  rest-own asked (call.FindPreviousConfNo start) other = nearest-own asked start _
  rest-own asked what other = seating _ refl

  call-own : (asked : Asked) (what : Call) → logs_in what ≡ false → SeatOwn (decision_of asked what).changes
  call-own asked what other = decision-meets (λ decision. SeatOwn decision.changes) (λ why. refl) asked what
      (λ passes. (rest-own asked what other).sits)

  login-own : (asked : Asked) (person : ℕ) (password : List ℕ) (invisible : Bool) →
      (is_refused (decision_of asked (call.Login person password invisible)).reply ≡ false →
      may_sit asked.session person ≡ true) →
      SeatOwn (decision_of asked (call.Login person password invisible)).changes
  login-own asked person password invisible own =
      let what : Call = call.Login person password invisible in
      elim (cases_Bool (is_refused (decision_of asked what).reply)) [
        | inl refused ↦ ap (list_all seats_own) (refused-idle asked what refl refused).1
        | inr accepted ↦ ap (λ (decision : Decision). list_all seats_own decision.changes)
            (accepted-rest asked what accepted)
            ∙ list_all-append seats_own (leaving_changes asked) _
            ∙ and_from _ _ (leaving-own asked) (and_from _ _ (own accepted) refl)
      ]

  changes-own : (state : State) (pass moment session reference : ℕ) (what : Call) →
      logs_in_own group state (record { pass = pass; moment = moment; act = act.Call session reference what }) ≡ true →
      SeatOwn (decision_at state moment session reference what).changes
  changes-own state pass moment session reference (call.Login person password invisible) own =
      login-own (asked_in state (moment_of state moment) session reference) person password invisible
      (λ accepted. own-login (is_among group.sessions session)
      (is_refused (decision_at state moment session reference (call.Login person password invisible)).reply)
      (0 == person) (is_among group.persons person) accepted own)
  changes-own state pass moment session reference what own =
      call-own (asked_in state (moment_of state moment) session reference) what refl

  -- ---- what acts make of the seats
  change-own : (what : SessionChange) (moment : ℕ) (row : Session) → seats_own what ≡ true → IsOwn row →
      row.seat.number ≡ changed_session what → IsOwn (after_change what moment row)
  change-own (change.Person session person invisible) moment row sits is here =
      let seated : Seat = record row.seat {
        person = person;
        level = 0;
        working = 0;
        flags = with_invisible invisible row.seat.flags;
      } in
      let own : may_sit row.seat.number person ≡ true =
      ap (λ number. may_sit number person) here ∙ sits in
      cond_both (person == 0) seated (record seated { login = moment; active = moment })
      (λ (seat : Seat). may_sit seat.number seat.person ≡ true) (λ _. own) (λ _. own)
  change-own (change.Level session level) moment row sits is here = is
  change-own (change.Working session conference) moment row sits is here = is
  change-own (change.Doing session doing) moment row sits is here = is
  change-own (change.Client session client version) moment row sits is here = is
  change-own (change.Accept session accepted) moment row sits is here = is
  change-own (change.Active session) moment row sits is here = is
  change-own (change.Ended session) moment row sits is here = is
  change-own change.Stop moment row sits is here = is

  make-own : (moment : ℕ) (changes : List SessionChange) (state : State) → SeatOwn changes →
      AllByRecursion IsOwn state.sessions → AllByRecursion IsOwn (make_changes moment changes state).sessions
  make-own moment [] state sits all = all
  make-own moment (what ∷ changes) state sits all =
      let parts = and_parts (seats_own what) (list_all seats_own changes) sits in
      make-own moment changes (make_change moment what state) parts.1
      (all-mapped IsOwn IsOwn (λ row. cond (is_session (changed_session what) row) (after_change what moment row) row)
      (λ row is. cond_both (is_session (changed_session what) row) (after_change what moment row) row IsOwn
      (λ here. change-own what moment row parts.0 is (eqb-true row.seat.number (changed_session what) here))
      (λ there. is)) state.sessions all)

  acted-own : (state : State) (pass moment : ℕ) (what : Act) (session : ℕ) (short : Bool) →
      logs_in_own group state (record { pass = pass; moment = moment; act = what }) ≡ true →
      AllByRecursion IsOwn state.sessions → AllByRecursion IsOwn (after_act state (record {
        entry = record { pass = pass; moment = moment; act = what };
        session = session;
        short = short;
      })).sessions
  acted-own state pass moment (act.Connect user host) session short own all =
      all-more IsOwn state.sessions (fresh_session (state.connects + 1) pass user host (moment_of state moment)) all
      refl
  acted-own state pass moment (act.Call number reference what) session true own all = all
  acted-own state pass moment (act.Call number reference what) session false own all =
      let decision : Decision = decision_at state moment number reference what in
      make-own (moment_of state moment) decision.changes
      (record state { db = apply_all decision.effects state.db })
      (changes-own state pass moment number reference what own) all
  acted-own state pass moment (act.Broken number) session short own all = all
  acted-own state pass moment (act.Drain number) session short own all =
      all-mapped IsOwn IsOwn (λ row. cond (is_session number row) (after_drain state.stable row) row)
      (λ row is. cond_both (is_session number row) (after_drain state.stable row) row IsOwn (λ _. is) (λ _. is))
      state.sessions all
  acted-own state pass moment act.Flush session true own all = all
  acted-own state pass moment act.Flush session false own all = all
  acted-own state pass moment (act.Close number) session short own all =
      all-kept IsOwn (λ row. not (is_session number row)) state.sessions all

  after-own : (state : State) (made : Record) → logs_in_own group state made.entry ≡ true →
      AllByRecursion IsOwn state.sessions → AllByRecursion IsOwn (after state made).sessions
  after-own state made own all =
      let next : State = after_act state made in
      subst (AllByRecursion IsOwn)
      (sym (rows-filled waiting_limits state.entries (deliveries state made) next (entries-acted state made)))
      (all-mapped IsOwn IsOwn _
      (λ row is. subst (λ (seat : Seat). may_sit seat.number seat.person ≡ true)
      (sym (seat-row waiting_limits state.entries (items_for row.seat.number (deliveries state made)) row)) is)
      next.sessions
      (acted-own state made.entry.pass made.entry.moment made.entry.act made.session made.short own all))

  -- ---- the sessions of the group are its own, and stay so
  own-of : (state : State) → AreOfGroup group state → AllByRecursion IsOwn state.sessions
  own-of state of_group = all-weaker
      (λ (session : Session). IsTrue (is_among group.sessions session.seat.number) →
      IsOfGroup group (viewer_of state.db session.seat)) IsOwn
      (λ row is. elim (cases_Bool (is_among group.sessions row.seat.number)) [
        | inl among ↦ or_left _ _ (is among).0
        | inr apart ↦ or_right _ _ (ap not apart)
      ]) state.sessions of_group

  pub after-of_group : (state : State) (made : Record) → IsQuiet group state made → AreOfGroup group state →
      AreOfGroup group (after state made)
  after-of_group state made quiet of_group =
      let next : State = after state made in
      all-along IsOwn (λ (session : Session). IsTrue (not (is_among group.sessions session.seat.number
      && is_strong_seat next.db session.seat)))
      (λ (session : Session). IsTrue (is_among group.sessions session.seat.number) →
      IsOfGroup group (viewer_of next.db session.seat))
      (λ row own weak among. (
        own-person row own among,
        not-true _ (ap (λ is. not (is && is_strong_seat next.db row.seat)) (sym among) ∙ weak),
      ))
      next.sessions (after-own state made quiet.own (own-of state of_group)) quiet.weak where
        own-person : (row : Session) → IsOwn row → is_among group.sessions row.seat.number ≡ true →
            is_among (0 ∷ group.persons) row.seat.person ≡ true
        own-person row own among = elim (or_cases _ _ own) [
          | inl is ↦ is
          | inr apart ↦ absurd (true≢false (sym (ap not (sym among) ∙ apart)))
        ]
