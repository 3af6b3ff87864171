-- The one session of a server is given the reply to each call by the drain that follows it.
use Rattle.std.proofs.Common.{◌≡◌, ℕ, ◌==◌, ◌^◌, Bool, true, false, cond, not, ◌||◌, List, [], ◌∷◌}
use Rattle.std.proofs.Common.{◌++◌, Some, refl, sym, ap, ◌∙◌, subst, inl, inr, true≢false}
use Rattle.std.proofs.Common.{eq-eqb}
use Rattle.std.specs.Prelude.{map, flat_map}
use Rattle.std.specs.List.{AllByRecursion}
use Rattle.std.proofs.lemmas.Bool.{cases_Bool, cond_both, or_right}
use Rattle.std.specs.Int.Bits.{and_zero_l}
use Rattle.kom_types.specs.Bits.{is_on}
use Rattle.kom_types.specs.Sessions.{Session, Waiting, Limits, waiting_limits, is_session, queue, fits}
use Rattle.kom_types.specs.Sessions.{after_change, changed_seat, with_invisible}
use Rattle.kom_types.specs.Sessions.{changed_session}
use Rattle.kom_types.specs.declared.acts.Act.TheVariants as act
use Rattle.kom_types.specs.declared.acts.Record.{Record}
use Rattle.kom_types.specs.declared.calls.Call.{Call}
use Rattle.kom_types.specs.declared.calls.Call.TheVariants as call
use Rattle.kom_types.specs.declared.decisions.Decision.{Decision}
use Rattle.kom_types.specs.declared.errors.TheConstants as error
use Rattle.kom_types.specs.declared.items.Item.{Item}
use Rattle.kom_types.specs.declared.items.Item.TheVariants as item
use Rattle.kom_types.specs.declared.replies.Reply.{Reply}
use Rattle.kom_types.specs.declared.replies.Reply.TheVariants as reply
use Rattle.kom_types.specs.declared.seats.Seat.{Seat}
use Rattle.kom_types.specs.declared.session_changes.SessionChange.{SessionChange}
use Rattle.kom_types.specs.declared.session_changes.SessionChange.TheVariants as change
use Rattle.kom_model.specs.After.{after, after_sending, queue_all, with_session, make_change, make_changes}
use Rattle.kom_model.specs.After.{moment_of, decision_at, reply_to, reply_in}
use Rattle.kom_model.specs.Db.{Db}
use Rattle.kom_model.specs.Decide.{asked_in, decision_of, definition_of}
use Rattle.kom_model.specs.Effects.{apply_all}
use Rattle.kom_model.specs.Sending.{Delivery, Sending, delivered_to, accepts}
use Rattle.kom_model.specs.State.{State, seats_of}
use Rattle.kom_model.specs.ToWhom.{messages_of, sendings}
use Rattle.kom_model.specs.calls.Call.{Asked}
use Rattle.kom_model.specs.calls.Guards.{caller}
use Rattle.kom_model.specs.calls.Sessions.{leaving_changes}
use Rattle.kom_model.proofs.Deciding.{decision-meets}
use Rattle.sweep_laws.specs.Leaving.{is_swept_call}
use Rattle.sweep_laws.proofs.Staying.{made_so, queued-seat, rest-quiet}
use Rattle.sweep_laws.proofs.Walked.{all-joined}

-- ---- the session
-- There is one session, of this number, which accepts no message. Unless it is overrun, this waits.
pub record IsAlone (session : ℕ) (state : State) (waiting : List Waiting) : Type 0 where
  pub row : Session
  pub are : state.sessions ≡ row ∷ []
  pub number : row.seat.number ≡ session
  pub accepted : row.seat.accepted ≡ 0
  pub waits : row.overrun ≡ false → row.waiting ≡ waiting

-- ---- no message comes to it
nothing-accepted : (number : ℕ) (seat : Seat) → seat.accepted ≡ 0 → accepts number seat ≡ false
nothing-accepted number seat none =
    ap (λ (bits : ℕ). is_on (2 ^ number) bits) none ∙ ap (λ (n : ℕ). not (n == 0)) (and_zero_l (2 ^ number))

none-delivered : (db : Db) (seat : Seat) → seat.accepted ≡ 0 → (sending : Sending) →
    delivered_to db (seat ∷ []) sending ≡ []
none-delivered db seat none sending =
    let silent : (seat.person == 0 || not (accepts sending.number seat)) ≡ true =
    or_right (seat.person == 0) (not (accepts sending.number seat)) (ap not (nothing-accepted sending.number seat none))
    in
    rw silent refl

none-sent : (db : Db) (seat : Seat) → seat.accepted ≡ 0 → (all : List Sending) →
    flat_map (delivered_to db (seat ∷ [])) all ≡ []
none-sent db seat none [] = refl
none-sent db seat none (sending ∷ all) = rw (none-delivered db seat none sending) (none-sent db seat none all)

no-messages : (asked : Asked) (what : Call) (decision : Decision) (seat : Seat) → asked.seats ≡ seat ∷ [] →
    seat.accepted ≡ 0 → messages_of asked what decision ≡ []
unfolding messages_of
no-messages asked what decision seat seats none =
    ap (λ (seats : List Seat). flat_map (delivered_to asked.db seats) (sendings asked what decision)) seats
    ∙ none-sent asked.db seat none (sendings asked what decision)

-- ---- what the calls of a sweep change of it
-- a change after which a session accepts as much as before
abbrev Keeps : SessionChange → Type 0
Keeps what = (moment : ℕ) (seat : Seat) → ((changed_seat what moment seat).number ≡ seat.number)
    × ((changed_seat what moment seat).accepted ≡ seat.accepted)

keeps-person : (session person : ℕ) (invisible : Bool) → Keeps (change.Person session person invisible)
keeps-person session person invisible moment seat =
    let seated : Seat = record seat {
      person = person;
      level = 0;
      working = 0;
      flags = with_invisible invisible seat.flags;
    } in
    cond_both (person == 0) seated (record seated { login = moment; active = moment })
    (λ (made : Seat). (made.number ≡ seat.number) × (made.accepted ≡ seat.accepted)) (λ _. (refl, refl))
    (λ _. (refl, refl))

leaving-keeps : (asked : Asked) → AllByRecursion Keeps (leaving_changes asked)
leaving-keeps asked = by ((caller asked).person == 0) where
  by : (none : Bool) → AllByRecursion Keeps (cond none [] (change.Person asked.session 0 false ∷ []))
  by true = tt
  by false = (keeps-person asked.session 0 false, tt)

rest-keeps : (asked : Asked) (what : Call) → is_swept_call what ≡ true →
    AllByRecursion Keeps (definition_of asked what).rest.changes
rest-keeps asked (call.Login person password invisible) is =
    all-joined Keeps (leaving_changes asked) (change.Person asked.session person invisible ∷ []) (leaving-keeps asked)
    (keeps-person asked.session person invisible, tt)
rest-keeps asked (call.Enable level) is = ((λ moment seat. (refl, refl)), tt)
rest-keeps asked call.Logout is = leaving-keeps asked
rest-keeps asked (call.FindNextConfNo start) is = subst (AllByRecursion Keeps)
    (sym (rest-quiet asked (call.FindNextConfNo start) refl)) tt
rest-keeps asked (call.FindNextTextNo start) is = subst (AllByRecursion Keeps)
    (sym (rest-quiet asked (call.FindNextTextNo start) refl)) tt
rest-keeps asked call.SyncKom is = tt
rest-keeps asked (call.GetConfStat conference) is = tt
rest-keeps asked (call.GetPersonStat person) is = tt
rest-keeps asked (call.GetTextStat text) is = tt
rest-keeps asked (call.DeleteText text) is = tt
rest-keeps asked other is = absurd (true≢false (sym is))

decision-keeps : (asked : Asked) (what : Call) → is_swept_call what ≡ true →
    AllByRecursion Keeps (decision_of asked what).changes
decision-keeps asked what is = decision-meets (λ (decision : Decision). AllByRecursion Keeps decision.changes)
    (λ why. tt) asked what (λ pass. rest-keeps asked what is)

-- one row, with a change of some session
pub changed-alone : (session number : ℕ) (state : State) (waiting waiting' : List Waiting)
    (change : Session → Session) → IsAlone session state waiting →
    ((row : Session) → row.seat.number ≡ session → row.seat.accepted ≡ 0 →
    ((change row).seat.number ≡ session) × ((change row).seat.accepted ≡ 0)) →
    ((row : Session) → row.seat.number ≡ session → (row.overrun ≡ false → row.waiting ≡ waiting) →
    (cond (row.seat.number == number) (change row) row).overrun ≡ false →
    (cond (row.seat.number == number) (change row) row).waiting ≡ waiting') →
    IsAlone session (with_session number change state) waiting'
changed-alone session number state waiting waiting' change alone keeps waits = record {
  row = cond (alone.row.seat.number == number) (change alone.row) alone.row;
  are = ap (map (λ row. cond (is_session number row) (change row) row)) alone.are;
  number = cond_both (alone.row.seat.number == number) (change alone.row) alone.row
      (λ (row : Session). row.seat.number ≡ session)
      (λ _. (keeps alone.row alone.number alone.accepted).0) (λ _. alone.number);
  accepted = cond_both (alone.row.seat.number == number) (change alone.row) alone.row
      (λ (row : Session). row.seat.accepted ≡ 0)
      (λ _. (keeps alone.row alone.number alone.accepted).1) (λ _. alone.accepted);
  waits = waits alone.row alone.number alone.waits;
}

made-alone : (session moment : ℕ) (state : State) (waiting : List Waiting) (changes : List SessionChange) →
    AllByRecursion Keeps changes → IsAlone session state waiting →
    IsAlone session (make_changes moment changes state) waiting
made-alone session moment state waiting [] all alone = alone
made-alone session moment state waiting (what ∷ changes) all alone =
    let one = changed-alone session (changed_session what) state waiting waiting (after_change what moment) alone
    (λ row number accepted. (
      (all.0 moment row.seat).0 ∙ number,
      (all.0 moment row.seat).1 ∙ accepted,
    ))
    (λ row number before. cond_both (row.seat.number == changed_session what) (after_change what moment row) row
    (λ (made : Session). made.overrun ≡ false → made.waiting ≡ waiting) (λ _. before) (λ _. before)) in
    made-alone session moment (make_change moment what state) waiting changes all.1 (record {
      row = one.row;
      are = one.are;
      number = one.number;
      accepted = one.accepted;
      waits = one.waits;
    })

-- ---- a call
-- the item that waits last
abbrev pub after_item : List Waiting → Item → ℕ → List Waiting
after_item waiting one entry = waiting ++ record { item = one; entry = entry } ∷ []

queued-waits : (limits : Limits) (entry : ℕ) (one : Item) (waiting : List Waiting) (row : Session) →
    (row.overrun ≡ false → row.waiting ≡ waiting) → (queue limits entry one row).overrun ≡ false →
    (queue limits entry one row).waiting ≡ after_item waiting one entry
queued-waits limits entry one waiting row before = elim (cases_Bool row.overrun) [
  | inl over ↦ λ none. absurd (true≢false (sym over ∙ sym (overrun-kept over) ∙ none))
  | inr under ↦ elim (cases_Bool (fits limits row.waiting one)) [
    | inl fit ↦ λ none. rw (under, fit) (ap (λ (waiting : List Waiting). after_item waiting one entry) (before under))
    | inr unfit ↦ λ none. absurd (true≢false (sym (made-over under unfit) ∙ none))
  ]
] where
  overrun-kept : row.overrun ≡ true → (queue limits entry one row).overrun ≡ row.overrun
  overrun-kept over = rw over refl

  made-over : row.overrun ≡ false → fits limits row.waiting one ≡ false →
      (queue limits entry one row).overrun ≡ true
  made-over under unfit = rw (under, unfit) refl

-- an item for it is queued
pub queued-alone : (session entry : ℕ) (state : State) (waiting : List Waiting) (one : Item) →
    IsAlone session state waiting →
    IsAlone session (with_session session (queue waiting_limits entry one) state) (after_item waiting one entry)
queued-alone session entry state waiting one alone = changed-alone session session state waiting
    (after_item waiting one entry) (queue waiting_limits entry one) alone
    (λ row number accepted. (
      ap (λ (seat : Seat). seat.number) (queued-seat waiting_limits entry one row) ∙ number,
      ap (λ (seat : Seat). seat.accepted) (queued-seat waiting_limits entry one row) ∙ accepted,
    ))
    (λ row number before. subst (λ (here : Bool). (cond here (queue waiting_limits entry one row) row).overrun ≡ false →
    (cond here (queue waiting_limits entry one row) row).waiting ≡ after_item waiting one entry)
    (sym (eq-eqb row.seat.number session number)) (queued-waits waiting_limits entry one waiting row before))

alone-seats : (session : ℕ) (state : State) (waiting : List Waiting) (alone : IsAlone session state waiting) →
    seats_of state ≡ alone.row.seat ∷ []
alone-seats session state waiting alone = ap (map (λ row. row.seat)) alone.are

entries-changed : (moment : ℕ) (changes : List SessionChange) (state : State) →
    (make_changes moment changes state).entries ≡ state.entries
entries-changed moment [] state = refl
entries-changed moment (what ∷ changes) state = entries-changed moment changes (make_change moment what state)

-- what a call leaves: its reply waits last
pub record Called (session : ℕ) (state : State) (made : Record) (reference : ℕ) (waiting : List Waiting)
    : Type 0 where
  pub body : Reply
  pub replied : reply_in state made ≡ Some body
  pub alone : IsAlone session (after state made) (after_item waiting (item.Reply reference body) state.entries)

pub called : (session : ℕ) (state : State) (pass moment reference : ℕ) (what : Call) (by : ℕ) (short : Bool)
    (waiting : List Waiting) → is_swept_call what ≡ true → IsAlone session state waiting →
    Called session state (made_so pass moment (act.Call session reference what) by short) reference waiting
called session state pass moment reference what by true waiting is alone =
    let queued = queued-alone session state.entries state waiting
    (item.Reply reference (reply.Refused error.OUT_OF_MEMORY 0)) alone in
    record {
      body = reply.Refused error.OUT_OF_MEMORY 0;
      replied = refl;
      alone = record {
        row = queued.row;
        are = queued.are;
        number = queued.number;
        accepted = queued.accepted;
        waits = queued.waits;
      };
    }
called session state pass moment reference what by false waiting is alone =
    let made : Record = made_so pass moment (act.Call session reference what) by false in
    let asked : Asked = asked_in state (moment_of state moment) session reference in
    let decision : Decision = decision_at state moment session reference what in
    let start : State = record state { db = apply_all decision.effects state.db } in
    let middle : State = make_changes (moment_of state moment) decision.changes start in
    let begun : IsAlone session start waiting = record {
      row = alone.row;
      are = alone.are;
      number = alone.number;
      accepted = alone.accepted;
      waits = alone.waits;
    } in
    let changed : IsAlone session middle waiting = made-alone session (moment_of state moment) start waiting
    decision.changes (decision-keeps asked what is) begun in
    let none : messages_of asked what decision ≡ [] =
    no-messages asked what decision alone.row.seat (alone-seats session state waiting alone) alone.accepted in
    let entries : middle.entries ≡ state.entries = entries-changed (moment_of state moment) decision.changes start in
    let queued = queued-alone session middle.entries middle waiting (item.Reply reference decision.reply) changed in
    let sent : after_sending state made
    ≡ with_session session (queue waiting_limits middle.entries (item.Reply reference decision.reply)) middle =
    ap (λ (messages : List Delivery). queue_all waiting_limits
    (messages ++ reply_to session reference decision.reply ∷ []) middle) none in
    record {
      body = decision.reply;
      replied = refl;
      alone = record {
        row = queued.row;
        are = ap (λ (state : State). state.sessions) sent ∙ queued.are;
        number = queued.number;
        accepted = queued.accepted;
        waits = λ none. queued.waits none
            ∙ ap (λ (entry : ℕ). after_item waiting (item.Reply reference decision.reply) entry) entries;
      };
    }
