-- What a call changes that is refused, and what one comes to that is not.
use Rattle.std.proofs.Common.{◌≡◌, ℕ, Bool, true, false, not, ◌||◌, ◌&&◌, List, [], ◌∷◌, Option, Some, None, refl, sym}
use Rattle.std.proofs.Common.{cond, true≢false, ap, ◌∙◌}
use Rattle.std.proofs.lemmas.Bool.{or_right, and_parts}
use Rattle.kom_types.specs.declared.errors.TheConstants as error
use Rattle.kom_types.specs.declared.acts.Act.{Act}
use Rattle.kom_types.specs.declared.acts.Act.TheVariants as act
use Rattle.kom_types.specs.declared.acts.Record.{Record}
use Rattle.kom_types.specs.declared.aux_items.Adder.{Adder}
use Rattle.kom_types.specs.declared.aux_items.AuxChange.{AuxChange}
use Rattle.kom_types.specs.declared.aux_items.Object.{Object}
use Rattle.kom_types.specs.declared.aux_items.Object.TheVariants as object
use Rattle.kom_types.specs.declared.calls.Call.{Call}
use Rattle.kom_types.specs.declared.calls.Call.TheVariants as call
use Rattle.kom_types.specs.declared.conferences.ConferenceRow.{ConferenceRow}
use Rattle.kom_types.specs.declared.decisions.Decision.{Decision}
use Rattle.kom_types.specs.declared.effects.Effect.{Effect}
use Rattle.kom_types.specs.declared.replies.Reply.{Reply}
use Rattle.kom_types.specs.declared.replies.Reply.TheVariants as reply
use Rattle.kom_types.specs.declared.seats.Seat.{Seat}
use Rattle.kom_types.specs.declared.session_changes.SessionChange.TheVariants as change
use Rattle.kom_types.specs.declared.texts.NewText.{NewText}
use Rattle.kom_types.specs.declared.texts.TextRow.{TextRow}
use Rattle.kom_model.specs.Db.{next_conference_of, items_of}
use Rattle.kom_model.specs.After.{moment_of, reply_in}
use Rattle.kom_model.specs.Decide.{asked_in, decision_of, definition_of}
use Rattle.kom_model.specs.Effects.{apply_all, fitting_effects}
use Rattle.kom_model.specs.Kept.{kept_of}
use Rattle.kom_model.specs.Shown.{text_adder, conference_adder}
use Rattle.kom_model.specs.State.{State}
use Rattle.kom_model.specs.ToWhom.{is_refused}
use Rattle.kom_model.specs.calls.AuxItems.{item_effects, change_items, object_of, numbers_guard}
use Rattle.kom_model.specs.calls.Call.{Asked, answer, done_with, refuse}
use Rattle.kom_model.specs.calls.Conferences.{nearest}
use Rattle.kom_model.specs.calls.Guards.{Guard, with_items, caller, first_refusal, items_guard, new_items_guard}
use Rattle.kom_model.specs.calls.Guards.{seat_at}
use Rattle.kom_model.specs.calls.NewTexts.{new_text}
use Rattle.kom_model.specs.calls.Persons.{maker}
use Rattle.kom_model.specs.calls.Sessions.{accept_reply, accepted_bits, session_meant, end_session, static_of}
use Rattle.kom_model.specs.calls.Texts.{nearest_text}
use Rattle.kom_model.proofs.Deciding.{decision-meets}
use Rattle.kom_model.proofs.Kept.{kept_makes}
use Rattle.kom_laws.specs.Refusing.{refused_changes, RefusedChangesNothing, RefusedKeepsRows}

-- nothing stands in a list
abbrev pub is_none_of : {X : Type 0} → List X → Bool
is_none_of [] = true
is_none_of (x ∷ xs) = false

pub none-of : {X : Type 0} (xs : List X) → is_none_of xs ≡ true → xs ≡ []
none-of [] none = refl
none-of (x ∷ xs) none = absurd (true≢false (sym none))

-- a decision changes nothing
abbrev pub is_idle : Decision → Bool
is_idle decision = is_none_of decision.effects && is_none_of decision.changes

-- the one call that makes a change even where it is refused
abbrev pub accepts_async : Call → Bool
accepts_async (call.AcceptAsync numbers) = true
accepts_async other = false

-- ---- a call that is refused changes nothing
abbrev pub spares_refused : Decision → Bool
spares_refused decision = not (is_refused decision.reply) || is_idle decision

record Spares (decision : Decision) : Type 0 where
  holds : spares_refused decision ≡ true

spares : (decision : Decision) → spares_refused decision ≡ true → Spares decision
spares decision holds = record { holds = holds }

answer-spares : (reply : Reply) → Spares (answer reply)
answer-spares reply = spares _ (or_right (not (is_refused reply)) true refl)

items-spare : (guard : Guard) (decision : Decision) → Spares decision → Spares (with_items guard decision)
items-spare None decision is = is
items-spare (Some refused) decision is = spares _ refl

ended-spares : (asked : Asked) (found : Option Seat) → Spares (elim found as (λ _. Decision) [
  | None ↦ done_with [] []
  | Some seat ↦ end_session asked seat
])
ended-spares asked None = spares _ refl
ended-spares asked (Some seat) = spares _ refl

static-spares : (found : Option Seat) → Spares (elim found as (λ _. Decision) [
  | None ↦ done_with [] []
  | Some seat ↦ answer (reply.StaticSession (static_of seat))
])
static-spares None = spares _ refl
static-spares (Some seat) = spares _ refl

nearest-spares : (asked : Asked) (start : ℕ) (found : Option ConferenceRow) → Spares (nearest asked start found).rest
nearest-spares asked start None = spares _ refl
nearest-spares asked start (Some row) = spares _ refl

nearest_text-spares : (asked : Asked) (start : ℕ) (found : Option TextRow) →
    Spares (nearest_text asked start found).rest
nearest_text-spares asked start None = spares _ refl
nearest_text-spares asked start (Some row) = spares _ refl

change-spares : (asked : Asked) (on_text : Bool) (on : Object) (adder : Adder) (given : AuxChange) →
    Spares (change_items asked on_text on adder given)
change-spares asked on_text on adder given = items-spare
    (first_refusal
    (items_guard on adder (items_of asked.db on_text given.object) given.delete given.add
    ∷ numbers_guard asked.db on_text given ∷ [])) (done_with (item_effects asked on_text adder given) [])
    (spares _ refl)

new_text-spares : (anonymous : Bool) (asked : Asked) (given : NewText) → Spares (new_text anonymous asked given).rest
new_text-spares anonymous asked given =
    items-spare (new_items_guard object.Text (caller asked).person given.aux_items) _ (spares _ refl)

rest-spares : (asked : Asked) (what : Call) → accepts_async what ≡ false → Spares (definition_of asked what).rest
rest-spares asked (call.AcceptAsync numbers) other = absurd (true≢false other)
rest-spares asked (call.Disconnect session) other =
    ended-spares asked (seat_at asked.seats (session_meant asked session))
rest-spares asked (call.GetStaticSessionInfo session) other = static-spares (seat_at asked.seats session)
rest-spares asked (call.GetPersonStat person) other = answer-spares _
rest-spares asked (call.GetTextStat text) other = answer-spares _
rest-spares asked (call.GetConfStat conference) other = answer-spares _
rest-spares asked (call.GetUconfStat conference) other = answer-spares _
rest-spares asked (call.QueryReadTexts person conference want_ranges most) other = answer-spares _
rest-spares asked (call.CreatePerson given) other = items-spare (new_items_guard object.Letterbox
    (maker (caller asked).person (next_conference_of asked.db)) given.aux_items) _ (spares _ refl)
rest-spares asked (call.CreateConf given) other =
    items-spare (new_items_guard object.Conference (caller asked).person given.aux_items) _ (spares _ refl)
rest-spares asked (call.CreateText given) other = new_text-spares false asked given
rest-spares asked (call.CreateAnonymousText given) other = new_text-spares true asked given
rest-spares asked (call.ModifyTextInfo given) other =
    change-spares asked true object.Text (text_adder asked.db (caller asked) given.object) given
rest-spares asked (call.ModifyConfInfo given) other = change-spares asked false (object_of asked.db given.object)
    (conference_adder asked.db (caller asked) given.object) given
rest-spares asked (call.FindNextTextNo start) other = nearest_text-spares asked start _
rest-spares asked (call.FindPreviousTextNo start) other = nearest_text-spares asked start _
rest-spares asked (call.FindNextConfNo start) other = nearest-spares asked start _
rest-spares asked (call.FindPreviousConfNo start) other = nearest-spares asked start _
rest-spares asked what other = spares _ refl

pub refused-spares : (asked : Asked) (what : Call) → accepts_async what ≡ false →
    spares_refused (decision_of asked what) ≡ true
refused-spares asked what other = decision-meets (λ decision. spares_refused decision ≡ true) (λ why. refl) asked what
    (λ passes. (rest-spares asked what other).holds)

pub refused-idle : (asked : Asked) (what : Call) → accepts_async what ≡ false →
    is_refused (decision_of asked what).reply ≡ true →
    ((decision_of asked what).effects ≡ []) × ((decision_of asked what).changes ≡ [])
refused-idle asked what other refused =
    let idle : is_idle (decision_of asked what) ≡ true =
    ap (λ is. not is || is_idle (decision_of asked what)) (sym refused)
    ∙ refused-spares asked what other in
    let parts =
    and_parts (is_none_of (decision_of asked what).effects) (is_none_of (decision_of asked what).changes) idle in
    (none-of _ parts.0, none-of _ parts.1)

-- ---- and but for accept-async, which is refused for a number of no message though it makes its change
abbrev code_of : Reply → ℕ
code_of (reply.Refused code status) = code
code_of other = 0

accepting-changes : (asked : Asked) (numbers : List ℕ) (found : Option ℕ) (fits : Bool) (code status : ℕ) →
    let accepting : Decision = record {
      reply = accept_reply found;
      effects = [];
      changes = change.Accept asked.session (accepted_bits numbers) ∷ [];
    } in
    let decision : Decision = cond fits accepting (refuse (record { code = error.LONG_ARRAY; status = 0 })) in
    decision.reply ≡ reply.Refused code status →
    (decision.effects ≡ []) × (decision.changes ≡ refused_changes asked (call.AcceptAsync numbers) code)
accepting-changes asked numbers (Some number) true code status is =
    (refl, ap (λ (n : ℕ). refused_changes asked (call.AcceptAsync numbers) n) (ap code_of is))
accepting-changes asked numbers None true code status is = absurd (true≢false (sym (ap is_refused is)))
accepting-changes asked numbers found false code status is =
    (refl, ap (λ (n : ℕ). refused_changes asked (call.AcceptAsync numbers) n) (ap code_of is))

async-changes : (asked : Asked) (numbers : List ℕ) (code status : ℕ) →
    (decision_of asked (call.AcceptAsync numbers)).reply ≡ reply.Refused code status →
    ((decision_of asked (call.AcceptAsync numbers)).effects ≡ [])
    × ((decision_of asked (call.AcceptAsync numbers)).changes ≡ refused_changes asked (call.AcceptAsync numbers) code)
unfolding decision_of
async-changes asked numbers code status is = accepting-changes asked numbers _ _ code status is

pub refused-changes : RefusedChangesNothing
refused-changes asked (call.AcceptAsync numbers) code status is = async-changes asked numbers code status is
refused-changes asked what code status is = refused-idle asked what refl (ap is_refused is)

-- ---- so the stored rows stay
abbrev told : Option Reply → Reply
told (Some reply) = reply
told None = reply.Done

replied-keeps : (state : State) (pass moment : ℕ) (what : Act) (session : ℕ) (short : Bool) (code status : ℕ) →
    let made : Record = record {
      entry = record { pass = pass; moment = moment; act = what };
      session = session;
      short = short;
    } in
    reply_in state made ≡ Some (reply.Refused code status) → kept_of state made ≡ []
replied-keeps state pass moment (act.Call number reference call) session true code status is = refl
replied-keeps state pass moment (act.Call number reference call) session false code status is =
    ap (λ (effects : List Effect). fitting_effects effects state.db)
    (refused-changes (asked_in state (moment_of state moment) number reference) call code status
    (ap told is)).0
replied-keeps state pass moment (act.Connect user host) session short code status is = cc
replied-keeps state pass moment (act.Broken number) session short code status is = cc
replied-keeps state pass moment (act.Drain number) session short code status is = cc
replied-keeps state pass moment act.Flush session short code status is = cc
replied-keeps state pass moment (act.Close number) session short code status is = cc

pub refused-keeps : RefusedKeepsRows
refused-keeps state made code status is =
    sym (kept_makes state made)
    ∙ ap (λ (effects : List Effect). apply_all effects state.db)
    (replied-keeps state made.entry.pass made.entry.moment made.entry.act made.session made.short code status is)

-- ---- what is not refused is what the definition gives
pub accepted-rest : (asked : Asked) (what : Call) → is_refused (decision_of asked what).reply ≡ false →
    decision_of asked what ≡ (definition_of asked what).rest
accepted-rest asked what =
    decision-meets (λ decision. is_refused decision.reply ≡ false → decision ≡ (definition_of asked what).rest)
    (λ why accepted. absurd (true≢false accepted)) asked what (λ passes accepted. refl)
