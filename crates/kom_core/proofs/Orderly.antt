-- The effects of a call give one name at most.
use Rattle.std.proofs.Common.{◌≡◌, ◌==◌, ℕ, ◌-◌, Bool, true, false, cond, List, [], ◌∷◌, ◌++◌, length, map, filter}
use Rattle.std.proofs.Common.{Option, Some, None, refl, sym, subst}
use Rattle.std.specs.List.{filter_map, flat_map}
use Rattle.std.proofs.lemmas.List.Elements.{filter_map-append}
use Rattle.kom_types.specs.AuxItems.{items_from}
use Rattle.kom_types.specs.declared.aux_items.Adder.{Adder}
use Rattle.kom_types.specs.declared.aux_items.AuxChange.{AuxChange}
use Rattle.kom_types.specs.declared.aux_items.AuxRow.{AuxRow}
use Rattle.kom_types.specs.declared.aux_items.Object.{Object}
use Rattle.kom_types.specs.declared.aux_items.Object.TheVariants as object
use Rattle.kom_types.specs.declared.calls.Call.{Call}
use Rattle.kom_types.specs.declared.calls.Call.TheVariants as call
use Rattle.kom_types.specs.declared.conferences.ConferenceRow.{ConferenceRow}
use Rattle.kom_types.specs.declared.conferences.NewConference.{NewConference}
use Rattle.kom_types.specs.declared.decisions.Decision.{Decision}
use Rattle.kom_types.specs.declared.effects.Counter.{Counter}
use Rattle.kom_types.specs.declared.effects.Counter.TheVariants as counter
use Rattle.kom_types.specs.declared.effects.Effect.{Effect}
use Rattle.kom_types.specs.declared.effects.Effect.TheVariants as effect
use Rattle.kom_types.specs.declared.memberships.MembershipRow.{MembershipRow}
use Rattle.kom_types.specs.declared.persons.NewPerson.{NewPerson}
use Rattle.kom_types.specs.declared.seats.Seat.{Seat}
use Rattle.kom_types.specs.declared.texts.TextLink.{TextLink}
use Rattle.kom_types.specs.declared.texts.LocalText.{LocalText}
use Rattle.kom_types.specs.declared.texts.MarkRow.{MarkRow}
use Rattle.kom_types.specs.declared.texts.MiscInput.{MiscInput}
use Rattle.kom_types.specs.declared.texts.NewText.{NewText}
use Rattle.kom_types.specs.declared.texts.Recipient.{Recipient}
use Rattle.kom_types.specs.declared.texts.TextRow.{TextRow}
use Rattle.kom_types.specs.tables.Texts.{lines_of}
use Rattle.kom_state.specs.Room.{name_given, IsOrderly}
use Rattle.kom_model.specs.State.{State}
use Rattle.kom_model.specs.Db.{Db, person_of, membership_of, memberships_at, next_conference_of, next_text_of, links_of}
use Rattle.kom_model.specs.Db.{recipients_of, locals_of, marks_of, marks_on, items_of, next_item_of}
use Rattle.kom_model.specs.Shown.{text_adder, conference_adder}
use Rattle.kom_model.specs.calls.AuxItems.{items_added, item_effects, change_items, object_of, numbers_guard}
use Rattle.kom_model.specs.calls.Call.{Asked, seat_of, done_with, answer}
use Rattle.kom_model.specs.calls.Conferences.{nearest, gone_person, gone_conference, create_conf}
use Rattle.kom_model.specs.calls.Guards.{Guard, with_items, caller, first_refusal, items_guard}
use Rattle.kom_model.specs.calls.Guards.{new_items_guard, seat_at}
use Rattle.kom_types.specs.declared.replies.Reply.TheVariants as reply
use Rattle.read_ranges.specs.Changed.{all_marked, size_of}
use Rattle.kom_model.specs.calls.Memberships.{mark_as_read, had_read, reads_now, member_effects, joins, is_near}
use Rattle.kom_model.specs.calls.Memberships.{set_member, type_effects}
use Rattle.kom_model.specs.calls.NewTexts.{names_recipient, names_footnote, item_effect, item_written, author_effects}
use Rattle.kom_model.specs.calls.NewTexts.{text_effects, new_text, new_items}
use Rattle.kom_model.specs.calls.Persons.{person_effects, maker}
use Rattle.kom_model.specs.calls.Sessions.{counts, seat_left, all_left, leaving_effects, session_meant, end_session}
use Rattle.kom_model.specs.calls.Sessions.{static_of}
use Rattle.kom_model.specs.calls.Texts.{gone_text, new_recipient, nearest_text}
use Rattle.kom_model.specs.Decide.{definition_of, decision_of}
use Rattle.kom_core.specs.declared.asking.Asking.{Asking}
use Rattle.kom_core.specs.Deciding.{asked_by, Decides}
use Rattle.kom_model.proofs.Deciding.{decision-holds}

-- effects that give no name
abbrev IsNameless : List Effect → Type 0
IsNameless effects = filter_map name_given effects ≡ []

IsOrderly-nameless : (effects : List Effect) → IsNameless effects → IsOrderly effects
IsOrderly-nameless effects nameless = rw (IsOrderly, nameless) tt

counts-nameless : (person : ℕ) (which : Counter) (by : ℕ) → IsNameless (counts person which by)
counts-nameless person which by =
    elim (by == 0) as (λ b. IsNameless (cond b [] (effect.Counted person which by ∷ []))) [ true ↦ refl | false ↦ refl ]

left-nameless : (asked : Asked) (seat : Seat) → IsNameless (seat_left asked seat)
left-nameless asked seat =
    elim (seat.person == 0) as
    (λ b. IsNameless (cond b [] (counts seat.person counter.TimePresent (asked.moment - seat.login))))
    [ true ↦ refl | false ↦ counts-nameless seat.person counter.TimePresent _ ]

leaving-nameless : (asked : Asked) → IsNameless (leaving_effects asked)
leaving-nameless asked =
    elim (seat_of asked) as (λ found. IsNameless (elim found [ None ↦ [] | Some seat ↦ seat_left asked seat ]))
    [ None ↦ refl | Some seat ↦ left-nameless asked seat ]

-- a session that is ended
ended-nameless : (asked : Asked) (number : ℕ) →
    IsNameless (definition_of asked (call.Disconnect number)).rest.effects
ended-nameless asked number =
    elim (seat_at asked.seats (session_meant asked number)) as
    (λ found. IsNameless (let decision : Decision = elim found [
      | None ↦ done_with [] []
      | Some seat ↦ end_session asked seat
    ] in decision.effects)) [ None ↦ refl | Some seat ↦ left-nameless asked seat ]

static-orderly : (found : Option Seat) → IsOrderly (let decision : Decision = elim found [
  | None ↦ done_with [] []
  | Some seat ↦ answer (reply.StaticSession (static_of seat))
] in decision.effects)
static-orderly None = tt
static-orderly (Some seat) = tt

-- effects that give no name, before others
nameless-before : (first rest : List Effect) → IsNameless first → IsOrderly rest → IsOrderly (first ++ rest)
nameless-before first rest nameless orderly = rw (IsOrderly, filter_map-append name_given first rest, nameless) orderly

with_items-orderly : (guard : Guard) (decision : Decision) → IsOrderly decision.effects →
    IsOrderly (with_items guard decision).effects
with_items-orderly None decision orderly = orderly
with_items-orderly (Some refused) decision orderly = tt

nameless-append : (first rest : List Effect) → IsNameless first → IsNameless rest → IsNameless (first ++ rest)
nameless-append first rest one other = rw (filter_map-append name_given first rest, one) other

nameless-map : {X : Type 0} (make : X → Effect) → ((x : X) → name_given (make x) ≡ None) → (xs : List X) →
    IsNameless (map make xs)
nameless-map make none [] = refl
nameless-map make none (x ∷ xs) = rw (none x) (nameless-map make none xs)

-- aux-items that are added, and that are changed
added-nameless : (on_text : Bool) (number : ℕ) (items : List AuxRow) → IsNameless (items_added on_text number items)
added-nameless on_text number items =
    nameless-map (λ item. effect.AuxAdded on_text number item) (λ item. refl) items

change-nameless : (asked : Asked) (on_text : Bool) (adder : Adder) (given : AuxChange) →
    IsNameless (item_effects asked on_text adder given)
change-nameless asked on_text adder given =
    let gone = λ (number : ℕ). effect.AuxGone on_text given.object number in
    let items = items_from (next_item_of asked.db on_text given.object) adder.person asked.moment given.add in
    nameless-append (map gone given.delete) (items_added on_text given.object items)
    (nameless-map gone (λ number. refl) given.delete) (added-nameless on_text given.object items)

change-orderly : (asked : Asked) (on_text : Bool) (on : Object) (adder : Adder) (given : AuxChange) →
    IsOrderly (change_items asked on_text on adder given).effects
change-orderly asked on_text on adder given =
    with_items-orderly
    (first_refusal
    (items_guard on adder (items_of asked.db on_text given.object) given.delete given.add
    ∷ numbers_guard asked.db on_text given ∷ [])) _
    (IsOrderly-nameless (item_effects asked on_text adder given) (change-nameless asked on_text adder given))

person-orderly : (asked : Asked) (number : ℕ) (given : NewPerson) → IsOrderly (person_effects asked number given)
person-orderly asked number given =
    let by : ℕ = (caller asked).person in
    let items = items_from 1 (maker by number) asked.moment given.aux_items in
    let counted = λ (b : Bool). cond b [] (counts by counter.CreatedPersons 1) in
    nameless-append (items_added false number items) (counted (by == 0)) (added-nameless false number items)
    (elim (by == 0) as (λ b. IsNameless (counted b))
    [ true ↦ refl | false ↦ counts-nameless by counter.CreatedPersons 1 ])

conference-orderly : (asked : Asked) (given : NewConference) → IsOrderly (create_conf asked given).rest.effects
conference-orderly asked given =
    let by : ℕ = (caller asked).person in
    let number = next_conference_of asked.db in
    let items = items_from 1 by asked.moment given.aux_items in
    with_items-orderly (new_items_guard object.Conference by given.aux_items) _
    (nameless-append (items_added false number items) (counts by counter.CreatedConferences 1)
    (added-nameless false number items) (counts-nameless by counter.CreatedConferences 1))

nearest-orderly : (asked : Asked) (start : ℕ) (found : Option ConferenceRow) →
    IsOrderly (nearest asked start found).rest.effects
nearest-orderly asked start None = tt
nearest-orderly asked start (Some row) = tt

nearest_text-orderly : (asked : Asked) (start : ℕ) (found : Option TextRow) →
    IsOrderly (nearest_text asked start found).rest.effects
nearest_text-orderly asked start None = tt
nearest_text-orderly asked start (Some row) = tt

-- ---- texts
abbrev gone_link : TextLink → Effect
gone_link link = effect.LinkGone link.child link.parent link.footnote

abbrev gone_recipient : Recipient → Effect
gone_recipient row = effect.RecipientGone row.text row.conference

abbrev gone_mark : MarkRow → Effect
gone_mark row = effect.MarkGone row.person row.text

abbrev gone_item : Bool → ℕ → AuxRow → Effect
gone_item on_text object item = effect.AuxGone on_text object item.number

gone-nameless : (db : Db) (text : ℕ) → IsNameless (gone_text db text)
gone-nameless db text =
    let links = map gone_link (links_of db text) in
    let recipients = map gone_recipient (recipients_of db text) in
    let marks = map gone_mark (marks_on db text) in
    let items = map (gone_item true text) (items_of db true text) in
    nameless-append (links ++ recipients ++ marks ++ items) (effect.TextGone text ∷ [])
    (nameless-append (links ++ recipients ++ marks) items
    (nameless-append (links ++ recipients) marks
    (nameless-append links recipients (nameless-map gone_link (λ link. refl) (links_of db text))
    (nameless-map gone_recipient (λ row. refl) (recipients_of db text)))
    (nameless-map gone_mark (λ row. refl) (marks_on db text)))
    (nameless-map (gone_item true text) (λ item. refl) (items_of db true text))) refl

item-nameless : (asked : Asked) (text : ℕ) (item : MiscInput) → name_given (item_effect asked text item) ≡ None
item-nameless asked text item =
    elim (names_recipient item) as (λ b. name_given (cond b
    (effect.RecipientAdded (new_recipient asked text item.value item.tag 0))
    (effect.LinkAdded (record {
      child = text;
      parent = item.value;
      footnote = names_footnote item;
      sender = 0;
      at = asked.moment;
    }))) ≡ None)
    [ true ↦ refl | false ↦ refl ]

author-nameless : (asked : Asked) (text : ℕ) (body : List ℕ) → IsNameless (author_effects asked text body)
author-nameless asked text body =
    let person = (caller asked).person in
    nameless-append (counts person counter.CreatedLines (lines_of body)) _
    (counts-nameless person counter.CreatedLines _)
    (counts-nameless person counter.CreatedBytes (length body))

text-nameless : (asked : Asked) (anonymous : Bool) (text : ℕ) (given : NewText) →
    IsNameless (text_effects asked anonymous text given)
text-nameless asked anonymous text given =
    let made = map (item_effect asked text) given.misc_inputs in
    let added = items_added true text (new_items asked given) in
    let written = map (item_written asked) (filter names_recipient given.misc_inputs) in
    nameless-append (made ++ added ++ written) (cond anonymous [] (author_effects asked text given.body))
    (nameless-append (made ++ added) written
    (nameless-append made added
    (nameless-map (item_effect asked text) (item-nameless asked text) given.misc_inputs)
    (added-nameless true text (new_items asked given)))
    (nameless-map (item_written asked) (λ item. refl) (filter names_recipient given.misc_inputs)))
    (elim anonymous as (λ b. IsNameless (cond b [] (author_effects asked text given.body)))
    [ true ↦ refl | false ↦ author-nameless asked text given.body ])

-- ---- conferences that go
left_each-nameless : (asked : Asked) (seats : List Seat) → IsNameless (flat_map (seat_left asked) seats)
left_each-nameless asked [] = refl
left_each-nameless asked (seat ∷ seats) = nameless-append (seat_left asked seat) (flat_map (seat_left asked) seats)
    (left-nameless asked seat) (left_each-nameless asked seats)

person_gone-nameless : (db : Db) (number : ℕ) → IsNameless (gone_person db number)
person_gone-nameless db number = elim (person_of db number) as (λ found. IsNameless (elim found [
  | None ↦ []
  | Some row ↦ effect.PersonGone number ∷ []
])) [ None ↦ refl | Some row ↦ refl ]

abbrev gone_local : ℕ → LocalText → Effect
gone_local number pair = effect.RecipientGone pair.text number

abbrev gone_member : MembershipRow → Effect
gone_member row = effect.MemberGone row.person row.conference

abbrev gone_own_mark : ℕ → MarkRow → Effect
gone_own_mark number row = effect.MarkGone number row.text

deletion-nameless : (asked : Asked) (number : ℕ) → IsNameless (gone_conference asked number)
deletion-nameless asked number =
    let left = all_left asked number in
    let locals = map (gone_local number) (locals_of asked.db number) in
    let marks = map (gone_own_mark number) (marks_of asked.db number) in
    let members = map gone_member (memberships_at asked.db number) in
    let items = map (gone_item false number) (items_of asked.db false number) in
    let person = gone_person asked.db number in
    nameless-append (left ++ locals ++ marks ++ members ++ items ++ person) (effect.ConfGone number ∷ [])
    (nameless-append (left ++ locals ++ marks ++ members ++ items) person
    (nameless-append (left ++ locals ++ marks ++ members) items
    (nameless-append (left ++ locals ++ marks) members
    (nameless-append (left ++ locals) marks
    (nameless-append left locals
    (left_each-nameless asked (filter (λ seat. seat.person == number) asked.seats))
    (nameless-map (gone_local number) (λ pair. refl) (locals_of asked.db number)))
    (nameless-map (gone_own_mark number) (λ row. refl) (marks_of asked.db number)))
    (nameless-map gone_member (λ row. refl) (memberships_at asked.db number)))
    (nameless-map (gone_item false number) (λ item. refl) (items_of asked.db false number)))
    (person_gone-nameless asked.db number)) refl

-- ---- memberships
marks-orderly : (asked : Asked) (conference : ℕ) (locals : List ℕ) →
    IsOrderly (mark_as_read asked conference locals).rest.effects
marks-orderly asked conference locals =
    let ranges = all_marked locals (had_read asked conference) in
    let newly = size_of ranges - size_of (had_read asked conference) in
    let counted = counts (caller asked).person counter.ReadTexts newly in
    nameless-before (reads_now asked conference ranges ∷ []) counted refl
    (IsOrderly-nameless counted (counts-nameless (caller asked).person counter.ReadTexts newly))

member-nameless : (asked : Asked) (person conference priority place kind : ℕ) →
    IsNameless (member_effects asked person conference priority place kind)
member-nameless asked person conference priority place kind =
    elim (membership_of asked.db person conference) as (λ found. IsNameless (elim found [
      | None ↦ joins asked person conference priority place kind ∷ []
      | Some row ↦ cond (is_near asked.db (caller asked) person) (set_member row priority place kind ∷ []) []
    ])) [
      | None ↦ refl
      | Some row ↦ elim (is_near asked.db (caller asked) person) as
          (λ b. IsNameless (cond b (set_member row priority place kind ∷ []) [])) [ true ↦ refl | false ↦ refl ]
    ]

type-nameless : (db : Db) (person conference kind : ℕ) → IsNameless (type_effects db person conference kind)
type-nameless db person conference kind =
    elim (membership_of db person conference) as (λ found. IsNameless (elim found [
      | None ↦ []
      | Some row ↦ set_member row row.priority row.position kind ∷ []
    ])) [ None ↦ refl | Some row ↦ refl ]

new_text-orderly : (anonymous : Bool) (asked : Asked) (given : NewText) →
    IsOrderly (new_text anonymous asked given).rest.effects
new_text-orderly anonymous asked given =
    with_items-orderly (new_items_guard object.Text (caller asked).person given.aux_items) _
    (IsOrderly-nameless (text_effects asked anonymous (next_text_of asked.db) given)
    (text-nameless asked anonymous (next_text_of asked.db) given))

-- of a call that no early guard refuses
rest-orderly : (asked : Asked) (what : Call) → IsOrderly (definition_of asked what).rest.effects
rest-orderly asked call.Logout = IsOrderly-nameless (leaving_effects asked) (leaving-nameless asked)
rest-orderly asked (call.Login person password invisible) =
    nameless-before (leaving_effects asked) _ (leaving-nameless asked) tt
rest-orderly asked (call.Disconnect session) =
    IsOrderly-nameless (definition_of asked (call.Disconnect session)).rest.effects (ended-nameless asked session)
rest-orderly asked (call.GetStaticSessionInfo session) = static-orderly (seat_at asked.seats session)
rest-orderly asked (call.CreatePerson given) =
    with_items-orderly
    (new_items_guard object.Letterbox (maker (caller asked).person (next_conference_of asked.db)) given.aux_items) _
    (person-orderly asked (next_conference_of asked.db) given)
rest-orderly asked (call.ChangeName conference name) = refl
rest-orderly asked (call.CreateConf given) = conference-orderly asked given
rest-orderly asked (call.ModifyTextInfo given) =
    change-orderly asked true object.Text (text_adder asked.db (caller asked) given.object) given
rest-orderly asked (call.ModifyConfInfo given) = change-orderly asked false (object_of asked.db given.object)
    (conference_adder asked.db (caller asked) given.object) given
rest-orderly asked (call.DeleteConf number) =
    IsOrderly-nameless (gone_conference asked number) (deletion-nameless asked number)
rest-orderly asked (call.DeleteText text) =
    IsOrderly-nameless (gone_text asked.db text) (gone-nameless asked.db text)
rest-orderly asked (call.CreateText given) = new_text-orderly false asked given
rest-orderly asked (call.CreateAnonymousText given) = new_text-orderly true asked given
rest-orderly asked (call.MarkAsRead conference locals) = marks-orderly asked conference locals
rest-orderly asked (call.AddMember conference person priority place kind) =
    IsOrderly-nameless (member_effects asked person conference priority place kind)
    (member-nameless asked person conference priority place kind)
rest-orderly asked (call.SetMembershipType person conference kind) =
    IsOrderly-nameless (type_effects asked.db person conference kind)
    (type-nameless asked.db person conference kind)
rest-orderly asked (call.FindNextTextNo start) = nearest_text-orderly asked start _
rest-orderly asked (call.FindPreviousTextNo start) = nearest_text-orderly asked start _
rest-orderly asked (call.FindNextConfNo start) = nearest-orderly asked start _
rest-orderly asked (call.FindPreviousConfNo start) = nearest-orderly asked start _
rest-orderly asked other = tt

pub decision-orderly : (asked : Asked) (what : Call) → IsOrderly (decision_of asked what).effects
decision-orderly asked what = decision-holds IsOrderly tt asked what (λ unrefused. rest-orderly asked what)

-- of a call that came to this decision
pub IsOrderly-decided : (state : State) (asking : Asking) (decision : Decision) → Decides state asking decision →
    IsOrderly decision.effects
IsOrderly-decided state asking decision decides =
    subst (λ one. IsOrderly one.effects) (sym decides) (decision-orderly (asked_by state asking) asking.call.now)
