-- What each call does to who is logged in.
use Rattle.std.proofs.Common.{◌≡◌, ℕ, ◌-◌, ◌==◌, Bool, true, false, cond, List, [], ◌∷◌, ◌++◌, length}
use Rattle.std.proofs.Common.{Option, Some, None, refl, sym, ◌∙◌, inl, inr, true≢false}
use Rattle.std.specs.Prelude.{map}
use Rattle.std.specs.List.{AllByRecursion, filter, filter_map, cons_option, flat_map, list_any, list_all}
use Rattle.std.proofs.lemmas.Bool.{cases_Bool, cond_both, and_from, and_parts, or_right, eq-eqb}
use Rattle.std.proofs.lemmas.List.Folds.{list_all-append}
use Rattle.kom_types.specs.AuxItems.{items_from}
use Rattle.kom_types.specs.declared.aux_items.Adder.{Adder}
use Rattle.kom_types.specs.declared.aux_items.AuxChange.{AuxChange}
use Rattle.kom_types.specs.declared.aux_items.AuxRow.{AuxRow}
use Rattle.kom_types.specs.declared.aux_items.Object.{Object}
use Rattle.kom_types.specs.declared.aux_items.Object.TheVariants as object
use Rattle.kom_types.specs.declared.calls.Call.{Call}
use Rattle.kom_types.specs.declared.calls.Call.TheVariants as call
use Rattle.kom_types.specs.declared.conferences.ConferenceRow.{ConferenceRow}
use Rattle.kom_types.specs.declared.conferences.NewConference.{NewConference}
use Rattle.kom_types.specs.declared.decisions.Decision.{Decision}
use Rattle.kom_types.specs.declared.effects.Counter.{Counter}
use Rattle.kom_types.specs.declared.effects.Counter.TheVariants as counter
use Rattle.kom_types.specs.declared.effects.Effect.{Effect}
use Rattle.kom_types.specs.declared.effects.Effect.TheVariants as effect
use Rattle.kom_types.specs.declared.persons.NewPerson.{NewPerson}
use Rattle.kom_types.specs.declared.replies.Reply.TheVariants as reply
use Rattle.kom_types.specs.declared.seats.Seat.{Seat}
use Rattle.kom_types.specs.declared.session_changes.SessionChange.{SessionChange}
use Rattle.kom_types.specs.declared.session_changes.SessionChange.TheVariants as change
use Rattle.kom_types.specs.declared.texts.MiscInput.{MiscInput}
use Rattle.kom_types.specs.declared.texts.NewText.{NewText}
use Rattle.kom_types.specs.declared.texts.TextRow.{TextRow}
use Rattle.kom_types.specs.tables.Texts.{lines_of}
use Rattle.kom_model.specs.Db.{Db, person_of, membership_of, memberships_at, next_conference_of, next_text_of, links_of}
use Rattle.kom_model.specs.Db.{recipients_of, locals_of, marks_of, marks_on, items_of, next_item_of}
use Rattle.kom_model.specs.Decide.{definition_of, decision_of}
use Rattle.kom_model.specs.Effects.{apply_all}
use Rattle.kom_model.specs.Shown.{text_adder, conference_adder}
use Rattle.kom_model.specs.calls.AuxItems.{items_added, item_effects, change_items, object_of, numbers_guard}
use Rattle.kom_model.specs.calls.Call.{Asked, refuse, seat_of, done_with, answer}
use Rattle.kom_model.specs.calls.Conferences.{nearest, gone_person, gone_conference, create_conf, left_by_deletion}
use Rattle.kom_model.specs.calls.Guards.{Guard, with_items, caller, first_refusal, items_guard}
use Rattle.kom_model.specs.calls.Guards.{new_items_guard, seat_at, person_guard, password_guard}
use Rattle.kom_model.specs.calls.Memberships.{mark_as_read, had_read, member_effects, joins, is_near}
use Rattle.kom_model.specs.calls.Memberships.{set_member, type_effects, is_in_conference}
use Rattle.kom_model.specs.calls.NewTexts.{names_recipient, names_footnote, item_effect, item_written, author_effects}
use Rattle.kom_model.specs.calls.NewTexts.{text_effects, new_text, new_items}
use Rattle.kom_model.specs.calls.Persons.{person_effects, maker}
use Rattle.kom_model.specs.calls.Sessions.{counts, seat_left, all_left, leaving_effects, leaving_changes}
use Rattle.kom_model.specs.calls.Sessions.{session_meant, end_session, static_of, user_of}
use Rattle.kom_model.specs.calls.Texts.{gone_text, new_recipient, nearest_text}
use Rattle.read_ranges.specs.Changed.{all_marked, size_of}
use Rattle.kom_model.proofs.Deciding.{decision-meets}
use Rattle.kom_model.proofs.Guards.{all-pass, person-there}
use Rattle.kom_model.proofs.Seating.{spares, is_person, still-there, seats_there, empties, Carries}
use Rattle.kom_model.proofs.whole.Counts.{all-of, all-weaker}

-- ---- effects that take no person away, but for one
abbrev Spares : ℕ → List Effect → Type 0
Spares number effects = list_all (spares number) effects ≡ true

module _ (number : ℕ) where
  both-spare : (first rest : List Effect) → Spares number first → Spares number rest → Spares number (first ++ rest)
  both-spare first rest one other = list_all-append (spares number) first rest ∙ and_from _ _ one other

  map-spares : {X : Type 0} (make : X → Effect) → ((x : X) → spares number (make x) ≡ true) → (xs : List X) →
      Spares number (map make xs)
  map-spares make each [] = refl
  map-spares make each (x ∷ xs) = and_from _ _ (each x) (map-spares make each xs)

  flat-spares : {X : Type 0} (make : X → List Effect) → ((x : X) → Spares number (make x)) → (xs : List X) →
      Spares number (flat_map make xs)
  flat-spares make each [] = refl
  flat-spares make each (x ∷ xs) = both-spare (make x) (flat_map make xs) (each x) (flat-spares make each xs)

  counts-spare : (person : ℕ) (which : Counter) (by : ℕ) → Spares number (counts person which by)
  counts-spare person which by =
      cond_both (by == 0) [] (effect.Counted person which by ∷ []) (Spares number) (λ _. refl) (λ _. refl)

  left-spares : (asked : Asked) (seat : Seat) → Spares number (seat_left asked seat)
  left-spares asked seat =
      cond_both (seat.person == 0) [] (counts seat.person counter.TimePresent (asked.moment - seat.login))
      (Spares number) (λ _. refl) (λ _. counts-spare seat.person counter.TimePresent _)

  leaving-spares : (asked : Asked) → Spares number (leaving_effects asked)
  leaving-spares asked = by (seat_of asked) where
    by : (found : Option Seat) → Spares number (elim found [ None ↦ [] | Some seat ↦ seat_left asked seat ])
    by None = refl
    by (Some seat) = left-spares asked seat

  added-spares : (on_text : Bool) (object : ℕ) (items : List AuxRow) → Spares number (items_added on_text object items)
  added-spares on_text object items = map-spares (λ item. effect.AuxAdded on_text object item) (λ item. refl) items

-- ---- decisions that take no person away, and log in nobody
-- a change logs in nobody
abbrev unseats : SessionChange → Bool
unseats (change.Person session person invisible) = person == 0
unseats other = true

record IsQuiet (decision : Decision) : Type 0 where
  spared : Spares 0 decision.effects
  unseated : list_all unseats decision.changes ≡ true

quiet : (decision : Decision) → Spares 0 decision.effects → list_all unseats decision.changes ≡ true → IsQuiet decision
quiet decision spared unseated = record { spared = spared; unseated = unseated }

unseated-there : (db : Db) (changes : List SessionChange) → list_all unseats changes ≡ true →
    list_all (seats_there db) changes ≡ true
unseated-there db [] unseated = refl
unseated-there db (what ∷ changes) unseated =
    let parts = and_parts (unseats what) (list_all unseats changes) unseated in
    and_from _ _ (one what parts.0) (unseated-there db changes parts.1) where
      one : (what : SessionChange) → unseats what ≡ true → seats_there db what ≡ true
      one (change.Person session person invisible) is = rw is refl
      one (change.Level session level) is = refl
      one (change.Working session conference) is = refl
      one (change.Doing session doing) is = refl
      one (change.Client session client version) is = refl
      one (change.Accept session accepted) is = refl
      one (change.Active session) is = refl
      one (change.Ended session) is = refl
      one change.Stop is = refl

-- nobody is logged in as person 0
none-emptied : (seats : List Seat) (changes : List SessionChange) →
    AllByRecursion (λ seat. (seat.person == 0) ≡ true → (seat.person == 0) ≡ false →
    list_any (empties seat.number) changes ≡ true) seats
none-emptied seats changes = all-of _ (λ seat is not. absurd (true≢false (sym is ∙ not))) seats

quiet-carries : (db : Db) (seats : List Seat) (decision : Decision) → IsQuiet decision → Carries db seats decision
quiet-carries db seats decision is = record {
  number = 0;
  spared = is.spared;
  there = unseated-there (apply_all decision.effects db) decision.changes is.unseated;
  emptied = none-emptied seats decision.changes;
}

items-quiet : (guard : Guard) (decision : Decision) → IsQuiet decision → IsQuiet (with_items guard decision)
items-quiet None decision is = is
items-quiet (Some refused) decision is = quiet (refuse refused) refl refl

leaving-unseated : (asked : Asked) → list_all unseats (leaving_changes asked) ≡ true
leaving-unseated asked =
    cond_both ((caller asked).person == 0) [] (change.Person asked.session 0 false ∷ [])
    (λ (changes : List SessionChange). list_all unseats changes ≡ true) (λ _. refl) (λ _. refl)

-- a session that is ended
ended-quiet : (asked : Asked) (found : Option Seat) → IsQuiet (elim found as (λ _. Decision) [
  | None ↦ done_with [] []
  | Some seat ↦ end_session asked seat
])
ended-quiet asked None = quiet _ refl refl
ended-quiet asked (Some seat) = quiet (end_session asked seat) (left-spares 0 asked seat)
    (cond_both (seat.person == 0) [] (change.Person seat.number 0 false ∷ [])
    (λ (changes : List SessionChange). list_all unseats (changes ++ change.Ended seat.number ∷ []) ≡ true)
    (λ _. refl) (λ _. refl))

static-quiet : (found : Option Seat) → IsQuiet (elim found as (λ _. Decision) [
  | None ↦ done_with [] []
  | Some seat ↦ answer (reply.StaticSession (static_of seat))
])
static-quiet None = quiet _ refl refl
static-quiet (Some seat) = quiet _ refl refl

nearest-quiet : (asked : Asked) (start : ℕ) (found : Option ConferenceRow) → IsQuiet (nearest asked start found).rest
nearest-quiet asked start None = quiet _ refl refl
nearest-quiet asked start (Some row) = quiet _ refl refl

nearest_text-quiet : (asked : Asked) (start : ℕ) (found : Option TextRow) →
    IsQuiet (nearest_text asked start found).rest
nearest_text-quiet asked start None = quiet _ refl refl
nearest_text-quiet asked start (Some row) = quiet _ refl refl

-- aux-items that are changed
change-quiet : (asked : Asked) (on_text : Bool) (on : Object) (adder : Adder) (given : AuxChange) →
    IsQuiet (change_items asked on_text on adder given)
change-quiet asked on_text on adder given =
    let gone : ℕ → Effect = λ (number : ℕ). effect.AuxGone on_text given.object number in
    let items : List AuxRow =
    items_from (next_item_of asked.db on_text given.object) adder.person asked.moment given.add in
    items-quiet
    (first_refusal
    (items_guard on adder (items_of asked.db on_text given.object) given.delete given.add
    ∷ numbers_guard asked.db on_text given ∷ [])) (done_with (item_effects asked on_text adder given) [])
    (quiet (done_with (item_effects asked on_text adder given) [])
    (both-spare 0 (map gone given.delete) (items_added on_text given.object items)
    (map-spares 0 gone (λ number. refl) given.delete) (added-spares 0 on_text given.object items)) refl)

-- a person, a conference, or a text is made
person-spares : (asked : Asked) (number : ℕ) (given : NewPerson) → Spares 0 (person_effects asked number given)
person-spares asked number given =
    let by : ℕ = (caller asked).person in
    let items : List AuxRow = items_from 1 (maker by number) asked.moment given.aux_items in
    let counted : Bool → List Effect = λ (b : Bool). cond b [] (counts by counter.CreatedPersons 1) in
    both-spare 0 (items_added false number items) (counted (by == 0)) (added-spares 0 false number items)
    (cond_both (by == 0) [] (counts by counter.CreatedPersons 1) (Spares 0) (λ _. refl)
    (λ _. counts-spare 0 by counter.CreatedPersons 1))

conference-quiet : (asked : Asked) (given : NewConference) → IsQuiet (create_conf asked given).rest
conference-quiet asked given =
    let by : ℕ = (caller asked).person in
    let number : ℕ = next_conference_of asked.db in
    let items : List AuxRow = items_from 1 by asked.moment given.aux_items in
    items-quiet (new_items_guard object.Conference by given.aux_items) _
    (quiet _ (both-spare 0 (items_added false number items) (counts by counter.CreatedConferences 1)
    (added-spares 0 false number items) (counts-spare 0 by counter.CreatedConferences 1)) refl)

item-spares : (asked : Asked) (text : ℕ) (item : MiscInput) → spares 0 (item_effect asked text item) ≡ true
item-spares asked text item =
    cond_both (names_recipient item) (effect.RecipientAdded (new_recipient asked text item.value item.tag 0))
    (effect.LinkAdded (record {
      child = text;
      parent = item.value;
      footnote = names_footnote item;
      sender = 0;
      at = asked.moment;
    })) (λ (one : Effect). spares 0 one ≡ true) (λ _. refl) (λ _. refl)

author-spares : (asked : Asked) (text : ℕ) (body : List ℕ) → Spares 0 (author_effects asked text body)
author-spares asked text body =
    let person : ℕ = (caller asked).person in
    both-spare 0 (counts person counter.CreatedLines (lines_of body)) _ (counts-spare 0 person counter.CreatedLines _)
    (counts-spare 0 person counter.CreatedBytes (length body))

text-spares : (asked : Asked) (anonymous : Bool) (text : ℕ) (given : NewText) →
    Spares 0 (text_effects asked anonymous text given)
text-spares asked anonymous text given =
    let made : List Effect = map (item_effect asked text) given.misc_inputs in
    let added : List Effect = items_added true text (new_items asked given) in
    let written : List Effect = map (item_written asked) (filter names_recipient given.misc_inputs) in
    both-spare 0 (made ++ added ++ written) (cond anonymous [] (author_effects asked text given.body))
    (both-spare 0 (made ++ added) written
    (both-spare 0 made added (map-spares 0 (item_effect asked text) (item-spares asked text) given.misc_inputs)
    (added-spares 0 true text (new_items asked given)))
    (map-spares 0 (item_written asked) (λ item. refl) (filter names_recipient given.misc_inputs)))
    (cond_both anonymous [] (author_effects asked text given.body) (Spares 0) (λ _. refl)
    (λ _. author-spares asked text given.body))

new_text-quiet : (anonymous : Bool) (asked : Asked) (given : NewText) → IsQuiet (new_text anonymous asked given).rest
new_text-quiet anonymous asked given =
    items-quiet (new_items_guard object.Text (caller asked).person given.aux_items) _
    (quiet _ (text-spares asked anonymous (next_text_of asked.db) given) refl)

-- a text goes
gone-spares : (db : Db) (text : ℕ) → Spares 0 (gone_text db text)
gone-spares db text =
    let links : List Effect = map (λ link. effect.LinkGone link.child link.parent link.footnote) (links_of db text) in
    let recipients : List Effect = map (λ row. effect.RecipientGone row.text row.conference) (recipients_of db text) in
    let marks : List Effect = map (λ row. effect.MarkGone row.person row.text) (marks_on db text) in
    let items : List Effect = map (λ item. effect.AuxGone true text item.number) (items_of db true text) in
    both-spare 0 (links ++ recipients ++ marks ++ items) (effect.TextGone text ∷ [])
    (both-spare 0 (links ++ recipients ++ marks) items
    (both-spare 0 (links ++ recipients) marks
    (both-spare 0 links recipients (map-spares 0 _ (λ link. refl) (links_of db text))
    (map-spares 0 _ (λ row. refl) (recipients_of db text)))
    (map-spares 0 _ (λ row. refl) (marks_on db text)))
    (map-spares 0 _ (λ item. refl) (items_of db true text))) refl

-- who was in a conference is in none then
working-unseated : (seats : List Seat) →
    list_all unseats (map (λ seat. change.Working seat.number 0) seats) ≡ true
working-unseated [] = refl
working-unseated (seat ∷ seats) = working-unseated seats

-- memberships
marks-spare : (asked : Asked) (conference : ℕ) (locals : List ℕ) →
    Spares 0 (mark_as_read asked conference locals).rest.effects
marks-spare asked conference locals = counts-spare 0 (caller asked).person counter.ReadTexts
    (size_of (all_marked locals (had_read asked conference)) - size_of (had_read asked conference))

member-spares : (asked : Asked) (person conference priority place kind : ℕ) →
    Spares 0 (member_effects asked person conference priority place kind)
member-spares asked person conference priority place kind =
    elim (membership_of asked.db person conference) as (λ found. Spares 0 (elim found [
      | None ↦ joins asked person conference priority place kind ∷ []
      | Some row ↦ cond (is_near asked.db (caller asked) person) (set_member row priority place kind ∷ []) []
    ])) [
      | None ↦ refl
      | Some row ↦ cond_both (is_near asked.db (caller asked) person) (set_member row priority place kind ∷ []) []
          (Spares 0) (λ _. refl) (λ _. refl)
    ]

type-spares : (db : Db) (person conference kind : ℕ) → Spares 0 (type_effects db person conference kind)
type-spares db person conference kind =
    elim (membership_of db person conference) as (λ found. Spares 0 (elim found [
      | None ↦ []
      | Some row ↦ set_member row row.priority row.position kind ∷ []
    ])) [ None ↦ refl | Some row ↦ refl ]

-- ---- a conference goes, and the person whose letterbox it is
person_gone-spares : (db : Db) (number : ℕ) → Spares number (gone_person db number)
person_gone-spares db number = elim (person_of db number) as (λ found. Spares number (elim found [
  | None ↦ []
  | Some row ↦ effect.PersonGone number ∷ []
])) [ None ↦ refl | Some row ↦ rw equal refl ] where
  equal : (number == number) ≡ true
  equal = eq-eqb number number refl

deletion-spares : (asked : Asked) (number : ℕ) → Spares number (gone_conference asked number)
deletion-spares asked number =
    let left : List Effect = all_left asked number in
    let locals : List Effect = map (λ pair. effect.RecipientGone pair.text number) (locals_of asked.db number) in
    let marks : List Effect = map (λ row. effect.MarkGone number row.text) (marks_of asked.db number) in
    let members : List Effect =
    map (λ row. effect.MemberGone row.person row.conference) (memberships_at asked.db number) in
    let items : List Effect =
    map (λ item. effect.AuxGone false number item.number) (items_of asked.db false number) in
    let person : List Effect = gone_person asked.db number in
    both-spare number (left ++ locals ++ marks ++ members ++ items ++ person) (effect.ConfGone number ∷ [])
    (both-spare number (left ++ locals ++ marks ++ members ++ items) person
    (both-spare number (left ++ locals ++ marks ++ members) items
    (both-spare number (left ++ locals ++ marks) members
    (both-spare number (left ++ locals) marks
    (both-spare number left locals
    (flat-spares number (seat_left asked) (left-spares number asked)
    (filter (λ seat. seat.person == number) asked.seats))
    (map-spares number _ (λ pair. refl) (locals_of asked.db number)))
    (map-spares number _ (λ row. refl) (marks_of asked.db number)))
    (map-spares number _ (λ row. refl) (memberships_at asked.db number)))
    (map-spares number _ (λ item. refl) (items_of asked.db false number)))
    (person_gone-spares asked.db number)) refl

any-more : {X : Type 0} (test : X → Bool) (first : Option X) (rest : List X) → list_any test rest ≡ true →
    list_any test (cons_option first rest) ≡ true
any-more test None rest any = any
any-more test (Some x) rest any = or_right (test x) (list_any test rest) any

-- the sessions of the person are logged out, and nobody is logged in
left-emptied : (number : ℕ) (seats : List Seat) → AllByRecursion (λ seat. (seat.person == number) ≡ true →
    list_any (empties seat.number) (filter_map (left_by_deletion number) seats) ≡ true) seats
left-emptied number [] = tt
left-emptied number (seat ∷ seats) = (
  λ is. rw is (rw (eq-eqb seat.number seat.number refl) refl),
  all-weaker (λ one. (one.person == number) ≡ true →
      list_any (empties one.number) (filter_map (left_by_deletion number) seats) ≡ true)
      (λ one. (one.person == number) ≡ true →
      list_any (empties one.number) (filter_map (left_by_deletion number) (seat ∷ seats)) ≡ true)
      (λ one holds is. any-more (empties one.number) (left_by_deletion number seat)
      (filter_map (left_by_deletion number) seats) (holds is)) seats (left-emptied number seats),
)

left-unseated : (number : ℕ) (seats : List Seat) →
    list_all unseats (filter_map (left_by_deletion number) seats) ≡ true
left-unseated number [] = refl
left-unseated number (seat ∷ seats) =
    let rest : List SessionChange = filter_map (left_by_deletion number) seats in
    let others : list_all unseats rest ≡ true = left-unseated number seats in
    cond_both (seat.person == number) (Some (change.Person seat.number 0 false))
    (cond (seat.working == number) (Some (change.Working seat.number 0)) None)
    (λ (first : Option SessionChange). list_all unseats (cons_option first rest) ≡ true) (λ _. others)
    (λ _. cond_both (seat.working == number) (Some (change.Working seat.number 0)) None
    (λ (first : Option SessionChange). list_all unseats (cons_option first rest) ≡ true) (λ _. others) (λ _. others))

deletion-carries : (asked : Asked) (number : ℕ) →
    Carries asked.db asked.seats (definition_of asked (call.DeleteConf number)).rest
deletion-carries asked number = record {
  number = number;
  spared = deletion-spares asked number;
  there = unseated-there (apply_all (gone_conference asked number) asked.db)
      (filter_map (left_by_deletion number) asked.seats) (left-unseated number asked.seats);
  emptied = all-weaker (λ seat. (seat.person == number) ≡ true →
      list_any (empties seat.number) (filter_map (left_by_deletion number) asked.seats) ≡ true)
      (λ seat. (seat.person == number) ≡ true → (seat.person == 0) ≡ false →
      list_any (empties seat.number) (filter_map (left_by_deletion number) asked.seats) ≡ true)
      (λ seat holds is some. holds is) asked.seats (left-emptied number asked.seats);
}

-- ---- a person logs in, that is there
login-carries : (asked : Asked) (person : ℕ) (password : List ℕ) (invisible : Bool) →
    (definition_of asked (call.Login person password invisible)).early ≡ None →
    Carries asked.db asked.seats (definition_of asked (call.Login person password invisible)).rest
login-carries asked person password invisible passes =
    let effects : List Effect = leaving_effects asked ++ effect.LoggedIn person asked.moment (user_of asked) ∷ [] in
    let changes : List SessionChange =
    leaving_changes asked ++ change.Person asked.session person invisible ∷ [] in
    let db : Db = apply_all effects asked.db in
    let spared : Spares 0 effects = both-spare 0 (leaving_effects asked) _ (leaving-spares 0 asked) refl in
    let there : is_person asked.db person ≡ true = person-there asked.db person
    (all-pass (person_guard asked.db person ∷ password_guard asked.db (caller asked) person password ∷ []) passes).0 in
    record {
      number = 0;
      spared = spared;
      there = list_all-append (seats_there db) (leaving_changes asked) _
          ∙ and_from _ _ (unseated-there db (leaving_changes asked) (leaving-unseated asked))
          (and_from _ _ (elim (cases_Bool (person == 0)) [
            | inl nobody ↦ rw nobody refl
            | inr some ↦ rw some (still-there effects asked.db 0 person some spared there)
          ]) refl);
      emptied = none-emptied asked.seats changes;
    }

-- ---- each call
calm : (asked : Asked) (decision : Decision) → IsQuiet decision → Carries asked.db asked.seats decision
calm asked decision is = quiet-carries asked.db asked.seats decision is

rest-carries : (asked : Asked) (what : Call) → (definition_of asked what).early ≡ None →
    Carries asked.db asked.seats (definition_of asked what).rest
rest-carries asked call.Logout passes =
    calm asked _ (quiet _ (leaving-spares 0 asked) (leaving-unseated asked))
rest-carries asked (call.Login person password invisible) passes =
    login-carries asked person password invisible passes
rest-carries asked (call.DeleteConf number) passes = deletion-carries asked number
rest-carries asked (call.Disconnect session) passes =
    calm asked _ (ended-quiet asked (seat_at asked.seats (session_meant asked session)))
rest-carries asked (call.GetStaticSessionInfo session) passes =
    calm asked _ (static-quiet (seat_at asked.seats session))
rest-carries asked (call.CreatePerson given) passes =
    let number : ℕ = next_conference_of asked.db in
    calm asked _ (items-quiet (new_items_guard object.Letterbox (maker (caller asked).person number) given.aux_items) _
    (quiet _ (person-spares asked number given) refl))
rest-carries asked (call.CreateConf given) passes = calm asked _ (conference-quiet asked given)
rest-carries asked (call.ModifyTextInfo given) passes = calm asked _
    (change-quiet asked true object.Text (text_adder asked.db (caller asked) given.object) given)
rest-carries asked (call.ModifyConfInfo given) passes = calm asked _
    (change-quiet asked false (object_of asked.db given.object)
    (conference_adder asked.db (caller asked) given.object) given)
rest-carries asked (call.DeleteText text) passes = calm asked _ (quiet _ (gone-spares asked.db text) refl)
rest-carries asked (call.CreateText given) passes = calm asked _ (new_text-quiet false asked given)
rest-carries asked (call.CreateAnonymousText given) passes = calm asked _ (new_text-quiet true asked given)
rest-carries asked (call.MarkAsRead conference locals) passes =
    calm asked _ (quiet _ (marks-spare asked conference locals) refl)
rest-carries asked (call.AddMember conference person priority place kind) passes =
    calm asked _ (quiet _ (member-spares asked person conference priority place kind) refl)
rest-carries asked (call.SubMember conference person) passes =
    calm asked _ (quiet _ refl (working-unseated (filter (is_in_conference person conference) asked.seats)))
rest-carries asked (call.SetMembershipType person conference kind) passes =
    calm asked _ (quiet _ (type-spares asked.db person conference kind) refl)
rest-carries asked (call.FindNextTextNo start) passes = calm asked _ (nearest_text-quiet asked start _)
rest-carries asked (call.FindPreviousTextNo start) passes = calm asked _ (nearest_text-quiet asked start _)
rest-carries asked (call.FindNextConfNo start) passes = calm asked _ (nearest-quiet asked start _)
rest-carries asked (call.FindPreviousConfNo start) passes = calm asked _ (nearest-quiet asked start _)
rest-carries asked other passes = calm asked _ (quiet _ refl refl)

pub decision-carries : (asked : Asked) (what : Call) → Carries asked.db asked.seats (decision_of asked what)
decision-carries asked what = decision-meets (Carries asked.db asked.seats)
    (λ why. quiet-carries asked.db asked.seats (refuse why) (quiet (refuse why) refl refl)) asked what
    (rest-carries asked what)
