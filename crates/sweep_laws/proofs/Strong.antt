-- A strong session is told all.
use Rattle.std.proofs.Common.{◌≡◌, ℕ, ◌==◌, ◌<◌, ◌||◌, ◌&&◌, Bool, true, false, cond, not, List, [], ◌∷◌, ◌++◌, length}
use Rattle.std.proofs.Common.{Option, Some, None, refl, sym, ap, ap₂, ◌∙◌, inl, inr, true≢false, nat_lt, nat_le, ne_eqb}
use Rattle.std.proofs.Common.{arith, eqb-true}
use Rattle.std.specs.Prelude.{is_some, map, option_map, flat_map, IsTrue, if◌then◌else◌}
use Rattle.std.specs.List.{AllByRecursion, find, filter}
use Rattle.std.proofs.lemmas.Bool.{cases_Bool, cond_both, or_right, or_left, and_from, and_parts}
use Rattle.kom_types.specs.declared.limits.TheConstants.{LONGEST_REPLY}
use Rattle.kom_types.specs.AuxItems.{is_shown, is_secret}
use Rattle.kom_types.specs.Printing.{print_of}
use Rattle.kom_types.specs.declared.aux_items.Adder.{Adder}
use Rattle.kom_types.specs.declared.aux_items.AuxRow.{AuxRow}
use Rattle.kom_types.specs.declared.calls.Call.{Call}
use Rattle.kom_types.specs.declared.calls.Call.TheVariants as call
use Rattle.kom_types.specs.declared.conferences.ConferenceRow.{ConferenceRow}
use Rattle.kom_types.specs.declared.decisions.Decision.{Decision}
use Rattle.kom_types.specs.declared.errors.TheConstants as error
use Rattle.kom_types.specs.declared.items.Item.TheVariants as item
use Rattle.kom_types.specs.declared.persons.PersonRow.{PersonRow}
use Rattle.kom_types.specs.declared.replies.Reply.{Reply}
use Rattle.kom_types.specs.declared.replies.Reply.TheVariants as reply
use Rattle.kom_types.specs.declared.seats.Seat.{Seat}
use Rattle.kom_types.specs.declared.texts.Recipient.{Recipient}
use Rattle.kom_types.specs.declared.texts.TextRow.{TextRow}
use Rattle.kom_types.specs.declared.texts.TextStat.{TextStat}
use Rattle.kom_types.specs.tables.Conferences.{number_of_conference, is_letterbox, head_of, is_secret_conference}
use Rattle.kom_types.specs.tables.Conferences.{is_read_protected}
use Rattle.kom_types.specs.tables.Persons.{number_of_person, is_mighty}
use Rattle.kom_types.specs.tables.Texts.{number_of_text}
use Rattle.kom_model.specs.declared.viewers.Viewer.{Viewer}
use Rattle.kom_model.specs.Db.{Db, conference_of, conference_head_of, conferences_of, person_of, text_of, texts_of}
use Rattle.kom_model.specs.Db.{text_author_of, recipients_of, items_of, links_from, links_into}
use Rattle.kom_model.specs.Decide.{decision_of, definition_of, limit_reply}
use Rattle.kom_model.specs.Rights.{sees, reads, reads_conference, is_author, is_let_in, reads_by_recipient}
use Rattle.kom_model.specs.Rights.{supervises, belongs}
use Rattle.kom_model.specs.Shown.{shows_recipient, recipients_shown, items_shown, item_told, hides_creator, text_adder}
use Rattle.kom_model.specs.Shown.{conference_adder, recipient_infos, from_infos, into_info, shown_stat, conference_told}
use Rattle.kom_model.specs.Shown.{person_told}
use Rattle.kom_model.specs.Viewers.{has_might}
use Rattle.kom_model.specs.Whole.{IsWhole, has_letterbox, has_drawn_local}
use Rattle.kom_model.specs.calls.Call.{Asked, outcome_of, refuse, seat_of, answer}
use Rattle.kom_model.specs.calls.Conferences.{nearest, conference_reply}
use Rattle.kom_model.specs.calls.Persons.{person_reply}
use Rattle.kom_model.specs.calls.Guards.{caller, viewer_at, Guard, login_guard}
use Rattle.kom_model.specs.calls.Guards.{with_guards, refusal, unless}
use Rattle.kom_model.specs.calls.Texts.{nearest_text, text_reply}
use Rattle.kom_laws.proofs.masking.Rows.{told}
use Rattle.sweep_laws.specs.Told.{is_curbed, answer_to, told_text, told_conference, told_person, told_next_text}
use Rattle.sweep_laws.specs.Told.{told_next_conference, AsksStrongly, IsUncurbed, TellsAll, stat_in_full}
use Rattle.sweep_laws.specs.Told.{conference_in_full}
use Rattle.sweep_laws.proofs.Found.{cases_Option, all-weaker, found-holds, found-says, find-alike, all-found}
use Rattle.sweep_laws.proofs.Found.{told-alike}

-- ---- a reply that is not cut short
uncut-limited : (reference : ℕ) (decision : Decision) →
    is_curbed (Some (limit_reply reference decision).reply) ≡ false →
    (limit_reply reference decision).reply ≡ decision.reply
uncut-limited reference decision =
    cond_both (nat_le (length (print_of (item.Reply reference decision.reply))) LONGEST_REPLY) decision
    (refuse (record { code = error.LONG_ARRAY; status = 0 }))
    (λ (made : Decision). is_curbed (Some made.reply) ≡ false → made.reply ≡ decision.reply)
    (λ _ uncurbed. refl) (λ _ uncurbed. absurd (true≢false uncurbed))

pub uncut : (asked : Asked) (what : Call) → IsUncurbed asked what →
    answer_to asked what ≡ (outcome_of (definition_of asked what)).reply
unfolding decision_of
uncut asked what = uncut-limited asked.reference (outcome_of (definition_of asked what))

-- ---- what a strong session sees
-- what is told of a row that is there, where that is the same of all
told-all : {X Y : Type 0} (tell : X → Y) (says : Y → Bool) → ((row : Y) → says row ≡ true) → (found : Option X) →
    told false says (option_map tell found) ≡ is_some found
told-all tell says all None = refl
told-all tell says all (Some row) = all (tell row)

module _ (db : Db) (viewer : Viewer) (strong : viewer.strong ≡ true) where
  let-in : (conference supervisor : ℕ) → is_let_in db viewer conference supervisor ≡ true
  let-in conference supervisor = or_left viewer.strong (belongs db viewer.person conference supervisor) strong

  sees-all : (conference : ℕ) → sees db viewer conference ≡ is_some (conference_of db conference)
  unfolding sees conference_head_of
  sees-all conference = told-all head_of
      (λ head. not (is_secret_conference head.kind) || is_let_in db viewer conference head.supervisor)
      (λ head. or_right (not (is_secret_conference head.kind)) (is_let_in db viewer conference head.supervisor)
      (let-in conference head.supervisor)) (conference_of db conference)

  reads-all-of : (conference : ℕ) → reads_conference db viewer conference ≡ is_some (conference_of db conference)
  unfolding reads_conference conference_head_of
  reads-all-of conference = told-all head_of
      (λ head. not (is_read_protected head.kind) || is_let_in db viewer conference head.supervisor)
      (λ head. or_right (not (is_read_protected head.kind)) (is_let_in db viewer conference head.supervisor)
      (let-in conference head.supervisor)) (conference_of db conference)

  pub reads-all : (text : ℕ) → reads db viewer text ≡ is_some (text_of db text)
  unfolding reads text_author_of
  reads-all text = told-all (λ (row : TextRow). row.author)
      (λ author. viewer.strong || is_author viewer.person author || reads_by_recipient db viewer text)
      (λ author. or_left (viewer.strong || is_author viewer.person author) (reads_by_recipient db viewer text)
      (or_left viewer.strong (is_author viewer.person author) strong)) (text_of db text)

  shows-recipient : (author : ℕ) (row : Recipient) → is_some (conference_of db row.conference) ≡ true →
      shows_recipient db viewer author row ≡ true
  shows-recipient author row there = and_from (sees db viewer row.conference) _
      (sees-all row.conference ∙ there)
      (or_right _ (reads_conference db viewer row.conference) (reads-all-of row.conference ∙ there))

-- ---- items
item-whole : (adder : Adder) (row : AuxRow) → adder.owns ≡ true → item_told adder row ≡ row
item-whole adder row owns = by (hides_creator row.flags) (row.creator == adder.person) adder.owns owns where
  by : (hides made owned : Bool) → owned ≡ true →
      (if hides && not (made || owned) then record row { creator = 0 } else row) ≡ row
  by false made owned is = refl
  by true true owned is = refl
  by true false owned is = rw is refl

pub items-whole : (adder : Adder) → adder.owns ≡ true → (rows : List AuxRow) → items_shown adder rows ≡ rows
items-whole adder owns [] = refl
items-whole adder owns (row ∷ rows) =
    let shown : is_shown adder row ≡ true =
    or_right (not (is_secret row.flags) || row.creator == adder.person) adder.owns owns in
    rw shown (rw (item-whole adder row owns) (ap (λ rest. row ∷ rest) (items-whole adder owns rows)))

-- ---- who is strong has logged in
letterbox-there : (rows : List ConferenceRow) (number : ℕ) → IsTrue (has_letterbox rows number) →
    (row : ConferenceRow) × (find (λ one. number_of_conference one == number) rows ≡ Some row)
letterbox-there rows number is = let found = found-says (λ (row : ConferenceRow). is_letterbox row.kind)
    (find (λ one. number_of_conference one == number) rows) is in (found.0, found.1)

pub unzero : (number : ℕ) → 0 < number → (number == 0) ≡ false
unzero number positive = ne_eqb number 0 (λ none. omega arith)

pub person-positive : (db : Db) → IsWhole db → (person : ℕ) → is_some (person_of db person) ≡ true → 0 < person
unfolding person_of
person-positive db whole person is = elim (cases_Option (person_of db person)) [
  | inl none ↦ absurd (true≢false (sym is ∙ ap (λ (found : Option PersonRow). is_some found) none))
  | inr (row, found) ↦
      let housed = found-holds (λ (row : PersonRow). IsTrue (has_letterbox db.conferences row.number))
      (λ row. number_of_person row == person) db.persons whole.persons.housed row found in
      let box = letterbox-there db.conferences row.number housed.0 in
      let positive = found-holds (λ (row : ConferenceRow). 0 < row.number)
      (λ one. number_of_conference one == row.number) db.conferences whole.conferences.positive box.0 box.1 in
      let at : box.0.number ≡ row.number = eqb-true box.0.number row.number positive.1 in
      let at' : row.number ≡ person = eqb-true row.number person housed.1 in
      let above : 0 < box.0.number = positive.0 in
      omega arith
]

might-there : (db : Db) (person : ℕ) → has_might db person ≡ true → is_some (person_of db person) ≡ true
might-there db person = by (person_of db person) where
  by : (found : Option PersonRow) →
      (elim found as (λ _. Bool) [ None ↦ false | Some row ↦ is_mighty row.privileges ]) ≡ true → is_some found ≡ true
  by None is = is
  by (Some row) is = refl

seat-logged : (db : Db) → IsWhole db → (seat : Option Seat) → (viewer_at db seat).strong ≡ true →
    ((viewer_at db seat).person == 0) ≡ false
seat-logged db whole None strong = absurd (true≢false (sym strong))
seat-logged db whole (Some seat) strong = unzero seat.person (person-positive db whole seat.person
    (might-there db seat.person (and_parts (seat.level == 255) (has_might db seat.person) strong).1))

pub logged : (asked : Asked) → AsksStrongly asked → login_guard (caller asked) ≡ None
logged asked strongly = rw (seat-logged asked.db strongly.whole (seat_of asked) strongly.strong) refl

-- ---- the calls
-- a guard that wants a number, and then that it is there
pub found-guard : (zero holds there : Bool) (code code' status : ℕ) → zero ≡ false → holds ≡ there →
    cond zero (refusal code 0) (unless holds code' status) ≡ unless there code' status
found-guard zero holds there code code' status is same = rw is (rw same refl)

module _ {X : Type 0} (code number : ℕ) (tell : X → Reply) where
  -- after a login, a guard that something is there, and what is told of it
  pub told-or-not : (guards : Guard) (found : Option X) (others : Reply) → guards ≡ None →
      (outcome_of (with_guards (guards ∷ unless (is_some found) code number ∷ [])
      (answer (elim found as (λ _. Reply) [ None ↦ others | Some row ↦ tell row ])))).reply
      ≡ (elim found as (λ _. Reply) [ None ↦ reply.Refused code number | Some row ↦ tell row ])
  told-or-not guards None others passes = rw passes refl
  told-or-not guards (Some row) others passes = rw passes refl

told-true : {X : Type 0} (none : Bool) (says : X → Bool) → none ≡ true → ((row : X) → says row ≡ true) →
    (found : Option X) → told none says found ≡ true
told-true none says is all None = is
told-true none says is all (Some row) = all row

pub all-kept : {X : Type 0} (P : X → Type 0) (test : X → Bool) (rows : List X) → AllByRecursion P rows →
    AllByRecursion P (filter test rows)
all-kept P test [] all = tt
all-kept P test (row ∷ rows) all = elim (cases_Bool (test row)) [
  | inl keeps ↦ rw keeps (all.0, all-kept P test rows all.1)
  | inr drops ↦ rw drops (all-kept P test rows all.1)
]

pub filter-true : {X : Type 0} (test : X → Bool) (rows : List X) → AllByRecursion (λ row. test row ≡ true) rows →
    filter test rows ≡ rows
filter-true test [] all = refl
filter-true test (row ∷ rows) all = rw (all.0) (ap (λ kept. row ∷ kept) (filter-true test rows all.1))

local-there : (rows : List ConferenceRow) (number local : ℕ) → IsTrue (has_drawn_local rows number local) →
    is_some (find (λ row. number_of_conference row == number) rows) ≡ true
local-there rows number local is = ap (λ (found : Option ConferenceRow). is_some found)
    (found-says (λ (row : ConferenceRow). nat_lt local row.next_local)
    (find (λ one. number_of_conference one == number) rows) is).1

-- the conference of each recipient is there
recipients-there : (db : Db) → IsWhole db → (text : ℕ) →
    AllByRecursion (λ row. is_some (conference_of db row.conference) ≡ true) (recipients_of db text)
unfolding conference_of recipients_of
recipients-there db whole text = all-kept
    (λ (row : Recipient). is_some (find (λ one. number_of_conference one == row.conference) db.conferences) ≡ true)
    (λ row. row.text == text) db.recipients
    (all-weaker (λ (row : Recipient). IsTrue (has_drawn_local db.conferences row.conference row.local))
    (λ (row : Recipient). is_some (find (λ one. number_of_conference one == row.conference) db.conferences) ≡ true)
    (λ row drawn. local-there db.conferences row.conference row.local drawn) db.recipients whole.recipients.drawn)

module _ (db : Db) (whole : IsWhole db) (viewer : Viewer) (strong : viewer.strong ≡ true) where
  recipients-whole : (author text : ℕ) → recipients_shown db viewer author text ≡ recipients_of db text
  recipients-whole author text = filter-true (shows_recipient db viewer author) (recipients_of db text)
      (all-weaker (λ (row : Recipient). is_some (conference_of db row.conference) ≡ true)
      (λ row. shows_recipient db viewer author row ≡ true)
      (λ row there. shows-recipient db viewer strong author row there) (recipients_of db text)
      (recipients-there db whole text))

  text-owned : (text : ℕ) → (text_adder db viewer text).owns ≡ true
  text-owned text = told-true viewer.strong
      (λ author. is_author viewer.person author || supervises db viewer.person author || viewer.strong) strong
      (λ author. or_right (is_author viewer.person author || supervises db viewer.person author) viewer.strong strong)
      (text_author_of db text)

  stat-whole : (row : TextRow) → shown_stat db viewer row ≡ stat_in_full db row
  stat-whole row =
      let full : TextStat = stat_in_full db row in
      ap₂ (λ (recipients : List Recipient) (items : List AuxRow). record full {
        misc_infos = flat_map recipient_infos recipients
            ++ flat_map from_infos (links_from db row.number false)
            ++ map into_info (links_into db row.number false)
            ++ flat_map from_infos (links_from db row.number true)
            ++ map into_info (links_into db row.number true);
        aux_items = items;
      }) (recipients-whole row.author row.number)
      (items-whole (text_adder db viewer row.number) (text-owned row.number) (items_of db true row.number))

module _ (asked : Asked) (strongly : AsksStrongly asked) where
  full-conference : (row : ConferenceRow) →
      conference_told asked.db (caller asked) row ≡ conference_in_full asked row
  full-conference row =
      ap (λ (items : List AuxRow). record (conference_told asked.db (caller asked) row) { aux_items = items })
      (items-whole (conference_adder asked.db (caller asked) row.number)
      (or_right (supervises asked.db (caller asked).person row.number) (caller asked).strong strongly.strong)
      (items_of asked.db false row.number))

  text-told : (text : ℕ) → 0 < text → IsUncurbed asked (call.GetTextStat text) →
      answer_to asked (call.GetTextStat text) ≡ told_text asked text
  text-told text positive uncurbed =
      uncut asked (call.GetTextStat text) uncurbed
      ∙ ap (λ (guard : Guard). (outcome_of (with_guards (login_guard (caller asked) ∷ guard ∷ [])
      (answer (text_reply asked.db (caller asked) text)))).reply)
      (found-guard (text == 0) (reads asked.db (caller asked) text) (is_some (text_of asked.db text)) error.TEXT_ZERO
      error.NO_SUCH_TEXT text (unzero text positive) (reads-all asked.db (caller asked) strongly.strong text))
      ∙ told-or-not error.NO_SUCH_TEXT text (λ row. reply.TextStat (shown_stat asked.db (caller asked) row))
      (login_guard (caller asked)) (text_of asked.db text) (reply.Refused error.NO_SUCH_TEXT text)
      (logged asked strongly)
      ∙ told-alike (reply.Refused error.NO_SUCH_TEXT text)
      (λ row. reply.TextStat (shown_stat asked.db (caller asked) row))
      (λ row. reply.TextStat (stat_in_full asked.db row))
      (λ row. ap reply.TextStat (stat-whole asked.db strongly.whole (caller asked) strongly.strong row))
      (text_of asked.db text)

  conference-told : (number : ℕ) → 0 < number → IsUncurbed asked (call.GetConfStat number) →
      answer_to asked (call.GetConfStat number) ≡ told_conference asked number
  conference-told number positive uncurbed =
      uncut asked (call.GetConfStat number) uncurbed
      ∙ ap (λ (guard : Guard). (outcome_of (with_guards (login_guard (caller asked) ∷ guard ∷ [])
      (answer (conference_reply asked.db (caller asked) number)))).reply)
      (found-guard (number == 0) (sees asked.db (caller asked) number) (is_some (conference_of asked.db number))
      error.CONFERENCE_ZERO error.UNDEFINED_CONFERENCE number (unzero number positive)
      (sees-all asked.db (caller asked) strongly.strong number))
      ∙ told-or-not error.UNDEFINED_CONFERENCE number
      (λ row. reply.Conference (conference_told asked.db (caller asked) row))
      (login_guard (caller asked)) (conference_of asked.db number) (reply.Refused error.UNDEFINED_CONFERENCE number)
      (logged asked strongly)
      ∙ told-alike (reply.Refused error.UNDEFINED_CONFERENCE number)
      (λ row. reply.Conference (conference_told asked.db (caller asked) row))
      (λ row. reply.Conference (conference_in_full asked row))
      (λ row. ap reply.Conference (full-conference row)) (conference_of asked.db number)

  person-told : (number : ℕ) → 0 < number → IsUncurbed asked (call.GetPersonStat number) →
      answer_to asked (call.GetPersonStat number) ≡ told_person asked number
  person-told number positive uncurbed =
      uncut asked (call.GetPersonStat number) uncurbed
      ∙ ap (λ (guard : Guard). (outcome_of (with_guards (login_guard (caller asked) ∷ guard ∷ [])
      (answer (person_reply asked.db (caller asked) number)))).reply)
      (found-guard (number == 0) (is_some (person_of asked.db number)) (is_some (person_of asked.db number))
      error.CONFERENCE_ZERO error.UNDEFINED_PERSON number (unzero number positive) refl)
      ∙ told-or-not error.UNDEFINED_PERSON number
      (λ row. reply.Person (person_told asked.db (caller asked) row))
      (login_guard (caller asked)) (person_of asked.db number) (reply.Refused error.UNDEFINED_PERSON number)
      (logged asked strongly)

  -- each text, and each conference, is read and seen
  texts-read : AllByRecursion (λ row. reads asked.db (caller asked) row.number ≡ true) (texts_of asked.db)
  unfolding texts_of text_of
  texts-read = all-weaker (λ (row : TextRow). is_some (text_of asked.db row.number) ≡ true)
      (λ (row : TextRow). reads asked.db (caller asked) row.number ≡ true)
      (λ row there. reads-all asked.db (caller asked) strongly.strong row.number ∙ there) asked.db.texts
      (all-found number_of_text asked.db.texts)

  conferences-seen : AllByRecursion (λ row. sees asked.db (caller asked) row.number ≡ true) (conferences_of asked.db)
  unfolding conferences_of conference_of
  conferences-seen = all-weaker (λ (row : ConferenceRow). is_some (conference_of asked.db row.number) ≡ true)
      (λ (row : ConferenceRow). sees asked.db (caller asked) row.number ≡ true)
      (λ row there. sees-all asked.db (caller asked) strongly.strong row.number ∙ there) asked.db.conferences
      (all-found number_of_conference asked.db.conferences)

  and-true : (one other : Bool) → other ≡ true → (one && other) ≡ one
  and-true true other is = is
  and-true false other is = refl

  nearest-text-told : (start : ℕ) (found : Option TextRow) → (outcome_of (nearest_text asked start found)).reply
      ≡ told (reply.Refused error.NO_SUCH_TEXT start) (λ row. reply.Number row.number) found
  nearest-text-told start None = rw (logged asked strongly) refl
  nearest-text-told start (Some row) = rw (logged asked strongly) refl

  next-text-told : (start : ℕ) → IsUncurbed asked (call.FindNextTextNo start) →
      answer_to asked (call.FindNextTextNo start) ≡ told_next_text asked start
  next-text-told start uncurbed =
      uncut asked (call.FindNextTextNo start) uncurbed
      ∙ ap (λ (found : Option TextRow). (outcome_of (nearest_text asked start found)).reply)
      (find-alike (λ row. nat_lt start row.number && reads asked.db (caller asked) row.number)
      (λ row. nat_lt start row.number) (texts_of asked.db)
      (all-weaker (λ (row : TextRow). reads asked.db (caller asked) row.number ≡ true)
      (λ (row : TextRow). (nat_lt start row.number && reads asked.db (caller asked) row.number)
      ≡ nat_lt start row.number)
      (λ row is. and-true (nat_lt start row.number) (reads asked.db (caller asked) row.number) is)
      (texts_of asked.db) texts-read))
      ∙ nearest-text-told start (find (λ row. nat_lt start row.number) (texts_of asked.db))

  nearest-told : (start : ℕ) (found : Option ConferenceRow) → (outcome_of (nearest asked start found)).reply
      ≡ told (reply.Refused error.UNDEFINED_CONFERENCE start) (λ row. reply.Number row.number) found
  nearest-told start None = rw (logged asked strongly) refl
  nearest-told start (Some row) = rw (logged asked strongly) refl

  next-conference-told : (start : ℕ) → IsUncurbed asked (call.FindNextConfNo start) →
      answer_to asked (call.FindNextConfNo start) ≡ told_next_conference asked start
  next-conference-told start uncurbed =
      uncut asked (call.FindNextConfNo start) uncurbed
      ∙ ap (λ (found : Option ConferenceRow). (outcome_of (nearest asked start found)).reply)
      (find-alike (λ row. nat_lt start row.number && sees asked.db (caller asked) row.number)
      (λ row. nat_lt start row.number) (conferences_of asked.db)
      (all-weaker (λ (row : ConferenceRow). sees asked.db (caller asked) row.number ≡ true)
      (λ (row : ConferenceRow). (nat_lt start row.number && sees asked.db (caller asked) row.number)
      ≡ nat_lt start row.number)
      (λ row is. and-true (nat_lt start row.number) (sees asked.db (caller asked) row.number) is)
      (conferences_of asked.db) conferences-seen))
      ∙ nearest-told start (find (λ row. nat_lt start row.number) (conferences_of asked.db))

pub tells-all : TellsAll
tells-all = record {
  text = λ asked text strongly positive uncurbed. text-told asked strongly text positive uncurbed;
  conference = λ asked number strongly positive uncurbed. conference-told asked strongly number positive uncurbed;
  person = λ asked number strongly positive uncurbed. person-told asked strongly number positive uncurbed;
  next_text = λ asked start strongly uncurbed. next-text-told asked strongly start uncurbed;
  next_conference = λ asked start strongly uncurbed. next-conference-told asked strongly start uncurbed;
}
