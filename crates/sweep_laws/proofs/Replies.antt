-- What replies tell of rows in which persons may have logged in and out since.
use Rattle.std.proofs.Common.{◌≡◌, ℕ, ◌==◌, ◌<◌, true, false, List, Option, Some, None, refl, sym, ap, ◌∙◌, subst}
use Rattle.std.proofs.Common.{nat_lt, []}
use Rattle.std.specs.Prelude.{map, option_map}
use Rattle.std.specs.List.{find}
use Rattle.kom_types.specs.declared.aux_items.AuxRow.{AuxRow}
use Rattle.kom_types.specs.declared.calls.Call.{Call}
use Rattle.kom_types.specs.declared.calls.Call.TheVariants as call
use Rattle.kom_types.specs.declared.conferences.Conference.{Conference}
use Rattle.kom_types.specs.declared.conferences.ConferenceRow.{ConferenceRow}
use Rattle.kom_types.specs.declared.errors.TheConstants as error
use Rattle.kom_types.specs.declared.persons.Person.{Person}
use Rattle.kom_types.specs.declared.persons.PersonRow.{PersonRow}
use Rattle.kom_types.specs.declared.replies.Reply.{Reply}
use Rattle.kom_types.specs.declared.replies.Reply.TheVariants as reply
use Rattle.kom_types.specs.declared.texts.TextRow.{TextRow}
use Rattle.kom_model.specs.Db.{Db, conference_of, conferences_of, person_of, text_of, texts_of}
use Rattle.kom_model.specs.Db.{recipients_of, links_from, links_into, marks_on, items_of}
use Rattle.kom_model.specs.calls.Call.{Asked}
use Rattle.kom_model.specs.calls.Guards.{caller}
use Rattle.kom_model.specs.Shown.{person_told}
use Rattle.kom_model.proofs.whole.Found.{find-mapped}
use Rattle.kom_laws.proofs.masking.Rows.{told}
use Rattle.kom_sweep.specs.Replies.{number_in, stat_in, conference_in, person_in, is_last_conference}
use Rattle.kom_sweep.specs.Told.{tell}
use Rattle.sweep_laws.specs.Told.{is_curbed, answer_to}
use Rattle.sweep_laws.specs.Told.{IsToldOf, stat_in_full, conference_in_full}
use Rattle.sweep_laws.specs.Without.{without_logins, IsWithout}
use Rattle.sweep_laws.proofs.Deleting.{none-without}
use Rattle.sweep_laws.proofs.Strong.{tells-all}

-- ---- the rows that were asked
pub asked-rows : (old new : Db) → IsWithout [] old new → new ≡ record old { persons = new.persons }
asked-rows old new is =
    is.rows ∙ ap (λ (db : Db). record db { persons = new.persons }) (none-without old)

-- what a call was answered that was not curbed
uncurbed-answer : (db : Db) (what : Call) (answer : Option Reply) (is : IsToldOf db (tell what answer)) →
    is_curbed (Some (answer_to is.asked what)) ≡ false
uncurbed-answer db what answer is = subst (λ (found : Option Reply). is_curbed found ≡ false) is.reply is.uncurbed

-- ---- texts
stats-same : (db : Db) (persons : List PersonRow) (text : ℕ) →
    option_map (stat_in_full (record db { persons = persons })) (text_of (record db { persons = persons }) text)
    ≡ option_map (stat_in_full db) (text_of db text)
unfolding text_of recipients_of links_from links_into marks_on items_of
stats-same db persons text = refl

stat-found : (db : Db) (text : ℕ) (found : Option TextRow) →
    stat_in (Some (told (reply.Refused error.NO_SUCH_TEXT text) (λ row. reply.TextStat (stat_in_full db row)) found))
    ≡ option_map (stat_in_full db) found
stat-found db text None = refl
stat-found db text (Some row) = refl

pub stat-told : (db : Db) (text : ℕ) (answer : Option Reply) → 0 < text →
    IsToldOf db (tell (call.GetTextStat text) answer) →
    stat_in answer ≡ option_map (stat_in_full db) (text_of db text)
stat-told db text answer positive is =
    ap stat_in (is.reply ∙ ap (λ (body : Reply). Some body) (tells-all.text is.asked text is.strongly positive
    (uncurbed-answer db (call.GetTextStat text) answer is)))
    ∙ stat-found is.asked.db text (text_of is.asked.db text)
    ∙ ap (λ (rows : Db). option_map (stat_in_full rows) (text_of rows text)) (asked-rows db is.asked.db is.rows)
    ∙ stats-same db is.asked.db.persons text

text-number-found : (start : ℕ) (found : Option TextRow) →
    number_in (Some (told (reply.Refused error.NO_SUCH_TEXT start) (λ row. reply.Number row.number) found))
    ≡ option_map (λ (row : TextRow). row.number) found
text-number-found start None = refl
text-number-found start (Some row) = refl

texts-same : (db : Db) (persons : List PersonRow) → texts_of (record db { persons = persons }) ≡ db.texts
unfolding texts_of
texts-same db persons = refl

pub next-text-told : (db : Db) (start : ℕ) (answer : Option Reply) →
    IsToldOf db (tell (call.FindNextTextNo start) answer) →
    number_in answer ≡ option_map (λ (row : TextRow). row.number) (find (λ row. nat_lt start row.number) db.texts)
next-text-told db start answer is =
    ap number_in (is.reply ∙ ap (λ (body : Reply). Some body) (tells-all.next_text is.asked start is.strongly
    (uncurbed-answer db (call.FindNextTextNo start) answer is)))
    ∙ text-number-found start (find (λ row. nat_lt start row.number) (texts_of is.asked.db))
    ∙ ap (λ (rows : List TextRow). option_map (λ (row : TextRow). row.number)
    (find (λ row. nat_lt start row.number) rows))
    (ap texts_of (asked-rows db is.asked.db is.rows) ∙ texts-same db is.asked.db.persons)

-- ---- conferences
-- what of a conference a sweep looks at
pub record Core : Type 0 where
  pub kind : ℕ
  pub presentation : ℕ
  pub motd : ℕ
  pub nice : ℕ
  pub keep_commented : ℕ
  pub expire : ℕ
  pub aux_items : List AuxRow

abbrev pub core_of : Conference → Core
core_of conference = record {
  kind = conference.kind;
  presentation = conference.presentation;
  motd = conference.motd;
  nice = conference.nice;
  keep_commented = conference.keep_commented;
  expire = conference.expire;
  aux_items = conference.aux_items;
}

abbrev pub core_at : Db → ConferenceRow → Core
core_at db row = record {
  kind = row.kind;
  presentation = row.presentation;
  motd = row.motd;
  nice = row.nice;
  keep_commented = row.keep_commented;
  expire = row.expire;
  aux_items = items_of db false row.number;
}

cores-same : (db : Db) (persons : List PersonRow) (number : ℕ) →
    option_map (core_at (record db { persons = persons })) (conference_of (record db { persons = persons }) number)
    ≡ option_map (core_at db) (conference_of db number)
unfolding conference_of items_of
cores-same db persons number = refl

core-found : (asked : Asked) (number : ℕ) (found : Option ConferenceRow) →
    option_map core_of (conference_in (Some (told (reply.Refused error.UNDEFINED_CONFERENCE number)
    (λ row. reply.Conference (conference_in_full asked row)) found)))
    ≡ option_map (core_at asked.db) found
core-found asked number None = refl
core-found asked number (Some row) = refl

pub conference-told : (db : Db) (number : ℕ) (answer : Option Reply) → 0 < number →
    IsToldOf db (tell (call.GetConfStat number) answer) →
    option_map core_of (conference_in answer) ≡ option_map (core_at db) (conference_of db number)
conference-told db number answer positive is =
    ap (λ (found : Option Reply). option_map core_of (conference_in found))
    (is.reply ∙ ap (λ (body : Reply). Some body) (tells-all.conference is.asked number is.strongly positive
    (uncurbed-answer db (call.GetConfStat number) answer is)))
    ∙ core-found is.asked number (conference_of is.asked.db number)
    ∙ ap (λ (rows : Db). option_map (core_at rows) (conference_of rows number)) (asked-rows db is.asked.db is.rows)
    ∙ cores-same db is.asked.db.persons number

conference-number-found : (start : ℕ) (found : Option ConferenceRow) →
    number_in (Some (told (reply.Refused error.UNDEFINED_CONFERENCE start) (λ row. reply.Number row.number) found))
    ≡ option_map (λ (row : ConferenceRow). row.number) found
conference-number-found start None = refl
conference-number-found start (Some row) = refl

conferences-same : (db : Db) (persons : List PersonRow) →
    conferences_of (record db { persons = persons }) ≡ db.conferences
unfolding conferences_of
conferences-same db persons = refl

-- the reply of the call for the next conference, by what is there
next-conference : (db : Db) (start : ℕ) (answer : Option Reply) →
    IsToldOf db (tell (call.FindNextConfNo start) answer) →
    answer ≡ Some (told (reply.Refused error.UNDEFINED_CONFERENCE start)
    (λ (row : ConferenceRow). reply.Number row.number) (find (λ row. nat_lt start row.number) db.conferences))
next-conference db start answer is =
    is.reply ∙ ap (λ (body : Reply). Some body) (tells-all.next_conference is.asked start is.strongly
    (uncurbed-answer db (call.FindNextConfNo start) answer is))
    ∙ ap (λ (rows : List ConferenceRow). Some (told (reply.Refused error.UNDEFINED_CONFERENCE start)
    (λ (row : ConferenceRow). reply.Number row.number) (find (λ row. nat_lt start row.number) rows)))
    (ap conferences_of (asked-rows db is.asked.db is.rows) ∙ conferences-same db is.asked.db.persons)

pub next-conference-told : (db : Db) (start : ℕ) (answer : Option Reply) →
    IsToldOf db (tell (call.FindNextConfNo start) answer) →
    number_in answer
    ≡ option_map (λ (row : ConferenceRow). row.number) (find (λ row. nat_lt start row.number) db.conferences)
next-conference-told db start answer is = ap number_in (next-conference db start answer is)
    ∙ conference-number-found start (find (λ row. nat_lt start row.number) db.conferences)

-- where there is no further one, that is told
pub last-conference-told : (db : Db) (start : ℕ) (answer : Option Reply) →
    IsToldOf db (tell (call.FindNextConfNo start) answer) →
    find (λ row. nat_lt start row.number) db.conferences ≡ None → is_last_conference answer ≡ true
last-conference-told db start answer is none =
    ap is_last_conference (next-conference db start answer is)
    ∙ ap (λ (found : Option ConferenceRow). is_last_conference (Some (told
    (reply.Refused error.UNDEFINED_CONFERENCE start) (λ row. reply.Number row.number) found))) none

-- ---- persons
areas-same : (found : Option PersonRow) →
    option_map (λ (row : PersonRow). row.user_area) (option_map without_logins found)
    ≡ option_map (λ (row : PersonRow). row.user_area) found
areas-same None = refl
areas-same (Some row) = refl

-- the user area of a person, or that there is none
abbrev pub area_of : Db → ℕ → Option ℕ
area_of db number = option_map (λ (row : PersonRow). row.user_area) (person_of db number)

areas-as : (db : Db) (number : ℕ) → area_of db number
    ≡ option_map (λ (row : PersonRow). row.user_area)
    (find (λ row. row.number == number) (map without_logins db.persons))
unfolding person_of
areas-as db number =
    sym (areas-same (find (λ (row : PersonRow). row.number == number) db.persons))
    ∙ ap (option_map (λ (row : PersonRow). row.user_area))
    (sym (find-mapped (λ (row : PersonRow). row.number == number) without_logins (λ row. refl) db.persons))

area-kept : (old new : Db) (number : ℕ) → IsWithout [] old new → area_of new number ≡ area_of old number
area-kept old new number is =
    areas-as new number
    ∙ ap (λ (rows : List PersonRow). option_map (λ (row : PersonRow). row.user_area)
    (find (λ row. row.number == number) rows)) is.persons
    ∙ sym (areas-as old number)

area-found : (asked : Asked) (number : ℕ) (found : Option PersonRow) →
    option_map (λ (person : Person). person.user_area) (person_in (Some (told
    (reply.Refused error.UNDEFINED_PERSON number)
    (λ row. reply.Person (person_told asked.db (caller asked) row)) found)))
    ≡ option_map (λ (row : PersonRow). row.user_area) found
area-found asked number None = refl
area-found asked number (Some row) = refl

pub person-told : (db : Db) (number : ℕ) (answer : Option Reply) → 0 < number →
    IsToldOf db (tell (call.GetPersonStat number) answer) →
    option_map (λ (person : Person). person.user_area) (person_in answer) ≡ area_of db number
person-told db number answer positive is =
    ap (λ (found : Option Reply). option_map (λ (person : Person). person.user_area) (person_in found))
    (is.reply ∙ ap (λ (body : Reply). Some body) (tells-all.person is.asked number is.strongly positive
    (uncurbed-answer db (call.GetPersonStat number) answer is)))
    ∙ area-found is.asked number (person_of is.asked.db number)
    ∙ area-kept db is.asked.db number is.rows
