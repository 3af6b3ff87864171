-- What a strong session is told of the stored rows, and which texts are due by that.
use Rattle.std.specs.Prelude.{◌≡◌, ℕ, ◌<◌, ◌||◌, nat_lt, length, Bool, true, false, List, [], ◌++◌}
use Rattle.std.specs.Prelude.{map, find, flat_map, Option, Some, None}
use Rattle.std.specs.List.{AllByRecursion}
use Rattle.kom_types.specs.declared.calls.Call.{Call}
use Rattle.kom_types.specs.declared.calls.Call.TheVariants as call
use Rattle.kom_types.specs.declared.conferences.Conference.{Conference}
use Rattle.kom_types.specs.declared.conferences.ConferenceRow.{ConferenceRow}
use Rattle.kom_types.specs.declared.errors.TheConstants as error
use Rattle.kom_types.specs.declared.replies.Reply.{Reply}
use Rattle.kom_types.specs.declared.replies.Reply.TheVariants as reply
use Rattle.kom_types.specs.declared.texts.MiscInfo.{MiscInfo}
use Rattle.kom_types.specs.declared.texts.TextRow.{TextRow}
use Rattle.kom_types.specs.declared.texts.TextStat.{TextStat}
use Rattle.kom_model.specs.Db.{Db, conference_of, conferences_of, person_of, text_of, texts_of}
use Rattle.kom_model.specs.Db.{recipients_of, links_from, links_into, marks_on, items_of}
use Rattle.kom_model.specs.Decide.{decision_of}
use Rattle.kom_model.specs.Shown.{recipient_infos, from_infos, into_info, told_count}
use Rattle.kom_model.specs.Shown.{conference_told, person_told}
use Rattle.kom_model.specs.Whole.{IsWhole}
use Rattle.kom_model.specs.calls.Call.{Asked}
use Rattle.kom_model.specs.calls.Guards.{caller}
use Rattle.kom_sweep.specs.Due.{Walk, Room, Look}
use Rattle.kom_sweep.specs.Replies.{is_short, has_code, refusal_in}
use Rattle.kom_sweep.specs.Told.{Told}
use Rattle.kom_sweep.specs.Walks.{IsRoomWalk, IsTextWalk, told_rooms, told_texts, due_in}
use Rattle.sweep_laws.specs.Due.{AreNumbered, due_texts}
use Rattle.sweep_laws.specs.Without.{IsWithout}

-- memory ran out for a call, or the line of its reply would be longer than such a line may be
abbrev pub is_curbed : Option Reply → Bool
is_curbed answer = is_short answer || has_code error.LONG_ARRAY (refusal_in answer)

-- what a call is answered
abbrev pub answer_to : Asked → Call → Reply
answer_to asked call = (decision_of asked call).reply

-- ---- a strong session is told all
-- all that a text is linked to, each group in the order of adding
abbrev pub infos_of : Db → ℕ → List MiscInfo
infos_of db text =
    flat_map recipient_infos (recipients_of db text)
    ++ flat_map from_infos (links_from db text false)
    ++ map into_info (links_into db text false)
    ++ flat_map from_infos (links_from db text true)
    ++ map into_info (links_into db text true)

-- a text with all that hangs on it
abbrev pub stat_in_full : Db → TextRow → TextStat
stat_in_full db row = record {
  created = row.created;
  author = row.author;
  lines = told_count row.lines;
  chars = told_count (length row.body);
  marks = told_count (length (marks_on db row.number));
  misc_infos = infos_of db row.number;
  aux_items = items_of db true row.number;
}

-- a conference as it is told to the caller, but with all its aux-items
abbrev pub conference_in_full : Asked → ConferenceRow → Conference
conference_in_full asked row =
    record (conference_told asked.db (caller asked) row) {
      aux_items = items_of asked.db false row.number;
    }

abbrev pub told_text : Asked → ℕ → Reply
told_text asked text = elim (text_of asked.db text) [
  | None ↦ reply.Refused error.NO_SUCH_TEXT text
  | Some row ↦ reply.TextStat (stat_in_full asked.db row)
]

abbrev pub told_conference : Asked → ℕ → Reply
told_conference asked conference = elim (conference_of asked.db conference) [
  | None ↦ reply.Refused error.UNDEFINED_CONFERENCE conference
  | Some row ↦ reply.Conference (conference_in_full asked row)
]

abbrev pub told_person : Asked → ℕ → Reply
told_person asked person = elim (person_of asked.db person) [
  | None ↦ reply.Refused error.UNDEFINED_PERSON person
  | Some row ↦ reply.Person (person_told asked.db (caller asked) row)
]

abbrev pub told_next_text : Asked → ℕ → Reply
told_next_text asked start = elim (find (λ row. nat_lt start row.number) (texts_of asked.db)) [
  | None ↦ reply.Refused error.NO_SUCH_TEXT start
  | Some row ↦ reply.Number row.number
]

abbrev pub told_next_conference : Asked → ℕ → Reply
told_next_conference asked start =
    elim (find (λ row. nat_lt start row.number) (conferences_of asked.db)) [
      | None ↦ reply.Refused error.UNDEFINED_CONFERENCE start
      | Some row ↦ reply.Number row.number
    ]

-- a strong session asks over whole rows
pub record AsksStrongly (asked : Asked) : Type 0 where
  pub whole : IsWhole asked.db
  pub strong : (caller asked).strong ≡ true

-- such a call is not curbed
abbrev pub IsUncurbed : Asked → Call → Type 0
IsUncurbed asked call = is_curbed (Some (answer_to asked call)) ≡ false

-- A strong session is told all of each text, conference and person by the calls 90, 91 and 49, and
-- by 60 and 116 which is the next, where these calls are not curbed.
pub record TellsAll : Type 0 where
  pub text : (asked : Asked) (text : ℕ) → AsksStrongly asked → 0 < text →
      IsUncurbed asked (call.GetTextStat text) →
      answer_to asked (call.GetTextStat text) ≡ told_text asked text
  pub conference : (asked : Asked) (number : ℕ) → AsksStrongly asked → 0 < number →
      IsUncurbed asked (call.GetConfStat number) →
      answer_to asked (call.GetConfStat number) ≡ told_conference asked number
  pub person : (asked : Asked) (number : ℕ) → AsksStrongly asked → 0 < number →
      IsUncurbed asked (call.GetPersonStat number) →
      answer_to asked (call.GetPersonStat number) ≡ told_person asked number
  pub next_text : (asked : Asked) (start : ℕ) → AsksStrongly asked →
      IsUncurbed asked (call.FindNextTextNo start) →
      answer_to asked (call.FindNextTextNo start) ≡ told_next_text asked start
  pub next_conference : (asked : Asked) (start : ℕ) → AsksStrongly asked →
      IsUncurbed asked (call.FindNextConfNo start) →
      answer_to asked (call.FindNextConfNo start) ≡ told_next_conference asked start

-- ---- what is due by that
-- a call was answered that a strong session made over these rows, or over such in which others have
-- logged in or out since, and it was not curbed
pub record IsToldOf (db : Db) (one : Told) : Type 0 where
  pub asked : Asked
  pub rows : IsWithout [] db asked.db
  pub strongly : AsksStrongly asked
  pub reply : one.reply ≡ Some (answer_to asked one.call)
  pub uncurbed : is_curbed one.reply ≡ false

-- Where all replies to both walks of a sweep are such, its texts are all that are there, and those
-- that are due by the replies are those that are due by the rows.
pub record DueIsTold : Type 0 where
  pub texts : (db : Db) (texts : Walk Look) → IsWhole db → AreNumbered db → IsTextWalk texts →
      AllByRecursion (IsToldOf db) (told_texts texts) →
      map (λ step. step.number) texts.steps ≡ map (λ row. row.number) db.texts
  pub due : (db : Db) (moment : ℕ) (rooms : Walk Room) (texts : Walk Look) → IsWhole db →
      AreNumbered db → IsRoomWalk rooms → IsTextWalk texts →
      AllByRecursion (IsToldOf db) (told_rooms rooms) →
      AllByRecursion (IsToldOf db) (told_texts texts) →
      due_in moment rooms texts.steps ≡ due_texts db moment
