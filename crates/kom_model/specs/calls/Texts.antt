-- The calls about texts that are there. (Protocol A, "Protocol Requests".)
use Rattle.std.specs.Prelude.{ℕ, ◌+◌, ◌-◌, Bool, true, false, ◌==◌, ◌||◌, ◌&&◌, not, nat_le, nat_lt}
use Rattle.std.specs.Prelude.{List, [], ◌∷◌, ◌++◌, length, map, filter, find, take, drop, reverse}
use Rattle.std.specs.Prelude.{Option, Some, None, is_some, is_none}
use Rattle.kom_types.specs.declared.limits.TheConstants.{LAST_DRAWN, MOST_MAPPED, MOST_MARKS}
use Rattle.kom_types.specs.declared.limits.TheConstants.{MOST_RECIPIENTS}
use Rattle.kom_types.specs.declared.errors.TheConstants as error
use Rattle.kom_types.specs.declared.effects.ConfField.TheVariants as field
use Rattle.kom_types.specs.declared.effects.Counter.TheVariants as counter
use Rattle.kom_types.specs.declared.effects.Effect.{Effect}
use Rattle.kom_types.specs.declared.effects.Effect.TheVariants as effect
use Rattle.kom_types.specs.declared.replies.Reply.{Reply}
use Rattle.kom_types.specs.declared.replies.Reply.TheVariants as reply
use Rattle.kom_types.specs.declared.texts.Mapping.{Mapping}
use Rattle.kom_types.specs.declared.texts.Recipient.{Recipient}
use Rattle.kom_types.specs.declared.texts.TextRow.{TextRow}
use Rattle.kom_types.specs.Mappings.{mapping_up, mapping_down}
use Rattle.kom_types.specs.tables.Texts.{shown_mark}
use Rattle.kom_model.specs.declared.viewers.Viewer.{Viewer}
use Rattle.kom_model.specs.Db.{Db, text_of, texts_of, text_author_of, next_text_of}
use Rattle.kom_model.specs.Db.{recipient_of, recipients_of, items_of}
use Rattle.kom_model.specs.Db.{link_of, links_from, links_into, links_of, locals_of, created_by}
use Rattle.kom_model.specs.Db.{next_local_of, next_created_of, mark_of, marks_of, marks_on}
use Rattle.kom_model.specs.Effects.{is_recipient_tag, most_links}
use Rattle.kom_model.specs.Rights.{supervises, reads, is_author}
use Rattle.kom_model.specs.Shown.{shows_recipient, shown_stat}
use Rattle.kom_model.specs.calls.Call.{Asked, Definition, answer, done_with, without_guard}
use Rattle.kom_model.specs.calls.Guards.{Guard, with_guards, refusal, unless, caller, login_guard}
use Rattle.kom_model.specs.calls.Guards.{conference_guard, person_guard, text_guard, reads_guard}
use Rattle.kom_model.specs.calls.Guards.{submit_guard}

-- who made a text: 0 if it is anonymous, or not there
abbrev pub author_of : Db → ℕ → ℕ
author_of db text = elim (text_author_of db text) [ None ↦ 0 | Some author ↦ author ]

abbrev pub body_of : Db → ℕ → List ℕ
body_of db text = elim (text_of db text) [ None ↦ [] | Some row ↦ row.body ]

-- the caller made the text; it made it, or supervises who did, or its session is strong
abbrev pub made_text : Db → Viewer → ℕ → Bool
made_text db caller text = is_author caller.person (author_of db text)

abbrev pub owns_text : Db → Viewer → ℕ → Bool
owns_text db caller text =
    made_text db caller text || supervises db caller.person (author_of db text) || caller.strong

-- what is asked of a text's bytes, from the first to the last one, as far as there are some
abbrev pub bytes_between : ℕ → ℕ → List ℕ → List ℕ
bytes_between start end bytes = take (end + 1 - start) (drop start bytes)

-- call 25, get-text
abbrev pub get_text : Asked → ℕ → ℕ → ℕ → Definition
get_text asked text start end = with_guards
    (login_guard (caller asked) ∷ text_guard asked.db (caller asked) text
    ∷ unless (nat_le start (length (body_of asked.db text))) error.INDEX_OUT_OF_RANGE start ∷ [])
    (record {
      reply = reply.Text (bytes_between start end (body_of asked.db text));
      effects = effect.Counted (caller asked).person counter.TextFetches 1 ∷ [];
      changes = [];
    })

-- what is replied of a text
abbrev pub text_reply : Db → Viewer → ℕ → Reply
text_reply db caller number = elim (text_of db number) [
  | None ↦ reply.Refused error.NO_SUCH_TEXT number
  | Some row ↦ reply.TextStat (shown_stat db caller row)
]

-- call 90, get-text-stat
abbrev pub get_text_stat : Asked → ℕ → Definition
get_text_stat asked text = with_guards
    (login_guard (caller asked) ∷ text_guard asked.db (caller asked) text ∷ [])
    (answer (text_reply asked.db (caller asked) text))

-- what hangs on a text goes before it: links, recipients, marks
abbrev pub gone_text : Db → ℕ → List Effect
gone_text db text =
    map (λ link. effect.LinkGone link.child link.parent link.footnote) (links_of db text)
    ++ map (λ row. effect.RecipientGone row.text row.conference) (recipients_of db text)
    ++ map (λ row. effect.MarkGone row.person row.text) (marks_on db text)
    ++ map (λ item. effect.AuxGone true text item.number) (items_of db true text)
    ++ effect.TextGone text ∷ []

-- call 29, delete-text
abbrev pub delete_text : Asked → ℕ → Definition
delete_text asked text = with_guards
    (login_guard (caller asked) ∷ text_guard asked.db (caller asked) text
    ∷ unless (owns_text asked.db (caller asked) text) error.PERMISSION_DENIED text ∷ [])
    (done_with (gone_text asked.db text) [])

-- a local number of the conference is left
abbrev pub local_guard : Db → ℕ → Guard
local_guard db conference =
    unless (nat_le (next_local_of db conference) LAST_DRAWN) error.TEMPORARY_FAILURE 0

-- a recipient that is added now, by whom: 0 if the text is made with it
abbrev pub new_recipient : Asked → ℕ → ℕ → ℕ → ℕ → Recipient
new_recipient asked text conference tag sender = record {
  text = text;
  conference = conference;
  tag = tag;
  local = next_local_of asked.db conference;
  sender = sender;
  at = asked.moment;
}

-- the conference was written in now
abbrev pub written_now : Asked → ℕ → Effect
written_now asked conference = effect.ConfField conference (field.LastWritten asked.moment)

-- call 30, add-recipient
abbrev pub add_recipient : Asked → ℕ → ℕ → ℕ → Definition
add_recipient asked text conference tag = with_guards
    (login_guard (caller asked) ∷ text_guard asked.db (caller asked) text
    ∷ conference_guard asked.db (caller asked) conference
    ∷ unless (is_recipient_tag tag) error.ILLEGAL_INFO_TYPE tag
    ∷ unless (is_none (recipient_of asked.db text conference)) error.ALREADY_RECIPIENT conference
    ∷ submit_guard asked.db (caller asked) conference
    ∷ unless (nat_lt (length (recipients_of asked.db text)) MOST_RECIPIENTS)
    error.RECIPIENT_LIMIT text
    ∷ local_guard asked.db conference ∷ [])
    (done_with
    (effect.RecipientAdded (new_recipient asked text conference tag (caller asked).person)
    ∷ written_now asked conference ∷ []) [])

-- a recipient that is there is shown to the caller
abbrev pub shows_to : Db → Viewer → ℕ → ℕ → Bool
shows_to db caller text conference = elim (recipient_of db text conference) [
  | None ↦ false
  | Some row ↦ shows_recipient db caller (author_of db text) row
]

-- who added a recipient, or a link: 0 if the text was made with it
abbrev pub sender_of : Db → ℕ → ℕ → ℕ
sender_of db text conference =
    elim (recipient_of db text conference) [ None ↦ 0 | Some row ↦ row.sender ]

abbrev pub linker_of : Db → ℕ → ℕ → Bool → ℕ
linker_of db child parent footnote =
    elim (link_of db child parent footnote) [ None ↦ 0 | Some row ↦ row.sender ]

-- the caller may take a recipient away
abbrev pub may_take : Db → Viewer → ℕ → ℕ → Bool
may_take db caller text conference =
    owns_text db caller text || sender_of db text conference == caller.person
    || supervises db caller.person conference

-- call 31, sub-recipient
abbrev pub sub_recipient : Asked → ℕ → ℕ → Definition
sub_recipient asked text conference = with_guards
    (login_guard (caller asked) ∷ text_guard asked.db (caller asked) text
    ∷ unless (not (conference == 0)) error.CONFERENCE_ZERO 0
    ∷ unless (shows_to asked.db (caller asked) text conference) error.NOT_RECIPIENT conference
    ∷ unless (may_take asked.db (caller asked) text conference) error.PERMISSION_DENIED text ∷ [])
    (done_with (effect.RecipientGone text conference ∷ []) [])

-- a comment, or a footnote, that is linked to a text now
abbrev pub linked_now : Asked → ℕ → ℕ → Bool → Effect
linked_now asked child parent footnote = effect.LinkAdded (record {
  child = child;
  parent = parent;
  footnote = footnote;
  sender = (caller asked).person;
  at = asked.moment;
})

-- two texts are not linked so yet; and there is room for one link more into the one, and from the
-- other
abbrev pub unlinked_guard : Db → ℕ → ℕ → Bool → ℕ → Guard
unlinked_guard db child parent footnote code =
    unless (is_none (link_of db child parent footnote)) code child

abbrev pub into_guard : Db → ℕ → Bool → ℕ → ℕ → Guard
into_guard db parent footnote code status =
    unless (nat_lt (length (links_into db parent footnote)) (most_links footnote)) code status

abbrev pub from_guard : Db → ℕ → Bool → ℕ → Guard
from_guard db child footnote code =
    unless (nat_lt (length (links_from db child footnote)) (most_links footnote)) code child

-- call 32, add-comment
abbrev pub add_comment : Asked → ℕ → ℕ → Definition
add_comment asked child parent = with_guards
    (login_guard (caller asked) ∷ text_guard asked.db (caller asked) child
    ∷ text_guard asked.db (caller asked) parent
    ∷ unless (not (child == parent)) error.PERMISSION_DENIED child
    ∷ unlinked_guard asked.db child parent false error.ALREADY_COMMENT
    ∷ into_guard asked.db parent false error.COMMENT_LIMIT parent
    ∷ from_guard asked.db child false error.COMMENT_LIMIT ∷ [])
    (done_with (linked_now asked child parent false ∷ []) [])

-- two texts are linked so
abbrev pub linked_guard : Db → ℕ → ℕ → Bool → ℕ → Guard
linked_guard db child parent footnote code =
    unless (is_some (link_of db child parent footnote)) code child

-- call 33, sub-comment
abbrev pub sub_comment : Asked → ℕ → ℕ → Definition
sub_comment asked child parent = with_guards
    (login_guard (caller asked) ∷ text_guard asked.db (caller asked) child
    ∷ text_guard asked.db (caller asked) parent
    ∷ linked_guard asked.db child parent false error.NOT_COMMENT
    ∷ unless (owns_text asked.db (caller asked) child
    || linker_of asked.db child parent false == (caller asked).person)
    error.PERMISSION_DENIED child ∷ [])
    (done_with (effect.LinkGone child parent false ∷ []) [])

-- call 37, add-footnote
abbrev pub add_footnote : Asked → ℕ → ℕ → Definition
add_footnote asked child parent = with_guards
    (login_guard (caller asked) ∷ text_guard asked.db (caller asked) child
    ∷ text_guard asked.db (caller asked) parent
    ∷ unless (not (child == parent)) error.PERMISSION_DENIED child
    ∷ unless (made_text asked.db (caller asked) child && made_text asked.db (caller asked) parent)
    error.NOT_AUTHOR parent
    ∷ unlinked_guard asked.db child parent true error.ALREADY_FOOTNOTE
    ∷ into_guard asked.db parent true error.FOOTNOTE_LIMIT parent
    ∷ from_guard asked.db child true error.FOOTNOTE_LIMIT ∷ [])
    (done_with (linked_now asked child parent true ∷ []) [])

-- call 38, sub-footnote
abbrev pub sub_footnote : Asked → ℕ → ℕ → Definition
sub_footnote asked child parent = with_guards
    (login_guard (caller asked) ∷ text_guard asked.db (caller asked) child
    ∷ text_guard asked.db (caller asked) parent
    ∷ linked_guard asked.db child parent true error.NOT_FOOTNOTE
    ∷ unless (made_text asked.db (caller asked) child || (caller asked).strong)
    error.PERMISSION_DENIED child ∷ [])
    (done_with (effect.LinkGone child parent true ∷ []) [])

-- call 72, mark-text: the mark may be there already
abbrev pub mark_text : Asked → ℕ → ℕ → Definition
mark_text asked text kind = let person = (caller asked).person in with_guards
    (login_guard (caller asked) ∷ text_guard asked.db (caller asked) text
    ∷ unless (is_some (mark_of asked.db person text)
    || nat_lt (length (marks_of asked.db person)) MOST_MARKS) error.MARK_LIMIT 0 ∷ [])
    (done_with (effect.MarkSet person text kind ∷ []) [])

-- call 73, unmark-text: also of a text that is not read any more
abbrev pub unmark_text : Asked → ℕ → Definition
unmark_text asked text = let person = (caller asked).person in with_guards
    (login_guard (caller asked) ∷ unless (not (text == 0)) error.TEXT_ZERO 0
    ∷ unless (is_some (mark_of asked.db person text)) error.NOT_MARKED text ∷ [])
    (done_with (effect.MarkGone person text ∷ []) [])

-- call 23, get-marks
abbrev pub get_marks : Asked → Definition
get_marks asked = with_guards
    (login_guard (caller asked) ∷ [])
    (answer (reply.Marks (map shown_mark (marks_of asked.db (caller asked).person))))

-- call 115, first-unused-text-no
abbrev pub first_unused_text_no : Asked → Definition
first_unused_text_no asked = without_guard (answer (reply.Number (next_text_of asked.db)))

-- the first of these texts that is read
abbrev pub first_read : Asked → (TextRow → Bool) → List TextRow → Option TextRow
first_read asked test rows = find (λ row. test row && reads asked.db (caller asked) row.number) rows

-- a text's number is answered, or that there is none
abbrev pub nearest_text : Asked → ℕ → Option TextRow → Definition
nearest_text asked start None =
    with_guards (login_guard (caller asked) ∷ refusal error.NO_SUCH_TEXT start ∷ [])
    (answer reply.Done)
nearest_text asked start (Some row) =
    with_guards (login_guard (caller asked) ∷ []) (answer (reply.Number row.number))

-- call 60, find-next-text-no
abbrev pub find_next_text_no : Asked → ℕ → Definition
find_next_text_no asked start =
    nearest_text asked start (first_read asked (λ row. nat_lt start row.number) (texts_of asked.db))

-- call 61, find-previous-text-no
abbrev pub find_previous_text_no : Asked → ℕ → Definition
find_previous_text_no asked start = nearest_text asked start
    (first_read asked (λ row. nat_lt row.number start) (reverse (texts_of asked.db)))

-- local numbers begin at 1; and not too many are asked for
abbrev pub first_guard : ℕ → Guard
first_guard first = unless (not (first == 0)) error.LOCAL_TEXT_ZERO 0

abbrev pub count_guard : ℕ → Guard
count_guard count = unless (nat_le count MOST_MAPPED) error.INDEX_OUT_OF_RANGE count

-- call 103, local-to-global
abbrev pub local_to_global : Asked → ℕ → ℕ → ℕ → Definition
local_to_global asked conference first count = with_guards
    (login_guard (caller asked) ∷ conference_guard asked.db (caller asked) conference
    ∷ reads_guard asked.db (caller asked) conference ∷ first_guard first ∷ count_guard count ∷ [])
    (answer (reply.Mapping (mapping_up (locals_of asked.db conference)
    (next_local_of asked.db conference) first count)))

-- call 121, local-to-global-reverse
abbrev pub local_to_global_reverse : Asked → ℕ → ℕ → ℕ → Definition
local_to_global_reverse asked conference ceiling count = with_guards
    (login_guard (caller asked) ∷ conference_guard asked.db (caller asked) conference
    ∷ reads_guard asked.db (caller asked) conference ∷ count_guard count ∷ [])
    (answer (reply.Mapping (mapping_down (locals_of asked.db conference)
    (next_local_of asked.db conference) ceiling count)))

-- a part upwards of the texts that a person made, of those that the caller reads
abbrev pub created_up : Asked → ℕ → ℕ → ℕ → Mapping
created_up asked person first count = mapping_up
    (filter (λ pair. reads asked.db (caller asked) pair.text) (created_by asked.db person))
    (next_created_of asked.db person) first count

-- call 104, map-created-texts
abbrev pub map_created_texts : Asked → ℕ → ℕ → ℕ → Definition
map_created_texts asked person first count = with_guards
    (login_guard (caller asked) ∷ person_guard asked.db person ∷ first_guard first
    ∷ count_guard count ∷ [])
    (answer (reply.Mapping (created_up asked person first count)))
