-- The calls that make texts. (Protocol A, "Protocol Requests".)
use Rattle.std.specs.Prelude.{ℕ, Bool, true, false, ◌==◌, ◌||◌, ◌&&◌, not, nat_le, nat_lt, min}
use Rattle.std.specs.Prelude.{List, [], ◌∷◌, ◌++◌, length, map, filter, fold, count_by, Some, None}
use Rattle.std.specs.Prelude.{if◌then◌else◌}
use Rattle.std.specs.List.{list_any, list_all}
use Rattle.kom_types.specs.declared.limits.TheConstants.{LAST_DRAWN, LONGEST_BODY, MOST_RECIPIENTS}
use Rattle.kom_types.specs.declared.errors.TheConstants as error
use Rattle.kom_types.specs.AuxItems.{items_from, inherit}
use Rattle.kom_types.specs.declared.aux_items.AuxRow.{AuxRow}
use Rattle.kom_types.specs.declared.aux_items.Object.TheVariants as object
use Rattle.kom_types.specs.declared.effects.Counter.TheVariants as counter
use Rattle.kom_types.specs.declared.effects.Effect.{Effect}
use Rattle.kom_types.specs.declared.effects.Effect.TheVariants as effect
use Rattle.kom_types.specs.declared.replies.Reply.TheVariants as reply
use Rattle.kom_types.specs.declared.texts.MiscInput.{MiscInput}
use Rattle.kom_types.specs.declared.texts.NewText.{NewText}
use Rattle.kom_types.specs.tables.Conferences.{allows_anonymous}
use Rattle.kom_types.specs.tables.Texts.{lines_of}
use Rattle.kom_model.specs.declared.viewers.Viewer.{Viewer}
use Rattle.kom_model.specs.Db.{Db, conference_head_of, next_text_of, next_local_of}
use Rattle.kom_model.specs.Db.{next_created_of, items_of}
use Rattle.kom_model.specs.Effects.{is_recipient_tag}
use Rattle.kom_model.specs.Effects.{most_links}
use Rattle.kom_model.specs.calls.AuxItems.{items_added}
use Rattle.kom_model.specs.calls.Call.{Asked, Definition}
use Rattle.kom_model.specs.calls.Guards.{Guard, with_guards, refusal, first_refusal, unless, caller}
use Rattle.kom_model.specs.calls.Guards.{login_guard, conference_guard, text_guard, submit_guard}
use Rattle.kom_model.specs.calls.Guards.{size_guard, new_items_guard, with_items}
use Rattle.kom_model.specs.calls.Sessions.{counts}
use Rattle.kom_model.specs.calls.Texts.{made_text, new_recipient, written_now, into_guard}

-- whether an item names a recipient, or a text that is commented, or has a footnote
abbrev pub names_recipient : MiscInput → Bool
names_recipient item = is_recipient_tag item.tag

abbrev pub names_comment : MiscInput → Bool
names_comment item = item.tag == 2

abbrev pub names_footnote : MiscInput → Bool
names_footnote item = item.tag == 4

-- whether an item names this so
abbrev pub names_value : (MiscInput → Bool) → ℕ → MiscInput → Bool
names_value names value item = names item && item.value == value

-- no item before it names the same
abbrev pub is_new : (MiscInput → Bool) → List MiscInput → ℕ → Bool
is_new names before value = not (list_any (names_value names value) before)

-- fewer are named before than may be
abbrev pub has_room : (MiscInput → Bool) → List MiscInput → ℕ → Bool
has_room names before most = nat_lt (count_by names before) most

-- the conference takes texts without an author
abbrev pub takes_anonymous : Db → ℕ → Bool
takes_anonymous db conference = elim (conference_head_of db conference) [
  | None ↦ false
  | Some head ↦ allows_anonymous head.kind
]

-- a text without an author is taken by the conference
abbrev pub anonymous_guard : Db → Bool → ℕ → Guard
anonymous_guard db anonymous conference =
    unless (not anonymous || takes_anonymous db conference) error.ANONYMOUS_REJECTED conference

-- the caller made the text that gets a footnote, and makes this one not without an author
abbrev pub author_guard : Db → Viewer → Bool → ℕ → Guard
author_guard db caller anonymous text =
    unless (not anonymous && made_text db caller text) error.NOT_AUTHOR text

-- the guards of an item that names a recipient, after these items
abbrev pub recipient_guard : Asked → Bool → List MiscInput → ℕ → Guard
recipient_guard asked anonymous before conference = first_refusal
    (conference_guard asked.db (caller asked) conference
    ∷ unless (is_new names_recipient before conference) error.ALREADY_RECIPIENT conference
    ∷ submit_guard asked.db (caller asked) conference
    ∷ anonymous_guard asked.db anonymous conference
    ∷ unless (has_room names_recipient before MOST_RECIPIENTS) error.RECIPIENT_LIMIT 0 ∷ [])

-- the guards of an item that names a text that is commented
abbrev pub comment_guard : Asked → List MiscInput → ℕ → Guard
comment_guard asked before text = first_refusal
    (text_guard asked.db (caller asked) text
    ∷ unless (is_new names_comment before text) error.ALREADY_COMMENT text
    ∷ into_guard asked.db text false error.COMMENT_LIMIT text
    ∷ unless (has_room names_comment before (most_links false)) error.COMMENT_LIMIT 0 ∷ [])

-- the guards of an item that names a text that gets a footnote: its author makes it
abbrev pub footnote_guard : Asked → Bool → List MiscInput → ℕ → Guard
footnote_guard asked anonymous before text = first_refusal
    (text_guard asked.db (caller asked) text
    ∷ author_guard asked.db (caller asked) anonymous text
    ∷ unless (is_new names_footnote before text) error.ALREADY_FOOTNOTE text
    ∷ into_guard asked.db text true error.FOOTNOTE_LIMIT text
    ∷ unless (has_room names_footnote before (most_links true)) error.FOOTNOTE_LIMIT 0 ∷ [])

-- the guards of an item, after these items; of other tags none is taken. A status stops at
-- 4294967295.
abbrev pub item_guard : Asked → Bool → List MiscInput → MiscInput → Guard
item_guard asked anonymous before item =
    if names_recipient item then recipient_guard asked anonymous before item.value
    else if names_comment item then comment_guard asked before item.value
    else if names_footnote item then footnote_guard asked anonymous before item.value
    else refusal error.ILLEGAL_MISC (min (length before) 4294967295)

-- the guards of each item in turn
abbrev pub item_guards : Asked → Bool → List MiscInput → List MiscInput → List Guard
item_guards asked anonymous before [] = []
item_guards asked anonymous before (item ∷ items) =
    item_guard asked anonymous before item
    ∷ item_guards asked anonymous (before ++ item ∷ []) items

-- a local number of the conference that an item names is left
abbrev pub has_local : Db → MiscInput → Bool
has_local db item = not (names_recipient item) || nat_le (next_local_of db item.value) LAST_DRAWN

-- a number among the texts of an author is left, where there is one
abbrev pub has_created : Db → ℕ → Bool → Bool
has_created db person anonymous = anonymous || nat_le (next_created_of db person) LAST_DRAWN

-- the next number of a text is left, one in each conference, and one among the author's texts
abbrev pub has_numbers : Db → ℕ → Bool → List MiscInput → Bool
has_numbers db person anonymous items =
    nat_le (next_text_of db) LAST_DRAWN && list_all (has_local db) items
    && has_created db person anonymous

-- what an item makes of a text that is made: a recipient; or a comment, or a footnote, to a text
abbrev pub item_effect : Asked → ℕ → MiscInput → Effect
item_effect asked text item =
    if names_recipient item then
    effect.RecipientAdded (new_recipient asked text item.value item.tag 0)
    else effect.LinkAdded (record {
      child = text;
      parent = item.value;
      footnote = names_footnote item;
      sender = 0;
      at = asked.moment;
    })

-- the conference that an item names was written in now
abbrev pub item_written : Asked → MiscInput → Effect
item_written asked item = written_now asked item.value

-- the text is counted among those that its author made
abbrev pub author_effects : Asked → ℕ → List ℕ → List Effect
author_effects asked text body = let person = (caller asked).person in
    effect.Created person (next_created_of asked.db person) text
    ∷ counts person counter.CreatedLines (lines_of body)
    ++ counts person counter.CreatedBytes (length body)

-- the items of a text that is made: those that are given, and those that it inherits from each text
-- that it comments, in the order in which these are named
abbrev pub inherited_from : Db → List AuxRow → List MiscInput → List AuxRow
inherited_from db items named =
    fold (λ items item. inherit items (items_of db true item.value)) items named

abbrev pub new_items : Asked → NewText → List AuxRow
new_items asked given = inherited_from asked.db
    (items_from 1 (caller asked).person asked.moment given.aux_items)
    (filter names_comment given.misc_inputs)

-- a text is made, with all that is named
abbrev pub text_effects : Asked → Bool → ℕ → NewText → List Effect
text_effects asked anonymous text given =
    effect.TextAdded text (if anonymous then 0 else (caller asked).person) asked.moment given.body
    ∷ map (item_effect asked text) given.misc_inputs
    ++ items_added true text (new_items asked given)
    ++ map (item_written asked) (filter names_recipient given.misc_inputs)
    ++ (if anonymous then [] else author_effects asked text given.body)

-- a text is made, by the caller or without an author
abbrev pub new_text : Bool → Asked → NewText → Definition
new_text anonymous asked given = let number = next_text_of asked.db in with_guards
    (login_guard (caller asked) ∷ size_guard given.body LONGEST_BODY
    ∷ first_refusal (item_guards asked anonymous [] given.misc_inputs)
    ∷ unless (has_numbers asked.db (caller asked).person anonymous given.misc_inputs)
    error.TEMPORARY_FAILURE 0 ∷ [])
    (with_items (new_items_guard object.Text (caller asked).person given.aux_items) (record {
      reply = reply.Number number;
      effects = text_effects asked anonymous number given;
      changes = [];
    }))

-- call 86, create-text
abbrev pub create_text : Asked → NewText → Definition
create_text asked given = new_text false asked given

-- call 87, create-anonymous-text
abbrev pub create_anonymous_text : Asked → NewText → Definition
create_anonymous_text asked given = new_text true asked given
