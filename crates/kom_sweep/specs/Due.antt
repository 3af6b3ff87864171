-- Which text is due: nobody keeps it, by what was told of it, of the comments and footnotes to it,
-- and of the conferences. The rule is this server's own.
use Rattle.std.specs.Prelude.{ℕ, ◌+◌, ◌-◌, ◌*◌, ◌/◌, ◌==◌, ◌&&◌, ◌||◌, nat_lt, Bool}
use Rattle.std.specs.Prelude.{true, false, not, is_some, List, [], ◌∷◌, fold, filter_map}
use Rattle.std.specs.Prelude.{Option, Some, None, option_map, if◌then◌else◌}
use Rattle.std.specs.List.{list_all, list_any}
use Rattle.std.specs.Option.{option_or}
use Rattle.kom_types.specs.Bits.{is_on}
use Rattle.kom_types.specs.ByteKind.{is_digit}
use Rattle.kom_types.specs.tables.Conferences.{is_letterbox}
use Rattle.kom_types.specs.declared.aux_items.AuxRow.{AuxRow}
use Rattle.kom_types.specs.declared.aux_tags.TheConstants.{FAQ_TEXT}
use Rattle.kom_types.specs.declared.conferences.Conference.{Conference}
use Rattle.kom_types.specs.declared.persons.Person.{Person}
use Rattle.kom_types.specs.declared.texts.MiscInfo.{MiscInfo}
use Rattle.kom_types.specs.declared.texts.MiscInfo.TheVariants as misc
use Rattle.kom_types.specs.declared.texts.TextStat.{TextStat}
use Rattle.kom_types.specs.declared.replies.Reply.{Reply}
use Rattle.kom_sweep.specs.declared.rule.Days.{Days}
use Rattle.kom_sweep.specs.declared.rule.TheConstants.{DONT_GARB, DAY}
use Rattle.kom_sweep.specs.Replies.{stat_in, conference_in, person_in, is_last_conference}

-- ---- what was told

-- a number that was given as the next one after another, and what was told of it
pub record Step (X : Type 0) : Type 0 where
  pub after : ℕ
  pub number : ℕ
  pub told : X

-- a walk by such steps, where it came to, and the answer that ended it
pub record Walk (X : Type 0) : Type 0 where
  pub steps : List (Step X)
  pub at : ℕ
  pub last : Option Reply

-- what was told of a conference, and, if it is a letterbox, of the person
pub record Room : Type 0 where
  pub conference : Option Reply
  pub owner : Option Reply

-- what was told of a text, and of each comment and footnote to it
pub record Look : Type 0 where
  pub stat : Option Reply
  pub children : List (ℕ × Option Reply)

abbrev pub has_owner : Option Conference → Bool
has_owner None = false
has_owner (Some conference) = is_letterbox conference.kind

abbrev pub owner_in : Room → Option Person
owner_in room = if has_owner (conference_in room.conference) then person_in room.owner else None

-- ---- texts that somebody names

-- the number that digits spell
abbrev pub number_in : List ℕ → ℕ
number_in digits = fold (λ number digit. number * 10 + (digit - 48)) 0 digits

abbrev pub is_faq : ℕ → AuxRow → Bool
is_faq text row =
    (row.tag == FAQ_TEXT) && (list_all is_digit row.content && (number_in row.content == text))

-- a conference names its presentation, its message of the day, and what its faq-text items spell
abbrev pub conference_names : ℕ → Option Conference → Bool
conference_names text None = false
conference_names text (Some conference) = (conference.presentation == text)
    || ((conference.motd == text) || list_any (is_faq text) conference.aux_items)

-- a person names its user area
abbrev pub person_names : ℕ → Option Person → Bool
person_names text None = false
person_names text (Some person) = person.user_area == text

abbrev pub names : ℕ → Step Room → Bool
names text step = conference_names text (conference_in step.told.conference)
    || person_names text (owner_in step.told)

abbrev pub is_named : List (Step Room) → ℕ → Bool
is_named rooms text = list_any (names text) rooms

-- what a conference names is known if it was told, and its person if it is a letterbox
abbrev pub is_told_room : Step Room → Bool
is_told_room step = elim (conference_in step.told.conference) [
  | None ↦ false
  | Some conference ↦ not (is_letterbox conference.kind) || is_some (person_in step.told.owner)
]

-- what is named by anybody is known if all were told, up to the end
abbrev pub is_whole : Walk Room → Bool
is_whole rooms = list_all is_told_room rooms.steps && is_last_conference rooms.last

-- ---- days

-- the whole days from the making of a text to a moment; 0 where it is made later
abbrev pub age : ℕ → TextStat → ℕ
age moment stat = (moment - stat.created) / DAY

-- that text is older than so many days; of one that was not told this says nothing
abbrev pub is_older : ℕ → ℕ → ℕ × Option Reply → Bool
is_older moment days (child, reply) = elim (stat_in reply) [
  | None ↦ true
  | Some stat ↦ nat_lt days (age moment stat)
]

abbrev pub are_older : ℕ → ℕ → List (ℕ × Option Reply) → Bool
are_older moment days children = list_all (is_older moment days) children

-- A conference of these days lets a text go that is older than its expire, if it has one; or older
-- than its nice, if all comments and footnotes are older than its keep-commented.
abbrev pub lets_go : ℕ → ℕ → List (ℕ × Option Reply) → Days → Bool
lets_go moment age children days = (nat_lt 0 days.expire && nat_lt days.expire age)
    || (nat_lt days.nice age && are_older moment days.keep_commented children)

-- a text without recipients is let go as by a conference of these days
abbrev pub without_recipients : Days
without_recipients = record { nice = 77; keep_commented = 77; expire = 0 }

abbrev pub days_of : Conference → Days
days_of conference = record {
  nice = conference.nice;
  keep_commented = conference.keep_commented;
  expire = conference.expire;
}

-- what a step tells of the days of a conference
abbrev pub days_at : Step Room → ℕ → Option Days
days_at step conference = if step.number == conference
    then option_map days_of (conference_in step.told.conference) else None

-- what was told of them, last
abbrev pub days_in : List (Step Room) → ℕ → Option Days
days_in [] conference = None
days_in (step ∷ rooms) conference = option_or (days_in rooms conference) (days_at step conference)

-- a conference of which nothing was told lets nothing go
abbrev pub conference_lets_go : List (Step Room) → ℕ → ℕ → List (ℕ × Option Reply) → ℕ → Bool
conference_lets_go rooms moment age children conference = elim (days_in rooms conference) [
  | None ↦ false
  | Some days ↦ lets_go moment age children days
]

-- ---- texts

-- recipients are those of copies too, and those that are shown to few
abbrev pub recipient_in : MiscInfo → Option ℕ
recipient_in (misc.Recipient conference) = Some conference
recipient_in (misc.CopyRecipient conference) = Some conference
recipient_in (misc.BlindRecipient conference) = Some conference
recipient_in _ = None

-- the comments and footnotes to a text
abbrev pub child_in : MiscInfo → Option ℕ
child_in (misc.CommentIn text) = Some text
child_in (misc.FootnoteIn text) = Some text
child_in _ = None

abbrev pub children_of : Option TextStat → List ℕ
children_of None = []
children_of (Some stat) = filter_map child_in stat.misc_infos

-- an item keeps its text that has the flag dont-garb
abbrev pub is_held : List AuxRow → Bool
is_held items = list_any (λ item. is_on DONT_GARB item.flags) items

abbrev pub is_told : ℕ × Option Reply → Bool
is_told (child, reply) = is_some (stat_in reply)

abbrev pub all_let_go : List (Step Room) → ℕ → TextStat → List (ℕ × Option Reply) → Bool
all_let_go rooms moment stat children =
    if list_any (λ info. is_some (recipient_in info)) stat.misc_infos
    then list_all (conference_lets_go rooms moment (age moment stat) children)
    (filter_map recipient_in stat.misc_infos)
    else lets_go moment (age moment stat) children without_recipients

-- A text is due that was told, that has no mark and no item that keeps it, all of whose comments
-- and footnotes were told, that nobody names, and that each recipient lets go. Where it is not
-- known what is named, none is due.
abbrev pub is_due_by : ℕ → Walk Room → ℕ → Option TextStat → List (ℕ × Option Reply) → Bool
is_due_by moment rooms text None children = false
is_due_by moment rooms text (Some stat) children = is_whole rooms && ((stat.marks == 0)
    && (not (is_held stat.aux_items) && (list_all is_told children
    && (not (is_named rooms.steps text) && all_let_go rooms.steps moment stat children))))

abbrev pub is_due : ℕ → Walk Room → Step Look → Bool
is_due moment rooms step =
    is_due_by moment rooms step.number (stat_in step.told.stat) step.told.children
