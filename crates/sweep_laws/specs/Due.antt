-- Which texts are due by the stored rows: those that nobody keeps. The rule is this server's own.
use Rattle.std.specs.Prelude.{ℕ, ◌-◌, ◌/◌, ◌==◌, ◌<◌, ◌&&◌, ◌||◌, nat_lt, Bool, true, false, not}
use Rattle.std.specs.Prelude.{List, [], ◌++◌, length, map, filter, Some, None, is_some}
use Rattle.std.specs.Prelude.{if◌then◌else◌}
use Rattle.std.specs.List.{AllByRecursion, list_all, list_any}
use Rattle.kom_types.specs.tables.Conferences.{is_letterbox}
use Rattle.kom_types.specs.declared.conferences.ConferenceRow.{ConferenceRow}
use Rattle.kom_types.specs.declared.texts.TextRow.{TextRow}
use Rattle.kom_model.specs.Db.{Db, conference_of, conferences_of, person_of, text_of, texts_of}
use Rattle.kom_model.specs.Db.{recipients_of, links_into, marks_on, items_of}
use Rattle.kom_sweep.specs.Due.{is_faq, is_held}

-- ---- days
-- the seconds of a day
abbrev pub day : ℕ
day = 86400

-- for how many days a conference keeps its texts; 0 is no expire
pub record DaysKept : Type 0 where
  pub nice : ℕ
  pub keep_commented : ℕ
  pub expire : ℕ

-- the whole days from the making of a text to a moment; 0 where it is made later
abbrev pub age_of : ℕ → TextRow → ℕ
age_of moment row = (moment - row.created) / day

-- a text is older than so many days
abbrev pub is_older_text : Db → ℕ → ℕ → ℕ → Bool
is_older_text db moment days text =
    elim (text_of db text) [ None ↦ false | Some row ↦ nat_lt days (age_of moment row) ]

-- the comments and the footnotes to a text
abbrev pub comments_to : Db → ℕ → List ℕ
comments_to db text = map (λ row. row.child) (links_into db text false ++ links_into db text true)

-- A conference of these days releases a text that is older than its expire, if it has one; or older
-- than its nice, if all comments and footnotes to it are older than its keep-commented.
abbrev pub releases : Db → ℕ → TextRow → DaysKept → Bool
releases db moment row days =
    (nat_lt 0 days.expire && nat_lt days.expire (age_of moment row))
    || (nat_lt days.nice (age_of moment row)
    && list_all (is_older_text db moment days.keep_commented) (comments_to db row.number))

abbrev pub days_kept : ConferenceRow → DaysKept
days_kept row = record {
  nice = row.nice;
  keep_commented = row.keep_commented;
  expire = row.expire;
}

abbrev pub conference_releases : Db → ℕ → TextRow → ℕ → Bool
conference_releases db moment row conference = elim (conference_of db conference) [
  | None ↦ false
  | Some found ↦ releases db moment row (days_kept found)
]

abbrev pub without_recipients : DaysKept
without_recipients = record { nice = 77; keep_commented = 77; expire = 0 }

-- every recipient releases a text; one without recipients is released as by a conference whose nice
-- and keep-commented are 77 days, and that has no expire
abbrev pub all_release : Db → ℕ → TextRow → Bool
all_release db moment row =
    if length (recipients_of db row.number) == 0
    then releases db moment row without_recipients
    else list_all (λ one. conference_releases db moment row one.conference)
    (recipients_of db row.number)

-- ---- names
-- a conference or letterbox names a text: as its presentation, as its message of the day, or in an
-- aux-item faq-text
abbrev pub is_named_by : Db → ℕ → ConferenceRow → Bool
is_named_by db text row = (row.presentation == text)
    || ((row.motd == text) || list_any (is_faq text) (items_of db false row.number))

-- one does, or a person names it as its user area
abbrev pub is_named_text : Db → ℕ → Bool
is_named_text db text = list_any (is_named_by db text) (conferences_of db)
    || list_any (λ row. row.user_area == text) db.persons

-- ---- texts
-- A text is due at a moment that has no mark and no aux-item with the flag dont-garb, that nobody
-- names, and that every recipient releases.
abbrev pub is_due_row : Db → ℕ → TextRow → Bool
is_due_row db moment row = (length (marks_on db row.number) == 0)
    && (not (is_held (items_of db true row.number))
    && (not (is_named_text db row.number) && all_release db moment row))

-- each letterbox has its person
abbrev pub has_owners : Db → Bool
has_owners db =
    list_all (λ row. not (is_letterbox row.kind) || is_some (person_of db row.number))
    (conferences_of db)

-- The texts that are due at a moment, by rising number. Where a letterbox has no person there are
-- none, since then it is not known what that would name.
abbrev pub due_texts : Db → ℕ → List ℕ
due_texts db moment = if has_owners db
    then map (λ row. row.number) (filter (is_due_row db moment) (texts_of db)) else []

-- no text has the number 0
abbrev pub AreNumbered : Db → Type 0
AreNumbered db = AllByRecursion (λ row. 0 < row.number) db.texts
