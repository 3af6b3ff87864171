-- What a person may see and do. That these are the rights is this server's choice. (Protocol A,
-- "Security".)
use Rattle.std.specs.Prelude.{ℕ, Bool, false, ◌==◌, ◌||◌, ◌&&◌, not, Some, None, is_some}
use Rattle.std.specs.List.{list_any}
use Rattle.kom_types.specs.tables.Conferences.{is_read_protected, is_secret_conference}
use Rattle.kom_types.specs.tables.Memberships.{is_invitation}
use Rattle.kom_model.specs.declared.viewers.Viewer.{Viewer}
use Rattle.kom_model.specs.Db.{Db, conference_head_of, membership_kind_of, text_author_of}
use Rattle.kom_model.specs.Db.{recipients_of}

-- the person has a membership in the conference
abbrev pub is_member : Db → ℕ → ℕ → Bool
is_member db person conference = is_some (membership_kind_of db person conference)

-- the same, and was not only invited
abbrev pub is_active_member : Db → ℕ → ℕ → Bool
is_active_member db person conference = elim (membership_kind_of db person conference) [
  | None ↦ false
  | Some kind ↦ not (is_invitation kind)
]

-- the person is what a conference names as its supervisor, or an active member of that
abbrev pub stands_for : Db → ℕ → ℕ → Bool
stands_for db person supervisor =
    not (person == 0) && (person == supervisor || is_active_member db person supervisor)

-- Whether a person supervises a conference.
unfoldable pub supervises : Db → ℕ → ℕ → Bool
supervises db person conference = elim (conference_head_of db conference) [
  | None ↦ false
  | Some head ↦ stands_for db person head.supervisor
]

-- the person belongs to a conference that names this supervisor: as a member, as one that stands
-- for the supervisor, or as the person whose letterbox it is
abbrev pub belongs : Db → ℕ → ℕ → ℕ → Bool
belongs db person conference supervisor =
    is_member db person conference || stands_for db person supervisor || person == conference

-- what is not open to all is shown to a strong session, and to who belongs to the conference
abbrev pub is_let_in : Db → Viewer → ℕ → ℕ → Bool
is_let_in db viewer conference supervisor =
    viewer.strong || belongs db viewer.person conference supervisor

-- Whether a conference is shown to who looks.
unfoldable pub sees : Db → Viewer → ℕ → Bool
sees db viewer conference = elim (conference_head_of db conference) [
  | None ↦ false
  | Some head ↦
      not (is_secret_conference head.kind) || is_let_in db viewer conference head.supervisor
]

-- Whether the texts of a conference are shown to who looks.
unfoldable pub reads_conference : Db → Viewer → ℕ → Bool
reads_conference db viewer conference = elim (conference_head_of db conference) [
  | None ↦ false
  | Some head ↦
      not (is_read_protected head.kind) || is_let_in db viewer conference head.supervisor
]

-- the person is the author that a text names
abbrev pub is_author : ℕ → ℕ → Bool
is_author person author = not (person == 0) && author == person

-- the text is shown to who looks by one of its recipients
abbrev pub reads_by_recipient : Db → Viewer → ℕ → Bool
reads_by_recipient db viewer text =
    list_any (λ row. reads_conference db viewer row.conference) (recipients_of db text)

-- Whether a text is shown to who looks.
unfoldable pub reads : Db → Viewer → ℕ → Bool
reads db viewer text = elim (text_author_of db text) [
  | None ↦ false
  | Some author ↦
      viewer.strong || is_author viewer.person author || reads_by_recipient db viewer text
]

-- the person, or an active member of the conference, that a conference takes texts from; 0 is all
abbrev pub is_submitter : Db → ℕ → ℕ → Bool
is_submitter db person submitters =
    submitters == 0 || person == submitters || is_active_member db person submitters

-- Whether who looks may send texts to a conference.
unfoldable pub may_submit : Db → Viewer → ℕ → Bool
may_submit db viewer conference = elim (conference_head_of db conference) [
  | None ↦ false
  | Some head ↦ viewer.strong || is_submitter db viewer.person head.submitters
      || stands_for db viewer.person head.supervisor
]
