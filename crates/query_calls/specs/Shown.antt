-- The conferences that a look-up shows.
use Rattle.std.specs.Prelude.{ℕ, Bool, ◌&&◌, Option, Some, None, if◌then◌else◌}
use Rattle.kom_types.specs.declared.conferences.ConferenceRow.{ConferenceRow}
use Rattle.kom_model.specs.declared.viewers.Viewer.{Viewer}
use Rattle.kom_model.specs.Db.{Db, conference_of}
use Rattle.kom_model.specs.Rights.{sees}
use Rattle.kom_model.specs.calls.Conferences.{is_wanted}

-- the conference is wanted, and shown to who looks
abbrev pub is_shown : Db → Viewer → Bool → Bool → ConferenceRow → Bool
is_shown db viewer persons conferences row =
    is_wanted persons conferences row && sees db viewer row.number

-- the conference of a number, if it is
abbrev pub shown_of : Db → Viewer → Bool → Bool → ℕ → Option ConferenceRow
shown_of db viewer persons conferences number = elim (conference_of db number) [
  | None ↦ None
  | Some row ↦ if is_shown db viewer persons conferences row then Some row else None
]
