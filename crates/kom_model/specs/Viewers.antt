-- Who looks from a session. (Protocol A, "Security".)
use Rattle.std.specs.Prelude.{ℕ, Bool, false, ◌==◌, ◌&&◌, Some, None}
use Rattle.kom_types.specs.declared.seats.Seat.{Seat}
use Rattle.kom_types.specs.tables.Persons.{is_mighty}
use Rattle.kom_model.specs.declared.viewers.Viewer.{Viewer}
use Rattle.kom_model.specs.Db.{Db, person_of}

-- a person's privileges let its sessions be strong
abbrev pub has_might : Db → ℕ → Bool
has_might db person =
    elim (person_of db person) [ None ↦ false | Some row ↦ is_mighty row.privileges ]

-- a session is strong at level 255, where its person's privileges let it
abbrev pub is_strong_seat : Db → Seat → Bool
is_strong_seat db seat = seat.level == 255 && has_might db seat.person

-- who looks from a seat
abbrev pub viewer_of : Db → Seat → Viewer
viewer_of db seat = record { person = seat.person; strong = is_strong_seat db seat }
