-- The state without what is hidden from a group. It need not be one that a history leads to: the
-- next local number of a hidden conference is 1, while rows of texts that are read stay.
use Rattle.std.specs.Prelude.{false, not, [], map, if◌then◌else◌}
use Rattle.kom_types.specs.Sessions.{Session}
use Rattle.kom_model.specs.Db.{Db}
use Rattle.kom_model.specs.Kinds.{is_among}
use Rattle.kom_model.specs.State.{State}
use Rattle.kom_laws.specs.masking.Masks.{Mask, masked_db}
use Rattle.kom_laws.specs.Groups.{Group, is_unseen, is_unread}

-- what is hidden from a group: conferences that are not seen, texts that are not read, and all
-- persons outside it
abbrev pub mask_of : Group → Db → Mask
mask_of group db = record {
  conference = is_unseen group db;
  text = is_unread group db;
  person = λ person. not (is_among group.persons person);
}

-- The stored rows without what is hidden from a group.
abbrev pub erased_db : Group → Db → Db
erased_db group db = masked_db (mask_of group db) db

-- of a session outside the group: what waits for it, and whether too much did
abbrev pub erased_session : Group → Session → Session
erased_session group session = if is_among group.sessions session.seat.number then session else
    record session { waiting = []; overrun = false }

-- The state without what is hidden from a group.
abbrev pub erase : Group → State → State
erase group state = record state {
  db = erased_db group state.db;
  sessions = map (erased_session group) state.sessions;
}
