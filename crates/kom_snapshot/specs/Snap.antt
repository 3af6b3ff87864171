-- The snapshot of stored rows.
use Rattle.std.specs.Prelude.{ℕ, Bool, ◌==◌, ◌&&◌, nat_lt, List, [], ◌∷◌, ◌++◌, length, map, filter}
use Rattle.std.specs.Prelude.{flat_map, if◌then◌else◌}
use Rattle.kom_types.specs.declared.conferences.ConferenceRow.{ConferenceRow}
use Rattle.kom_types.specs.declared.effects.ConfField.TheVariants as field
use Rattle.kom_types.specs.declared.effects.Counter.{Counter}
use Rattle.kom_types.specs.declared.effects.Counter.TheVariants as counted
use Rattle.kom_types.specs.declared.effects.Effect.{Effect}
use Rattle.kom_types.specs.declared.effects.Effect.TheVariants as effect
use Rattle.kom_types.specs.declared.effects.PersonField.TheVariants as person_field
use Rattle.kom_types.specs.declared.memberships.MembershipRow.{MembershipRow}
use Rattle.kom_types.specs.declared.persons.PersonRow.{PersonRow}
use Rattle.kom_types.specs.tables.Texts.{created_by}
use Rattle.read_ranges.specs.Reads.{ReadRow, read_of}
use Rattle.kom_model.specs.Db.{Db}
use Rattle.kom_types.specs.declared.raised.Raised.{Raised}
use Rattle.kom_types.specs.declared.raised.RaisedCounter.{RaisedCounter}
use Rattle.kom_types.specs.declared.raised.RaisedCounter.TheVariants as counter
use Rattle.kom_snapshot.specs.Snapshot.{Snapshot}

-- a conference: as it is called now, of its type and its supervisor, and its other fields
abbrev pub conference_effects : ConferenceRow → List Effect
conference_effects row =
    effect.ConfAdded row.number row.name row.kind row.created row.creator row.supervisor
    ∷ effect.ConfField row.number (field.Presentation row.presentation)
    ∷ effect.ConfField row.number (field.Motd row.motd)
    ∷ effect.ConfField row.number (field.PermittedSubmitters row.submitters)
    ∷ effect.ConfField row.number (field.SuperConference row.super_conference)
    ∷ effect.ConfField row.number (field.Nice row.nice)
    ∷ effect.ConfField row.number (field.KeepCommented row.keep_commented)
    ∷ effect.ConfField row.number (field.Expire row.expire)
    ∷ effect.ConfField row.number (field.LastWritten row.last_written)
    ∷ []

-- an effect where a number is not 0
abbrev pub unless_zero : ℕ → Effect → List Effect
unless_zero number what = if number == 0 then [] else what ∷ []

-- what was counted of a person
abbrev pub count_effect : ℕ → Counter → ℕ → List Effect
count_effect person counter count = unless_zero count (effect.Counted person counter count)

abbrev pub count_effects : PersonRow → List Effect
count_effects row =
    count_effect row.number counted.TimePresent row.time_present
    ++ count_effect row.number counted.CreatedLines row.created_lines
    ++ count_effect row.number counted.CreatedBytes row.created_bytes
    ++ count_effect row.number counted.ReadTexts row.read_texts
    ++ count_effect row.number counted.TextFetches row.text_fetches
    ++ count_effect row.number counted.CreatedPersons row.created_persons
    ++ count_effect row.number counted.CreatedConferences row.created_conferences

-- A person: as it was made, what was set, its login where it has had one, and what was counted.
abbrev pub person_effects : PersonRow → List Effect
person_effects row =
    effect.PersonAdded row.number row.privileges row.flags row.last_login
    ∷ unless_zero row.user_area
    (effect.PersonField row.number (person_field.UserArea row.user_area))
    ++ effect.Password row.number row.hash
    ∷ unless_zero row.sessions (effect.LoggedIn row.number row.last_login row.user)
    ++ count_effects row

-- whether the other membership is one of the same person, at a lower place
abbrev pub is_before : MembershipRow → MembershipRow → Bool
is_before row other = other.person == row.person && nat_lt other.position row.position

-- how many memberships are
abbrev pub rank : MembershipRow → List MembershipRow → ℕ
rank row rows = length (filter (is_before row) rows)

-- A membership after these, at the place that counts its person's earlier ones at lower places, and
-- what was read of it.
abbrev pub membership_effects : List ReadRow → List MembershipRow → MembershipRow → List Effect
membership_effects reads earlier row =
    effect.MemberSet row.person row.conference (rank row earlier) row.priority row.added_by
    row.added_at row.kind
    ∷ effect.ReadSet row.person row.conference row.last_time_read
    (read_of row.person row.conference reads)
    ∷ []

-- the memberships in the order of joining, after these
abbrev pub membership_list : List ReadRow → List MembershipRow → List MembershipRow → List Effect
membership_list reads earlier [] = []
membership_list reads earlier (row ∷ rows) =
    membership_effects reads earlier row ++ membership_list reads (earlier ++ row ∷ []) rows

-- the numbers that the texts of a person have among those that it made, rising
abbrev pub created_effects : Db → PersonRow → List Effect
created_effects db row = map (λ pair. effect.Created row.number pair.local pair.text)
    (created_by row.number db.texts)

-- Conferences, persons and texts by rising number; recipients and links in the order of adding; the
-- numbers of created texts by their persons, rising; memberships in the order of joining; marks and
-- aux-items in the order of adding.
abbrev pub effects_of : Db → List Effect
effects_of db =
    flat_map conference_effects db.conferences
    ++ flat_map person_effects db.persons
    ++ map (λ row. effect.TextAdded row.number row.author row.created row.body) db.texts
    ++ map effect.RecipientAdded db.recipients
    ++ map effect.LinkAdded db.links
    ++ flat_map (created_effects db) db.persons
    ++ membership_list db.reads [] db.memberships
    ++ map (λ row. effect.MarkSet row.person row.text row.kind) db.marks
    ++ map (λ row. effect.AuxAdded row.on_text row.object row.item) db.items

abbrev pub raise_to : RaisedCounter → ℕ → ℕ → Raised
raise_to counter object next = record { counter = counter; object = object; next = next }

-- each counter, in the order of the objects
abbrev pub raised_of : Db → List Raised
raised_of db =
    raise_to counter.Conferences 0 db.next_conference
    ∷ raise_to counter.Texts 0 db.next_text
    ∷ map (λ row. raise_to counter.Locals row.number row.next_local) db.conferences
    ++ map (λ row. raise_to counter.Created row.number row.next_created) db.persons
    ++ map (λ row. raise_to counter.TextItems row.number row.next_item) db.texts
    ++ map (λ row. raise_to counter.ConferenceItems row.number row.next_item) db.conferences
    ++ map (λ row. raise_to counter.Sessions row.number row.sessions) db.persons

-- The snapshot of stored rows.
unfoldable pub snap : Db → Snapshot
snap db = record { effects = effects_of db; raised = raised_of db }
