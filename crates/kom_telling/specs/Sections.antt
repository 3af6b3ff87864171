-- The sections of a snapshot, as they are told: by the numbers of rows, by the keys of memberships,
-- or in the order of adding.
use Rattle.std.specs.Prelude.{ℕ, ◌==◌, ◌&&◌, nat_lt, List, [], ◌∷◌, ◌++◌, length, map, filter}
use Rattle.std.specs.Prelude.{flat_map, Some, None}
use Rattle.kom_types.specs.Parts.{Part, Makes, Raises}
use Rattle.kom_types.specs.declared.conferences.ConferenceRow.{ConferenceRow}
use Rattle.kom_types.specs.declared.effects.Effect.TheVariants as effect
use Rattle.kom_types.specs.declared.memberships.MembershipRow.{MembershipRow}
use Rattle.kom_types.specs.declared.memberships.Placed.{Placed}
use Rattle.kom_types.specs.declared.persons.PersonRow.{PersonRow}
use Rattle.kom_types.specs.declared.raised.RaisedCounter.TheVariants as counter
use Rattle.kom_types.specs.declared.texts.TextRow.{TextRow}
use Rattle.kom_types.specs.tables.Conferences.{number_of_conference}
use Rattle.kom_types.specs.tables.Memberships.{placed_of}
use Rattle.kom_types.specs.tables.Persons.{number_of_person}
use Rattle.kom_types.specs.tables.Texts.{number_of_text}
use Rattle.kom_model.specs.Db.{Db, conference_of, person_of, text_of, membership_of, read_of}
use Rattle.kom_model.specs.Db.{created_by}
use Rattle.kom_snapshot.specs.Snap.{conference_effects, person_effects, raise_to}
use Rattle.kom_telling.specs.declared.section.Joined.{Joined}
use Rattle.kom_telling.specs.declared.section.Section.{Section}
use Rattle.kom_telling.specs.declared.section.Section.TheVariants as section

-- the parts of a conference, a person or a text of a number, if it is there
abbrev pub of_conference : (ConferenceRow → List Part) → Db → ℕ → List Part
of_conference parts db number = elim (conference_of db number) [ None ↦ [] | Some row ↦ parts row ]

abbrev pub of_person : (PersonRow → List Part) → Db → ℕ → List Part
of_person parts db number = elim (person_of db number) [ None ↦ [] | Some row ↦ parts row ]

abbrev pub of_text : (TextRow → List Part) → Db → ℕ → List Part
of_text parts db number = elim (text_of db number) [ None ↦ [] | Some row ↦ parts row ]

-- the parts of a section that one number finds
abbrev pub parts_at : Section → Db → ℕ → List Part
parts_at section.Conferences db number =
    of_conference (λ row. map Makes (conference_effects row)) db number
parts_at section.Persons db number = of_person (λ row. map Makes (person_effects row)) db number
parts_at section.Texts db number = of_text
    (λ row. Makes (effect.TextAdded row.number row.author row.created row.body) ∷ []) db number
parts_at section.Created db number =
    flat_map (λ pair. Makes (effect.Created number pair.local pair.text) ∷ [])
    (created_by db number)
parts_at section.NextLocals db number = of_conference
    (λ row. Raises (raise_to counter.Locals row.number row.next_local) ∷ []) db number
parts_at section.NextCreated db number = of_person
    (λ row. Raises (raise_to counter.Created row.number row.next_created) ∷ []) db number
parts_at section.NextTextItems db number = of_text
    (λ row. Raises (raise_to counter.TextItems row.number row.next_item) ∷ []) db number
parts_at section.NextConferenceItems db number = of_conference
    (λ row. Raises (raise_to counter.ConferenceItems row.number row.next_item) ∷ []) db number
parts_at section.Sessions db number = of_person
    (λ row. Raises (raise_to counter.Sessions row.number row.sessions) ∷ []) db number
parts_at other db number = []

-- how many of some memberships are of the same person, at a lower position
abbrev pub rank_among : List Placed → Placed → ℕ
rank_among earlier one = length (filter
    (λ other. other.person == one.person && nat_lt other.position one.position) earlier)

-- memberships after earlier ones, each with its rank among those before it
abbrev pub joined_after : List Placed → List Placed → List Joined
joined_after earlier [] = []
joined_after earlier (one ∷ others) =
    record {
      person = one.person;
      conference = one.conference;
      rank = rank_among earlier one;
    }
    ∷ joined_after (earlier ++ one ∷ []) others

-- all of them, in the order of joining
abbrev pub all_joined : Db → List Joined
all_joined db = joined_after [] (map placed_of db.memberships)

-- the parts of a membership of this row, and of one that may be there
abbrev pub row_parts : Db → Joined → MembershipRow → List Part
row_parts db one row =
    Makes (effect.MemberSet one.person one.conference one.rank row.priority row.added_by
    row.added_at row.kind)
    ∷ Makes (effect.ReadSet one.person one.conference row.last_time_read
    (read_of db one.person one.conference))
    ∷ []

abbrev pub member_parts : Db → Joined → List Part
member_parts db one =
    elim (membership_of db one.person one.conference)
    [ None ↦ [] | Some row ↦ row_parts db one row ]

-- the parts of a section
abbrev pub by_conference : Section → Db → List Part
by_conference which db =
    flat_map (parts_at which db) (map number_of_conference db.conferences)

abbrev pub by_person : Section → Db → List Part
by_person which db = flat_map (parts_at which db) (map number_of_person db.persons)

abbrev pub by_text : Section → Db → List Part
by_text which db = flat_map (parts_at which db) (map number_of_text db.texts)

abbrev pub section_parts : Db → Section → List Part
section_parts db section.Conferences = by_conference section.Conferences db
section_parts db section.Persons = by_person section.Persons db
section_parts db section.Texts = by_text section.Texts db
section_parts db section.Recipients =
    flat_map (λ row. Makes (effect.RecipientAdded row) ∷ []) db.recipients
section_parts db section.Links = flat_map (λ row. Makes (effect.LinkAdded row) ∷ []) db.links
section_parts db section.Created = by_person section.Created db
section_parts db section.Memberships = flat_map (member_parts db) (all_joined db)
section_parts db section.Marks =
    flat_map (λ row. Makes (effect.MarkSet row.person row.text row.kind) ∷ []) db.marks
section_parts db section.Items =
    flat_map (λ row. Makes (effect.AuxAdded row.on_text row.object row.item) ∷ []) db.items
section_parts db section.NextNumbers =
    Raises (raise_to counter.Conferences 0 db.next_conference)
    ∷ Raises (raise_to counter.Texts 0 db.next_text) ∷ []
section_parts db section.NextLocals = by_conference section.NextLocals db
section_parts db section.NextCreated = by_person section.NextCreated db
section_parts db section.NextTextItems = by_text section.NextTextItems db
section_parts db section.NextConferenceItems = by_conference section.NextConferenceItems db
section_parts db section.Sessions = by_person section.Sessions db

-- the sections in their order
abbrev pub all_sections : List Section
all_sections =
    section.Conferences ∷ section.Persons ∷ section.Texts ∷ section.Recipients ∷ section.Links
    ∷ section.Created ∷ section.Memberships ∷ section.Marks ∷ section.Items
    ∷ section.NextNumbers ∷ section.NextLocals ∷ section.NextCreated ∷ section.NextTextItems
    ∷ section.NextConferenceItems ∷ section.Sessions ∷ []
