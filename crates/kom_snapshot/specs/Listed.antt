-- What else holds of the stored rows that effects make, so that a snapshot of them stands for them.
use Rattle.std.specs.Prelude.{◌≡◌, ℕ, ◌+◌, ◌<◌, ◌≤◌, Bool, true, ◌==◌, ◌&&◌, nat_lt}
use Rattle.std.specs.Prelude.{List, [], ◌∷◌, length, filter, if◌then◌else◌}
use Rattle.std.specs.List.{AllByRecursion}
use Rattle.kom_types.specs.declared.limits.TheConstants.{LAST_DRAWN, LONGEST_USER_NAME}
use Rattle.kom_types.specs.Bits.{alike}
use Rattle.kom_types.specs.declared.aux_items.ItemRow.{ItemRow}
use Rattle.kom_types.specs.declared.conferences.ConferenceRow.{ConferenceRow}
use Rattle.kom_types.specs.declared.memberships.MembershipRow.{MembershipRow}
use Rattle.kom_types.specs.declared.persons.PersonRow.{PersonRow}
use Rattle.kom_types.specs.declared.texts.Recipient.{Recipient}
use Rattle.kom_types.specs.declared.texts.TextRow.{TextRow}
use Rattle.kom_types.specs.tables.Memberships.{count_of}
use Rattle.kom_types.specs.tables.Persons.{last_count}
use Rattle.kom_types.specs.tables.Texts.{lines_of}
use Rattle.kom_model.specs.Db.{Db}

-- whether a membership is one of a person at a place
abbrev pub is_at : ℕ → ℕ → MembershipRow → Bool
is_at person place row = row.person == person && row.position == place

-- how many memberships of a person are at a place
abbrev pub count_at : ℕ → ℕ → List MembershipRow → ℕ
count_at person place rows = length (filter (is_at person place) rows)

-- The places of a person's memberships are 0, 1, .. : one is at each place below their count, and
-- none at another.
abbrev pub ArePlaced : List MembershipRow → Type 0
ArePlaced rows = (person place : ℕ) →
    count_at person place rows ≡ (if nat_lt place (count_of person rows) then 1 else 0)

-- rows of one kind have numbers that rise in their order
module _ {R : Type 0} (alike_by : R → R → Bool) (number_of : R → ℕ) where
  abbrev pub RiseByKind : List R → Type 0
  RiseByKind [] = Unit {0}
  RiseByKind (row ∷ rows) =
      AllByRecursion (λ later. alike_by row later ≡ true → number_of row < number_of later) rows
      × RiseByKind rows

-- whether recipients are of one conference; and aux-items of one object
abbrev pub in_one_conference : Recipient → Recipient → Bool
in_one_conference one other = one.conference == other.conference

abbrev pub on_one_object : ItemRow → ItemRow → Bool
on_one_object one other = alike one.on_text other.on_text && one.object == other.object

-- a next number is above 0, and at most one above the greatest that is drawn
abbrev pub IsNext : ℕ → Type 0
IsNext next = (0 < next) × (next ≤ LAST_DRAWN + 1)

-- A conference: its next numbers are bounded.
pub record IsListedConference (row : ConferenceRow) : Type 0 where
  pub next_local : IsNext row.next_local
  pub next_item : IsNext row.next_item

-- A person: its next number is bounded, and so is each of its counts; its user name is short, and
-- empty where no session of it was counted.
pub record IsListedPerson (row : PersonRow) : Type 0 where
  pub next_created : IsNext row.next_created
  pub user : length row.user ≤ LONGEST_USER_NAME
  pub no_user : row.sessions ≡ 0 → row.user ≡ []
  pub sessions : row.sessions ≤ last_count
  pub time_present : row.time_present ≤ last_count
  pub created_lines : row.created_lines ≤ last_count
  pub created_bytes : row.created_bytes ≤ last_count
  pub read_texts : row.read_texts ≤ last_count
  pub text_fetches : row.text_fetches ≤ last_count
  pub created_persons : row.created_persons ≤ last_count
  pub created_conferences : row.created_conferences ≤ last_count

-- A text: its number is above 0, its lines are those of its body, and its next number is bounded.
pub record IsListedText (row : TextRow) : Type 0 where
  pub positive : 0 < row.number
  pub lines : row.lines ≡ lines_of row.body
  pub next_item : IsNext row.next_item

-- What a snapshot needs of the stored rows beside that they are whole: the places of each person's
-- memberships count up; local numbers and the numbers of aux-items rise in the order of adding, and
-- are above 0, as texts' numbers are; the lines of texts are those of their bodies; user names are
-- short, and are of persons that have logged in; counts and next numbers are bounded.
pub record IsListed (db : Db) : Type 0 where
  pub placed : ArePlaced db.memberships
  pub locals_rise : RiseByKind in_one_conference (λ row. row.local) db.recipients
  pub locals_begin : AllByRecursion (λ row. 0 < row.local) db.recipients
  pub items_rise : RiseByKind on_one_object (λ row. row.item.number) db.items
  pub items_begin : AllByRecursion (λ row. 0 < row.item.number) db.items
  pub conferences : AllByRecursion IsListedConference db.conferences
  pub persons : AllByRecursion IsListedPerson db.persons
  pub texts : AllByRecursion IsListedText db.texts
  pub begun : 0 < db.next_text
