-- What contracts see of the stored rows as they are kept, and the room that effects need.
use Rattle.std.specs.Prelude.{◌≡◌, ℕ, ◌≤◌, Bool, true, false, ◌==◌, List, [], ◌∷◌, ◌++◌, Option}
use Rattle.std.specs.Prelude.{Some, None, is_some, count_by}
use Rattle.std.specs.List.{filter_map}
use Rattle.kom_types.specs.declared.effects.Effect.{Effect}
use Rattle.kom_types.specs.declared.effects.Effect.TheVariants as effect
use Rattle.kom_types.specs.declared.memberships.MembershipRow.{MembershipRow}
use Rattle.kom_types.specs.declared.texts.MarkRow.{MarkRow}
use Rattle.row_slots.specs.Lists.{room_in}
use Rattle.memberships.specs.Table.{Table, room_of_person, room_of_conference}
use Rattle.texts.specs.Needs.{HasRoom as HasTextRoom, text_needs, recipient_needs, link_needs}
use Rattle.texts.specs.Needs.{mark_needs, created_needs}
use Rattle.texts.specs.Stored.{Room as TextRoom}
use Rattle.texts.specs.declared.needs.Need.{Need}
use Rattle.aux_items.specs.Items.{Attached, room_on}
use Rattle.aux_items.specs.Objects.{is_same}
use Rattle.kom_model.specs.Db.{Db}
use Rattle.kom_model.specs.Effects.{fits, after_effect}

-- How many more rows fit without memory: conferences, persons and memberships; memberships of each
-- person and in each conference, as `room_in` reads them; the name that can be given; texts with
-- all that hangs on them; and aux-items.
pub record Room : Type 0 where
  pub conferences : ℕ
  pub persons : ℕ
  pub memberships : ℕ
  pub of_person : List (ℕ × ℕ)
  pub of_conference : List (ℕ × ℕ)
  pub name : Option (List ℕ)
  pub texts : TextRoom
  pub items : Attached

-- the stored rows, and for how many more there is room
pub record Stored : Type 0 where
  pub db : Db
  pub room : Room

-- whether an effect adds a conference, or a person
abbrev pub adds_conference : Effect → Bool
adds_conference (effect.ConfAdded number name kind at creator supervisor) = true
adds_conference other = false

abbrev pub adds_person : Effect → Bool
adds_person (effect.PersonAdded number privileges flags last_login) = true
adds_person other = false

-- the person and the conference whose membership an effect sets
abbrev pub key_set : Effect → Option (ℕ × ℕ)
key_set (effect.MemberSet person conference position priority added_by added_at kind) =
    Some (person, conference)
key_set other = None

-- whether it sets a membership; one of this person; and one in this conference
abbrev pub sets_membership : Effect → Bool
sets_membership what = is_some (key_set what)

abbrev pub sets_for_person : ℕ → Effect → Bool
sets_for_person number what = elim (key_set what) [ None ↦ false | Some key ↦ key.0 == number ]

abbrev pub sets_in_conference : ℕ → Effect → Bool
sets_in_conference number what = elim (key_set what) [ None ↦ false | Some key ↦ key.1 == number ]

-- the text, or the conference, that an effect adds an aux-item to
abbrev pub item_key : Effect → Option (Bool × ℕ)
item_key (effect.AuxAdded on_text object item) = Some (on_text, object)
item_key other = None

-- whether it adds an aux-item, and one to this text, or this conference
abbrev pub adds_item : Effect → Bool
adds_item what = is_some (item_key what)

abbrev pub adds_item_to : Bool → ℕ → Effect → Bool
adds_item_to on_text object what =
    elim (item_key what) [ None ↦ false | Some key ↦ is_same key.0 key.1 on_text object ]

-- room in the table of aux-items for those that effects add
pub record HasItemRoom (table : Attached) (effects : List Effect) : Type 0 where
  pub spare : count_by adds_item effects ≤ table.spare
  pub of_objects : (on_text : Bool) (object : ℕ)
      → count_by (adds_item_to on_text object) effects ≤ room_on table on_text object

-- whether it adds or changes the row of a person
abbrev pub is_of_person : Effect → Bool
is_of_person (effect.PersonAdded number privileges flags last_login) = true
is_of_person (effect.PersonField number what) = true
is_of_person (effect.Password number hash) = true
is_of_person (effect.LoggedIn number at user) = true
is_of_person (effect.Counted number counter by) = true
is_of_person other = false

-- whether it adds, changes or takes away a text, or what hangs on one
abbrev pub is_of_text : Effect → Bool
is_of_text (effect.TextAdded number author at body) = true
is_of_text (effect.TextGone number) = true
is_of_text (effect.RecipientAdded given) = true
is_of_text (effect.RecipientGone text conference) = true
is_of_text (effect.LinkAdded given) = true
is_of_text (effect.LinkGone child parent footnote) = true
is_of_text (effect.MarkSet person text kind) = true
is_of_text (effect.MarkGone person text) = true
is_of_text (effect.Created person local text) = true
is_of_text other = false

-- what an effect needs of the room for texts, and what effects need
abbrev pub needs_of : Effect → List Need
needs_of (effect.TextAdded number author at body) = text_needs
needs_of (effect.RecipientAdded given) = recipient_needs given
needs_of (effect.LinkAdded given) = link_needs given
needs_of (effect.MarkSet person text kind) =
    mark_needs (record { person = person; text = text; kind = kind })
needs_of (effect.Created person local text) = created_needs person
needs_of other = []

abbrev pub all_needs : List Effect → List Need
all_needs [] = []
all_needs (what ∷ effects) = needs_of what ++ all_needs effects

-- the name that an effect gives to a conference
abbrev pub name_given : Effect → Option (List ℕ)
name_given (effect.ConfAdded number name kind at creator supervisor) = Some name
name_given (effect.ConfNamed number name) = Some name
name_given other = None

-- whether an effect needs no room but that for texts
abbrev pub is_roomless : Effect → Bool
is_roomless (effect.ConfAdded number name kind at creator supervisor) = false
is_roomless (effect.ConfNamed number name) = false
is_roomless (effect.PersonAdded number privileges flags last_login) = false
is_roomless (effect.MemberSet person conference position priority added_by added_at kind) = false
is_roomless (effect.AuxAdded on_text object item) = false
is_roomless other = true

-- at most one name is given, and it is the one that is ready
abbrev pub IsReady : Option (List ℕ) → List (List ℕ) → Type 0
IsReady ready [] = Unit {0}
IsReady ready (name ∷ []) = ready ≡ Some name
IsReady ready (name ∷ second ∷ names) = ⊥

-- Room for a list of effects.
pub record HasRoom (room : Room) (effects : List Effect) : Type 0 where
  pub conferences : count_by adds_conference effects ≤ room.conferences
  pub persons : count_by adds_person effects ≤ room.persons
  pub memberships : count_by sets_membership effects ≤ room.memberships
  pub of_person : (number : ℕ)
      → count_by (sets_for_person number) effects ≤ room_in room.of_person number
  pub of_conference : (number : ℕ)
      → count_by (sets_in_conference number) effects ≤ room_in room.of_conference number
  pub name : IsReady room.name (filter_map name_given effects)
  pub texts : HasTextRoom room.texts (all_needs effects)
  pub items : HasItemRoom room.items effects

-- room in a table for the memberships that effects set
pub record HasMemberRoom (table : Table) (effects : List Effect) : Type 0 where
  pub spare : count_by sets_membership effects ≤ table.spare
  pub of_person : (number : ℕ)
      → count_by (sets_for_person number) effects ≤ room_of_person table number
  pub of_conference : (number : ℕ)
      → count_by (sets_in_conference number) effects ≤ room_of_conference table number

-- names of which there is one at most
abbrev pub IsAtMostOne : List (List ℕ) → Type 0
IsAtMostOne [] = Unit {0}
IsAtMostOne (name ∷ names) = names ≡ []

-- room can be made for effects that give at most one name
abbrev pub IsOrderly : List Effect → Type 0
IsOrderly effects = IsAtMostOne (filter_map name_given effects)

-- the effect that sets a membership
abbrev pub set_of : MembershipRow → Effect
set_of row = effect.MemberSet row.person row.conference row.position row.priority row.added_by
    row.added_at row.kind

-- the effect that sets a mark
abbrev pub mark_set : MarkRow → Effect
mark_set row = effect.MarkSet row.person row.text row.kind

-- an effect fits, and there is room for it
pub record IsPossible (what : Effect) (old : Stored) : Type 0 where
  pub fits : fits what old.db ≡ true
  pub room : HasRoom old.room (what ∷ [])

-- an effect was made, and what there was room for after it there is room for still
pub record IsMade (what : Effect) (old new : Stored) : Type 0 where
  pub db : new.db ≡ after_effect what old.db
  pub room : (rest : List Effect) → HasRoom old.room (what ∷ rest) → HasRoom new.room rest
