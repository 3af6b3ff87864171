-- Who is there and asks, what there is, and what is said of calls, in the rows that were worked out
-- by hand.
use Rattle.std.specs.Prelude.{ℕ, Bool, true, false, List, [], ◌∷◌, ◌++◌, map, codes}
use Rattle.kom_types.specs.declared.aux_items.AuxChange.{AuxChange}
use Rattle.kom_types.specs.declared.aux_items.AuxInput.{AuxInput}
use Rattle.kom_types.specs.declared.aux_items.AuxRow.{AuxRow}
use Rattle.kom_types.specs.declared.conferences.NewConference.{NewConference}
use Rattle.kom_types.specs.declared.effects.ConfField.{ConfField}
use Rattle.kom_types.specs.declared.effects.ConfField.TheVariants as field
use Rattle.kom_types.specs.declared.effects.Effect.{Effect}
use Rattle.kom_types.specs.declared.effects.Effect.TheVariants as effect
use Rattle.kom_types.specs.declared.effects.PersonField.TheVariants as person_field
use Rattle.kom_types.specs.declared.memberships.ReadRange.{ReadRange}
use Rattle.kom_types.specs.declared.persons.NewPerson.{NewPerson}
use Rattle.kom_types.specs.declared.replies.Reply.{Reply}
use Rattle.kom_types.specs.declared.seats.Seat.{Seat}
use Rattle.kom_types.specs.declared.session_changes.SessionChange.{SessionChange}
use Rattle.kom_types.specs.declared.texts.TextLink.{TextLink}
use Rattle.kom_types.specs.declared.texts.MiscInput.{MiscInput}
use Rattle.kom_types.specs.declared.texts.NewText.{NewText}
use Rattle.kom_types.specs.declared.texts.Recipient.{Recipient}
use Rattle.kom_types.specs.Sessions.{fresh_seat}
use Rattle.kom_model.specs.declared.viewers.Viewer.{Viewer}
use Rattle.kom_model.specs.Db.{Db, memberships_of, members_of}
use Rattle.kom_model.specs.Effects.{apply_all}
use Rattle.kom_model.specs.calls.Call.{Asked, Definition, answer, done_with, without_guard}
use Rattle.kom_model.specs.calls.Call.{outcome_of}
use Rattle.kom_model.specs.calls.Guards.{Guard}

-- a conference of this type that person 5 supervises
abbrev pub makes : ℕ → List ℕ → ℕ → Effect
makes number name kind = effect.ConfAdded number name kind 10 5 5

-- a person with a letterbox, which it supervises and is a member of
abbrev pub makes_person : ℕ → List ℕ → List Effect
makes_person number name =
    effect.ConfAdded number name 152 10 number number
    ∷ effect.PersonAdded number 7168 0 10
    ∷ effect.MemberSet number number 0 255 number 10 0
    ∷ []

-- the persons 5 Anna, 6 Bo, 7 Cy, who has the privilege wheel, and 8 Di
abbrev pub four_persons : List Effect
four_persons =
    makes_person 5 (codes "Anna") ++ makes_person 6 (codes "Bo") ++ makes_person 7 (codes "Cy")
    ++ makes_person 8 (codes "Di") ++ effect.PersonField 7 (person_field.Privileges 32768) ∷ []

-- the conferences 9, which is open, 10, which is protected, and 11, which is secret
abbrev pub three_conferences : List Effect
three_conferences =
    makes 9 (codes "Open") 0 ∷ makes 10 (codes "Closed") 128 ∷ makes 11 (codes "Board") 160 ∷ []

-- all fields of a conference that an effect sets; and the conference 9 with each of them set
abbrev pub fields : List ConfField
fields =
    field.Presentation 21 ∷ field.Motd 22 ∷ field.Supervisor 23 ∷ field.PermittedSubmitters 24
    ∷ field.SuperConference 25 ∷ field.Kind 140 ∷ field.Nice 26 ∷ field.KeepCommented 27
    ∷ field.Expire 28 ∷ field.LastWritten 29 ∷ []

abbrev pub sets_fields : List Effect
sets_fields = map (λ what. effect.ConfField 9 what) fields

-- a membership of this type, at a place, that somebody made at moment 20
abbrev pub member : ℕ → ℕ → ℕ → ℕ → ℕ → Effect
member person conference place by kind =
    effect.MemberSet person conference place 100 by 20 kind

-- one that its person made; and one by invitation
abbrev pub joins : ℕ → ℕ → ℕ → Effect
joins person conference place = member person conference place person 0

abbrev pub is_invited : ℕ → ℕ → Effect
is_invited person conference = member person conference 9 5 128

-- a conference or a person gets this supervisor; and Di
abbrev pub under : ℕ → ℕ → List Effect
under supervisor number = effect.ConfField number (field.Supervisor supervisor) ∷ []

abbrev pub under_di : ℕ → List Effect
under_di number = under 8 number

abbrev pub range : ℕ → ℕ → ReadRange
range first last = record { first = first; last = last }

-- a recipient that a text was made with, of this tag and with this local number
abbrev pub recipient_row : ℕ → ℕ → ℕ → ℕ → Recipient
recipient_row text conference tag local =
    record { text = text; conference = conference; tag = tag; local = local; sender = 0; at = 20 }

abbrev pub sends : ℕ → ℕ → ℕ → ℕ → Effect
sends text conference tag local = effect.RecipientAdded (recipient_row text conference tag local)

-- a comment, or a footnote, to a text: by whom it was linked later, or 0, and when
abbrev pub link : ℕ → ℕ → Bool → ℕ → ℕ → TextLink
link child parent footnote sender at = record {
  child = child;
  parent = parent;
  footnote = footnote;
  sender = sender;
  at = at;
}

abbrev pub links : ℕ → ℕ → Bool → ℕ → ℕ → Effect
links child parent footnote sender at =
    effect.LinkAdded (link child parent footnote sender at)

-- two lines and two bytes more
abbrev pub lines : List ℕ
lines = 97 ∷ 10 ∷ 10 ∷ 98 ∷ 33 ∷ []

-- an item that was added at moment 21, or at 30
abbrev pub item : ℕ → ℕ → ℕ → ℕ → ℕ → List ℕ → AuxRow
item number tag creator flags limit content = record {
  number = number;
  tag = tag;
  creator = creator;
  at = 21;
  flags = flags;
  limit = limit;
  content = content;
}

abbrev pub new_item : ℕ → ℕ → ℕ → ℕ → ℕ → List ℕ → AuxRow
new_item number tag creator flags limit content =
    record (item number tag creator flags limit content) { at = 30 }

abbrev pub adds : Bool → ℕ → List AuxRow → List Effect
adds on_text object items = map (λ what. effect.AuxAdded on_text object what) items

-- an item that is given; and a change of the items of a text or a conference
abbrev pub given_item : ℕ → ℕ → ℕ → List ℕ → AuxInput
given_item tag flags limit content =
    record { tag = tag; flags = flags; inherit_limit = limit; content = content }

abbrev pub changes : ℕ → List ℕ → List AuxInput → AuxChange
changes object delete add = record { object = object; delete = delete; add = add }

-- what a text that is made names; the text; a conference; and a person
abbrev pub new_misc : ℕ → ℕ → MiscInput
new_misc tag value = record { tag = tag; value = value }

abbrev pub text : List ℕ → List MiscInput → List AuxInput → NewText
text body misc items = record { body = body; misc_inputs = misc; aux_items = items }

abbrev pub new_conference : ℕ → List AuxInput → NewConference
new_conference kind items = record { name = codes "New"; kind = kind; aux_items = items }

abbrev pub new_person : List AuxInput → NewPerson
new_person items = record { name = codes "Eva"; password = []; flags = 0; aux_items = items }

-- who may look: a person, nobody, and who is shown all
abbrev pub person : ℕ → Viewer
person number = record { person = number; strong = false }

abbrev pub nobody : Viewer
nobody = person 0

abbrev pub strong_nobody : Viewer
strong_nobody = record { person = 0; strong = true }

-- the conferences of a person by their places, these places, and the persons of a conference as
-- they joined
abbrev pub conferences_in : ℕ → Db → List ℕ
conferences_in number db = map (λ row. row.conference) (memberships_of db number)

abbrev pub places_of : ℕ → Db → List ℕ
places_of number db = map (λ row. row.position) (memberships_of db number)

abbrev pub persons_in : ℕ → Db → List ℕ
persons_in number db = map (λ row. row.person) (members_of db number)

-- a session of a person at this level, in this conference, since a moment
abbrev pub seat : ℕ → ℕ → ℕ → ℕ → ℕ → Seat
seat number person level working login =
    record (fresh_seat number 0 (codes "ceder") (codes "h") 5) {
      person = person;
      login = login;
      level = level;
      working = working;
    }

-- session 1 of a person at this level, in no conference, beside one that has ended
abbrev pub one_seat : ℕ → ℕ → List Seat
one_seat person level =
    seat 1 person level 0 10 ∷ record (seat 2 0 0 0 10) { ended = true } ∷ []

-- a call of session 1 at moment 30, where these rows are stored and these sessions are there
abbrev pub asks : Db → List Seat → Asked
asks rows seats =
    record { db = rows; seats = seats; moment = 30; session = 1; reference = 7 }

-- What the rows of a file speak of: its stored rows after something was done, and who asks.
pub record Cast : Type 0 where
  -- the rows after effects, and after a call
  pub with_effects : List Effect → Db
  pub made_by : Definition → Db
  -- who asks: a person at this level, nobody, each of four, and three at the highest level
  pub asked : ℕ → ℕ → Asked
  pub stranger : Asked
  pub anna : Asked
  pub bo : Asked
  pub cy : Asked
  pub di : Asked
  pub high_anna : Asked
  pub high_cy : Asked
  pub high_di : Asked

-- the cast over these rows, and these sessions where session 1 is a person's at a level
abbrev pub cast_over : Db → (ℕ → ℕ → List Seat) → Cast
cast_over rows seats = record {
  with_effects = λ effects. apply_all effects rows;
  made_by = λ definition. apply_all (outcome_of definition).effects rows;
  asked = λ person level. asks rows (seats person level);
  stranger = asks rows (seats 0 0);
  anna = asks rows (seats 5 0);
  bo = asks rows (seats 6 0);
  cy = asks rows (seats 7 0);
  di = asks rows (seats 8 0);
  high_anna = asks rows (seats 5 255);
  high_cy = asks rows (seats 7 255);
  high_di = asks rows (seats 8 255);
}

-- what a session asks after these effects
abbrev pub after : List Effect → Asked → Asked
after effects asked = record asked { db = apply_all effects asked.db }

-- no guard refuses a call; and it makes these effects and changes, or has this reply
abbrev pub comes_to : List Effect → List SessionChange → Definition
comes_to effects changes = without_guard (done_with effects changes)

abbrev pub answers : Reply → Definition
answers what = without_guard (answer what)

-- the first guard that refuses each of these calls
abbrev pub early_of : List Definition → List Guard
early_of definitions = map (λ definition. definition.early) definitions
