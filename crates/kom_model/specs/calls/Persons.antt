-- The calls about persons. (Protocol A, "Protocol Requests".)
use Rattle.std.specs.Prelude.{ℕ, Bool, false, ◌==◌, ◌||◌, List, [], ◌∷◌, ◌++◌, Some, None}
use Rattle.std.specs.Prelude.{if◌then◌else◌}
use Rattle.kom_types.specs.declared.limits.TheConstants.{LONGEST_PASSWORD}
use Rattle.kom_types.specs.declared.errors.TheConstants as error
use Rattle.kom_types.specs.AuxItems.{items_from}
use Rattle.kom_types.specs.declared.aux_items.Object.TheVariants as object
use Rattle.kom_types.specs.declared.effects.Counter.TheVariants as counter
use Rattle.kom_types.specs.declared.effects.Effect.{Effect}
use Rattle.kom_types.specs.declared.effects.Effect.TheVariants as effect
use Rattle.kom_types.specs.declared.effects.PersonField.TheVariants as field
use Rattle.kom_types.specs.declared.persons.NewPerson.{NewPerson}
use Rattle.kom_types.specs.declared.persons.PasswordChange.{PasswordChange}
use Rattle.kom_types.specs.declared.replies.Reply.{Reply}
use Rattle.kom_types.specs.declared.replies.Reply.TheVariants as reply
use Rattle.kom_types.specs.tables.Persons.{password_hash, may_create_persons}
use Rattle.kom_model.specs.declared.viewers.Viewer.{Viewer}
use Rattle.kom_model.specs.Db.{Db, person_of, next_conference_of}
use Rattle.kom_model.specs.Shown.{person_told}
use Rattle.kom_model.specs.calls.AuxItems.{items_added}
use Rattle.kom_model.specs.calls.Call.{Asked, Definition, answer, done_with}
use Rattle.kom_model.specs.calls.Guards.{Guard, with_guards, unless, caller, login_guard}
use Rattle.kom_model.specs.calls.Guards.{text_or_none_guard}
use Rattle.kom_model.specs.calls.Guards.{person_guard, strong_guard, supervisor_guard, size_guard}
use Rattle.kom_model.specs.calls.Guards.{name_guard, free_guard, drawn_guard, password_guard}
use Rattle.kom_model.specs.calls.Guards.{new_items_guard, with_items}
use Rattle.kom_model.specs.calls.Sessions.{counts}

-- call 7, set-priv-bits
abbrev pub set_priv_bits : Asked → ℕ → ℕ → Definition
set_priv_bits asked person privileges = with_guards
    (login_guard (caller asked) ∷ person_guard asked.db person ∷ strong_guard (caller asked) ∷ [])
    (done_with (effect.PersonField person (field.Privileges privileges) ∷ []) [])

-- call 8, set-passwd: the old password is that of the caller
abbrev pub set_passwd : Asked → PasswordChange → Definition
set_passwd asked given = with_guards
    (login_guard (caller asked) ∷ person_guard asked.db given.person
    ∷ supervisor_guard asked.db (caller asked) given.person
    ∷ password_guard asked.db (caller asked) (caller asked).person given.old_password
    ∷ size_guard given.new_password LONGEST_PASSWORD ∷ [])
    (done_with
    (effect.Password given.person (password_hash given.person given.new_password) ∷ []) [])

-- call 106, set-pers-flags
abbrev pub set_pers_flags : Asked → ℕ → ℕ → Definition
set_pers_flags asked person flags = with_guards
    (login_guard (caller asked) ∷ person_guard asked.db person
    ∷ supervisor_guard asked.db (caller asked) person ∷ [])
    (done_with (effect.PersonField person (field.Flags flags) ∷ []) [])

-- call 57, set-user-area: a text, or 0
abbrev pub set_user_area : Asked → ℕ → ℕ → Definition
set_user_area asked person text = with_guards
    (login_guard (caller asked) ∷ person_guard asked.db person
    ∷ supervisor_guard asked.db (caller asked) person
    ∷ text_or_none_guard asked.db (caller asked) text ∷ [])
    (done_with (effect.PersonField person (field.UserArea text) ∷ []) [])

-- what is replied of a person
abbrev pub person_reply : Db → Viewer → ℕ → Reply
person_reply db caller number = elim (person_of db number) [
  | None ↦ reply.Refused error.UNDEFINED_PERSON number
  | Some row ↦ reply.Person (person_told db caller row)
]

-- call 49, get-person-stat
abbrev pub get_person_stat : Asked → ℕ → Definition
get_person_stat asked person = with_guards
    (login_guard (caller asked) ∷ person_guard asked.db person ∷ [])
    (answer (person_reply asked.db (caller asked) person))

-- nobody is logged in, or a person that may make persons, or the session is strong
abbrev pub may_make_persons : Db → ℕ → Bool
may_make_persons db person = elim (person_of db person) [
  | None ↦ person == 0
  | Some row ↦ may_create_persons row.privileges
]

abbrev pub create_person_guard : Db → Viewer → Guard
create_person_guard db caller =
    unless (may_make_persons db caller.person || caller.strong) error.PERMISSION_DENIED 0

-- the type of a letterbox that is made, and the privileges of a person that is
abbrev pub letterbox_type : ℕ
letterbox_type = 152

abbrev pub first_privileges : ℕ
first_privileges = 7168

abbrev pub highest_priority : ℕ
highest_priority = 255

-- who makes a person: the caller, or else the person itself
abbrev pub maker : ℕ → ℕ → ℕ
maker caller person = if caller == 0 then person else caller

-- a person of this number is made, with a letterbox in which it is a member
abbrev pub person_effects : Asked → ℕ → NewPerson → List Effect
person_effects asked person given = let by = maker (caller asked).person person in
    effect.ConfAdded person given.name letterbox_type asked.moment by person
    ∷ effect.PersonAdded person first_privileges given.flags asked.moment
    ∷ effect.Password person (password_hash person given.password)
    ∷ effect.MemberSet person person 0 highest_priority by asked.moment 0
    ∷ items_added false person (items_from 1 by asked.moment given.aux_items)
    ++ (if (caller asked).person == 0 then []
    else counts (caller asked).person counter.CreatedPersons 1)

-- call 89, create-person: nobody is logged in by it
abbrev pub create_person : Asked → NewPerson → Definition
create_person asked given =
    let number = next_conference_of asked.db in
    with_guards
    (create_person_guard asked.db (caller asked) ∷ name_guard given.name
    ∷ size_guard given.password LONGEST_PASSWORD ∷ free_guard asked.db 0 given.name
    ∷ drawn_guard asked.db ∷ [])
    (with_items
    (new_items_guard object.Letterbox (maker (caller asked).person number) given.aux_items)
    (record {
      reply = reply.Number number;
      effects = person_effects asked number given;
      changes = [];
    }))
