-- A field that is set, and a counter that rises, leave the number of a conference and of a person.
use Rattle.std.proofs.Common.{◌≡◌, ℕ, refl}
use Rattle.kom_types.specs.declared.conferences.ConferenceRow.{ConferenceRow}
use Rattle.kom_types.specs.declared.effects.ConfField.{ConfField}
use Rattle.kom_types.specs.declared.effects.ConfField.TheVariants as field
use Rattle.kom_types.specs.declared.effects.Counter.{Counter}
use Rattle.kom_types.specs.declared.effects.Counter.TheVariants as counter
use Rattle.kom_types.specs.declared.effects.PersonField.{PersonField}
use Rattle.kom_types.specs.declared.effects.PersonField.TheVariants as person_field
use Rattle.kom_types.specs.declared.persons.PersonRow.{PersonRow}
use Rattle.kom_types.specs.tables.Conferences as Conferences
use Rattle.kom_types.specs.tables.Persons as Persons
use Rattle.kom_types.specs.tables.Persons.{count_up}

pub field-number : (what : ConfField) (row : ConferenceRow) → (Conferences.with_field what row).number ≡ row.number
field-number (field.Presentation text) row = refl
field-number (field.Motd text) row = refl
field-number (field.Supervisor conference) row = refl
field-number (field.PermittedSubmitters conference) row = refl
field-number (field.SuperConference conference) row = refl
field-number (field.Kind kind) row = refl
field-number (field.Nice days) row = refl
field-number (field.KeepCommented days) row = refl
field-number (field.Expire days) row = refl
field-number (field.LastWritten at) row = refl

pub person_field-number : (what : PersonField) (row : PersonRow) → (Persons.with_field what row).number ≡ row.number
person_field-number (person_field.Privileges privileges) row = refl
person_field-number (person_field.Flags flags) row = refl
person_field-number (person_field.UserArea text) row = refl

pub counted-number : (what : Counter) (by : ℕ) (row : PersonRow) → (count_up what by row).number ≡ row.number
counted-number counter.TimePresent by row = refl
counted-number counter.CreatedLines by row = refl
counted-number counter.CreatedBytes by row = refl
counted-number counter.ReadTexts by row = refl
counted-number counter.TextFetches by row = refl
counted-number counter.CreatedPersons by row = refl
counted-number counter.CreatedConferences by row = refl
