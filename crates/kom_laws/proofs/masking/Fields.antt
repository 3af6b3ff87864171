-- Each field of a conference, and of a person, is blank in a masked row, or was set all the same.
use Rattle.std.proofs.Common.{◌≡◌, ℕ, refl}
use Rattle.kom_types.specs.declared.conferences.ConferenceRow.{ConferenceRow}
use Rattle.kom_types.specs.declared.effects.ConfField.{ConfField}
use Rattle.kom_types.specs.declared.effects.ConfField.TheVariants as field
use Rattle.kom_types.specs.declared.effects.Counter.{Counter}
use Rattle.kom_types.specs.declared.effects.Counter.TheVariants as counter
use Rattle.kom_types.specs.declared.effects.PersonField.{PersonField}
use Rattle.kom_types.specs.declared.effects.PersonField.TheVariants as person_field
use Rattle.kom_types.specs.declared.persons.PersonRow.{PersonRow}
use Rattle.kom_types.specs.tables.Conferences as Conferences
use Rattle.kom_types.specs.tables.Persons as Persons
use Rattle.kom_types.specs.tables.Persons.{count_up}
use Rattle.kom_laws.specs.masking.Masks.{blank_conference, blank_person}

pub field-blank : (what : ConfField) (row : ConferenceRow) →
    blank_conference (Conferences.with_field what (blank_conference row))
    ≡ blank_conference (Conferences.with_field what row)
field-blank (field.Presentation text) row = refl
field-blank (field.Motd text) row = refl
field-blank (field.Supervisor conference) row = refl
field-blank (field.PermittedSubmitters conference) row = refl
field-blank (field.SuperConference conference) row = refl
field-blank (field.Kind kind) row = refl
field-blank (field.Nice days) row = refl
field-blank (field.KeepCommented days) row = refl
field-blank (field.Expire days) row = refl
field-blank (field.LastWritten at) row = refl

pub person_field-blank : (what : PersonField) (row : PersonRow) →
    blank_person (Persons.with_field what (blank_person row)) ≡ blank_person (Persons.with_field what row)
person_field-blank (person_field.Privileges privileges) row = refl
person_field-blank (person_field.Flags flags) row = refl
person_field-blank (person_field.UserArea text) row = refl

pub counted-blank : (what : Counter) (by : ℕ) (row : PersonRow) →
    blank_person (count_up what by (blank_person row)) ≡ blank_person (count_up what by row)
counted-blank counter.TimePresent by row = refl
counted-blank counter.CreatedLines by row = refl
counted-blank counter.CreatedBytes by row = refl
counted-blank counter.ReadTexts by row = refl
counted-blank counter.TextFetches by row = refl
counted-blank counter.CreatedPersons by row = refl
counted-blank counter.CreatedConferences by row = refl
