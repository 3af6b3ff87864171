-- The numbers of persons, which no change of a row changes.
use Rattle.std.specs.Prelude.{◌≡◌, ℕ, refl}
use Rattle.kom_types.specs.declared.effects.Counter.{Counter}
use Rattle.kom_types.specs.declared.effects.Counter.TheVariants as counter
use Rattle.kom_types.specs.declared.effects.PersonField.{PersonField}
use Rattle.kom_types.specs.declared.effects.PersonField.TheVariants as field
use Rattle.kom_types.specs.declared.persons.PersonRow.{PersonRow}
use Rattle.kom_types.specs.tables.Persons.{number_of_person, count_up, with_field}

pub number-with_field : (to : PersonField) (row : PersonRow) →
    number_of_person (with_field to row) ≡ number_of_person row
number-with_field (field.Privileges privileges) row = refl
number-with_field (field.Flags flags) row = refl
number-with_field (field.UserArea text) row = refl

pub number-counted : (which : Counter) (by : ℕ) (row : PersonRow) →
    number_of_person (count_up which by row) ≡ number_of_person row
number-counted counter.TimePresent by row = refl
number-counted counter.CreatedLines by row = refl
number-counted counter.CreatedBytes by row = refl
number-counted counter.ReadTexts by row = refl
number-counted counter.TextFetches by row = refl
number-counted counter.CreatedPersons by row = refl
number-counted counter.CreatedConferences by row = refl

-- with this next number of a text
abbrev pub with_next_created : ℕ → PersonRow → PersonRow
with_next_created next row = record row { next_created = next }

-- with so many sessions counted
abbrev pub with_sessions : ℕ → PersonRow → PersonRow
with_sessions sessions row = record row { sessions = sessions }
