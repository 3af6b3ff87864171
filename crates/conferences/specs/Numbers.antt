-- The numbers of conferences, which no change of a row changes.
use Rattle.std.specs.Prelude.{◌≡◌, ℕ, refl}
use Rattle.kom_types.specs.declared.conferences.ConferenceRow.{ConferenceRow}
use Rattle.kom_types.specs.declared.effects.ConfField.{ConfField}
use Rattle.kom_types.specs.declared.effects.ConfField.TheVariants as field
use Rattle.kom_types.specs.tables.Conferences.{number_of_conference, with_field}

pub number-with_field : (to : ConfField) (row : ConferenceRow) →
    number_of_conference (with_field to row) ≡ number_of_conference row
number-with_field (field.Presentation text) row = refl
number-with_field (field.Motd text) row = refl
number-with_field (field.Supervisor conference) row = refl
number-with_field (field.PermittedSubmitters conference) row = refl
number-with_field (field.SuperConference conference) row = refl
number-with_field (field.Kind kind) row = refl
number-with_field (field.Nice days) row = refl
number-with_field (field.KeepCommented days) row = refl
number-with_field (field.Expire days) row = refl
number-with_field (field.LastWritten at) row = refl

-- with this next local number
abbrev pub with_next_local : ℕ → ConferenceRow → ConferenceRow
with_next_local next row = record row { next_local = next }

-- with this next number of an aux-item
abbrev pub with_next_item : ℕ → ConferenceRow → ConferenceRow
with_next_item next row = record row { next_item = next }
