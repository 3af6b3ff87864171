-- The list of the secret conferences stays right as the rows change.
use Rattle.std.proofs.Common.{◌≡◌, ℕ, ◌+◌, ◌≤◌, Bool, false, cond, eqb, List, length}
use Rattle.std.proofs.Common.{Some, option_map, is_some, not, refl, sym, ap, ◌∙◌, arith}
use Rattle.std.specs.Int.{from_bool}
use Rattle.kom_types.specs.declared.conferences.ConferenceRow.{ConferenceRow}
use Rattle.kom_types.specs.declared.effects.ConfField.{ConfField}
use Rattle.kom_types.specs.declared.effects.ConfField.TheVariants as field
use Rattle.kom_types.specs.tables.Conferences.{number_of_conference, is_secret_conference, with_field}
use Rattle.row_table.specs.Tables.{row_of, with_row, without_row, changed_row, IsByNumber}
use Rattle.row_table.proofs.Rows.{row_of-with_row, IsByNumber-with_row, row_of-changed_row}
use Rattle.row_table.proofs.Rows.{IsByNumber-changed_row}
use Rattle.conferences.specs.Secret.{Listed, IsListed, with_if, secret_numbers}
use Rattle.conferences.proofs.Rows.{length-put, length-changed_row, number-row_of}
use Rattle.conferences.proofs.Chosen.{chosen-updated, chosen-without_row, chosen-changed_row, length-chosen}

-- whether a conference is secret
abbrev pub is_secret : ConferenceRow → Bool
is_secret row = is_secret_conference row.kind

-- there are no more secret conferences than conferences
pub length-secret : (rows : List ConferenceRow) → length (secret_numbers rows) ≤ length rows
length-secret rows = length-chosen number_of_conference is_secret rows

-- a conference that is put in is listed if it is secret, and else is not
pub secret-with_row : (row : ConferenceRow) (rows : List ConferenceRow) → IsByNumber number_of_conference rows →
    secret_numbers (with_row number_of_conference row rows) ≡ with_if (is_secret row) row.number (secret_numbers rows)
secret-with_row row rows rising =
    chosen-updated number_of_conference is_secret rows (with_row number_of_conference row rows) row.number (Some row)
    (is_secret row) rising (IsByNumber-with_row number_of_conference row rows rising)
    (λ other. row_of-with_row number_of_conference other row rows) refl

module _ (row : ConferenceRow) (rows : List ConferenceRow) (is_new : Bool) (room : ℕ)
    (rising : IsByNumber number_of_conference rows)
    (is : is_some (row_of number_of_conference row.number rows) ≡ not is_new)
    (enough : length rows + from_bool is_new ≤ room) where
  -- room for one more conference, if this one is new, is room to list it
  pub put_fits : length (with_if (is_secret row) row.number (secret_numbers rows)) ≤ room
  put_fits =
      rw (← secret-with_row row rows rising)
      (omega (
        arith,
        length-put number_of_conference row rows is_new rising is,
        length-secret (with_row number_of_conference row rows),
      ))

  pub IsListed-put : (new : List ConferenceRow) (list : Listed) → new ≡ with_row number_of_conference row rows →
      list.numbers ≡ with_if (is_secret row) row.number (secret_numbers rows) → list.room ≡ room → IsListed new list
  IsListed-put new list becomes numbers same =
      rw becomes (record {
        numbers = numbers ∙ sym (secret-with_row row rows rising);
        room = omega (arith, length-put number_of_conference row rows is_new rising is);
      })

-- one that is taken out is listed no more
pub secret-without_row : (number : ℕ) (rows : List ConferenceRow) →
    secret_numbers (without_row number_of_conference number rows) ≡ with_if false number (secret_numbers rows)
secret-without_row number rows = chosen-without_row number_of_conference is_secret number rows

-- a type that is set tells whether the conference is secret now, and any other field leaves that
pub kind-with_kind : (to : ConfField) (kind : ℕ) → to ≡ field.Kind kind → (row : ConferenceRow) →
    is_secret (with_field to row) ≡ is_secret_conference kind
kind-with_kind to kind is row = rw is refl

pub kind-with_field : (to : ConfField) → ((kind : ℕ) → to ≡ field.Kind kind → ⊥) → (row : ConferenceRow) →
    is_secret (with_field to row) ≡ is_secret row
kind-with_field (field.Presentation text) other row = refl
kind-with_field (field.Motd text) other row = refl
kind-with_field (field.Supervisor conference) other row = refl
kind-with_field (field.PermittedSubmitters conference) other row = refl
kind-with_field (field.SuperConference conference) other row = refl
kind-with_field (field.Kind kind) other row = absurd (other kind refl)
kind-with_field (field.Nice days) other row = refl
kind-with_field (field.KeepCommented days) other row = refl
kind-with_field (field.Expire days) other row = refl
kind-with_field (field.LastWritten at) other row = refl

module _ (change : ConferenceRow → ConferenceRow)
    (keeps : (row : ConferenceRow) → (change row).number ≡ row.number) where
  -- the row of the number is secret after the change, or it is not
  secret-changed_row : (is_in : Bool) (number : ℕ) (rows : List ConferenceRow) (row : ConferenceRow) →
      IsByNumber number_of_conference rows → row_of number_of_conference number rows ≡ Some row →
      is_secret (change row) ≡ is_in →
      secret_numbers (changed_row number_of_conference number change rows) ≡ with_if is_in number (secret_numbers rows)
  secret-changed_row is_in number rows row rising there is =
      let number_is : (change row).number ≡ number =
      keeps row ∙ number-row_of number_of_conference number rows row there in
      chosen-updated number_of_conference is_secret rows (changed_row number_of_conference number change rows) number
      (Some (change row)) is_in rising (IsByNumber-changed_row number_of_conference change keeps number rows rising)
      (λ other. row_of-changed_row number_of_conference change keeps other number rows
      ∙ ap (λ had. cond (eqb number other) (option_map change had) (row_of number_of_conference other rows)) there)
      (rw (is, number_is) refl)

  module _ (is_in : Bool) (number : ℕ) (old : List ConferenceRow) (row : ConferenceRow)
      (rising : IsByNumber number_of_conference old) (there : row_of number_of_conference number old ≡ Some row)
      (is : is_secret (change row) ≡ is_in) (room : ℕ) (enough : length old ≤ room) where
    -- the list has room for that
    pub changed_fits : length (with_if is_in number (secret_numbers old)) ≤ room
    changed_fits =
        rw (← secret-changed_row is_in number old row rising there is)
        (omega (
          arith,
          length-secret (changed_row number_of_conference number change old),
          length-changed_row number_of_conference number change old,
        ))

    pub IsListed-set : (new : List ConferenceRow) (list : Listed) →
        new ≡ changed_row number_of_conference number change old →
        list.numbers ≡ with_if is_in number (secret_numbers old) → list.room ≡ room → IsListed new list
    IsListed-set new list becomes numbers same =
        rw becomes (record {
          numbers = numbers ∙ sym (secret-changed_row is_in number old row rising there is);
          room = omega (arith, length-changed_row number_of_conference number change old);
        })

  -- a change that leaves each conference as secret as it was
  pub IsListed-changed_row : ((row : ConferenceRow) → is_secret (change row) ≡ is_secret row) →
      (number : ℕ) (old new : List ConferenceRow) (list : Listed) → IsListed old list →
      new ≡ changed_row number_of_conference number change old → IsListed new list
  IsListed-changed_row same number old new list is becomes =
      rw becomes (record {
        numbers = is.numbers ∙ sym (chosen-changed_row number_of_conference is_secret change keeps same number old);
        room = omega (arith, is.room, length-changed_row number_of_conference number change old);
      })
