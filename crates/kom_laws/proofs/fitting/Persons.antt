-- What the calls about persons come to fits.
use Rattle.std.proofs.Common.{◌≡◌, ℕ, true, List, [], ◌∷◌, None}
use Rattle.std.specs.Prelude.{is_some}
use Rattle.kom_types.specs.declared.limits.TheConstants.{LONGEST_PASSWORD}
use Rattle.kom_types.specs.declared.effects.Effect.TheVariants as effect
use Rattle.kom_types.specs.declared.effects.PersonField.{PersonField}
use Rattle.kom_types.specs.declared.effects.PersonField.TheVariants as field
use Rattle.kom_types.specs.declared.persons.PasswordChange.{PasswordChange}
use Rattle.kom_types.specs.tables.Persons.{password_hash}
use Rattle.kom_model.specs.Db.{Db, person_of}
use Rattle.kom_model.specs.Effects.{fits, all_fit}
use Rattle.kom_model.specs.calls.Call.{Asked}
use Rattle.kom_model.specs.calls.Guards.{caller, login_guard, person_guard, strong_guard, supervisor_guard}
use Rattle.kom_model.specs.calls.Guards.{password_guard, size_guard, text_or_none_guard}
use Rattle.kom_model.specs.calls.Persons.{set_priv_bits, set_passwd, set_pers_flags, set_user_area}
use Rattle.kom_laws.proofs.fitting.Guards.{one-fits, all-pass, person-there}

field-fits : (db : Db) (person : ℕ) (what : PersonField) → is_some (person_of db person) ≡ true →
    all_fit (effect.PersonField person what ∷ []) db ≡ true
unfolding fits
field-fits db person what there = one-fits (effect.PersonField person what) db there

password-fits : (db : Db) (person : ℕ) (password : List ℕ) → is_some (person_of db person) ≡ true →
    all_fit (effect.Password person (password_hash person password) ∷ []) db ≡ true
unfolding fits
password-fits db person password there = one-fits (effect.Password person (password_hash person password)) db there

module _ (asked : Asked) where
  pub set_priv_bits-fits : (person privileges : ℕ) → (set_priv_bits asked person privileges).early ≡ None →
      all_fit (set_priv_bits asked person privileges).rest.effects asked.db ≡ true
  set_priv_bits-fits person privileges passes =
      let pass = all-pass (login_guard (caller asked) ∷ person_guard asked.db person ∷ strong_guard (caller asked) ∷ [])
      passes in
      field-fits asked.db person (field.Privileges privileges) (person-there asked.db person pass.1.0)

  pub set_passwd-fits : (given : PasswordChange) → (set_passwd asked given).early ≡ None →
      all_fit (set_passwd asked given).rest.effects asked.db ≡ true
  set_passwd-fits given passes =
      let pass = all-pass (login_guard (caller asked) ∷ person_guard asked.db given.person
      ∷ supervisor_guard asked.db (caller asked) given.person
      ∷ password_guard asked.db (caller asked) (caller asked).person given.old_password
      ∷ size_guard given.new_password LONGEST_PASSWORD ∷ []) passes in
      password-fits asked.db given.person given.new_password (person-there asked.db given.person pass.1.0)

  pub set_pers_flags-fits : (person flags : ℕ) → (set_pers_flags asked person flags).early ≡ None →
      all_fit (set_pers_flags asked person flags).rest.effects asked.db ≡ true
  set_pers_flags-fits person flags passes =
      let pass = all-pass (login_guard (caller asked) ∷ person_guard asked.db person
      ∷ supervisor_guard asked.db (caller asked) person ∷ []) passes in
      field-fits asked.db person (field.Flags flags) (person-there asked.db person pass.1.0)

  pub set_user_area-fits : (person text : ℕ) → (set_user_area asked person text).early ≡ None →
      all_fit (set_user_area asked person text).rest.effects asked.db ≡ true
  set_user_area-fits person text passes =
      let pass = all-pass (login_guard (caller asked) ∷ person_guard asked.db person
      ∷ supervisor_guard asked.db (caller asked) person ∷ text_or_none_guard asked.db (caller asked) text ∷ [])
      passes in
      field-fits asked.db person (field.UserArea text) (person-there asked.db person pass.1.0)
