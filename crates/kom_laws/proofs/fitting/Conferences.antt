-- What the calls that change a conference come to fits.
use Rattle.std.proofs.Common.{◌≡◌, ℕ, true, false, ◌&&◌, not, List, [], ◌∷◌, ◌++◌, Option, Some, None}
use Rattle.std.specs.Prelude.{is_some}
use Rattle.std.proofs.lemmas.Bool.{and_parts, and_from}
use Rattle.kom_types.specs.Bits.{alike}
use Rattle.kom_types.specs.declared.errors.TheConstants as error
use Rattle.kom_types.specs.declared.conferences.ConferenceRow.{ConferenceRow}
use Rattle.kom_types.specs.declared.effects.ConfField.{ConfField}
use Rattle.kom_types.specs.declared.effects.ConfField.TheVariants as field
use Rattle.kom_types.specs.declared.effects.Effect.TheVariants as effect
use Rattle.kom_types.specs.tables.Conferences.{is_letterbox, is_secret_conference, is_secret_protected}
use Rattle.kom_model.specs.Db.{conference_of}
use Rattle.kom_model.specs.Effects.{fits, may_set, all_fit}
use Rattle.kom_model.specs.calls.Call.{Asked}
use Rattle.kom_model.specs.calls.Conferences.{owner_guards, change_name, set_field, set_conf_type, may_become}
use Rattle.kom_model.specs.calls.Guards.{Guard, caller, name_guard, free_guard, unless, type_guard}
use Rattle.kom_laws.proofs.fitting.Guards.{one-fits, all-pass, pass-both, passed, conference-there, name-short}
use Rattle.kom_laws.proofs.fitting.Guards.{name-free}
use Rattle.kom_laws.proofs.fitting.Guards.{AllPass}

module _ (asked : Asked) (number : ℕ) where
  owned-there : AllPass (owner_guards asked number) → is_some (conference_of asked.db number) ≡ true
  owned-there pass = conference-there asked.db (caller asked) number pass.1.0

  pub change_name-fits : (name : List ℕ) → (change_name asked number name).early ≡ None →
      all_fit (change_name asked number name).rest.effects asked.db ≡ true
  unfolding fits
  change_name-fits name passes =
      let pass = all-pass (owner_guards asked number ++ name_guard name ∷ free_guard asked.db number name ∷ [])
      passes in
      let both = pass-both (owner_guards asked number) (name_guard name ∷ free_guard asked.db number name ∷ []) pass in
      one-fits (effect.ConfNamed number name) asked.db (and_from _ _ (owned-there both.0)
      (and_from _ _ (name-short name both.1.0) (name-free asked.db number name both.1.1.0)))

  -- a field that may be set in each row may be in one that is there
  pub found-set : (what : ConfField) → ((row : ConferenceRow) → may_set what row ≡ true) →
      (found : Option ConferenceRow) →
      is_some found ≡ true → (elim found [ None ↦ false | Some row ↦ may_set what row ]) ≡ true
  found-set what may None there = there
  found-set what may (Some row) there = may row

  pub field-fits : (what : ConfField) → ((row : ConferenceRow) → may_set what row ≡ true) →
      is_some (conference_of asked.db number) ≡ true → fits (effect.ConfField number what) asked.db ≡ true
  unfolding fits
  field-fits what may there = found-set what may (conference_of asked.db number) there

  pub set_field-fits : (guards : List Guard) (what : ConfField) → ((row : ConferenceRow) → may_set what row ≡ true) →
      (set_field asked number guards what).early ≡ None →
      all_fit (set_field asked number guards what).rest.effects asked.db ≡ true
  set_field-fits guards what may passes =
      let pass = all-pass (owner_guards asked number ++ guards) passes in
      let both = pass-both (owner_guards asked number) guards pass in
      one-fits (effect.ConfField number what) asked.db (field-fits what may (owned-there both.0))

  found-kind : (kind : ℕ) (found : Option ConferenceRow) → is_secret_protected kind ≡ true →
      (elim found [
        | None ↦ false
        | Some row ↦ alike (is_letterbox kind) (is_letterbox row.kind)
            && not (is_letterbox kind && is_secret_conference kind)
      ]) ≡ true → (elim found [ None ↦ false | Some row ↦ may_set (field.Kind kind) row ]) ≡ true
  found-kind kind None guarded may = may
  found-kind kind (Some row) guarded may = and_from _ _ guarded
      (and_parts (alike (is_letterbox kind) (is_letterbox row.kind)) _ may).0

  pub set_conf_type-fits : (kind : ℕ) → (set_conf_type asked number kind).early ≡ None →
      all_fit (set_conf_type asked number kind).rest.effects asked.db ≡ true
  unfolding fits
  set_conf_type-fits kind passes =
      let guards : List Guard =
      unless (may_become asked.db number kind) error.LETTERBOX number ∷ type_guard kind ∷ [] in
      let pass = all-pass (owner_guards asked number ++ guards) passes in
      let both = pass-both (owner_guards asked number) guards pass in
      one-fits (effect.ConfField number (field.Kind kind)) asked.db
      (found-kind kind (conference_of asked.db number) (passed (is_secret_protected kind) _ 0 both.1.1.0)
      (passed (may_become asked.db number kind) _ number both.1.0))
