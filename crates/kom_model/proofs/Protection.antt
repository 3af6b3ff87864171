-- Effects leave every secret conference read-protected.
use Rattle.std.proofs.Common.{◌≡◌, ℕ, ◌==◌, Bool, true, false, cond, ◌&&◌, not, List, [], ◌∷◌, nat_lt, refl, sym}
use Rattle.std.proofs.Common.{true≢false}
use Rattle.std.specs.Prelude.{IsTrue, Option, Some, None}
use Rattle.std.specs.List.{AllByRecursion}
use Rattle.row_table.specs.Tables.{with_row, without_row, changed_row}
use Rattle.kom_types.specs.declared.conferences.ConferenceRow.{ConferenceRow}
use Rattle.kom_types.specs.declared.effects.ConfField.{ConfField}
use Rattle.kom_types.specs.declared.effects.ConfField.TheVariants as field
use Rattle.kom_types.specs.declared.effects.Effect.{Effect}
use Rattle.kom_types.specs.declared.effects.Effect.TheVariants as effect
use Rattle.kom_types.specs.tables.Conferences.{number_of_conference, is_secret_protected, with_field, with_name}
use Rattle.kom_types.specs.tables.Conferences.{with_local_drawn, with_item_drawn}
use Rattle.kom_model.specs.Db.{Db, conference_of}
use Rattle.kom_model.specs.Effects.{IsProtected, fits, after_effect, apply, apply_all, may_set}

abbrev IsGuarded : ConferenceRow → Type 0
IsGuarded row = IsTrue (is_secret_protected row.kind)

guarded-changed : (number : ℕ) (change : ConferenceRow → ConferenceRow) →
    ((row : ConferenceRow) → IsGuarded row → IsGuarded (change row)) →
    (rows : List ConferenceRow) → AllByRecursion IsGuarded rows →
    AllByRecursion IsGuarded (changed_row number_of_conference number change rows)
guarded-changed number change keeps [] all = tt
guarded-changed number change keeps (row ∷ rows) all = (
  elim (row.number == number) as (λ b. IsGuarded (cond b (change row) row)) [
    | true ↦ keeps row all.0
    | false ↦ all.0
  ],
  guarded-changed number change keeps rows all.1,
)

guarded-with : (row : ConferenceRow) → IsGuarded row → (rows : List ConferenceRow) → AllByRecursion IsGuarded rows →
    AllByRecursion IsGuarded (with_row number_of_conference row rows)
guarded-with row guarded [] all = (guarded, tt)
guarded-with row guarded (first ∷ rows) all =
    let rest : AllByRecursion IsGuarded (with_row number_of_conference row rows) =
    guarded-with row guarded rows all.1 in
    elim (row.number == first.number) as (λ b. AllByRecursion IsGuarded (cond b (row ∷ rows)
    (cond (nat_lt row.number first.number) (row ∷ first ∷ rows)
    (first ∷ with_row number_of_conference row rows)))) [
      | true ↦ (guarded, all.1)
      | false ↦ elim (nat_lt row.number first.number) as (λ b. AllByRecursion IsGuarded (cond b
          (row ∷ first ∷ rows) (first ∷ with_row number_of_conference row rows))) [
            | true ↦ (guarded, all)
            | false ↦ (all.0, rest)
          ]
    ]

guarded-without : (number : ℕ) (rows : List ConferenceRow) → AllByRecursion IsGuarded rows →
    AllByRecursion IsGuarded (without_row number_of_conference number rows)
guarded-without number [] all = tt
guarded-without number (row ∷ rows) all =
    elim (row.number == number) as (λ b. AllByRecursion IsGuarded
    (cond (not b) (row ∷ without_row number_of_conference number rows)
    (without_row number_of_conference number rows))) [
      | true ↦ guarded-without number rows all.1
      | false ↦ (all.0, guarded-without number rows all.1)
    ]

pub and-first : (first second : Bool) → (first && second) ≡ true → first ≡ true
and-first true second both = refl
and-first false second both = both

pub and-second : (first second : Bool) → (first && second) ≡ true → second ≡ true
and-second true second both = both
and-second false second both = absurd (true≢false (sym both))

-- a field that may be set in one row leaves every row guarded
guarded-set : (what : ConfField) (old : ConferenceRow) → may_set what old ≡ true → (row : ConferenceRow) →
    IsGuarded row → IsGuarded (with_field what row)
guarded-set (field.Presentation text) old may row guarded = guarded
guarded-set (field.Motd text) old may row guarded = guarded
guarded-set (field.Supervisor conference) old may row guarded = guarded
guarded-set (field.PermittedSubmitters conference) old may row guarded = guarded
guarded-set (field.SuperConference conference) old may row guarded = guarded
guarded-set (field.Kind kind) old may row guarded = and-first (is_secret_protected kind) _ may
guarded-set (field.Nice days) old may row guarded = guarded
guarded-set (field.KeepCommented days) old may row guarded = guarded
guarded-set (field.Expire days) old may row guarded = guarded
guarded-set (field.LastWritten at) old may row guarded = guarded

guarded-found : (what : ConfField) (found : Option ConferenceRow) →
    (elim found [ None ↦ false | Some row ↦ may_set what row ]) ≡ true → (row : ConferenceRow) →
    IsGuarded row → IsGuarded (with_field what row)
guarded-found what None may row guarded = absurd (true≢false (sym may))
guarded-found what (Some old) may row guarded = guarded-set what old may row guarded

protected-made : (what : Effect) (db : Db) → fits what db ≡ true → IsProtected db → IsProtected (after_effect what db)
unfolding fits after_effect
protected-made (effect.ConfAdded number name kind at creator supervisor) db fit protected =
    guarded-with _ (and-second _ (is_secret_protected kind) fit) db.conferences protected
protected-made (effect.ConfGone number) db fit protected = guarded-without number db.conferences protected
protected-made (effect.ConfNamed number name) db fit protected =
    guarded-changed number (with_name name) (λ row guarded. guarded) db.conferences protected
protected-made (effect.ConfField number what) db fit protected =
    guarded-changed number (with_field what) (guarded-found what (conference_of db number) fit) db.conferences protected
protected-made (effect.RecipientAdded given) db fit protected =
    guarded-changed given.conference (with_local_drawn given.local) (λ row guarded. guarded) db.conferences protected
protected-made (effect.AuxAdded true object item) db fit protected = protected
protected-made (effect.AuxAdded false object item) db fit protected =
    guarded-changed object (with_item_drawn item.number) (λ row guarded. guarded) db.conferences protected
protected-made other db fit protected = protected

IsProtected-apply : (what : Effect) (db : Db) → IsProtected db → IsProtected (apply what db)
IsProtected-apply what db protected =
    elim (fits what db) as (λ b. fits what db ≡ b → IsProtected (cond b (after_effect what db) db)) [
      | true ↦ λ fit. protected-made what db fit protected
      | false ↦ λ fit. protected
    ] refl

-- effects keep it
pub IsProtected-apply_all : (effects : List Effect) (db : Db) → IsProtected db → IsProtected (apply_all effects db)
IsProtected-apply_all [] db protected = protected
IsProtected-apply_all (what ∷ effects) db protected =
    IsProtected-apply_all effects (apply what db) (IsProtected-apply what db protected)
