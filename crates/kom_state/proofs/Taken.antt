-- Which conference a name clashes with, and what the guard of a new name refuses.
use Rattle.std.proofs.Common.{◌≡◌, ℕ, ◌⊎◌, ◌&&◌, Bool, true, false, cond, eqb, List, [], ◌∷◌, map, find, Option, Some}
use Rattle.std.proofs.Common.{None, is_some, refl, sym, ap, ◌∙◌, inl, inr, true≢false, arith}
use Rattle.std.specs.List.{list_any}
use Rattle.std.proofs.lemmas.Bool.{eq-eqb, ne_eqb, cases_Bool, or_parts}
use Rattle.std.proofs.lemmas.Option.{none-some, same_Some}
use Rattle.kom_types.specs.declared.errors.TheConstants as error
use Rattle.row_table.specs.Tables.{row_of, IsByNumber}
use Rattle.kom_types.specs.declared.conferences.ConferenceRow.{ConferenceRow}
use Rattle.kom_types.specs.Names.{clash}
use Rattle.kom_types.specs.tables.Conferences.{number_of_conference, is_letterbox}
use Rattle.kom_model.specs.Db.{Db, conference_of, conferences_of}
use Rattle.kom_model.specs.Effects.{has_letterbox}
use Rattle.kom_model.specs.calls.Guards.{Guard, refusal, taken_by, free_guard}
use Rattle.name_lookup.specs.NamedRows.{clash_of}
use Rattle.kom_state.specs.Keeping.{name_row}
use Rattle.kom_state.proofs.Names.{is_other, clash_back, apart_back, absent_above}

none_found : (p : ConferenceRow → Bool) (rows : List ConferenceRow) → list_any p rows ≡ false → find p rows ≡ None
none_found p [] none = refl
none_found p (row ∷ rows) none =
    let parts = or_parts (p row) (list_any p rows) none in rw parts.0 (none_found p rows parts.1)

skipped : (b : Bool) (row : ConferenceRow) (found : Option ConferenceRow) → cond (b && false) (Some row) found ≡ found
skipped true row found = refl
skipped false row found = refl

-- the first conference of another number whose name clashes, which is the one of the number that has the name
record IsFirstOther (number other : ℕ) (name : List ℕ) (rows : List ConferenceRow) (row : ConferenceRow) : Type 0 where
  first : find (is_other number name) rows ≡ Some row
  at : row_of number_of_conference other rows ≡ Some row

first_other : (number other : ℕ) (name : List ℕ) (rows : List ConferenceRow) → IsByNumber number_of_conference rows →
    clash_of name (map name_row rows) ≡ Some other → (other ≡ number → ⊥) →
    (row : ConferenceRow) × IsFirstOther number other name rows row
first_other number other name [] rising found apart = absurd (none-some other found)
first_other number other name (row ∷ rows) rising found apart =
    by (first_other number other name rows rising.1) (cases_Bool (clash name row.name)) found
  where
    by : (clash_of name (map name_row rows) ≡ Some other → (other ≡ number → ⊥) →
        (row : ConferenceRow) × IsFirstOther number other name rows row) →
        (clash name row.name ≡ true) ⊎ (clash name row.name ≡ false) →
        clash_of name (map name_row (row ∷ rows)) ≡ Some other →
        (one : ConferenceRow) × IsFirstOther number other name (row ∷ rows) one
    by rest (inl same) here =
        let number' : row.number ≡ other = same_Some _ _ (rw same at here) in
        let away : eqb row.number number ≡ false = ne_eqb _ _ (λ e. apart (sym number' ∙ e)) in (
          row,
          record {
            first = rw (clash_back name row.name same, away) refl;
            at = rw (eq-eqb row.number other number') refl;
          },
        )
    by rest (inr other_name) later =
        let next = rest (rw other_name at later) apart in
        let missing : row.number ≡ other → ⊥ =
        λ e. true≢false (sym (ap is_some next.1.at) ∙ absent_above other row.number rows (omega arith) rising.0) in
        let away : eqb row.number other ≡ false = ne_eqb _ _ missing in (
          next.0,
          record {
            first = rw (apart_back name row.name other_name) (skipped _ row _ ∙ next.1.first);
            at = rw away next.1.at;
          },
        )

-- what the guard of a new name says of the first other conference whose name clashes
abbrev refused_by : Option ConferenceRow → Guard
refused_by found = elim found [ None ↦ None | Some row ↦ taken_by row ]

abbrev letterbox : Option ConferenceRow → Bool
letterbox found = elim found [ None ↦ false | Some row ↦ is_letterbox row.kind ]

pub free_guard-free : (db : Db) (number : ℕ) (name : List ℕ) →
    list_any (is_other number name) db.conferences ≡ false → free_guard db number name ≡ None
unfolding conferences_of
free_guard-free db number name free = ap refused_by (none_found (is_other number name) db.conferences free)

pub free_guard-taken : (db : Db) (number other : ℕ) (name : List ℕ) → IsByNumber number_of_conference db.conferences →
    clash_of name (map name_row db.conferences) ≡ Some other → (other ≡ number → ⊥) →
    free_guard db number name
    ≡ cond (has_letterbox db other) (refusal error.PERSON_EXISTS 0) (refusal error.CONFERENCE_EXISTS 0)
unfolding conferences_of conference_of
free_guard-taken db number other name rising found apart =
    let first = first_other number other name db.conferences rising found apart in
    ap refused_by first.1.first
    ∙ sym (ap (λ row. cond (letterbox row) (refusal error.PERSON_EXISTS 0) (refusal error.CONFERENCE_EXISTS 0))
    first.1.at)
