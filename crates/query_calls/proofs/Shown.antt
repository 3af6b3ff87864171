-- The conferences that a look-up shows, by their numbers.
use Rattle.std.proofs.Common.{◌≡◌, ℕ, ◌+◌, ◌<◌, Bool, true, false, cond, ◌&&◌, eqb, List, [], ◌∷◌, ◌++◌, length, map}
use Rattle.std.proofs.Common.{filter, take, get_or, append-nil, Option, Some, None, refl, sym, ap, ◌∙◌, inl, inr, arith}
use Rattle.std.specs.List.{filter_map, cons_option, AllByRecursion}
use Rattle.std.proofs.lemmas.Bool.{cases_Bool, eq-eqb, ne_eqb}
use Rattle.std.proofs.lemmas.List.{take_more, map-append}
use Rattle.std.proofs.lemmas.List.Elements.{filter_map-append}
use Rattle.row_table.specs.Tables.{row_of, AllAbove, IsByNumber}
use Rattle.kom_types.specs.declared.conferences.ConferenceName.{ConferenceName}
use Rattle.kom_types.specs.declared.conferences.ConferenceRow.{ConferenceRow}
use Rattle.kom_types.specs.tables.Conferences.{number_of_conference}
use Rattle.kom_model.specs.declared.viewers.Viewer.{Viewer}
use Rattle.kom_model.specs.Db.{Db, conference_of, conferences_of}
use Rattle.kom_model.specs.Rights.{sees}
use Rattle.kom_model.specs.calls.Conferences.{is_wanted, name_of}
use Rattle.query_calls.specs.Shown.{is_shown, shown_of}

-- the row of the number of each of these is that row itself
abbrev AreFound : List ConferenceRow → List ConferenceRow → Type 0
AreFound all rows = AllByRecursion (λ row. row_of number_of_conference row.number all ≡ Some row) rows

found-later : (first : ConferenceRow) (all rows : List ConferenceRow) →
    AllAbove number_of_conference first.number rows →
    AreFound all rows → AreFound (first ∷ all) rows
found-later first all [] above found = tt
found-later first all (row ∷ rows) above found =
    let other : eqb first.number row.number ≡ false = ne_eqb _ _ (λ e. omega (arith, above.0)) in
    (rw other found.0, found-later first all rows above.1 found.1)

found-rising : (rows : List ConferenceRow) → IsByNumber number_of_conference rows → AreFound rows rows
found-rising [] rising = tt
found-rising (row ∷ rows) rising =
    let here : eqb row.number row.number ≡ true = eq-eqb _ _ refl in
    (rw here refl, found-later row rows rows rising.0 (found-rising rows rising.1))

-- the conference of the number of each of these is that row itself
abbrev AreFoundIn : Db → List ConferenceRow → Type 0
AreFoundIn db rows = AllByRecursion (λ row. conference_of db row.number ≡ Some row) rows

found_in : (db : Db) → IsByNumber number_of_conference (conferences_of db) → AreFoundIn db (conferences_of db)
unfolding conference_of conferences_of
found_in db rising = found-rising db.conferences rising

cons_either : (test : Bool) (row : ConferenceRow) (rows : List ConferenceRow) →
    cons_option (cond test (Some row) None) rows ≡ cond test (row ∷ rows) rows
cons_either true row rows = refl
cons_either false row rows = refl

module _ (db : Db) (viewer : Viewer) (persons conferences : Bool) where
  -- the rows that some numbers show
  abbrev rows_shown : List ℕ → List ConferenceRow
  rows_shown numbers = filter_map (shown_of db viewer persons conferences) numbers

  -- a row that is found is shown, or not
  shown_found : (row : ConferenceRow) → conference_of db row.number ≡ Some row →
      shown_of db viewer persons conferences row.number ≡ cond (is_shown db viewer persons conferences row) (Some row)
      None
  shown_found row found =
      let none : Option ConferenceRow = None in
      ap (λ one. elim one [
        | None ↦ none
        | Some there ↦ cond (is_shown db viewer persons conferences there) (Some there) none
      ]) found

  -- those of the rows that match, are wanted and are shown
  abbrev rows_matched : (ConferenceRow → Bool) → List ConferenceRow → List ConferenceRow
  rows_matched matches rows =
      filter (λ row. matches row && is_wanted persons conferences row && sees db viewer row.number) rows

  shown-rows : (matches : ConferenceRow → Bool) (rows : List ConferenceRow) → AreFoundIn db rows →
      rows_shown (map number_of_conference (filter matches rows)) ≡ rows_matched matches rows
  shown-rows matches [] found = refl
  shown-rows matches (row ∷ rows) found =
      let rest = shown-rows matches rows found.1 in
      elim (cases_Bool (matches row)) [
        | inl here ↦ rw (here, rest)
            (ap (λ one. cons_option one (rows_matched matches rows)) (shown_found row found.0)
            ∙ cons_either (is_shown db viewer persons conferences row) row (rows_matched matches rows))
        | inr there ↦ rw there rest
      ]

  -- all rows whose numbers are found
  pub shown_all : (matches : ConferenceRow → Bool) (numbers : List ℕ) →
      IsByNumber number_of_conference (conferences_of db) →
      numbers ≡ map number_of_conference (filter matches (conferences_of db)) →
      rows_shown numbers ≡ rows_matched matches (conferences_of db)
  shown_all matches numbers rising are = rw are (shown-rows matches (conferences_of db) (found_in db rising))

  -- the names that one number more gives
  names_more : (numbers : List ℕ) (place : ℕ) → place < length numbers →
      map name_of (rows_shown (take (place + 1) numbers))
      ≡ map name_of (rows_shown (take place numbers))
      ++ map name_of (cons_option (shown_of db viewer persons conferences (get_or numbers place 0)) [])
  names_more numbers place in_range =
      let S = shown_of db viewer persons conferences in
      ap (λ those. map name_of (filter_map S those)) (take_more numbers place 0 in_range)
      ∙ ap (map name_of) (filter_map-append S (take place numbers) (get_or numbers place 0 ∷ []))
      ∙ map-append name_of (filter_map S (take place numbers)) (filter_map S (get_or numbers place 0 ∷ []))

  module _ (numbers : List ℕ) (place : ℕ) (in_range : place < length numbers) (names : List ConferenceName) where
    -- the names of the rows that the first numbers show, and of the next one or not
    pub names_shown : (row : ConferenceRow) (new : List ConferenceName) →
        names ≡ map name_of (rows_shown (take place numbers)) →
        shown_of db viewer persons conferences (get_or numbers place 0) ≡ Some row → new ≡ names ++ name_of row ∷ [] →
        new ≡ map name_of (rows_shown (take (place + 1) numbers))
    names_shown row new so_far is new_is =
        new_is
        ∙ ap (λ those. those ++ name_of row ∷ []) so_far
        ∙ ap (λ one. map name_of (rows_shown (take place numbers)) ++ map name_of (cons_option one [])) (sym is)
        ∙ sym (names_more numbers place in_range)

    pub names_hidden : names ≡ map name_of (rows_shown (take place numbers)) →
        shown_of db viewer persons conferences (get_or numbers place 0) ≡ None →
        names ≡ map name_of (rows_shown (take (place + 1) numbers))
    names_hidden so_far is =
        so_far
        ∙ sym (append-nil (map name_of (rows_shown (take place numbers))))
        ∙ ap (λ one. map name_of (rows_shown (take place numbers)) ++ map name_of (cons_option one [])) (sym is)
        ∙ sym (names_more numbers place in_range)
