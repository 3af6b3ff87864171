-- The conferences of a snapshot come again, but for their next numbers.
use Rattle.std.proofs.Common.{◌≡◌, ℕ, ◌+◌, ◌<◌, ◌≤◌, Bool, true, false, not, ◌==◌, ◌&&◌, List, [], ◌∷◌, ◌++◌, length}
use Rattle.std.proofs.Common.{Option, Some, None, refl, sym, ◌∙◌, ap, subst, arith, append_assoc}
use Rattle.std.specs.Prelude.{map, flat_map, is_none}
use Rattle.std.specs.List.{AllByRecursion, list_any}
use Rattle.std.proofs.lemmas.Bool.{and_from, le-leb, not_from_false}
use Rattle.std.proofs.lemmas.List.{map-append, append-nil}
use Rattle.row_table.specs.Tables.{row_of, IsByNumber}
use Rattle.kom_types.specs.declared.limits.TheConstants.{LAST_CONFERENCE, LONGEST_NAME}
use Rattle.kom_types.specs.declared.conferences.ConferenceRow.{ConferenceRow}
use Rattle.kom_types.specs.declared.effects.ConfField.{ConfField}
use Rattle.kom_types.specs.declared.effects.ConfField.TheVariants as field
use Rattle.kom_types.specs.declared.effects.Effect.{Effect}
use Rattle.kom_types.specs.declared.effects.Effect.TheVariants as effect
use Rattle.kom_types.specs.Names.{clash}
use Rattle.kom_types.specs.tables.Conferences as Conferences
use Rattle.kom_types.specs.tables.Conferences.{number_of_conference, fresh_conference, is_secret_protected}
use Rattle.kom_model.specs.Db.{Db, conference_of, conferences_of}
use Rattle.kom_model.specs.Effects.{fits, after_effect, may_set}
use Rattle.kom_model.specs.Whole.{is_apart}
use Rattle.kom_model.proofs.whole.Counts.{all-weaker}
use Rattle.kom_snapshot.specs.Snap.{conference_effects}
use Rattle.kom_snapshot.proofs.replay.Replaying.{Replays, replays-none, replays-one, replays-append}
use Rattle.kom_snapshot.proofs.replay.Tables.{ones, AllBelow, all-at, any-front, any-mapped, below-one, above-one}
use Rattle.kom_snapshot.proofs.replay.Tables.{below-mapped, row-last, row-there, row-absent, row-changed, after_all}

-- a conference with these next numbers of its own and of its aux-items
abbrev pub conf_as : (ℕ → ℕ) → (ℕ → ℕ) → ConferenceRow → ConferenceRow
conf_as locals items row = record row { next_local = locals row.number; next_item = items row.number }

abbrev pub bare_conference : ConferenceRow → ConferenceRow
bare_conference = conf_as ones ones

abbrev pub conferences_in : Db → List ConferenceRow → Db
conferences_in db rows = record db { conferences = rows }

-- the last conference has a field set
field-step : (db : Db) (front : List ConferenceRow) (row : ConferenceRow) (what : ConfField) →
    AllBelow number_of_conference row.number front → may_set what row ≡ true →
    Replays (effect.ConfField row.number what ∷ []) (conferences_in db (front ++ row ∷ []))
    (conferences_in db (front ++ Conferences.with_field what row ∷ []))
unfolding fits after_effect conference_of
field-step db front row what below may = replays-one (effect.ConfField row.number what)
    (conferences_in db (front ++ row ∷ [])) (conferences_in db (front ++ Conferences.with_field what row ∷ []))
    (subst (λ (found : Option ConferenceRow). (elim found [ None ↦ false | Some row ↦ may_set what row ]) ≡ true)
    (sym (row-there number_of_conference row front [] below)) may)
    (ap (conferences_in db) (row-changed number_of_conference row (Conferences.with_field what) front [] below tt))

-- the names of those before it do not clash with that of a conference
free-name : (front : List ConferenceRow) (row : ConferenceRow) (rest : List ConferenceRow) →
    is_apart (front ++ row ∷ rest) row ≡ true →
    not (list_any (λ one. not (one.number == row.number) && clash one.name row.name) (map bare_conference front)) ≡ true
free-name front row rest apart =
    let test : ConferenceRow → Bool = λ one. not (one.number == row.number) && clash one.name row.name in
    let none : list_any test (front ++ row ∷ rest) ≡ false = off (list_any test (front ++ row ∷ rest)) apart in
    not_from_false (list_any test (map bare_conference front))
    (any-mapped test test bare_conference (λ one. refl) front ∙ any-front test front (row ∷ rest) none)
  where
    off : (b : Bool) → not b ≡ true → b ≡ false
    off true is = sym is
    off false is = refl

module _ (all : List ConferenceRow) (rising : IsByNumber number_of_conference all)
    (limited : AllByRecursion (λ row. row.number ≤ LAST_CONFERENCE) all)
    (short : AllByRecursion (λ row. length row.name ≤ LONGEST_NAME) all)
    (apart : AllByRecursion (λ row. is_apart all row ≡ true) all)
    (protected : AllByRecursion (λ row. is_secret_protected row.kind ≡ true) all) where
  abbrev state : Db → List ConferenceRow → ℕ → Db
  state db front next = record db { conferences = map bare_conference front; next_conference = next }

  added : (db : Db) (front : List ConferenceRow) (row : ConferenceRow) (rest : List ConferenceRow) (next : ℕ) →
      front ++ row ∷ rest ≡ all → next ≤ row.number →
      Replays (effect.ConfAdded row.number row.name row.kind row.created row.creator row.supervisor ∷ [])
      (state db front next)
      (record db {
        conferences = map bare_conference front
            ++ fresh_conference row.number row.name row.kind row.created row.creator row.supervisor ∷ [];
        next_conference = row.number + 1;
      })
  unfolding fits after_effect conference_of conferences_of
  added db front row rest next same least =
      let below = below-mapped number_of_conference bare_conference (λ one. refl) row.number front
      (below-one number_of_conference front row rest (subst (IsByNumber number_of_conference) (sym same) rising)) in
      let at : (P : ConferenceRow → Type 0) → AllByRecursion P all → P row =
      λ P holds. all-at P front row rest (subst (AllByRecursion P) (sym same) holds) in
      let absent : is_none (row_of number_of_conference row.number (map bare_conference front)) ≡ true =
      ap is_none (row-absent number_of_conference row.number (map bare_conference front) below) in
      let free = free-name front row rest (subst (λ rows. is_apart rows row ≡ true) (sym same)
      (at (λ row. is_apart all row ≡ true) apart)) in
      replays-one _ _ _
      (and_from _ _ (and_from _ _ (and_from _ _ (and_from _ _ (le-leb next row.number least)
      (le-leb row.number LAST_CONFERENCE (at (λ row. row.number ≤ LAST_CONFERENCE) limited))) absent)
      (and_from _ _ (le-leb (length row.name) LONGEST_NAME (at (λ row. length row.name ≤ LONGEST_NAME) short)) free))
      (at (λ row. is_secret_protected row.kind ≡ true) protected))
      (ap (λ rows. record db { conferences = rows; next_conference = row.number + 1 })
      (row-last number_of_conference
      (fresh_conference row.number row.name row.kind row.created row.creator row.supervisor)
      (map bare_conference front) below))

  set : (db : Db) (front : List ConferenceRow) (row : ConferenceRow) → AllBelow number_of_conference row.number front →
      (let fresh : ConferenceRow =
      fresh_conference row.number row.name row.kind row.created row.creator row.supervisor in
      Replays (effect.ConfField row.number (field.Presentation row.presentation)
      ∷ effect.ConfField row.number (field.Motd row.motd)
      ∷ effect.ConfField row.number (field.PermittedSubmitters row.submitters)
      ∷ effect.ConfField row.number (field.SuperConference row.super_conference)
      ∷ effect.ConfField row.number (field.Nice row.nice)
      ∷ effect.ConfField row.number (field.KeepCommented row.keep_commented)
      ∷ effect.ConfField row.number (field.Expire row.expire)
      ∷ effect.ConfField row.number (field.LastWritten row.last_written)
      ∷ []) (conferences_in db (front ++ fresh ∷ [])) (conferences_in db (front ++ bare_conference row ∷ [])))
  set db front row below =
      let one : ConferenceRow = fresh_conference row.number row.name row.kind row.created row.creator row.supervisor in
      let two = Conferences.with_field (field.Presentation row.presentation) one in
      let three = Conferences.with_field (field.Motd row.motd) two in
      let four = Conferences.with_field (field.PermittedSubmitters row.submitters) three in
      let five = Conferences.with_field (field.SuperConference row.super_conference) four in
      let six = Conferences.with_field (field.Nice row.nice) five in
      let seven = Conferences.with_field (field.KeepCommented row.keep_commented) six in
      let eight = Conferences.with_field (field.Expire row.expire) seven in
      replays-append _ _ _ _ _ (field-step db front one (field.Presentation row.presentation) below refl)
      (replays-append _ _ _ _ _ (field-step db front two (field.Motd row.motd) below refl)
      (replays-append _ _ _ _ _ (field-step db front three (field.PermittedSubmitters row.submitters) below refl)
      (replays-append _ _ _ _ _ (field-step db front four (field.SuperConference row.super_conference) below refl)
      (replays-append _ _ _ _ _ (field-step db front five (field.Nice row.nice) below refl)
      (replays-append _ _ _ _ _ (field-step db front six (field.KeepCommented row.keep_commented) below refl)
      (replays-append _ _ _ _ _ (field-step db front seven (field.Expire row.expire) below refl)
      (field-step db front eight (field.LastWritten row.last_written) below refl)))))))

  one : (db : Db) (front : List ConferenceRow) (row : ConferenceRow) (rest : List ConferenceRow) (next : ℕ) →
      front ++ row ∷ rest ≡ all → next ≤ row.number →
      Replays (conference_effects row) (state db front next) (state db (front ++ row ∷ []) (row.number + 1))
  one db front row rest next same least =
      let below = below-mapped number_of_conference bare_conference (λ one. refl) row.number front
      (below-one number_of_conference front row rest (subst (IsByNumber number_of_conference) (sym same) rising)) in
      let all_but_first : List Effect = effect.ConfField row.number (field.Presentation row.presentation)
      ∷ effect.ConfField row.number (field.Motd row.motd)
      ∷ effect.ConfField row.number (field.PermittedSubmitters row.submitters)
      ∷ effect.ConfField row.number (field.SuperConference row.super_conference)
      ∷ effect.ConfField row.number (field.Nice row.nice)
      ∷ effect.ConfField row.number (field.KeepCommented row.keep_commented)
      ∷ effect.ConfField row.number (field.Expire row.expire)
      ∷ effect.ConfField row.number (field.LastWritten row.last_written)
      ∷ [] in
      subst (λ (rows : List ConferenceRow). Replays (conference_effects row) (state db front next)
      (record db { conferences = rows; next_conference = row.number + 1 }))
      (sym (map-append bare_conference front (row ∷ [])))
      (replays-append
      (effect.ConfAdded row.number row.name row.kind row.created row.creator row.supervisor ∷ [])
      all_but_first _ _ _
      (added db front row rest next same least)
      (set (record db { next_conference = row.number + 1 }) (map bare_conference front) row below))

  pub conferences-again : (db : Db) (front rest : List ConferenceRow) (next : ℕ) → front ++ rest ≡ all →
      AllByRecursion (λ row. next ≤ row.number) rest →
      Replays (flat_map conference_effects rest) (state db front next)
      (state db all (after_all number_of_conference next rest))
  conferences-again db front [] next same least =
      subst (λ rows. Replays [] (state db front next) (state db rows next)) (sym (append-nil front) ∙ same)
      (replays-none (state db front next))
  conferences-again db front (row ∷ rest) next same least =
      let rising' = subst (IsByNumber number_of_conference) (sym same) rising in
      replays-append (conference_effects row) (flat_map conference_effects rest) _ _ _
      (one db front row rest next same least.0)
      (conferences-again db (front ++ row ∷ []) rest (row.number + 1)
      (append_assoc front (row ∷ []) rest ∙ same)
      (all-weaker (λ one. row.number < one.number) (λ one. row.number + 1 ≤ one.number)
      (λ one less. omega (arith, less)) rest (above-one number_of_conference front row rest rising')))
