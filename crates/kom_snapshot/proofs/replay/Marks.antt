-- The marks of a snapshot come again.
use Rattle.std.proofs.Common.{◌≡◌, ℕ, ◌≤◌, true, ◌==◌, List, [], ◌∷◌, ◌++◌, length}
use Rattle.std.proofs.Common.{None, refl, sym, ◌∙◌, ap, subst, append_assoc, arith}
use Rattle.std.specs.Prelude.{map, is_some}
use Rattle.std.specs.List.{AllByRecursion, filter}
use Rattle.std.proofs.lemmas.Bool.{or_right, and_from, lt-ltb, eq-eqb}
use Rattle.std.proofs.lemmas.List.{append-nil}
use Rattle.row_table.specs.Tables.{row_of}
use Rattle.kom_types.specs.declared.limits.TheConstants.{MOST_MARKS}
use Rattle.kom_types.specs.declared.effects.Effect.{Effect}
use Rattle.kom_types.specs.declared.effects.Effect.TheVariants as effect
use Rattle.kom_types.specs.declared.persons.PersonRow.{PersonRow}
use Rattle.kom_types.specs.declared.texts.MarkRow.{MarkRow}
use Rattle.kom_types.specs.declared.texts.TextRow.{TextRow}
use Rattle.kom_types.specs.tables.Persons.{number_of_person}
use Rattle.kom_types.specs.tables.Texts as Texts
use Rattle.kom_types.specs.tables.Texts.{number_of_text, is_mark}
use Rattle.kom_model.specs.Db.{Db, text_of, person_of, mark_of, marks_of}
use Rattle.kom_model.specs.Effects.{fits, after_effect}
use Rattle.kom_model.specs.Whole.{AreMarks, has_text, has_person}
use Rattle.kom_model.proofs.whole.Marks.{count-marks}
use Rattle.kom_snapshot.proofs.replay.Replaying.{Replays, replays-none, replays-one, replays-append}
use Rattle.kom_snapshot.proofs.replay.Tables.{all-at, none-before, room-before}

abbrev pub mark_effect : MarkRow → Effect
mark_effect row = effect.MarkSet row.person row.text row.kind

module _ (all : List MarkRow) (persons : List PersonRow) (texts : List TextRow) (whole : AreMarks all persons texts)
    (db : Db)
    (there : (person : ℕ) → has_person persons person ≡ true →
    is_some (row_of number_of_person person db.persons) ≡ true)
    (written : (text : ℕ) → has_text texts text ≡ true → is_some (row_of number_of_text text db.texts) ≡ true) where
  abbrev state : List MarkRow → Db
  state front = record db { marks = front }

  one : (front : List MarkRow) (row : MarkRow) (rest : List MarkRow) → front ++ row ∷ rest ≡ all →
      Replays (mark_effect row ∷ []) (state front) (state (front ++ row ∷ []))
  unfolding fits after_effect text_of person_of mark_of marks_of
  one front row rest same =
      let at : (P : MarkRow → Type 0) → AllByRecursion P all → P row =
      λ P holds. all-at P front row rest (subst (AllByRecursion P) (sym same) holds) in
      let none : Texts.mark_of row.person row.text front ≡ None =
      none-before (is_mark row.person row.text) front row rest
      (subst (λ l. length (filter (is_mark row.person row.text) l) ≤ 1) (sym same) (whole.once row.person row.text))
      (and_from _ _ (eq-eqb row.person row.person refl) (eq-eqb row.text row.text refl)) in
      let room = room-before (λ one. one.person == row.person) MOST_MARKS front row rest
      (subst (λ l. length (filter (λ (one : MarkRow). one.person == row.person) l) ≤ MOST_MARKS) (sym same)
      (whole.limited row.person)) (eq-eqb row.person row.person refl) in
      let count = count-marks row.person front in
      replays-one (mark_effect row) (state front) (state (front ++ row ∷ []))
      (and_from _ _ (and_from _ _ (there row.person (at (λ row. has_person persons row.person ≡ true)
      whole.person_there)) (written row.text (at (λ row. has_text texts row.text ≡ true) whole.text_there)))
      (or_right _ _ (lt-ltb (length (Texts.marks_of row.person front)) MOST_MARKS (omega (arith, room, count)))))
      (ap (λ marks. record db { marks = marks }) (rw none refl))

  pub marks-again : (front rest : List MarkRow) → front ++ rest ≡ all →
      Replays (map mark_effect rest) (state front) (state all)
  marks-again front [] same =
      subst (λ rows. Replays [] (state front) (state rows)) (sym (append-nil front) ∙ same) (replays-none (state front))
  marks-again front (row ∷ rest) same =
      replays-append (mark_effect row ∷ []) (map mark_effect rest) _ _ _ (one front row rest same)
      (marks-again (front ++ row ∷ []) rest (append_assoc front (row ∷ []) rest ∙ same))
