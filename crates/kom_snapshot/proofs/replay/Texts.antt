-- The texts of a snapshot come again, but for their numbers among those of their authors and of their aux-items.
use Rattle.std.proofs.Common.{◌≡◌, ℕ, ◌+◌, ◌<◌, ◌≤◌, true, List, [], ◌∷◌, ◌++◌, length}
use Rattle.std.proofs.Common.{refl, sym, ◌∙◌, ap, subst, arith, append_assoc}
use Rattle.std.specs.Prelude.{map, is_none}
use Rattle.std.specs.List.{AllByRecursion}
use Rattle.std.proofs.lemmas.Bool.{and_from, le-leb}
use Rattle.std.proofs.lemmas.List.{map-append, append-nil}
use Rattle.row_table.specs.Tables.{row_of, IsByNumber}
use Rattle.kom_types.specs.declared.limits.TheConstants.{LAST_DRAWN, LONGEST_BODY}
use Rattle.kom_types.specs.declared.effects.Effect.{Effect}
use Rattle.kom_types.specs.declared.effects.Effect.TheVariants as effect
use Rattle.kom_types.specs.declared.texts.TextRow.{TextRow}
use Rattle.kom_types.specs.tables.Texts.{number_of_text, fresh_text, lines_of}
use Rattle.kom_model.specs.Db.{Db, text_of}
use Rattle.kom_model.specs.Effects.{fits, after_effect}
use Rattle.kom_model.proofs.whole.Counts.{all-weaker}
use Rattle.kom_snapshot.proofs.replay.Replaying.{Replays, replays-none, replays-one, replays-append}
use Rattle.kom_snapshot.proofs.replay.Tables.{ones, all-at, below-one, above-one, below-mapped, row-last}
use Rattle.kom_snapshot.proofs.replay.Tables.{row-absent, after_all}

-- a text with this number among those of its author, and this next one of its aux-items
abbrev pub text_as : (ℕ → ℕ) → (ℕ → ℕ) → TextRow → TextRow
text_as created items row = record row { created_local = created row.number; next_item = items row.number }

abbrev pub no_one : ℕ → ℕ
no_one number = 0

abbrev pub bare_text : TextRow → TextRow
bare_text = text_as no_one ones

abbrev pub text_effect : TextRow → Effect
text_effect row = effect.TextAdded row.number row.author row.created row.body

module _ (all : List TextRow) (rising : IsByNumber number_of_text all)
    (limited : AllByRecursion (λ row. row.number ≤ LAST_DRAWN) all)
    (short : AllByRecursion (λ row. length row.body ≤ LONGEST_BODY) all)
    (counted : AllByRecursion (λ row. row.lines ≡ lines_of row.body) all) (db : Db) where
  abbrev state : List TextRow → ℕ → Db
  state front next = record db { texts = map bare_text front; next_text = next }

  one : (front : List TextRow) (row : TextRow) (rest : List TextRow) (next : ℕ) →
      front ++ row ∷ rest ≡ all → next ≤ row.number →
      Replays (text_effect row ∷ []) (state front next) (state (front ++ row ∷ []) (row.number + 1))
  unfolding fits after_effect text_of
  one front row rest next same least =
      let below = below-mapped number_of_text bare_text (λ one. refl) row.number front
      (below-one number_of_text front row rest (subst (IsByNumber number_of_text) (sym same) rising)) in
      let at : (P : TextRow → Type 0) → AllByRecursion P all → P row =
      λ P holds. all-at P front row rest (subst (AllByRecursion P) (sym same) holds) in
      let absent : is_none (row_of number_of_text row.number (map bare_text front)) ≡ true =
      ap is_none (row-absent number_of_text row.number (map bare_text front) below) in
      let fresh : TextRow = fresh_text row.number row.author row.created row.body in
      let bare : fresh ≡ bare_text row = ap (λ n. record (bare_text row) { lines = n })
      (sym (at (λ row. row.lines ≡ lines_of row.body) counted)) in
      replays-one _ _ _
      (and_from _ _ (and_from _ _ (and_from _ _ (le-leb next row.number least)
      (le-leb row.number LAST_DRAWN (at (λ row. row.number ≤ LAST_DRAWN) limited))) absent)
      (le-leb (length row.body) LONGEST_BODY (at (λ row. length row.body ≤ LONGEST_BODY) short)))
      (ap (λ rows. record db { texts = rows; next_text = row.number + 1 })
      (row-last number_of_text fresh (map bare_text front) below
      ∙ ap (λ (row : TextRow). map bare_text front ++ row ∷ []) bare
      ∙ sym (map-append bare_text front (row ∷ []))))

  pub texts-again : (front rest : List TextRow) (next : ℕ) → front ++ rest ≡ all →
      AllByRecursion (λ row. next ≤ row.number) rest →
      Replays (map text_effect rest) (state front next) (state all (after_all number_of_text next rest))
  texts-again front [] next same least =
      subst (λ rows. Replays [] (state front next) (state rows next)) (sym (append-nil front) ∙ same)
      (replays-none (state front next))
  texts-again front (row ∷ rest) next same least =
      let rising' = subst (IsByNumber number_of_text) (sym same) rising in
      replays-append (text_effect row ∷ []) (map text_effect rest) _ _ _ (one front row rest next same least.0)
      (texts-again (front ++ row ∷ []) rest (row.number + 1) (append_assoc front (row ∷ []) rest ∙ same)
      (all-weaker (λ one. row.number < one.number) (λ one. row.number + 1 ≤ one.number)
      (λ one less. omega (arith, less)) rest (above-one number_of_text front row rest rising')))
