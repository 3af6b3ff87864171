-- What effects make under a mask hangs on those alone that the mask does not hide.
use Rattle.std.proofs.Common.{◌≡◌, ℕ, true, cond, not, ◌==◌, List, [], ◌∷◌, refl, sym, ap, ◌∙◌}
use Rattle.std.proofs.Common.{inl, inr, nat_lt}
use Rattle.std.specs.Prelude.{map}
use Rattle.std.specs.List.{filter}
use Rattle.std.proofs.lemmas.Bool.{cases_Bool, and_parts}
use Rattle.row_table.specs.Tables.{with_row}
use Rattle.kom_types.specs.declared.effects.Effect.{Effect}
use Rattle.kom_types.specs.declared.effects.Effect.TheVariants as effect
use Rattle.kom_types.specs.declared.texts.TextRow.{TextRow}
use Rattle.kom_types.specs.tables.Texts.{number_of_text, fresh_text}
use Rattle.kom_model.specs.Db.{Db}
use Rattle.kom_model.specs.Effects.{fits, after_effect, apply, apply_all, all_fit}
use Rattle.kom_laws.specs.masking.Masks.{Mask, masked_db, masked_text}
use Rattle.kom_laws.proofs.masking.Effects.{effect-masked, same-db}
use Rattle.kom_laws.proofs.masking.Stepping.{wider-masked}
use Rattle.noninterference.specs.respect.Vanishing.{is_masked}
use Rattle.noninterference.proofs.respect.Vanishing.{hidden-vanish}

module _ (mask : Mask) where
  -- effects one after the other, over rows without what is masked
  abbrev runs : List Effect → Db → Db
  runs [] db = db
  runs (what ∷ effects) db = runs effects (masked_db mask (after_effect what db))

  -- the effects of which the mask leaves something
  abbrev pub left : List Effect → List Effect
  left effects = filter (λ what. not (is_masked mask what)) effects

  masked-twice : (db : Db) → masked_db mask (masked_db mask db) ≡ masked_db mask db
  masked-twice db = wider-masked mask mask db (record {
    conference = λ number hidden. hidden;
    text = λ number hidden. hidden;
    person = λ number hidden. hidden;
  })

  runs-made : (effects : List Effect) (db : Db) → all_fit effects db ≡ true →
      masked_db mask (apply_all effects db) ≡ runs effects (masked_db mask db)
  runs-made [] db fit = refl
  runs-made (what ∷ effects) db fit =
      let parts = and_parts (fits what db) (all_fit effects (apply what db)) fit in
      let once : apply what db ≡ after_effect what db = rw parts.0 refl in
      runs-made effects (apply what db) parts.1
      ∙ ap (λ (db : Db). runs effects (masked_db mask db)) once
      ∙ ap (runs effects) (sym (effect-masked mask db what))

  runs-left : (effects : List Effect) (db : Db) →
      runs effects (masked_db mask db) ≡ runs (left effects) (masked_db mask db)
  runs-left [] db = refl
  runs-left (what ∷ effects) db = elim (cases_Bool (is_masked mask what)) [
    | inl hidden ↦
        let still : masked_db mask (after_effect what (masked_db mask db)) ≡ masked_db mask db =
        hidden-vanish.effect mask (masked_db mask db) what hidden ∙ masked-twice db in
        ap (runs effects) still ∙ runs-left effects db
        ∙ sym (ap (λ stays. runs (cond stays (what ∷ left effects) (left effects)) (masked_db mask db))
        (ap not hidden))
    | inr shown ↦ runs-left effects (after_effect what (masked_db mask db))
        ∙ sym (ap (λ stays. runs (cond stays (what ∷ left effects) (left effects)) (masked_db mask db))
        (ap not shown))
  ]

  -- a text that is made and hidden, whatever its body is
  module _ (number author at : ℕ) (body body' : List ℕ) (hidden : mask.text number ≡ true) where
    text-blank : masked_text mask (fresh_text number author at body)
        ≡ masked_text mask (fresh_text number author at body')
    text-blank = rw hidden refl

    text-placed : (rows : List TextRow) →
        map (masked_text mask) (with_row number_of_text (fresh_text number author at body) rows)
        ≡ map (masked_text mask) (with_row number_of_text (fresh_text number author at body') rows)
    text-placed [] = ap (λ (row : TextRow). row ∷ []) text-blank
    text-placed (first ∷ rows) = elim (cases_Bool (number == first.number)) [
      | inl here ↦ rw here (ap (λ (row : TextRow). row ∷ map (masked_text mask) rows) text-blank)
      | inr there ↦ elim (cases_Bool (nat_lt number first.number)) [
        | inl before ↦ rw (there, before)
            (ap (λ (row : TextRow). row ∷ masked_text mask first ∷ map (masked_text mask) rows) text-blank)
        | inr after ↦ rw (there, after)
            (ap (λ (rows : List TextRow). masked_text mask first ∷ rows) (text-placed rows))
      ]
    ]

    text-made : (db : Db) → masked_db mask (after_effect (effect.TextAdded number author at body) db)
        ≡ masked_db mask (after_effect (effect.TextAdded number author at body') db)
    unfolding after_effect
    text-made db = same-db refl refl refl refl (text-placed db.texts) refl refl refl refl refl refl

  -- So the same is left of two texts that are made, whatever their bodies are, where the same is left of the effects
  -- after them.
  pub texts-masked : (number author at : ℕ) (body body' : List ℕ) (effects effects' : List Effect) (one other : Db) →
      mask.text number ≡ true → left effects ≡ left effects' →
      all_fit (effect.TextAdded number author at body ∷ effects) one ≡ true →
      all_fit (effect.TextAdded number author at body' ∷ effects') other ≡ true →
      masked_db mask one ≡ masked_db mask other →
      masked_db mask (apply_all (effect.TextAdded number author at body ∷ effects) one)
      ≡ masked_db mask (apply_all (effect.TextAdded number author at body' ∷ effects') other)
  texts-masked number author at body body' effects effects' one other hidden same fit fit' before =
      let text : Effect = effect.TextAdded number author at body in
      let text' : Effect = effect.TextAdded number author at body' in
      runs-made (text ∷ effects) one fit
      ∙ ap (λ (db : Db). runs effects (masked_db mask (after_effect text db))) before
      ∙ ap (runs effects) (text-made number author at body body' hidden (masked_db mask other))
      ∙ runs-left effects (after_effect text' (masked_db mask other))
      ∙ ap (λ effects. runs effects (masked_db mask (after_effect text' (masked_db mask other)))) same
      ∙ sym (runs-left effects' (after_effect text' (masked_db mask other)))
      ∙ sym (runs-made (text' ∷ effects') other fit')
