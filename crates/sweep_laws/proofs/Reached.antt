-- No text that effects make has the number 0.
use Rattle.std.proofs.Common.{◌≡◌, ℕ, ◌<◌, ◌≤◌, ◌==◌, Bool, true, false, List, [], ◌∷◌, refl, inl, inr, arith, eqb, ltb}
use Rattle.std.proofs.Common.{nat_le, ◌&&◌, length, is_none, cond, not}
use Rattle.std.specs.Prelude.{map}
use Rattle.std.specs.List.{AllByRecursion}
use Rattle.std.proofs.lemmas.Bool.{cases_Bool, cond_both, and_parts, leb-true}
use Rattle.row_table.specs.Tables.{with_row, changed_row}
use Rattle.kom_types.specs.declared.effects.Effect.{Effect}
use Rattle.kom_types.specs.declared.effects.Effect.TheVariants as effect
use Rattle.kom_types.specs.declared.limits.TheConstants.{LAST_DRAWN, LONGEST_BODY}
use Rattle.kom_types.specs.declared.texts.TextRow.{TextRow}
use Rattle.kom_types.specs.tables.Texts.{number_of_text, fresh_text, with_created_local}
use Rattle.kom_types.specs.tables.Texts as Texts
use Rattle.kom_model.specs.Db.{Db, empty_db, text_of}
use Rattle.kom_model.specs.Effects.{fits, after_effect, apply, apply_all, without_number}
use Rattle.sweep_laws.specs.Due.{AreNumbered}
use Rattle.sweep_laws.specs.Swept.{ReachedNumbered}
use Rattle.sweep_laws.proofs.Strong.{all-kept}

all-with : {R : Type 0} (number_of : R → ℕ) (P : R → Type 0) (row : R) (rows : List R) → P row →
    AllByRecursion P rows → AllByRecursion P (with_row number_of row rows)
all-with number_of P row [] here all = (here, tt)
all-with number_of P row (first ∷ rows) here all =
    cond_both (eqb (number_of row) (number_of first)) _ _ (AllByRecursion P) (λ _. (here, all.1))
    (λ _. cond_both (ltb (number_of row) (number_of first)) _ _ (AllByRecursion P) (λ _. (here, all))
    (λ _. (all.0, all-with number_of P row rows here all.1)))

numbered-map : (change : TextRow → TextRow) → ((row : TextRow) → (change row).number ≡ row.number) →
    (rows : List TextRow) → AllByRecursion (λ row. 0 < row.number) rows →
    AllByRecursion (λ row. 0 < row.number) (map change rows)
numbered-map change keeps [] all = tt
numbered-map change keeps (row ∷ rows) all = (rw (keeps row) all.0, numbered-map change keeps rows all.1)

numbered-changed : (number : ℕ) (change : TextRow → TextRow) →
    ((row : TextRow) → (change row).number ≡ row.number) → (rows : List TextRow) →
    AllByRecursion (λ row. 0 < row.number) rows →
    AllByRecursion (λ row. 0 < row.number) (changed_row number_of_text number change rows)
numbered-changed number change keeps rows all =
    numbered-map (λ row. cond (row.number == number) (change row) row) (λ row.
    cond_both (row.number == number) (change row) row (λ made. made.number ≡ row.number) (λ _. keeps row) (λ _. refl))
    rows all

without-kept : (person : ℕ) (row : TextRow) → (without_number person row).number ≡ row.number
without-kept person row = cond_both (row.author == person) (with_created_local 0 row) row
    (λ (made : TextRow). made.number ≡ row.number) (λ _. refl) (λ _. refl)

-- the numbers of texts, and the next one, are above 0
Numbers : Db → Type 0
Numbers db = AreNumbered db × (0 < db.next_text)

text-added : (number next : ℕ) (rest rest' rest'' : Bool) →
    (nat_le next number && rest && rest' && rest'') ≡ true → 0 < next → 0 < number
text-added number next rest rest' rest'' fit positive =
    let one = and_parts (nat_le next number && rest && rest') rest'' fit in
    let two = and_parts (nat_le next number && rest) rest' one.0 in
    let three = and_parts (nat_le next number) rest two.0 in
    let least : next ≤ number = leb-true next number three.0 in
    omega arith

made-numbered : (what : Effect) (db : Db) → fits what db ≡ true → Numbers db → Numbers (after_effect what db)
unfolding fits after_effect Numbers
made-numbered (effect.TextAdded number author at body) db fit is =
    let positive : 0 < number = text-added number db.next_text (nat_le number LAST_DRAWN)
    (is_none (text_of db number)) (nat_le (length body) LONGEST_BODY) fit is.1 in (
      all-with number_of_text (λ (row : TextRow). 0 < row.number) (fresh_text number author at body) db.texts positive
          is.0,
      omega arith,
    )
made-numbered (effect.TextGone number) db fit is =
    (all-kept (λ (row : TextRow). 0 < row.number) (λ row. not (number_of_text row == number)) db.texts is.0, is.1)
made-numbered (effect.PersonGone number) db fit is =
    (numbered-map (without_number number) (without-kept number) db.texts is.0, is.1)
made-numbered (effect.AuxAdded true object item) db fit is =
    (numbered-changed object (Texts.with_item_drawn item.number) (λ row. refl) db.texts is.0, is.1)
made-numbered (effect.Created person local text) db fit is =
    (numbered-changed text (with_created_local local) (λ row. refl) db.texts is.0, is.1)
made-numbered (effect.AuxAdded false object item) db fit is = is
made-numbered other db fit is = is

apply-numbered : (what : Effect) (db : Db) → Numbers db → Numbers (apply what db)
apply-numbered what db is = elim (cases_Bool (fits what db)) [
  | inl fit ↦ rw fit (made-numbered what db fit is)
  | inr unfit ↦ rw unfit is
]

all-numbered : (effects : List Effect) (db : Db) → Numbers db → Numbers (apply_all effects db)
all-numbered [] db is = is
all-numbered (what ∷ effects) db is = all-numbered effects (apply what db) (apply-numbered what db is)

pub reached-numbered : ReachedNumbered
unfolding Numbers
reached-numbered effects =
    let begun : 0 < empty_db.next_text = omega arith in
    (all-numbered effects empty_db (tt, begun)).0
