-- What is found in rows without some texts.
use Rattle.std.proofs.Common.{◌≡◌, ℕ, ◌==◌, ◌||◌, ◌&&◌, Bool, true, false, not, List, None, refl, ap, ◌∙◌}
use Rattle.std.proofs.Common.{eqb-true}
use Rattle.std.specs.Prelude.{map}
use Rattle.std.specs.List.{filter}
use Rattle.std.proofs.lemmas.Bool.{and_parts}
use Rattle.kom_types.specs.Bits.{alike}
use Rattle.kom_types.specs.declared.aux_items.ItemRow.{ItemRow}
use Rattle.kom_types.specs.declared.texts.TextLink.{TextLink}
use Rattle.kom_types.specs.declared.texts.TextRow.{TextRow}
use Rattle.kom_types.specs.tables.AuxItems.{is_item_of}
use Rattle.kom_model.specs.Db.{Db, text_of, recipients_of, marks_on, items_of, links_from, links_into, conferences_of}
use Rattle.kom_laws.proofs.masking.Rows.{filter-thinned, find-thinned}
use Rattle.sweep_laws.specs.Without.{stays, stays_link, stays_item, without_texts, IsWithout}
use Rattle.sweep_laws.specs.Left.{IsLeft, LeavesRest}
use Rattle.sweep_laws.proofs.Kept.{find-dropped, filter-swapped}

-- what is read of the rows but of persons
abbrev left : List ℕ → Db → Db → Db
left gone old new = record (without_texts gone old) { persons = new.persons }

-- a row of this number stays, or goes, as the number does
as-number : (gone : List ℕ) (text number : ℕ) → (number == text) ≡ true → stays gone number ≡ stays gone text
as-number gone text number same = ap (stays gone) (eqb-true number text same)

module _ (gone : List ℕ) (old new : Db) (text : ℕ) (is : IsWithout gone old new) where
  pub text-gone : stays gone text ≡ false → text_of new text ≡ None
  unfolding text_of
  text-gone goes = ap (λ (db : Db). text_of db text) is.rows
      ∙ find-dropped (λ (row : TextRow). row.number == text) (λ row. stays gone row.number)
      (λ row here. as-number gone text row.number here ∙ goes) old.texts

  pub text-left : stays gone text ≡ true → text_of new text ≡ text_of old text
  unfolding text_of
  text-left stay = ap (λ (db : Db). text_of db text) is.rows
      ∙ find-thinned (λ (row : TextRow). row.number == text) (λ row. stays gone row.number)
      (λ row here. as-number gone text row.number here ∙ stay) old.texts

  recipients-left : stays gone text ≡ true → recipients_of new text ≡ recipients_of old text
  unfolding recipients_of
  recipients-left stay = ap (λ (db : Db). recipients_of db text) is.rows
      ∙ filter-thinned (λ row. row.text == text) (λ row. stays gone row.text)
      (λ row here. as-number gone text row.text here ∙ stay) old.recipients

  marks-left : stays gone text ≡ true → marks_on new text ≡ marks_on old text
  unfolding marks_on
  marks-left stay = ap (λ (db : Db). marks_on db text) is.rows
      ∙ filter-thinned (λ row. row.text == text) (λ row. stays gone row.text)
      (λ row here. as-number gone text row.text here ∙ stay) old.marks

  item-stays : stays gone text ≡ true → (row : ItemRow) → is_item_of true text row ≡ true → stays_item gone row ≡ true
  item-stays stay row here =
      let parts = and_parts (alike row.on_text true) (row.object == text) here in
      or-true (not row.on_text) (stays gone row.object) (as-number gone text row.object parts.1 ∙ stay) where
        or-true : (a b : Bool) → b ≡ true → (a || b) ≡ true
        or-true true b holds = refl
        or-true false b holds = holds

  items-left : stays gone text ≡ true → items_of new true text ≡ items_of old true text
  unfolding items_of
  items-left stay = ap (λ (db : Db). items_of db true text) is.rows
      ∙ ap (λ (rows : List ItemRow). map (λ (row : ItemRow). row.item) rows)
      (filter-thinned (is_item_of true text) (stays_item gone) (item-stays stay) old.items)

  from-stays : stays gone text ≡ true → (footnote : Bool) (row : TextLink) →
      (row.child == text && alike row.footnote footnote) ≡ true → stays_link gone row ≡ stays gone row.parent
  from-stays stay footnote row here =
      let parts = and_parts (row.child == text) (alike row.footnote footnote) here in
      ap (λ (b : Bool). b && stays gone row.parent) (as-number gone text row.child parts.0 ∙ stay)

  from-left : stays gone text ≡ true → (footnote : Bool) → links_from new text footnote
      ≡ filter (λ row. stays gone row.parent) (links_from old text footnote)
  unfolding links_from
  from-left stay footnote = ap (λ (db : Db). links_from db text footnote) is.rows
      ∙ filter-swapped (λ (row : TextLink). row.child == text && alike row.footnote footnote) (stays_link gone)
      (λ row. stays gone row.parent) (from-stays stay footnote) old.links

  into-stays : stays gone text ≡ true → (footnote : Bool) (row : TextLink) →
      (row.parent == text && alike row.footnote footnote) ≡ true → stays_link gone row ≡ stays gone row.child
  into-stays stay footnote row here =
      let parts = and_parts (row.parent == text) (alike row.footnote footnote) here in
      ap (λ (b : Bool). stays gone row.child && b) (as-number gone text row.parent parts.0 ∙ stay)
      ∙ and-true (stays gone row.child) where
        and-true : (b : Bool) → (b && true) ≡ b
        and-true true = refl
        and-true false = refl

  into-left : stays gone text ≡ true → (footnote : Bool) → links_into new text footnote
      ≡ filter (λ row. stays gone row.child) (links_into old text footnote)
  unfolding links_into
  into-left stay footnote = ap (λ (db : Db). links_into db text footnote) is.rows
      ∙ filter-swapped (λ (row : TextLink). row.parent == text && alike row.footnote footnote) (stays_link gone)
      (λ row. stays gone row.child) (into-stays stay footnote) old.links

  is-left : stays gone text ≡ true → IsLeft gone old new text
  is-left stay = record {
    row = text-left stay;
    recipients = recipients-left stay;
    marks = marks-left stay;
    items = items-left stay;
    links_from = from-left stay;
    links_into = into-left stay;
  }

conferences-left : (gone : List ℕ) (old new : Db) → IsWithout gone old new → conferences_of new ≡ conferences_of old
unfolding conferences_of
conferences-left gone old new is = ap (λ (db : Db). db.conferences) is.rows

pub leaves-rest : LeavesRest
leaves-rest = record {
  gone = λ gone old new text is goes. text-gone gone old new text is goes;
  left = λ gone old new text is stay. is-left gone old new text is stay;
  conferences = conferences-left;
}
