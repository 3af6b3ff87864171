-- What the effects of delete-text make of whole rows.
use Rattle.std.proofs.Common.{◌≡◌, ℕ, ◌==◌, ◌||◌, ◌&&◌, Bool, true, false, not, List, [], ◌∷◌, ◌++◌, refl, sym, ap, ◌∙◌}
use Rattle.std.proofs.Common.{inl, inr, subst, eqb-true, eq-eqb, append_assoc, true≢false}
use Rattle.std.specs.Prelude.{map, is_some}
use Rattle.std.specs.List.{AllByRecursion, filter, list_any}
use Rattle.std.proofs.lemmas.Bool.{cases_Bool, and_parts, and_from, false_from_ne_true}
use Rattle.kom_types.specs.Bits.{alike}
use Rattle.kom_types.specs.declared.aux_items.AuxRow.{AuxRow}
use Rattle.kom_types.specs.declared.aux_items.ItemRow.{ItemRow}
use Rattle.kom_types.specs.declared.effects.Effect.{Effect}
use Rattle.kom_types.specs.declared.effects.Effect.TheVariants as effect
use Rattle.kom_types.specs.declared.texts.MarkRow.{MarkRow}
use Rattle.kom_types.specs.declared.texts.Recipient.{Recipient}
use Rattle.kom_types.specs.declared.texts.TextLink.{TextLink}
use Rattle.kom_types.specs.declared.texts.TextRow.{TextRow}
use Rattle.kom_types.specs.tables.AuxItems.{is_item, is_item_of}
use Rattle.kom_types.specs.tables.Texts.{is_link, is_recipient, is_mark}
use Rattle.kom_model.specs.Db.{Db, text_of, links_of, recipients_of, marks_on, items_of}
use Rattle.kom_model.specs.Effects.{fits, after_effect, apply, apply_all, all_fit}
use Rattle.kom_model.specs.Whole.{IsWhole}
use Rattle.kom_model.specs.calls.Texts.{gone_text}
use Rattle.kom_model.proofs.whole.Counts.{all-weaker}
use Rattle.kom_laws.proofs.fitting.Deleting.{gone_text-fits, map-through}
use Rattle.kom_laws.proofs.masking.Effects.{same-db}
use Rattle.sweep_laws.specs.Without.{stays, stays_link, stays_item, without_texts}
use Rattle.sweep_laws.proofs.Kept.{filter-alike, filter-same, filter-both, stays-one}

-- ---- rows that are taken away one by one
module _ {X : Type 0} (same : X → X → Bool) where
  -- rows without these, one by one
  abbrev minus : List X → List X → List X
  minus [] rows = rows
  minus (x ∷ todo) rows = minus todo (filter (λ row. not (same x row)) rows)

  not-or : (one other : Bool) → not (one || other) ≡ (not one && not other)
  not-or true other = refl
  not-or false other = refl

  keep-all : (rows : List X) → rows ≡ filter (λ row. not (list_any (λ x. same x row) [])) rows
  keep-all [] = refl
  keep-all (row ∷ rows) = ap (λ others. row ∷ others) (keep-all rows)

  minus-kept : (todo rows : List X) → minus todo rows ≡ filter (λ row. not (list_any (λ x. same x row) todo)) rows
  minus-kept [] rows = keep-all rows
  minus-kept (x ∷ todo) rows = minus-kept todo (filter (λ row. not (same x row)) rows)
      ∙ filter-both (λ row. not (same x row)) (λ row. not (list_any (λ x. same x row) todo))
      (λ row. not (same x row || list_any (λ x. same x row) todo))
      (λ row. not-or (same x row) (list_any (λ x. same x row) todo)) rows

  -- effects that fit, each of which takes one away
  removed : (gone : X → Effect) (put : List X → Db) →
      ((x : X) (rows : List X) → after_effect (gone x) (put rows) ≡ put (filter (λ row. not (same x row)) rows)) →
      (rest : List Effect) (todo rows : List X) → all_fit (map gone todo ++ rest) (put rows) ≡ true →
      (apply_all (map gone todo ++ rest) (put rows) ≡ apply_all rest (put (minus todo rows)))
      × (all_fit rest (put (minus todo rows)) ≡ true)
  removed gone put make rest [] rows fit = (refl, fit)
  removed gone put make rest (x ∷ todo) rows fit =
      let parts = and_parts (fits (gone x) (put rows)) (all_fit (map gone todo ++ rest) (apply (gone x) (put rows)))
      fit in
      let here : fits (gone x) (put rows) ≡ true = parts.0 in
      let left : apply (gone x) (put rows) ≡ put (filter (λ row. not (same x row)) rows) = rw here (make x rows) in
      let after : all_fit (map gone todo ++ rest) (put (filter (λ row. not (same x row)) rows)) ≡ true =
      subst (λ (db : Db). all_fit (map gone todo ++ rest) db ≡ true) left parts.1 in
      let others = removed gone put make rest todo (filter (λ row. not (same x row)) rows) after in
      (ap (λ (db : Db). apply_all (map gone todo ++ rest) db) left ∙ others.0, others.1)

  -- those that pass a test, each of which is the same as itself, and as others that pass alone
  module _ (test : X → Bool) (own : (x : X) → test x ≡ true → same x x ≡ true)
      (key : (x row : X) → test x ≡ true → same x row ≡ true → test row ≡ true) where
    any-more : (first : X) (row : X) (rows : List X) → list_any (λ x. same x row) (filter test rows) ≡ true →
        list_any (λ x. same x row) (filter test (first ∷ rows)) ≡ true
    any-more first row rows is = elim (cases_Bool (test first)) [
      | inl passes ↦ elim (cases_Bool (same first row)) [
        | inl here ↦ rw passes (rw here refl)
        | inr there ↦ rw passes (rw there is)
      ]
      | inr fails ↦ rw fails is
    ]

    any-first : (row : X) (rows : List X) → test row ≡ true →
        list_any (λ x. same x row) (filter test (row ∷ rows)) ≡ true
    any-first row rows passes = rw passes (rw (own row passes) refl)

    any-own : (rows : List X) →
        AllByRecursion (λ row. test row ≡ true → list_any (λ x. same x row) (filter test rows) ≡ true) rows
    any-own [] = tt
    any-own (first ∷ rows) = (
      any-first first rows,
      all-weaker (λ row. test row ≡ true → list_any (λ x. same x row) (filter test rows) ≡ true)
          (λ row. test row ≡ true → list_any (λ x. same x row) (filter test (first ∷ rows)) ≡ true)
          (λ row is passes. any-more first row rows (is passes)) rows (any-own rows),
    )

    any-passes : (row : X) (rows : List X) → list_any (λ x. same x row) (filter test rows) ≡ true → test row ≡ true
    any-passes row [] is = absurd (true≢false (sym is))
    any-passes row (first ∷ rows) is = elim (cases_Bool (test first)) [
      | inl passes ↦ elim (cases_Bool (same first row)) [
        | inl here ↦ key first row passes here
        | inr there ↦ any-passes row rows (rw there at (rw passes at is))
      ]
      | inr fails ↦ any-passes row rows (rw fails at is)
    ]

    any-test : (row : X) (rows : List X) → (test row ≡ true → list_any (λ x. same x row) (filter test rows) ≡ true) →
        not (list_any (λ x. same x row) (filter test rows)) ≡ not (test row)
    any-test row rows own_row = elim (cases_Bool (test row)) [
      | inl passes ↦ rw (own_row passes, passes) refl
      | inr fails ↦ rw fails (ap not (false_from_ne_true _
          (λ is. true≢false (sym (any-passes row rows is) ∙ fails))))
    ]

    pub minus-test : (rows : List X) → minus (filter test rows) rows ≡ filter (λ row. not (test row)) rows
    minus-test rows = minus-kept (filter test rows) rows
        ∙ filter-alike (λ row. not (list_any (λ x. same x row) (filter test rows))) (λ row. not (test row)) rows
        (all-weaker (λ row. test row ≡ true → list_any (λ x. same x row) (filter test rows) ≡ true)
        (λ row. not (list_any (λ x. same x row) (filter test rows)) ≡ not (test row))
        (λ row is. any-test row rows is) rows (any-own rows))

equal : (n : ℕ) → (n == n) ≡ true
equal n = eq-eqb n n refl

alike-own : (one : Bool) → alike one one ≡ true
alike-own true = refl
alike-own false = refl

module _ (text : ℕ) where
  -- ---- links
  abbrev same_link : TextLink → TextLink → Bool
  same_link one row = is_link one.child one.parent one.footnote row

  abbrev touches : TextLink → Bool
  touches row = row.child == text || row.parent == text

  link-own : (row : TextLink) → touches row ≡ true → same_link row row ≡ true
  link-own row is = and_from _ _ (and_from _ _ (equal row.child) (equal row.parent)) (alike-own row.footnote)

  link-key : (x row : TextLink) → touches x ≡ true → same_link x row ≡ true → touches row ≡ true
  link-key x row passes is =
      let kind = and_parts (row.child == x.child && row.parent == x.parent) (alike row.footnote x.footnote) is in
      let numbers = and_parts (row.child == x.child) (row.parent == x.parent) kind.0 in
      rw (eqb-true row.child x.child numbers.0, eqb-true row.parent x.parent numbers.1) passes

  link-made : (db : Db) (row : TextLink) (rows : List TextLink) →
      after_effect (effect.LinkGone row.child row.parent row.footnote) (record db { links = rows })
      ≡ record db { links = filter (λ other. not (same_link row other)) rows }
  unfolding after_effect
  link-made db row rows = refl

  -- ---- recipients
  abbrev same_recipient : Recipient → Recipient → Bool
  same_recipient one row = is_recipient one.text one.conference row

  abbrev is_sent : Recipient → Bool
  is_sent row = row.text == text

  recipient-own : (row : Recipient) → is_sent row ≡ true → same_recipient row row ≡ true
  recipient-own row is = and_from _ _ (equal row.text) (equal row.conference)

  recipient-key : (x row : Recipient) → is_sent x ≡ true → same_recipient x row ≡ true → is_sent row ≡ true
  recipient-key x row passes is =
      let numbers = and_parts (row.text == x.text) (row.conference == x.conference) is in
      rw (eqb-true row.text x.text numbers.0) passes

  recipient-made : (db : Db) (row : Recipient) (rows : List Recipient) →
      after_effect (effect.RecipientGone row.text row.conference) (record db { recipients = rows })
      ≡ record db { recipients = filter (λ other. not (same_recipient row other)) rows }
  unfolding after_effect
  recipient-made db row rows = refl

  -- ---- marks
  abbrev same_mark : MarkRow → MarkRow → Bool
  same_mark one row = is_mark one.person one.text row

  abbrev is_marked : MarkRow → Bool
  is_marked row = row.text == text

  mark-own : (row : MarkRow) → is_marked row ≡ true → same_mark row row ≡ true
  mark-own row is = and_from _ _ (equal row.person) (equal row.text)

  mark-key : (x row : MarkRow) → is_marked x ≡ true → same_mark x row ≡ true → is_marked row ≡ true
  mark-key x row passes is =
      let numbers = and_parts (row.person == x.person) (row.text == x.text) is in
      rw (eqb-true row.text x.text numbers.1) passes

  mark-made : (db : Db) (row : MarkRow) (rows : List MarkRow) →
      after_effect (effect.MarkGone row.person row.text) (record db { marks = rows })
      ≡ record db { marks = filter (λ other. not (same_mark row other)) rows }
  unfolding after_effect
  mark-made db row rows = refl

  -- ---- aux-items
  abbrev same_item : ItemRow → ItemRow → Bool
  same_item one row = is_item true text one.item.number row

  item-own : (row : ItemRow) → is_item_of true text row ≡ true → same_item row row ≡ true
  item-own row is = and_from _ _ is (equal row.item.number)

  item-key : (x row : ItemRow) → is_item_of true text x ≡ true → same_item x row ≡ true →
      is_item_of true text row ≡ true
  item-key x row passes is = (and_parts (is_item_of true text row) (row.item.number == x.item.number) is).0

  item-made : (db : Db) (row : ItemRow) (rows : List ItemRow) →
      after_effect (effect.AuxGone true text row.item.number) (record db { items = rows })
      ≡ record db { items = filter (λ other. not (same_item row other)) rows }
  unfolding after_effect
  item-made db row rows = refl

  -- ---- and the text
  text-after : (db : Db) → after_effect (effect.TextGone text) db
      ≡ record db { texts = filter (λ (row : TextRow). not (row.number == text)) db.texts }
  unfolding after_effect
  text-after db = refl

  text-made : (db : Db) → all_fit (effect.TextGone text ∷ []) db ≡ true →
      apply_all (effect.TextGone text ∷ []) db
      ≡ record db { texts = filter (λ (row : TextRow). not (row.number == text)) db.texts }
  text-made db fit =
      let here = (and_parts (fits (effect.TextGone text) db) _ fit).0 in rw here (text-after db)

  module _ (db : Db) where
    abbrev gone_links : List Effect
    gone_links = map (λ link. effect.LinkGone link.child link.parent link.footnote) (filter touches db.links)

    abbrev gone_recipients : List Effect
    gone_recipients = map (λ row. effect.RecipientGone row.text row.conference) (filter is_sent db.recipients)

    abbrev gone_marks : List Effect
    gone_marks = map (λ row. effect.MarkGone row.person row.text) (filter is_marked db.marks)

    abbrev gone_items : List Effect
    gone_items = map (λ row. effect.AuxGone true text row.item.number) (filter (is_item_of true text) db.items)

    abbrev last : List Effect
    last = effect.TextGone text ∷ []

    abbrev all_gone : List Effect
    all_gone = gone_links ++ (gone_recipients ++ (gone_marks ++ (gone_items ++ last)))

    gone-order : gone_text db text ≡ all_gone
    unfolding links_of recipients_of marks_on items_of
    gone-order =
        ap (λ (items : List Effect). gone_links ++ gone_recipients ++ gone_marks ++ items ++ last)
        (map-through (λ (row : ItemRow). row.item) (λ (item : AuxRow). effect.AuxGone true text item.number)
        (filter (is_item_of true text) db.items))
        ∙ append_assoc (gone_links ++ gone_recipients ++ gone_marks) gone_items last
        ∙ append_assoc (gone_links ++ gone_recipients) gone_marks (gone_items ++ last)
        ∙ append_assoc gone_links gone_recipients (gone_marks ++ (gone_items ++ last))

    abbrev links_left : List TextLink
    links_left = minus same_link (filter touches db.links) db.links

    abbrev recipients_left : List Recipient
    recipients_left = minus same_recipient (filter is_sent db.recipients) db.recipients

    abbrev marks_left : List MarkRow
    marks_left = minus same_mark (filter is_marked db.marks) db.marks

    abbrev items_left : List ItemRow
    items_left = minus same_item (filter (is_item_of true text) db.items) db.items

    all-made : all_fit all_gone db ≡ true → apply_all all_gone db ≡ record db {
      texts = filter (λ (row : TextRow). not (row.number == text)) db.texts;
      recipients = recipients_left;
      links = links_left;
      marks = marks_left;
      items = items_left;
    }
    all-made fit =
        let one = removed same_link (λ row. effect.LinkGone row.child row.parent row.footnote)
        (λ rows. record db { links = rows }) (link-made db)
        (gone_recipients ++ (gone_marks ++ (gone_items ++ last))) (filter touches db.links) db.links fit in
        let two = removed same_recipient (λ row. effect.RecipientGone row.text row.conference)
        (λ rows. record db { links = links_left; recipients = rows })
        (recipient-made (record db { links = links_left })) (gone_marks ++ (gone_items ++ last))
        (filter is_sent db.recipients) db.recipients one.1 in
        let three = removed same_mark (λ row. effect.MarkGone row.person row.text)
        (λ rows. record db { links = links_left; recipients = recipients_left; marks = rows })
        (mark-made (record db { links = links_left; recipients = recipients_left })) (gone_items ++ last)
        (filter is_marked db.marks) db.marks two.1 in
        let four = removed same_item (λ row. effect.AuxGone true text row.item.number)
        (λ rows. record db { links = links_left; recipients = recipients_left; marks = marks_left; items = rows })
        (item-made (record db { links = links_left; recipients = recipients_left; marks = marks_left })) last
        (filter (is_item_of true text) db.items) db.items three.1 in
        one.0 ∙ two.0 ∙ three.0 ∙ four.0 ∙ text-made (record db {
          links = links_left;
          recipients = recipients_left;
          marks = marks_left;
          items = items_left;
        }) four.1

    not-both : (a b : Bool) → not (a || b) ≡ (not a && not b)
    not-both true b = refl
    not-both false b = refl

    stays-link : (row : TextLink) → not (touches row) ≡ stays_link (text ∷ []) row
    stays-link row = rw (stays-one text row.child, stays-one text row.parent)
        (not-both (row.child == text) (row.parent == text))

    stays-item : (row : ItemRow) → not (is_item_of true text row) ≡ stays_item (text ∷ []) row
    stays-item row = rw (stays-one text row.object) (by row.on_text (row.object == text)) where
      by : (on_text there : Bool) → not (alike on_text true && there) ≡ (not on_text || not there)
      by true there = refl
      by false there = refl

    -- The text is gone with all that hangs on it, and nothing else.
    pub text-taken : IsWhole db → is_some (text_of db text) ≡ true →
        apply_all (gone_text db text) db ≡ without_texts (text ∷ []) db
    text-taken whole there =
        ap (λ (effects : List Effect). apply_all effects db) gone-order
        ∙ all-made (subst (λ (effects : List Effect). all_fit effects db ≡ true) gone-order
        (gone_text-fits db whole text there))
        ∙ same-db refl refl refl refl
        (filter-same (λ (row : TextRow). not (row.number == text)) (λ row. stays (text ∷ []) row.number)
        (λ row. sym (stays-one text row.number)) db.texts)
        (minus-test same_recipient is_sent recipient-own recipient-key db.recipients
        ∙ filter-same (λ row. not (is_sent row)) (λ row. stays (text ∷ []) row.text)
        (λ row. sym (stays-one text row.text)) db.recipients)
        (minus-test same_link touches link-own link-key db.links
        ∙ filter-same (λ row. not (touches row)) (stays_link (text ∷ [])) stays-link db.links)
        (minus-test same_mark is_marked mark-own mark-key db.marks
        ∙ filter-same (λ row. not (is_marked row)) (λ row. stays (text ∷ []) row.text)
        (λ row. sym (stays-one text row.text)) db.marks)
        (minus-test same_item (is_item_of true text) item-own item-key db.items
        ∙ filter-same (λ row. not (is_item_of true text row)) (stays_item (text ∷ [])) stays-item db.items)
        refl refl
