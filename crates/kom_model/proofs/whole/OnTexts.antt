-- Effects on texts, and on what hangs on them, leave whole rows.
use Rattle.std.proofs.Common.{◌≡◌, ℕ, ◌+◌, ◌<◌, ◌≤◌, Bool, true, false, not, ◌==◌, ◌&&◌, List, [], ◌∷◌}
use Rattle.std.proofs.Common.{◌++◌}
use Rattle.std.proofs.Common.{length, Option, Some, None, refl, sym, arith, inl, inr, nat_lt, nat_le, eqb-true}
use Rattle.std.proofs.Common.{true≢false}
use Rattle.std.specs.Prelude.{map}
use Rattle.std.specs.List.{AllByRecursion, filter}
use Rattle.std.proofs.lemmas.Bool.{cases_Bool, and_parts, ltb-true, leb-true, ne_eqb, and_left, and_right}
use Rattle.std.proofs.lemmas.Bool.{not_from_false}
use Rattle.kom_types.specs.declared.limits.TheConstants.{MOST_AUX_ITEMS}
use Rattle.row_table.specs.Tables.{row_of, changed_row, with_row, without_row}
use Rattle.kom_types.specs.Bits.{alike}
use Rattle.kom_types.specs.declared.aux_items.AuxRow.{AuxRow}
use Rattle.kom_types.specs.declared.aux_items.ItemRow.{ItemRow}
use Rattle.kom_types.specs.declared.conferences.ConferenceRow.{ConferenceRow}
use Rattle.kom_types.specs.declared.effects.Effect.TheVariants as effect
use Rattle.kom_types.specs.declared.texts.MarkRow.{MarkRow}
use Rattle.kom_types.specs.declared.texts.Recipient.{Recipient}
use Rattle.kom_types.specs.declared.texts.TextLink.{TextLink}
use Rattle.kom_types.specs.declared.texts.TextRow.{TextRow}
use Rattle.kom_types.specs.tables.AuxItems.{is_item, is_item_of}
use Rattle.kom_types.specs.tables.Conferences as Conferences
use Rattle.kom_types.specs.tables.Conferences.{number_of_conference, with_local_drawn}
use Rattle.kom_types.specs.tables.Texts as Texts
use Rattle.kom_types.specs.tables.Texts.{number_of_text, fresh_text, is_recipient, is_link}
use Rattle.kom_model.specs.Db.{Db, conference_of, person_of, text_of, recipient_of, recipients_of, link_of, links_from}
use Rattle.kom_model.specs.Db.{links_into, mark_of, marks_of, marks_on, next_local_of, next_item_of, items_of}
use Rattle.kom_model.specs.Effects.{fits, after_effect}
use Rattle.kom_model.specs.Whole.{IsWhole, AreLinks, AreMarks, has_drawn_local, has_drawn_item}
use Rattle.kom_model.proofs.whole.Appended.{recipients-kept, recipients-more, links-kept, links-more, items-kept}
use Rattle.kom_model.proofs.whole.Appended.{items-more}
use Rattle.kom_model.proofs.whole.Appended.{alike-same}
use Rattle.kom_model.proofs.whole.Conferences.{conferences-same}
use Rattle.kom_model.proofs.whole.Counts.{all-weaker, all-along, none-counted}
use Rattle.kom_model.proofs.whole.Found.{passes, has-made}
use Rattle.kom_model.proofs.whole.Marks.{marks-set, marks-gone}
use Rattle.kom_model.proofs.whole.OnConferences.{none-told, told-length}
use Rattle.kom_model.proofs.whole.Stays.{conferences-changed, texts-added, texts-gone, texts-changed}
use Rattle.kom_model.proofs.whole.Stays.{recipients-written, links-written, marks-written, items-written}
use Rattle.kom_model.proofs.whole.Stays.{conferences-whole, texts-whole}
use Rattle.kom_model.proofs.whole.Stays.{other_than, same-number, next-drawn}
use Rattle.kom_model.proofs.whole.Texts.{texts-more, texts-fewer, texts-item}

-- the number that comes next lies above all that were drawn, and below one more than it
module _ {R : Type 0} (next : R → ℕ) where
  abbrev next_in : Option R → ℕ
  next_in found = elim found [ None ↦ 1 | Some row ↦ next row ]

  pub drawn-below : (found : Option R) (drawn number : ℕ) → passes (λ row. nat_lt drawn (next row)) found ≡ true →
      nat_le (next_in found) number ≡ true → drawn < number
  drawn-below None drawn number is more = absurd (true≢false (sym is))
  drawn-below (Some row) drawn number is more =
      let less = ltb-true drawn (next row) is in let least = leb-true (next row) number more in
      omega (arith, less, least)

  pub next-found : (found : Option R) (row : R) (number : ℕ) → found ≡ Some row →
      nat_le (next_in found) number ≡ true → next row ≤ number + 1
  next-found found row number is more =
      let least : nat_le (next row) number ≡ true = rw is at more in
      let less = leb-true (next row) number least in omega (arith, less)

module _ (db : Db) (whole : IsWhole db) where
  pub text_added-whole : (number author at : ℕ) (body : List ℕ) →
      fits (effect.TextAdded number author at body) db ≡ true →
      IsWhole (after_effect (effect.TextAdded number author at body) db)
  unfolding fits after_effect text_of
  text_added-whole number author at body fit =
      let short = and_parts _ _ fit in
      let absent = and_parts _ _ short.0 in
      let numbers = and_parts _ _ absent.0 in
      let given : TextRow = fresh_text number author at body in
      texts-whole db whole (with_row number_of_text given db.texts) (number + 1) (texts-added given db.texts absent.1)
      (texts-more db.texts db.next_text db.persons whole.texts given (leb-true _ _ numbers.0) (leb-true _ _ numbers.1)
      (leb-true _ _ short.1) refl)

  -- ---- a text that is bare goes
  not-there : {X : Type 0} (number_of : X → ℕ) (number : ℕ) (rows : List X) →
      AllByRecursion (λ row. (number_of row == number) ≡ false) rows →
      AllByRecursion (λ row. other_than number (number_of row) ≡ true) rows
  not-there number_of number rows none = all-weaker (λ row. (number_of row == number) ≡ false)
      (λ row. other_than number (number_of row) ≡ true) (λ row there. not_from_false _ there) rows none

  -- no link of either kind is from a text, or into it
  of-neither : (number : ℕ) (end : TextLink → ℕ) (rows : List TextLink) →
      length (filter (λ row. end row == number && alike row.footnote false) rows) ≡ 0 →
      length (filter (λ row. end row == number && alike row.footnote true) rows) ≡ 0 →
      AllByRecursion (λ row. (end row == number) ≡ false) rows
  of-neither number end rows comments footnotes = all-along
      (λ row. (end row == number && alike row.footnote false) ≡ false)
      (λ row. (end row == number && alike row.footnote true) ≡ false)
      (λ row. (end row == number) ≡ false) (λ row. either (end row == number) row.footnote) rows
      (none-counted _ rows comments) (none-counted _ rows footnotes) where
        either : (at footnote : Bool) → (at && alike footnote false) ≡ false → (at && alike footnote true) ≡ false →
            at ≡ false
        either false footnote one other = refl
        either true true one other = other
        either true false one other = one

  item-there : (number : ℕ) (row : ItemRow) → is_item_of true number row ≡ false → row.on_text ≡ true →
      other_than number row.object ≡ true
  item-there number row apart on =
      let there : (row.object == number) ≡ false = rw on at apart in not_from_false _ there

  pub text_gone-whole : (number : ℕ) → fits (effect.TextGone number) db ≡ true →
      IsWhole (after_effect (effect.TextGone number) db)
  unfolding fits after_effect text_of recipients_of links_from links_into marks_on items_of
  text_gone-whole number fit =
      let items = and_parts _ _ (and_parts _ _ fit).1 in
      let marks = and_parts _ _ items.0 in
      let notes_into = and_parts _ _ marks.0 in
      let comments_into = and_parts _ _ notes_into.0 in
      let notes_from = and_parts _ _ comments_into.0 in
      let comments_from = and_parts _ _ notes_from.0 in
      let new = without_row number_of_text number db.texts in
      let stay = texts-gone number db.texts in
      record {
        conferences = whole.conferences;
        persons = whole.persons;
        texts = texts-fewer db.texts db.next_text db.persons whole.texts number;
        memberships = whole.memberships;
        recipients = recipients-written (other_than number) db.texts new stay db.recipients db.conferences
            (not-there (λ row. row.text) number db.recipients
            (none-counted (λ row. row.text == number) db.recipients (eqb-true _ _ comments_from.0))) whole.recipients;
        links = links-written (other_than number) db.texts new stay db.links
            (not-there (λ row. row.child) number db.links (of-neither number (λ row. row.child) db.links
            (eqb-true _ _ comments_from.1) (eqb-true _ _ notes_from.1)))
            (not-there (λ row. row.parent) number db.links (of-neither number (λ row. row.parent) db.links
            (eqb-true _ _ comments_into.1) (eqb-true _ _ notes_into.1))) whole.links;
        marks = marks-written (other_than number) db.texts new stay db.marks db.persons
            (not-there (λ row. row.text) number db.marks
            (none-counted (λ row. row.text == number) db.marks (eqb-true _ _ marks.1))) whole.marks;
        items = items-written (other_than number) db.texts new stay db.items db.conferences
            (all-weaker (λ row. is_item_of true number row ≡ false)
            (λ row. row.on_text ≡ true → other_than number row.object ≡ true) (item-there number) db.items
            (none-counted (is_item_of true number) db.items
            (none-told _ (filter (is_item_of true number) db.items) (eqb-true _ _ items.1)))) whole.items;
      }

  -- ---- recipients
  pub recipient_added-whole : (given : Recipient) → fits (effect.RecipientAdded given) db ≡ true →
      IsWhole (after_effect (effect.RecipientAdded given) db)
  unfolding fits after_effect text_of conference_of recipient_of recipients_of next_local_of
  recipient_added-whole given fit =
      let room = and_parts _ _ fit in
      let draws = and_parts _ _ room.0 in
      let drawn = and_parts _ _ draws.1 in
      let tagged = and_parts _ _ draws.0 in
      let absent = and_parts _ _ tagged.0 in
      let there = and_parts _ _ absent.0 in
      let found : Option ConferenceRow = row_of number_of_conference given.conference db.conferences in
      let new = changed_row number_of_conference given.conference (with_local_drawn given.local) db.conferences in
      let changed = conferences-whole db whole new db.next_conference
      (conferences-changed given.conference (with_local_drawn given.local) db.conferences (λ row. refl)
      (λ row is. record {
        letterbox = λ is. is;
        local = next-found (λ row. row.next_local) found row given.local is drawn.0;
        item = same-number row.next_item;
      }))
      (conferences-same db.conferences db.next_conference whole.conferences given.conference
      (with_local_drawn given.local) (λ row. refl) (λ row. refl)) in
      record {
        conferences = changed.conferences;
        persons = changed.persons;
        texts = changed.texts;
        memberships = changed.memberships;
        recipients = recipients-more db.texts new db.recipients changed.recipients given there.0
            (has-made number_of_conference (λ row. nat_lt given.local row.next_local) (with_local_drawn given.local)
            (λ row. refl) given.conference db.conferences (λ row. next-drawn given.local)
            there.1)
            absent.1 tagged.1
            (all-weaker (λ row. has_drawn_local db.conferences row.conference row.local ≡ true)
            (λ row. (row.conference == given.conference && row.local == given.local) ≡ false) (unlike drawn.0)
            db.recipients whole.recipients.drawn)
            (ltb-true _ _ room.1);
        links = changed.links;
        marks = changed.marks;
        items = changed.items;
      } where
        -- a recipient of the conference has another local number
        unlike : nat_le (elim (row_of number_of_conference given.conference db.conferences)
            [ None ↦ 1 | Some row ↦ row.next_local ]) given.local ≡ true → (row : Recipient) →
            has_drawn_local db.conferences row.conference row.local ≡ true →
            (row.conference == given.conference && row.local == given.local) ≡ false
        unlike next row is = elim (cases_Bool (row.conference == given.conference)) [
          | inl same ↦
              let here : has_drawn_local db.conferences given.conference row.local ≡ true =
              rw (eqb-true row.conference given.conference same) at is in
              let less = drawn-below (λ row. row.next_local)
              (row_of number_of_conference given.conference db.conferences) row.local given.local here next in
              and_right _ _ (ne_eqb row.local given.local (λ level. omega (arith, less, level)))
          | inr apart ↦ and_left _ _ apart
        ]

  pub recipient_gone-whole : (text conference : ℕ) → IsWhole (after_effect (effect.RecipientGone text conference) db)
  unfolding after_effect
  recipient_gone-whole text conference = record {
    conferences = whole.conferences;
    persons = whole.persons;
    texts = whole.texts;
    memberships = whole.memberships;
    recipients = recipients-kept db.texts db.conferences db.recipients whole.recipients
        (λ row. not (is_recipient text conference row));
    links = whole.links;
    marks = whole.marks;
    items = whole.items;
  }

  -- ---- links
  links-whole : (new : List TextLink) → AreLinks new db.texts → IsWhole (record db { links = new })
  links-whole new links = record {
    conferences = whole.conferences;
    persons = whole.persons;
    texts = whole.texts;
    memberships = whole.memberships;
    recipients = whole.recipients;
    links = links;
    marks = whole.marks;
    items = whole.items;
  }

  pub link_added-whole : (given : TextLink) → fits (effect.LinkAdded given) db ≡ true →
      IsWhole (after_effect (effect.LinkAdded given) db)
  unfolding fits after_effect text_of link_of links_from links_into
  link_added-whole given fit =
      let into = and_parts _ _ fit in
      let from = and_parts _ _ into.0 in
      let absent = and_parts _ _ from.0 in
      let there = and_parts _ _ absent.0 in
      links-whole (db.links ++ given ∷ []) (links-more db.texts db.links whole.links given there.0 there.1 absent.1
      (ltb-true _ _ from.1) (ltb-true _ _ into.1))

  pub link_gone-whole : (child parent : ℕ) (footnote : Bool) →
      IsWhole (after_effect (effect.LinkGone child parent footnote) db)
  unfolding after_effect
  link_gone-whole child parent footnote = links-whole (filter (λ row. not (is_link child parent footnote row)) db.links)
      (links-kept db.texts db.links whole.links (λ row. not (is_link child parent footnote row)))

  -- ---- marks
  marks-whole : (new : List MarkRow) → AreMarks new db.persons db.texts → IsWhole (record db { marks = new })
  marks-whole new marks = record {
    conferences = whole.conferences;
    persons = whole.persons;
    texts = whole.texts;
    memberships = whole.memberships;
    recipients = whole.recipients;
    links = whole.links;
    marks = marks;
    items = whole.items;
  }

  pub mark_set-whole : (person text kind : ℕ) → fits (effect.MarkSet person text kind) db ≡ true →
      IsWhole (after_effect (effect.MarkSet person text kind) db)
  unfolding fits after_effect person_of text_of mark_of marks_of
  mark_set-whole person text kind fit =
      let room = and_parts _ _ fit in
      let there = and_parts _ _ room.0 in
      let given : MarkRow = record { person = person; text = text; kind = kind } in
      marks-whole _ (marks-set db.persons db.texts db.marks whole.marks given there.0 there.1 room.1)

  pub mark_gone-whole : (person text : ℕ) → IsWhole (after_effect (effect.MarkGone person text) db)
  unfolding after_effect
  mark_gone-whole person text = marks-whole _ (marks-gone db.persons db.texts db.marks whole.marks person text)

  -- ---- aux-items
  -- an item of the object has another number
  unlike : (on_text : Bool) (object number : ℕ) (row : ItemRow) →
      has_drawn_item db.texts db.conferences row.on_text row.object row.item.number ≡ true →
      (has_drawn_item db.texts db.conferences on_text object row.item.number ≡ true → row.item.number < number) →
      is_item on_text object number row ≡ false
  unlike on_text object number row is below = elim (cases_Bool (is_item_of on_text object row)) [
    | inl same ↦
        let parts = and_parts (alike row.on_text on_text) (row.object == object) same in
        let here : has_drawn_item db.texts db.conferences on_text object row.item.number ≡ true =
        rw (alike-same row.on_text on_text parts.0, eqb-true row.object object parts.1) at is in
        let less = below here in
        and_right _ _ (ne_eqb row.item.number number (λ level. omega (arith, less, level)))
    | inr apart ↦ and_left _ _ apart
  ]

  few : (on_text : Bool) (object : ℕ) →
      nat_lt (length (map (λ (row : ItemRow). row.item) (filter (is_item_of on_text object) db.items))) MOST_AUX_ITEMS
      ≡ true → length (filter (is_item_of on_text object) db.items) < MOST_AUX_ITEMS
  few on_text object is =
      let less = ltb-true _ _ is in
      let same = told-length (λ (row : ItemRow). row.item) (filter (is_item_of on_text object) db.items) in
      omega (arith, less, same)

  pub aux_added-whole : (on_text : Bool) (object : ℕ) (item : AuxRow) →
      fits (effect.AuxAdded on_text object item) db ≡ true →
      IsWhole (after_effect (effect.AuxAdded on_text object item) db)
  unfolding fits after_effect text_of conference_of next_item_of items_of
  aux_added-whole true object item fit =
      let short = and_parts _ _ fit in
      let room = and_parts _ _ short.0 in
      let known = and_parts _ _ room.0 in
      let last = and_parts _ _ known.0 in
      let there = and_parts _ _ last.0 in
      let found : Option TextRow = row_of number_of_text object db.texts in
      let new = changed_row number_of_text object (Texts.with_item_drawn item.number) db.texts in
      let changed = texts-whole db whole new db.next_text
      (texts-changed object (Texts.with_item_drawn item.number) db.texts (λ row. refl)
      (λ row is. next-found (λ row. row.next_item) found row item.number is there.1))
      (texts-item db.texts db.next_text db.persons whole.texts object (Texts.with_item_drawn item.number)
      (λ row. refl) (λ row. refl) (λ row. refl) (λ row. refl)) in
      let given : ItemRow = record { on_text = true; object = object; item = item } in
      record {
        conferences = changed.conferences;
        persons = changed.persons;
        texts = changed.texts;
        memberships = changed.memberships;
        recipients = changed.recipients;
        links = changed.links;
        marks = changed.marks;
        items = items-more new db.conferences db.items changed.items given
            (has-made number_of_text (λ row. nat_lt item.number row.next_item) (Texts.with_item_drawn item.number)
            (λ row. refl) object db.texts (λ row. next-drawn item.number) there.0)
            known.1 (leb-true _ _ short.1)
            (all-weaker (λ row. has_drawn_item db.texts db.conferences row.on_text row.object row.item.number ≡ true)
            (λ row. is_item true object item.number row ≡ false)
            (λ row is. unlike true object item.number row is (λ here. drawn-below (λ row. row.next_item) found
            row.item.number item.number here there.1)) db.items whole.items.drawn)
            (few true object room.1);
      }
  aux_added-whole false object item fit =
      let short = and_parts _ _ fit in
      let room = and_parts _ _ short.0 in
      let known = and_parts _ _ room.0 in
      let last = and_parts _ _ known.0 in
      let there = and_parts _ _ last.0 in
      let found : Option ConferenceRow = row_of number_of_conference object db.conferences in
      let new = changed_row number_of_conference object (Conferences.with_item_drawn item.number) db.conferences in
      let changed = conferences-whole db whole new db.next_conference
      (conferences-changed object (Conferences.with_item_drawn item.number) db.conferences (λ row. refl)
      (λ row is. record {
        letterbox = λ is. is;
        local = same-number row.next_local;
        item = next-found (λ row. row.next_item) found row item.number is there.1;
      }))
      (conferences-same db.conferences db.next_conference whole.conferences object
      (Conferences.with_item_drawn item.number) (λ row. refl) (λ row. refl)) in
      let given : ItemRow = record { on_text = false; object = object; item = item } in
      record {
        conferences = changed.conferences;
        persons = changed.persons;
        texts = changed.texts;
        memberships = changed.memberships;
        recipients = changed.recipients;
        links = changed.links;
        marks = changed.marks;
        items = items-more db.texts new db.items changed.items given
            (has-made number_of_conference (λ row. nat_lt item.number row.next_item)
            (Conferences.with_item_drawn item.number) (λ row. refl) object db.conferences
            (λ row. next-drawn item.number) there.0)
            known.1 (leb-true _ _ short.1)
            (all-weaker (λ row. has_drawn_item db.texts db.conferences row.on_text row.object row.item.number ≡ true)
            (λ row. is_item false object item.number row ≡ false)
            (λ row is. unlike false object item.number row is (λ here. drawn-below (λ row. row.next_item) found
            row.item.number item.number here there.1)) db.items whole.items.drawn)
            (few false object room.1);
      }

  pub aux_gone-whole : (on_text : Bool) (object number : ℕ) →
      IsWhole (after_effect (effect.AuxGone on_text object number) db)
  unfolding after_effect
  aux_gone-whole on_text object number = record {
    conferences = whole.conferences;
    persons = whole.persons;
    texts = whole.texts;
    memberships = whole.memberships;
    recipients = whole.recipients;
    links = whole.links;
    marks = whole.marks;
    items = items-kept db.texts db.conferences db.items whole.items (λ row. not (is_item on_text object number row));
  }
