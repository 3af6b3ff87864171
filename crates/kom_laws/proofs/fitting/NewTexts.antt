-- What the calls that make texts come to fits.
use Rattle.std.proofs.Common.{◌≡◌, ℕ, ◌+◌, ◌-◌, ◌<◌, ◌≤◌, Bool, true, false, cond, not, ◌==◌, ◌||◌, ◌&&◌, List, [], ◌∷◌}
use Rattle.std.proofs.Common.{◌++◌, length, Option, Some, None, refl, sym, ap, subst, ◌∙◌, inl, inr, arith, eqb-true}
use Rattle.std.proofs.Common.{eq-eqb, append_assoc, length-append, nat_lt, nat_le, true≢false}
use Rattle.std.specs.Prelude.{map, is_some, is_none, count_by, min}
use Rattle.std.specs.List.{AllByRecursion, filter, find, fold, list_any, list_all}
use Rattle.std.proofs.lemmas.Bool.{cases_Bool, cond_both, and_from, and_parts, and_left, and_right, or_parts}
use Rattle.std.proofs.lemmas.Bool.{le-leb, lt-ltb, ltb-true, ne_eqb, not-true, not_from_false}
use Rattle.std.proofs.lemmas.List.{append-nil}
use Rattle.std.proofs.lemmas.List.Elements.{filter-append}
use Rattle.std.proofs.lemmas.List.Folds.{find-append, list_any-append}
use Rattle.kom_types.specs.declared.limits.TheConstants.{LAST_DRAWN, LONGEST_BODY, LONGEST_CONTENT, MOST_AUX_ITEMS}
use Rattle.kom_types.specs.declared.limits.TheConstants.{MOST_RECIPIENTS}
use Rattle.row_table.specs.Tables.{row_of, with_row, changed_row}
use Rattle.row_table.proofs.Rows.{row_of-with_row, row_of-changed_row}
use Rattle.kom_types.specs.AuxItems.{kind_of, AuxKind, items_from, passes_on, may_stand}
use Rattle.kom_types.specs.AuxItems.{with_inherited, inherit}
use Rattle.kom_types.specs.Bits.{alike}
use Rattle.kom_types.specs.declared.errors.TheConstants as error
use Rattle.kom_types.specs.declared.aux_items.AuxRow.{AuxRow}
use Rattle.kom_types.specs.declared.aux_items.ItemRow.{ItemRow}
use Rattle.kom_types.specs.declared.aux_items.Object.TheVariants as object
use Rattle.kom_types.specs.declared.conferences.ConferenceRow.{ConferenceRow}
use Rattle.kom_types.specs.declared.effects.ConfField.TheVariants as field
use Rattle.kom_types.specs.declared.effects.Counter.{Counter}
use Rattle.kom_types.specs.declared.effects.Counter.TheVariants as counter
use Rattle.kom_types.specs.declared.effects.Effect.{Effect}
use Rattle.kom_types.specs.declared.effects.Effect.TheVariants as effect
use Rattle.kom_types.specs.declared.persons.PersonRow.{PersonRow}
use Rattle.kom_types.specs.declared.texts.MiscInput.{MiscInput}
use Rattle.kom_types.specs.declared.texts.NewText.{NewText}
use Rattle.kom_types.specs.declared.texts.Recipient.{Recipient}
use Rattle.kom_types.specs.declared.texts.TextLink.{TextLink}
use Rattle.kom_types.specs.declared.texts.TextRow.{TextRow}
use Rattle.kom_types.specs.tables.AuxItems.{is_item_of}
use Rattle.kom_types.specs.tables.Conferences as Conferences
use Rattle.kom_types.specs.tables.Conferences.{number_of_conference, with_local_drawn}
use Rattle.kom_types.specs.tables.Persons.{number_of_person, with_created_drawn}
use Rattle.kom_types.specs.tables.Texts as Texts
use Rattle.kom_types.specs.tables.Texts.{number_of_text, fresh_text, is_recipient, is_link, lines_of}
use Rattle.kom_model.specs.Db.{Db, conference_of, person_of, text_of, recipient_of, recipients_of, link_of, links_from}
use Rattle.kom_model.specs.Db.{links_into, next_local_of, next_created_of, next_item_of, items_of, next_text_of}
use Rattle.kom_model.specs.Effects.{fits, after_effect, all_fit, is_recipient_tag}
use Rattle.kom_model.specs.Effects.{most_links}
use Rattle.kom_model.specs.State.{AreSeated}
use Rattle.kom_model.specs.Whole.{IsWhole, has_text}
use Rattle.kom_model.specs.calls.AuxItems.{items_added}
use Rattle.kom_model.specs.calls.Call.{Asked}
use Rattle.kom_model.specs.calls.Guards.{Guard, caller, first_refusal, unless, refusal, login_guard, text_guard}
use Rattle.kom_model.specs.calls.Guards.{conference_guard, submit_guard, size_guard, new_items_guard}
use Rattle.kom_model.specs.calls.NewTexts.{names_recipient, names_comment, names_footnote, names_value, is_new}
use Rattle.kom_model.specs.calls.NewTexts.{has_room}
use Rattle.kom_model.specs.calls.NewTexts.{anonymous_guard, author_guard, recipient_guard, comment_guard}
use Rattle.kom_model.specs.calls.NewTexts.{footnote_guard}
use Rattle.kom_model.specs.calls.NewTexts.{item_guard, item_guards, has_local, has_created, has_numbers, item_effect}
use Rattle.kom_model.specs.calls.NewTexts.{item_written, author_effects, inherited_from, new_items, text_effects}
use Rattle.kom_model.specs.calls.NewTexts.{new_text}
use Rattle.kom_model.specs.calls.Sessions.{counts}
use Rattle.kom_model.specs.calls.Texts.{new_recipient, into_guard}
use Rattle.kom_model.proofs.Fields.{field-number}
use Rattle.kom_model.proofs.Guards.{all-pass, passed}
use Rattle.kom_model.proofs.whole.Counts.{all-kept, all-weaker, count-none}
use Rattle.kom_model.proofs.whole.Found.{has-with_row, has-changed}
use Rattle.kom_laws.proofs.fitting.Conferences.{found-set}
use Rattle.kom_laws.proofs.fitting.Guards.{caller-there, conference-there, text-there}
use Rattle.kom_laws.proofs.fitting.Items.{fit-then, Bears, IsNext, CanAdd, items-fit, new_items-can, with_items-fit}
use Rattle.kom_laws.proofs.fitting.Making.{none-there, none-held}
use Rattle.kom_laws.proofs.fitting.Removing.{all-passing}
use Rattle.kom_laws.proofs.fitting.Sessions.{counts-fit, counted-there}

-- ---- lists with one row more
find-more : {X : Type 0} (test : X → Bool) (rows : List X) (given : X) → find test rows ≡ None →
    test given ≡ false → find test (rows ++ given ∷ []) ≡ None
find-more test rows given none fails = find-append test rows (given ∷ []) ∙ rw none (rw fails refl)

kept-more : {X : Type 0} (test : X → Bool) (rows : List X) (given : X) →
    length (filter test (rows ++ given ∷ [])) ≡ length (filter test rows) + cond (test given) 1 0
kept-more test rows given =
    ap length (filter-append test rows (given ∷ []))
    ∙ length-append (filter test rows) (filter test (given ∷ []))
    ∙ elim (cases_Bool (test given)) [ inl here ↦ rw here refl | inr there ↦ rw there refl ]

folded-more : {X : Type 0} (test : X → Bool) (rows : List X) (given : X) (start : ℕ) →
    fold (λ (a : ℕ) (x : X). a + cond (test x) 1 0) start (rows ++ given ∷ [])
    ≡ fold (λ (a : ℕ) (x : X). a + cond (test x) 1 0) start rows + cond (test given) 1 0
folded-more test [] given start = refl
folded-more test (row ∷ rows) given start = folded-more test rows given (start + cond (test row) 1 0)

count-more : {X : Type 0} (test : X → Bool) (rows : List X) (given : X) →
    count_by test (rows ++ given ∷ []) ≡ count_by test rows + cond (test given) 1 0
count-more test rows given = folded-more test rows given 0

-- of what is new after one item more, the item names nothing, and it was new before
new-parts : (names : MiscInput → Bool) (before : List MiscInput) (item : MiscInput) (value : ℕ) →
    is_new names (before ++ item ∷ []) value ≡ true →
    (is_new names before value ≡ true) × ((names item && item.value == value) ≡ false)
new-parts names before item value new =
    let none : list_any (names_value names value) (before ++ item ∷ []) ≡ false = not-true _ new in
    let parts = or_parts (list_any (names_value names value) before)
    (list_any (names_value names value) (item ∷ []))
    (sym (list_any-append (names_value names value) before (item ∷ [])) ∙ none) in
    (not_from_false _ parts.0, (or_parts (names item && item.value == value) false parts.1).0)

and-back : (one other : Bool) → (one && other) ≡ false → (other && one) ≡ false
and-back true other none = and_left other true none
and-back false other none = and_right other false refl

and-rest : (one other : Bool) → (one && other) ≡ false → one ≡ true → other ≡ false
and-rest true other none is = none
and-rest false other none is = absurd (true≢false (sym is))

or-rest : (one other : Bool) → (not one || other) ≡ true → one ≡ true → other ≡ true
or-rest true other either is = either
or-rest false other either is = absurd (true≢false (sym is))

level : (one other : ℕ) → one ≡ other → nat_le one other ≡ true
level one other same = le-leb one other (omega (arith, same))

room-for : (one other most : ℕ) → one ≡ other → nat_lt other most ≡ true → nat_lt one most ≡ true
room-for one other most same less = let below = ltb-true other most less in
    lt-ltb one most (omega (arith, same, below))

first-passes : (guard : Guard) (guards : List Guard) → first_refusal (guard ∷ guards) ≡ None →
    (guard ≡ None) × (first_refusal guards ≡ None)
first-passes None guards none = (refl, none)
first-passes (Some refused) guards none = absurd cc

cond-none : (test : Bool) (one other : Guard) → cond test one other ≡ None →
    (test ≡ true → one ≡ None) × (test ≡ false → other ≡ None)
cond-none true one other none = (λ is. none, λ is. absurd (true≢false is))
cond-none false one other none = (λ is. absurd (true≢false (sym is)), λ is. none)

-- ---- what an item names
abbrev names_link : Bool → MiscInput → Bool
names_link false = names_comment
names_link true = names_footnote

recipient-links : (item : MiscInput) → names_recipient item ≡ true → (footnote : Bool) →
    names_link footnote item ≡ false
recipient-links item is false = ne_eqb item.tag 2 (λ same. true≢false (sym is ∙ ap is_recipient_tag same))
recipient-links item is true = ne_eqb item.tag 4 (λ same. true≢false (sym is ∙ ap is_recipient_tag same))

comment-links : (item : MiscInput) → names_comment item ≡ true → (footnote : Bool) →
    names_link footnote item ≡ alike false footnote
comment-links item is false = is
comment-links item is true = ap (λ (tag : ℕ). tag == 4) (eqb-true item.tag 2 is)

footnote-links : (item : MiscInput) → names_footnote item ≡ true → (footnote : Bool) →
    names_link footnote item ≡ alike true footnote
footnote-links item is false = ap (λ (tag : ℕ). tag == 2) (eqb-true item.tag 4 is)
footnote-links item is true = is

-- ---- the items of a text that is made
next-same : (next next' count count' : ℕ) (item : AuxRow) → next ≡ next' → count ≡ count' → IsNext next count item →
    IsNext next' count' item
next-same next next' count count' item level many is =
    subst (λ (n : ℕ). IsNext n count' item) level (subst (λ (c : ℕ). IsNext next c item) many is)

can-more : (next count : ℕ) (items : List AuxRow) (item : AuxRow) → CanAdd next count items →
    IsNext (next + length items) (count + length items) item → CanAdd next count (items ++ item ∷ [])
can-more next count [] item can is =
    (next-same (next + 0) next (count + 0) count item (omega arith) (omega arith) is, tt)
can-more next count (one ∷ items) item can is = (
  can.0,
  can-more (next + 1) (count + 1) items item can.1
      (next-same (next + length (one ∷ items)) (next + 1 + length items) (count + length (one ∷ items))
      (count + 1 + length items) item (omega arith) (omega arith) is),
)

with_inherited-can : (items : List AuxRow) (item : AuxRow) → CanAdd 1 0 items → length item.content ≤ LONGEST_CONTENT →
    CanAdd 1 0 (with_inherited items item)
with_inherited-can items item can short = by (kind_of item.tag) refl where
  by : (found : Option AuxKind) → kind_of item.tag ≡ found → CanAdd 1 0 (elim found as (λ _. List AuxRow) [
    | None ↦ items
    | Some known ↦ cond (passes_on item && may_stand known items item.creator)
        (items ++ record item { number = length items + 1; limit = item.limit - 1 } ∷ []) items
  ])
  by None is = can
  by (Some known) is = cond_both (passes_on item && may_stand known items item.creator)
      (items ++ record item { number = length items + 1; limit = item.limit - 1 } ∷ []) items (CanAdd 1 0)
      (λ both.
      let stand = (and_parts (passes_on item) (may_stand known items item.creator) both).1 in
      let room = ltb-true (length items) MOST_AUX_ITEMS (and_parts _ _ stand).0 in
      can-more 1 0 items (record item { number = length items + 1; limit = item.limit - 1 }) can (record {
        number = omega arith;
        last = omega (arith, room);
        known = ap is_some is;
        room = omega (arith, room);
        short = short;
      }))
      (λ not. can)

inherited-can : (parent items : List AuxRow) → CanAdd 1 0 items →
    AllByRecursion (λ item. length item.content ≤ LONGEST_CONTENT) parent → CanAdd 1 0 (inherit items parent)
unfolding inherit
inherited-can [] items can short = can
inherited-can (item ∷ parent) items can short =
    inherited-can parent (with_inherited items item) (with_inherited-can items item can short.0) short.1

told-short : (rows : List ItemRow) → AllByRecursion (λ row. length row.item.content ≤ LONGEST_CONTENT) rows →
    AllByRecursion (λ item. length item.content ≤ LONGEST_CONTENT) (map (λ (row : ItemRow). row.item) rows)
told-short [] all = tt
told-short (row ∷ rows) all = (all.0, told-short rows all.1)

items-short : (db : Db) → IsWhole db → (on_text : Bool) (object : ℕ) →
    AllByRecursion (λ item. length item.content ≤ LONGEST_CONTENT) (items_of db on_text object)
unfolding items_of
items-short db whole on_text object = told-short (filter (is_item_of on_text object) db.items)
    (all-kept (λ row. length row.item.content ≤ LONGEST_CONTENT) (is_item_of on_text object) db.items whole.items.short)

inherited_from-can : (db : Db) → IsWhole db → (named : List MiscInput) (items : List AuxRow) → CanAdd 1 0 items →
    CanAdd 1 0 (inherited_from db items named)
inherited_from-can db whole [] items can = can
inherited_from-can db whole (item ∷ named) items can =
    inherited_from-can db whole named (inherit items (items_of db true item.value))
    (inherited-can (items_of db true item.value) items can (items-short db whole true item.value))

-- ---- counters
counts-then : (person : ℕ) (which : Counter) (by : ℕ) (rest : List Effect) (db : Db) →
    is_some (person_of db person) ≡ true →
    ((db : Db) → is_some (person_of db person) ≡ true → all_fit rest db ≡ true) →
    all_fit (counts person which by ++ rest) db ≡ true
unfolding fits
counts-then person which by rest db there after =
    cond_both (by == 0) [] (effect.Counted person which by ∷ [])
    (λ (effects : List Effect). all_fit (effects ++ rest) db ≡ true) (λ _. after db there)
    (λ _. fit-then (effect.Counted person which by) rest db there
    (after (after_effect (effect.Counted person which by) db) (counted-there db person person which by there)))

module _ (asked : Asked) (whole : IsWhole asked.db) (anonymous : Bool) (author : ℕ) (body : List ℕ) where
  abbrev base : Db
  base = asked.db

  abbrev text : ℕ
  text = base.next_text

  abbrev row : TextRow
  row = fresh_text text author asked.moment body

  -- the rows with the text, once more hangs on it
  abbrev placed : List ConferenceRow → List Recipient → List TextLink → Db
  placed conferences recipients links = record base {
    texts = with_row number_of_text row base.texts;
    next_text = text + 1;
    conferences = conferences;
    recipients = recipients;
    links = links;
  }

  text-absent : row_of number_of_text text base.texts ≡ None
  text-absent = none-there (λ row. row.number == text) base.texts
      (all-weaker (λ row. row.number < text) (λ row. (row.number == text) ≡ false)
      (λ row less. ne_eqb row.number text (λ same. omega (arith, less, same))) base.texts whole.texts.drawn)

  text-found : row_of number_of_text text (with_row number_of_text row base.texts) ≡ Some row
  text-found = row_of-with_row number_of_text text row base.texts ∙ rw (eq-eqb text text refl) refl

  text-there' : (number : ℕ) → is_some (row_of number_of_text number base.texts) ≡ true →
      is_some (row_of number_of_text number (with_row number_of_text row base.texts)) ≡ true
  text-there' number there =
      has-with_row number_of_text (λ row. true) row base.texts (ap is_none text-absent) number there

  -- nothing hung on a text of the number
  not-text : (number : ℕ) → has_text base.texts number ≡ true → (number == text) ≡ false
  not-text number there = ne_eqb number text (λ same.
      let here : has_text base.texts text ≡ true = rw same at there in true≢false (sym here ∙ ap is_some text-absent))

  -- what holds of conferences and recipients after these items, and of links
  record HoldsTo (before : List MiscInput) (conferences : List ConferenceRow) (recipients : List Recipient)
      : Type 0 where
    there : (number : ℕ) → is_some (row_of number_of_conference number base.conferences) ≡ true →
        is_some (row_of number_of_conference number conferences) ≡ true
    same : (number : ℕ) → is_new names_recipient before number ≡ true →
        row_of number_of_conference number conferences ≡ row_of number_of_conference number base.conferences
    unsent : (number : ℕ) → is_new names_recipient before number ≡ true →
        find (is_recipient text number) recipients ≡ None
    many : length (filter (λ (one : Recipient). one.text == text) recipients) ≡ count_by names_recipient before

  record HoldsBy (before : List MiscInput) (links : List TextLink) : Type 0 where
    unlinked : (parent : ℕ) (footnote : Bool) → is_new (names_link footnote) before parent ≡ true →
        find (is_link text parent footnote) links ≡ None
    from : (footnote : Bool) →
        length (filter (λ (one : TextLink). one.child == text && alike one.footnote footnote) links)
        ≡ count_by (names_link footnote) before
    into : (parent : ℕ) (footnote : Bool) → is_new (names_link footnote) before parent ≡ true →
        length (filter (λ (one : TextLink). one.parent == parent && alike one.footnote footnote) links)
        ≡ length (filter (λ (one : TextLink). one.parent == parent && alike one.footnote footnote) base.links)

  no-recipients : AllByRecursion (λ (one : Recipient). (one.text == text) ≡ false) base.recipients
  no-recipients = all-weaker (λ (one : Recipient). has_text base.texts one.text ≡ true)
      (λ one. (one.text == text) ≡ false) (λ one there. not-text one.text there) base.recipients
      whole.recipients.text_there

  no-links : AllByRecursion (λ (one : TextLink). (one.child == text) ≡ false) base.links
  no-links = all-weaker (λ (one : TextLink). has_text base.texts one.child ≡ true)
      (λ one. (one.child == text) ≡ false) (λ one there. not-text one.child there) base.links whole.links.child_there

  first-to : HoldsTo [] base.conferences base.recipients
  first-to = record {
    there = λ number there. there;
    same = λ number new. refl;
    unsent = λ number new. none-there (is_recipient text number) base.recipients
        (all-weaker (λ (one : Recipient). (one.text == text) ≡ false) (λ one. is_recipient text number one ≡ false)
        (λ one apart. and_left _ _ apart) base.recipients no-recipients);
    many = count-none (λ (one : Recipient). one.text == text) base.recipients no-recipients;
  }

  first-by : HoldsBy [] base.links
  first-by = record {
    unlinked = λ parent footnote new. none-there (is_link text parent footnote) base.links
        (all-weaker (λ (one : TextLink). (one.child == text) ≡ false) (λ one. is_link text parent footnote one ≡ false)
        (λ one apart. and_left _ _ (and_left _ _ apart)) base.links no-links);
    from = λ footnote. count-none (λ (one : TextLink). one.child == text && alike one.footnote footnote) base.links
        (all-weaker (λ (one : TextLink). (one.child == text) ≡ false)
        (λ one. (one.child == text && alike one.footnote footnote) ≡ false) (λ one apart. and_left _ _ apart) base.links
        no-links) ∙ none-named footnote;
    into = λ parent footnote new. refl;
  } where
    none-named : (footnote : Bool) → 0 ≡ count_by (names_link footnote) []
    none-named true = refl
    none-named false = refl

  -- ---- one item more
  module _ (before : List MiscInput) (item : MiscInput) where
    abbrev after_item : List MiscInput
    after_item = before ++ item ∷ []

    abbrev given : Recipient
    given = new_recipient asked text item.value item.tag 0

    abbrev link : Bool → TextLink
    link footnote = record { child = text; parent = item.value; footnote = footnote; sender = 0; at = asked.moment }

    module _ (conferences : List ConferenceRow) (recipients : List Recipient)
        (holds : HoldsTo before conferences recipients) where
      other-to : names_recipient item ≡ false → HoldsTo after_item conferences recipients
      other-to other = record {
        there = holds.there;
        same = λ number new. holds.same number (new-parts names_recipient before item number new).0;
        unsent = λ number new. holds.unsent number (new-parts names_recipient before item number new).0;
        many = let more : count_by names_recipient after_item ≡ count_by names_recipient before + 0 =
            count-more names_recipient before item
            ∙ ap (λ (b : Bool). count_by names_recipient before + cond b 1 0) other in
            let many = holds.many in omega (arith, more, many);
      }

      more-to : names_recipient item ≡ true → HoldsTo after_item
          (changed_row number_of_conference item.value (with_local_drawn given.local) conferences)
          (recipients ++ given ∷ [])
      more-to is = record {
        there = λ number there. has-changed number_of_conference (λ row. true) (with_local_drawn given.local)
            (λ row. refl) item.value conferences (λ row found is. refl) number (holds.there number there);
        same = λ number new. row_of-changed_row number_of_conference (with_local_drawn given.local) (λ row. refl) number
            item.value conferences ∙ rw (apart number new)
            (holds.same number (new-parts names_recipient before item number new).0);
        unsent = λ number new. find-more (is_recipient text number) recipients given
            (holds.unsent number (new-parts names_recipient before item number new).0)
            (and_right (text == text) (item.value == number) (apart number new));
        many = let more : count_by names_recipient after_item ≡ count_by names_recipient before + 1 =
            count-more names_recipient before item
            ∙ ap (λ (b : Bool). count_by names_recipient before + cond b 1 0) is in
            let kept : length (filter (λ (one : Recipient). one.text == text) (recipients ++ given ∷ []))
            ≡ length (filter (λ (one : Recipient). one.text == text) recipients) + 1 =
            kept-more (λ (one : Recipient). one.text == text) recipients given
            ∙ ap (λ (b : Bool). length (filter (λ (one : Recipient). one.text == text) recipients) + cond b 1 0)
            (eq-eqb text text refl) in
            let many = holds.many in omega (arith, more, kept, many);
      } where
        apart : (number : ℕ) → is_new names_recipient after_item number ≡ true → (item.value == number) ≡ false
        apart number new = and-rest (names_recipient item) (item.value == number)
            (new-parts names_recipient before item number new).1 is

      -- the recipient may be added
      recipient-fits : (links : List TextLink) → recipient_guard asked anonymous before item.value ≡ None →
          names_recipient item ≡ true → has_local base item ≡ true →
          fits (effect.RecipientAdded given) (placed conferences recipients links) ≡ true
      unfolding fits text_of conference_of recipient_of recipients_of next_local_of
      recipient-fits links passes is left =
          let pass = all-pass (conference_guard asked.db (caller asked) item.value
          ∷ unless (is_new names_recipient before item.value) error.ALREADY_RECIPIENT item.value
          ∷ submit_guard asked.db (caller asked) item.value
          ∷ anonymous_guard asked.db anonymous item.value
          ∷ unless (has_room names_recipient before MOST_RECIPIENTS) error.RECIPIENT_LIMIT 0 ∷ []) passes in
          let there = holds.there item.value (conference-there asked.db (caller asked) item.value pass.0) in
          let new = passed (is_new names_recipient before item.value) _ item.value pass.1.0 in
          let room = passed (has_room names_recipient before MOST_RECIPIENTS) _ 0 pass.1.1.1.1.0 in
          let next : (elim (row_of number_of_conference item.value conferences) as (λ _. ℕ)
          [ None ↦ 1 | Some row ↦ row.next_local ]) ≡ given.local =
          ap (λ (found : Option ConferenceRow). elim found as (λ _. ℕ) [ None ↦ 1 | Some row ↦ row.next_local ])
          (holds.same item.value new) in
          let last : nat_le given.local LAST_DRAWN ≡ true =
          or-rest (names_recipient item) (nat_le given.local LAST_DRAWN) left is in
          and_from _ _ (and_from _ _ (and_from _ _ (and_from _ _ (and_from _ _ (ap is_some text-found) there)
          (ap is_none (holds.unsent item.value new))) is)
          (and_from _ _ (level _ given.local next) last)) (room-for _ _ MOST_RECIPIENTS holds.many room)

    module _ (links : List TextLink) (holds : HoldsBy before links) where
      other-by : ((footnote : Bool) → names_link footnote item ≡ false) → HoldsBy after_item links
      other-by other = record {
        unlinked = λ parent footnote new. holds.unlinked parent footnote
            (new-parts (names_link footnote) before item parent new).0;
        from = λ footnote.
            let more : count_by (names_link footnote) after_item ≡ count_by (names_link footnote) before + 0 =
            count-more (names_link footnote) before item
            ∙ ap (λ (b : Bool). count_by (names_link footnote) before + cond b 1 0) (other footnote) in
            let many = holds.from footnote in omega (arith, more, many);
        into = λ parent footnote new. holds.into parent footnote
            (new-parts (names_link footnote) before item parent new).0;
      }

      more-by : (kind : Bool) → ((footnote : Bool) → names_link footnote item ≡ alike kind footnote) →
          HoldsBy after_item (links ++ link kind ∷ [])
      more-by kind kinds = record {
        unlinked = λ parent footnote new. find-more (is_link text parent footnote) links (link kind)
            (holds.unlinked parent footnote (new-parts (names_link footnote) before item parent new).0)
            (linked parent footnote (apart parent footnote new));
        from = λ footnote.
            let more : count_by (names_link footnote) after_item
            ≡ count_by (names_link footnote) before + cond (alike kind footnote) 1 0 =
            count-more (names_link footnote) before item
            ∙ ap (λ (b : Bool). count_by (names_link footnote) before + cond b 1 0) (kinds footnote) in
            let kept : length (filter (λ (one : TextLink). one.child == text && alike one.footnote footnote)
            (links ++ link kind ∷ []))
            ≡ length (filter (λ (one : TextLink). one.child == text && alike one.footnote footnote) links)
            + cond (alike kind footnote) 1 0 =
            kept-more (λ (one : TextLink). one.child == text && alike one.footnote footnote) links (link kind)
            ∙ ap (λ (b : Bool). length (filter (λ (one : TextLink). one.child == text && alike one.footnote footnote)
            links) + cond (b && alike kind footnote) 1 0) (eq-eqb text text refl) in
            let many = holds.from footnote in
            kept ∙ ap (λ (n : ℕ). n + cond (alike kind footnote) 1 0) many ∙ sym more;
        into = λ parent footnote new.
            let kept : length (filter (λ (one : TextLink). one.parent == parent && alike one.footnote footnote)
            (links ++ link kind ∷ []))
            ≡ length (filter (λ (one : TextLink). one.parent == parent && alike one.footnote footnote) links) + 0 =
            kept-more (λ (one : TextLink). one.parent == parent && alike one.footnote footnote) links (link kind)
            ∙ ap (λ (b : Bool). length (filter (λ (one : TextLink). one.parent == parent && alike one.footnote footnote)
            links) + cond b 1 0) (apart parent footnote new) in
            let was = holds.into parent footnote (new-parts (names_link footnote) before item parent new).0 in
            omega (arith, kept, was);
      } where
        apart : (parent : ℕ) (footnote : Bool) → is_new (names_link footnote) after_item parent ≡ true →
            (item.value == parent && alike kind footnote) ≡ false
        apart parent footnote new =
            let none = (new-parts (names_link footnote) before item parent new).1 in
            and-back (alike kind footnote) (item.value == parent)
            (ap (λ (b : Bool). b && item.value == parent) (sym (kinds footnote)) ∙ none)

        linked : (parent : ℕ) (footnote : Bool) → (item.value == parent && alike kind footnote) ≡ false →
            is_link text parent footnote (link kind) ≡ false
        linked parent footnote none = rw (eq-eqb text text refl) none

      -- the link may be added
      link-fits : (conferences : List ConferenceRow) (recipients : List Recipient) (kind : Bool) →
          is_some (text_of base item.value) ≡ true → is_new (names_link kind) before item.value ≡ true →
          nat_lt (length (links_into base item.value kind)) (most_links kind) ≡ true →
          has_room (names_link kind) before (most_links kind) ≡ true →
          fits (effect.LinkAdded (link kind)) (placed conferences recipients links) ≡ true
      unfolding fits text_of link_of links_from links_into
      link-fits conferences recipients kind there new into room =
          and_from _ _ (and_from _ _ (and_from _ _ (and_from _ _ (ap is_some text-found)
          (text-there' item.value there)) (ap is_none (holds.unlinked item.value kind new)))
          (room-for _ _ (most_links kind) (holds.from kind) room))
          (room-for _ _ (most_links kind) (holds.into item.value kind new) into)

  -- ---- all items in turn
  abbrev After : List MiscInput → List Effect → Type 0
  After before rest = (conferences : List ConferenceRow) (recipients : List Recipient) (links : List TextLink) →
      HoldsTo before conferences recipients → HoldsBy before links →
      all_fit rest (placed conferences recipients links) ≡ true

  item-step : (before : List MiscInput) (item : MiscInput) (rest : List Effect) →
      item_guard asked anonymous before item ≡ None → has_local base item ≡ true →
      After (before ++ item ∷ []) rest → After before (item_effect asked text item ∷ rest)
  unfolding after_effect
  item-step before item rest passes left after conferences recipients links to by =
      let to_one = cond-none (names_recipient item) (recipient_guard asked anonymous before item.value) _ passes in
      cond_both (names_recipient item) (effect.RecipientAdded (given before item))
      (effect.LinkAdded (link before item (names_footnote item)))
      (λ (one : Effect). all_fit (one ∷ rest) (placed conferences recipients links) ≡ true)
      (λ is. fit-then (effect.RecipientAdded (given before item)) rest (placed conferences recipients links)
      (recipient-fits before item conferences recipients to links (to_one.0 is) is left)
      (after (changed_row number_of_conference item.value (with_local_drawn (given before item).local) conferences)
      (recipients ++ given before item ∷ []) links (more-to before item conferences recipients to is)
      (other-by before item links by (recipient-links item is))))
      (λ apart. linked apart (cond-none (names_comment item) (comment_guard asked before item.value) _
      (to_one.1 apart)))
    where
      -- a link of this kind
      link-step : (kind : Bool) → ((footnote : Bool) → names_link footnote item ≡ alike kind footnote) →
          names_recipient item ≡ false → is_some (text_of base item.value) ≡ true →
          is_new (names_link kind) before item.value ≡ true →
          nat_lt (length (links_into base item.value kind)) (most_links kind) ≡ true →
          has_room (names_link kind) before (most_links kind) ≡ true →
          all_fit (effect.LinkAdded (link before item kind) ∷ rest) (placed conferences recipients links) ≡ true
      link-step kind kinds apart there new into room =
          fit-then (effect.LinkAdded (link before item kind)) rest (placed conferences recipients links)
          (link-fits before item links by conferences recipients kind there new into room)
          (after conferences recipients (links ++ link before item kind ∷ [])
          (other-to before item conferences recipients to apart)
          (more-by before item links by kind kinds))

      named : (kind : Bool) → names_footnote item ≡ kind →
          all_fit (effect.LinkAdded (link before item kind) ∷ rest) (placed conferences recipients links) ≡ true →
          all_fit (effect.LinkAdded (link before item (names_footnote item)) ∷ rest)
          (placed conferences recipients links) ≡ true
      named kind is fit = subst (λ (footnote : Bool).
          all_fit (effect.LinkAdded (link before item footnote) ∷ rest) (placed conferences recipients links) ≡ true)
          (sym is) fit

      noted : names_recipient item ≡ false → (names_footnote item ≡ true →
          footnote_guard asked anonymous before item.value ≡ None) × (names_footnote item ≡ false →
          refusal error.ILLEGAL_MISC (min (length before) 4294967295) ≡ None) →
          all_fit (effect.LinkAdded (link before item (names_footnote item)) ∷ rest)
          (placed conferences recipients links) ≡ true
      noted apart guards = elim (cases_Bool (names_footnote item)) [
        | inr none ↦ let wrong = guards.1 none in absurd cc
        | inl is ↦
            let pass = all-pass (text_guard asked.db (caller asked) item.value
            ∷ author_guard asked.db (caller asked) anonymous item.value
            ∷ unless (is_new names_footnote before item.value) error.ALREADY_FOOTNOTE item.value
            ∷ into_guard asked.db item.value true error.FOOTNOTE_LIMIT item.value
            ∷ unless (has_room names_footnote before (most_links true)) error.FOOTNOTE_LIMIT 0 ∷ []) (guards.0 is) in
            named true is (link-step true (footnote-links item is) apart
            (text-there asked.db (caller asked) item.value pass.0)
            (passed (is_new names_footnote before item.value) _ item.value pass.1.1.0)
            (passed (nat_lt (length (links_into asked.db item.value true)) (most_links true)) _ item.value pass.1.1.1.0)
            (passed (has_room names_footnote before (most_links true)) _ 0 pass.1.1.1.1.0))
      ]

      linked : names_recipient item ≡ false → (names_comment item ≡ true →
          comment_guard asked before item.value ≡ None) × (names_comment item ≡ false →
          cond (names_footnote item) (footnote_guard asked anonymous before item.value)
          (refusal error.ILLEGAL_MISC (min (length before) 4294967295)) ≡ None) →
          all_fit (effect.LinkAdded (link before item (names_footnote item)) ∷ rest)
          (placed conferences recipients links) ≡ true
      linked apart guards = elim (cases_Bool (names_comment item)) [
        | inr none ↦ noted apart (cond-none (names_footnote item) (footnote_guard asked anonymous before item.value)
            (refusal error.ILLEGAL_MISC (min (length before) 4294967295)) (guards.1 none))
        | inl is ↦
            let pass = all-pass (text_guard asked.db (caller asked) item.value
            ∷ unless (is_new names_comment before item.value) error.ALREADY_COMMENT item.value
            ∷ into_guard asked.db item.value false error.COMMENT_LIMIT item.value
            ∷ unless (has_room names_comment before (most_links false)) error.COMMENT_LIMIT 0 ∷ []) (guards.0 is) in
            named false (comment-links item is true) (link-step false (comment-links item is) apart
            (text-there asked.db (caller asked) item.value pass.0)
            (passed (is_new names_comment before item.value) _ item.value pass.1.0)
            (passed (nat_lt (length (links_into asked.db item.value false)) (most_links false)) _ item.value pass.1.1.0)
            (passed (has_room names_comment before (most_links false)) _ 0 pass.1.1.1.0))
      ]

  all-items : (items before : List MiscInput) (rest : List Effect) →
      first_refusal (item_guards asked anonymous before items) ≡ None → list_all (has_local base) items ≡ true →
      After (before ++ items) rest → After before (map (item_effect asked text) items ++ rest)
  all-items [] before rest passes left after =
      subst (λ (all : List MiscInput). After all rest) (append-nil before) after
  all-items (item ∷ items) before rest passes left after =
      let pass = first-passes (item_guard asked anonymous before item)
      (item_guards asked anonymous (before ++ item ∷ []) items) passes in
      let parts = and_parts (has_local base item) (list_all (has_local base) items) left in
      item-step before item (map (item_effect asked text) items ++ rest) pass.0 parts.0
      (all-items items (before ++ item ∷ []) rest pass.1 parts.1
      (subst (λ (all : List MiscInput). After all rest) (sym (append_assoc before (item ∷ []) items)) after))

  -- the conferences that items name are there
  named-there : (items before : List MiscInput) → first_refusal (item_guards asked anonymous before items) ≡ None →
      AllByRecursion (λ item. names_recipient item ≡ true → is_some (conference_of base item.value) ≡ true) items
  named-there [] before passes = tt
  named-there (item ∷ items) before passes =
      let pass = first-passes (item_guard asked anonymous before item)
      (item_guards asked anonymous (before ++ item ∷ []) items) passes in (
        λ is.
            let to_one = cond-none (names_recipient item) (recipient_guard asked anonymous before item.value) _
            pass.0 in
            let one = all-pass (conference_guard asked.db (caller asked) item.value
            ∷ unless (is_new names_recipient before item.value) error.ALREADY_RECIPIENT item.value
            ∷ submit_guard asked.db (caller asked) item.value
            ∷ anonymous_guard asked.db anonymous item.value
            ∷ unless (has_room names_recipient before MOST_RECIPIENTS) error.RECIPIENT_LIMIT 0 ∷ []) (to_one.0 is) in
            conference-there asked.db (caller asked) item.value one.0,
        named-there items (before ++ item ∷ []) pass.1,
      )

  -- ---- what follows the items
  record Ready (db : Db) : Type 0 where
    numbered : (elim (text_of db text) as (λ _. Bool) [
      | None ↦ false
      | Some row ↦ row.author == author && row.created_local == 0
    ]) ≡ true
    conferences : (number : ℕ) → is_some (conference_of base number) ≡ true → is_some (conference_of db number) ≡ true
    persons : db.persons ≡ base.persons

  ready-placed : (conferences : List ConferenceRow) (recipients : List Recipient) (links : List TextLink) →
      ((number : ℕ) → is_some (row_of number_of_conference number base.conferences) ≡ true →
      is_some (row_of number_of_conference number conferences) ≡ true) → Ready (placed conferences recipients links)
  unfolding text_of conference_of
  ready-placed conferences recipients links there = record {
    numbered = ap (λ (found : Option TextRow). elim found as (λ _. Bool) [
      | None ↦ false
      | Some row ↦ row.author == author && row.created_local == 0
    ]) text-found ∙ and_from _ _ (eq-eqb author author refl) refl;
    conferences = there;
    persons = refl;
  }

  bears-placed : (conferences : List ConferenceRow) (recipients : List Recipient) (links : List TextLink) →
      Bears true text 1 [] (placed conferences recipients links)
  unfolding text_of next_item_of items_of
  bears-placed conferences recipients links = record {
    there = ap is_some text-found;
    next = ap (λ (found : Option TextRow). elim found as (λ _. ℕ) [ None ↦ 1 | Some row ↦ row.next_item ]) text-found;
    items = none-held base whole true text (λ number. ap (λ (found : Option TextRow). elim found as (λ _. Bool) [
      | None ↦ false
      | Some row ↦ nat_lt number row.next_item
    ]) text-absent);
  }

  ready-item : (item : AuxRow) (db : Db) → Ready db → Ready (after_effect (effect.AuxAdded true text item) db)
  unfolding after_effect text_of conference_of
  ready-item item db ready = record {
    numbered = has-changed number_of_text (λ row. row.author == author && row.created_local == 0)
        (Texts.with_item_drawn item.number) (λ row. refl) text db.texts (λ row found is. is) text ready.numbered;
    conferences = ready.conferences;
    persons = ready.persons;
  }

  ready-written : (number : ℕ) (db : Db) → Ready db →
      Ready (after_effect (effect.ConfField number (field.LastWritten asked.moment)) db)
  unfolding after_effect text_of conference_of
  ready-written number db ready = record {
    numbered = ready.numbered;
    conferences = λ other there. has-changed number_of_conference (λ row. true)
        (Conferences.with_field (field.LastWritten asked.moment)) (field-number (field.LastWritten asked.moment)) number
        db.conferences (λ row found is. refl) other (ready.conferences other there);
    persons = ready.persons;
  }

  written-fits : (number : ℕ) (db : Db) → Ready db → is_some (conference_of base number) ≡ true →
      fits (effect.ConfField number (field.LastWritten asked.moment)) db ≡ true
  unfolding fits
  written-fits number db ready there = found-set asked number (field.LastWritten asked.moment) (λ row. refl)
      (conference_of db number) (ready.conferences number there)

  written-then : (items : List MiscInput) (rest : List Effect) →
      AllByRecursion (λ item. is_some (conference_of base item.value) ≡ true) items →
      ((db : Db) → Ready db → all_fit rest db ≡ true) → (db : Db) → Ready db →
      all_fit (map (item_written asked) items ++ rest) db ≡ true
  written-then [] rest there after db ready = after db ready
  written-then (item ∷ items) rest there after db ready =
      fit-then (item_written asked item) (map (item_written asked) items ++ rest) db
      (written-fits item.value db ready there.0)
      (written-then items rest there.1 after (after_effect (item_written asked item) db)
      (ready-written item.value db ready))

  -- the author counts the text
  created-fits : (db : Db) → Ready db → is_some (person_of base author) ≡ true →
      nat_le (next_created_of base author) LAST_DRAWN ≡ true →
      fits (effect.Created author (next_created_of base author) text) db ≡ true
  unfolding fits person_of next_created_of
  created-fits db ready there last =
      let next : (elim (row_of number_of_person author db.persons) as (λ _. ℕ)
      [ None ↦ 1 | Some row ↦ row.next_created ])
      ≡ (elim (row_of number_of_person author base.persons) as (λ _. ℕ)
      [ None ↦ 1 | Some row ↦ row.next_created ]) =
      ap (λ (rows : List PersonRow). elim (row_of number_of_person author rows) as (λ _. ℕ)
      [ None ↦ 1 | Some row ↦ row.next_created ]) ready.persons in
      let here : is_some (row_of number_of_person author db.persons) ≡ true =
      ap (λ (rows : List PersonRow). is_some (row_of number_of_person author rows)) ready.persons ∙ there in
      by _ _ _ (text_of db text) ready.numbered here (level _ _ next) last where
        by : (person drawn left : Bool) (found : Option TextRow) → (elim found as (λ _. Bool) [
          | None ↦ false
          | Some row ↦ row.author == author && row.created_local == 0
        ]) ≡ true → person ≡ true → drawn ≡ true → left ≡ true → (elim found as (λ _. Bool) [
          | None ↦ false
          | Some row ↦ person && (row.author == author && row.created_local == 0 && drawn && left)
        ]) ≡ true
        by person drawn left None is one two three = is
        by person drawn left (Some found) is one two three = and_from _ _ one (and_from _ _ (and_from _ _ is two) three)

  created-there : (db : Db) → Ready db → is_some (person_of base author) ≡ true → (local : ℕ) →
      is_some (person_of (after_effect (effect.Created author local text) db) author) ≡ true
  unfolding after_effect person_of
  created-there db ready there local = has-changed number_of_person (λ row. true) (with_created_drawn local)
      (λ row. refl) author db.persons (λ row found is. refl) author
      (ap (λ (rows : List PersonRow). is_some (row_of number_of_person author rows)) ready.persons ∙ there)

  author-fit : (db : Db) → Ready db → is_some (person_of base author) ≡ true →
      nat_le (next_created_of base author) LAST_DRAWN ≡ true →
      all_fit (effect.Created author (next_created_of base author) text
      ∷ counts author counter.CreatedLines (lines_of body)
      ++ counts author counter.CreatedBytes (length body)) db ≡ true
  author-fit db ready there last =
      let local : ℕ = next_created_of base author in
      fit-then (effect.Created author local text)
      (counts author counter.CreatedLines (lines_of body) ++ counts author counter.CreatedBytes (length body)) db
      (created-fits db ready there last)
      (counts-then author counter.CreatedLines (lines_of body) (counts author counter.CreatedBytes (length body))
      (after_effect (effect.Created author local text) db) (created-there db ready there local)
      (λ db there. counts-fit db author counter.CreatedBytes (length body) there))

  text_added-fits : nat_le text LAST_DRAWN ≡ true → nat_le (length body) LONGEST_BODY ≡ true →
      fits (effect.TextAdded text author asked.moment body) base ≡ true
  unfolding fits text_of
  text_added-fits last short =
      and_from _ _ (and_from _ _ (and_from _ _ (le-leb text text (omega arith)) last) (ap is_none text-absent)) short

-- ---- calls 86 and 87
in-order : (a b c d : List Effect) → a ++ b ++ c ++ d ≡ a ++ (b ++ (c ++ d))
in-order a b c d = append_assoc (a ++ b) c d ∙ append_assoc a b (c ++ d)

made_text-fits : (asked : Asked) (anonymous : Bool) (author : ℕ) (given : NewText) (last : List Effect) →
    (whole : IsWhole asked.db) → nat_le (length given.body) LONGEST_BODY ≡ true →
    first_refusal (item_guards asked anonymous [] given.misc_inputs) ≡ None →
    nat_le (next_text_of asked.db) LAST_DRAWN ≡ true → list_all (has_local asked.db) given.misc_inputs ≡ true →
    CanAdd 1 0 (new_items asked given) →
    ((db : Db) → Ready asked whole anonymous author given.body db → all_fit last db ≡ true) →
    all_fit (effect.TextAdded (next_text_of asked.db) author asked.moment given.body
    ∷ map (item_effect asked (next_text_of asked.db)) given.misc_inputs
    ++ items_added true (next_text_of asked.db) (new_items asked given)
    ++ map (item_written asked) (filter names_recipient given.misc_inputs) ++ last) asked.db ≡ true
unfolding after_effect next_text_of
made_text-fits asked anonymous author given last whole short passes drawn left can after =
    let text : ℕ = asked.db.next_text in
    let items : List MiscInput = given.misc_inputs in
    let written : List Effect = map (item_written asked) (filter names_recipient items) in
    let added : List Effect = items_added true text (new_items asked given) in
    let make : Effect = effect.TextAdded text author asked.moment given.body in
    let there : AllByRecursion (λ item. is_some (conference_of asked.db item.value) ≡ true)
    (filter names_recipient items) =
    all-weaker (λ item. (names_recipient item ≡ true → is_some (conference_of asked.db item.value) ≡ true)
    × (names_recipient item ≡ true)) (λ item. is_some (conference_of asked.db item.value) ≡ true)
    (λ item both. both.0 both.1) (filter names_recipient items)
    (all-passing (λ item. names_recipient item ≡ true → is_some (conference_of asked.db item.value) ≡ true)
    names_recipient items (named-there asked whole anonymous author given.body items [] passes)) in
    fit-then make (map (item_effect asked text) items ++ added ++ written ++ last) asked.db
    (text_added-fits asked whole anonymous author given.body drawn short)
    (subst (λ (effects : List Effect). all_fit effects (after_effect make asked.db) ≡ true)
    (sym (in-order (map (item_effect asked text) items) added written last))
    (all-items asked whole anonymous author given.body items [] (added ++ (written ++ last)) passes left
    (λ conferences recipients links to by.
    items-fit (Ready asked whole anonymous author given.body) true text
    (ready-item asked whole anonymous author given.body) (written ++ last)
    (written-then asked whole anonymous author given.body (filter names_recipient items) last there after)
    (new_items asked given) 1 []
    (placed asked whole anonymous author given.body conferences recipients links)
    (bears-placed asked whole anonymous author given.body conferences recipients links)
    (ready-placed asked whole anonymous author given.body conferences recipients links to.there) can)
    asked.db.conferences asked.db.recipients asked.db.links (first-to asked whole anonymous author given.body)
    (first-by asked whole anonymous author given.body)))

pub new_text-fits : (anonymous : Bool) (asked : Asked) (given : NewText) → IsWhole asked.db →
    AreSeated asked.db asked.seats → (new_text anonymous asked given).early ≡ None →
    all_fit (new_text anonymous asked given).rest.effects asked.db ≡ true
unfolding next_text_of
new_text-fits anonymous asked given whole seated passes =
    let person : ℕ = (caller asked).person in
    let pass = all-pass (login_guard (caller asked) ∷ size_guard given.body LONGEST_BODY
    ∷ first_refusal (item_guards asked anonymous [] given.misc_inputs)
    ∷ unless (has_numbers asked.db person anonymous given.misc_inputs) error.TEMPORARY_FAILURE 0 ∷ []) passes in
    let short = passed (nat_le (length given.body) LONGEST_BODY) _ LONGEST_BODY pass.1.0 in
    let numbers = and_parts _ _ (passed (has_numbers asked.db person anonymous given.misc_inputs) _ 0 pass.1.1.1.0) in
    let drawn = and_parts _ _ numbers.0 in
    with_items-fit (new_items_guard object.Text person given.aux_items) _ asked.db (λ allowed.
    let can : CanAdd 1 0 (new_items asked given) = inherited_from-can asked.db whole
    (filter names_comment given.misc_inputs) (items_from 1 person asked.moment given.aux_items)
    (new_items-can object.Text person given.aux_items person asked.moment allowed) in
    by anonymous given short pass.1.1.0 drawn.0 drawn.1 numbers.1 can (caller-there asked seated pass.0)) where
      by : (anonymous : Bool) (given : NewText) → nat_le (length given.body) LONGEST_BODY ≡ true →
          first_refusal (item_guards asked anonymous [] given.misc_inputs) ≡ None →
          nat_le (next_text_of asked.db) LAST_DRAWN ≡ true → list_all (has_local asked.db) given.misc_inputs ≡ true →
          has_created asked.db (caller asked).person anonymous ≡ true → CanAdd 1 0 (new_items asked given) →
          is_some (person_of asked.db (caller asked).person) ≡ true →
          all_fit (text_effects asked anonymous (next_text_of asked.db) given) asked.db ≡ true
      by true given short passes drawn left created can there = made_text-fits asked true 0 given [] whole short passes
          drawn left can (λ db ready. refl)
      by false given short passes drawn left created can there =
          made_text-fits asked false (caller asked).person given
          (author_effects asked (next_text_of asked.db) given.body) whole short passes drawn left can
          (λ db ready. author-fit asked whole false (caller asked).person given.body db ready there created)
