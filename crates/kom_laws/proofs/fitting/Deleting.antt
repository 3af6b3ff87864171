-- What the call that deletes a text comes to fits.
use Rattle.std.proofs.Common.{◌≡◌, ℕ, Bool, true, false, not, ◌==◌, ◌||◌, ◌&&◌, List, [], ◌∷◌, ◌++◌, length}
use Rattle.std.proofs.Common.{None}
use Rattle.std.proofs.Common.{refl, sym, ap, ◌∙◌, eqb-true, eq-eqb, append_assoc, subst, inl, inr}
use Rattle.std.specs.Prelude.{map, is_some}
use Rattle.std.specs.List.{AllByRecursion, filter, find, list_any}
use Rattle.std.proofs.lemmas.Bool.{cases_Bool, and_parts, and_from, and_left, or_parts}
use Rattle.kom_types.specs.Bits.{alike}
use Rattle.kom_types.specs.declared.errors.TheConstants as error
use Rattle.kom_types.specs.declared.aux_items.AuxRow.{AuxRow}
use Rattle.kom_types.specs.declared.aux_items.ItemRow.{ItemRow}
use Rattle.kom_types.specs.declared.effects.Effect.{Effect}
use Rattle.kom_types.specs.declared.effects.Effect.TheVariants as effect
use Rattle.kom_types.specs.declared.texts.MarkRow.{MarkRow}
use Rattle.kom_types.specs.declared.texts.Recipient.{Recipient}
use Rattle.kom_types.specs.declared.texts.TextLink.{TextLink}
use Rattle.kom_types.specs.tables.AuxItems.{is_item, is_item_of}
use Rattle.kom_types.specs.tables.Texts.{is_recipient, is_link, is_mark}
use Rattle.kom_model.specs.Db.{Db, text_of, recipient_of, recipients_of, link_of, links_of, links_from, links_into}
use Rattle.kom_model.specs.Db.{mark_of, marks_on, items_of}
use Rattle.kom_model.specs.Effects.{fits, after_effect, all_fit}
use Rattle.kom_model.specs.Whole.{IsWhole}
use Rattle.kom_model.specs.calls.Call.{Asked}
use Rattle.kom_model.specs.calls.Guards.{caller, login_guard, text_guard, unless}
use Rattle.kom_model.specs.calls.Texts.{delete_text, gone_text, owns_text}
use Rattle.kom_laws.proofs.fitting.Guards.{one-fits, all-pass, text-there}
use Rattle.kom_laws.proofs.fitting.Removing.{taken, present, none-left, removed-fit}
use Rattle.kom_model.proofs.whole.Appended.{alike-same}
use Rattle.kom_model.proofs.whole.Counts.{all-weaker, count-none}
use Rattle.kom_model.proofs.whole.OnConferences.{told-length}

-- a link, a recipient, a mark and an item of a text are each the same as another of the same numbers
abbrev same_link : TextLink → TextLink → Bool
same_link one row = is_link one.child one.parent one.footnote row

abbrev same_recipient : Recipient → Recipient → Bool
same_recipient one row = is_recipient one.text one.conference row

abbrev same_mark : MarkRow → MarkRow → Bool
same_mark one row = is_mark one.person one.text row

abbrev pub same_item : Bool → ℕ → ItemRow → ItemRow → Bool
same_item on_text object one row = is_item on_text object one.item.number row

equal : (n : ℕ) → (n == n) ≡ true
equal n = eq-eqb n n refl

alike-own : (one : Bool) → alike one one ≡ true
alike-own true = refl
alike-own false = refl

link-own : (row : TextLink) → same_link row row ≡ true
link-own row = and_from _ _ (and_from _ _ (equal row.child) (equal row.parent)) (alike-own row.footnote)

link-key : (x y row : TextLink) → same_link y row ≡ true → same_link x row ≡ same_link x y
link-key x y row is =
    let kind = and_parts (row.child == y.child && row.parent == y.parent) (alike row.footnote y.footnote) is in
    let numbers = and_parts (row.child == y.child) (row.parent == y.parent) kind.0 in
    rw (
      eqb-true row.child y.child numbers.0,
      eqb-true row.parent y.parent numbers.1,
      alike-same row.footnote y.footnote kind.1,
    ) refl

pub recipient-own : (row : Recipient) → same_recipient row row ≡ true
recipient-own row = and_from _ _ (equal row.text) (equal row.conference)

recipient-key : (x y row : Recipient) → same_recipient y row ≡ true → same_recipient x row ≡ same_recipient x y
recipient-key x y row is =
    let numbers = and_parts (row.text == y.text) (row.conference == y.conference) is in
    rw (eqb-true row.text y.text numbers.0, eqb-true row.conference y.conference numbers.1) refl

pub mark-own : (row : MarkRow) → same_mark row row ≡ true
mark-own row = and_from _ _ (equal row.person) (equal row.text)

mark-key : (x y row : MarkRow) → same_mark y row ≡ true → same_mark x row ≡ same_mark x y
mark-key x y row is =
    let numbers = and_parts (row.person == y.person) (row.text == y.text) is in
    rw (eqb-true row.person y.person numbers.0, eqb-true row.text y.text numbers.1) refl

pub item-own : (on_text : Bool) (object : ℕ) (row : ItemRow) → is_item_of on_text object row ≡ true →
    same_item on_text object row row ≡ true
item-own on_text object row of_object = and_from _ _ of_object (equal row.item.number)

pub item-key : (on_text : Bool) (object : ℕ) (x y row : ItemRow) → is_item_of on_text object y ≡ true →
    same_item on_text object y row ≡ true → same_item on_text object x row ≡ same_item on_text object x y
item-key on_text object x y row of_object is =
    let parts = and_parts (is_item_of on_text object row) (row.item.number == y.item.number) is in
    rw (parts.0, of_object, eqb-true row.item.number y.item.number parts.1) refl

-- what each removal wants, and leaves
link-fit : (db : Db) (row : TextLink) (rows : List TextLink) →
    fits (effect.LinkGone row.child row.parent row.footnote) (record db { links = rows })
    ≡ is_some (find (same_link row) rows)
unfolding fits link_of
link-fit db row rows = refl

link-made : (db : Db) (row : TextLink) (rows : List TextLink) →
    after_effect (effect.LinkGone row.child row.parent row.footnote) (record db { links = rows })
    ≡ record db { links = filter (λ other. not (same_link row other)) rows }
unfolding after_effect
link-made db row rows = refl

recipient-fit : (db : Db) (row : Recipient) (rows : List Recipient) →
    fits (effect.RecipientGone row.text row.conference) (record db { recipients = rows })
    ≡ is_some (find (same_recipient row) rows)
unfolding fits recipient_of
recipient-fit db row rows = refl

recipient-made : (db : Db) (row : Recipient) (rows : List Recipient) →
    after_effect (effect.RecipientGone row.text row.conference) (record db { recipients = rows })
    ≡ record db { recipients = filter (λ other. not (same_recipient row other)) rows }
unfolding after_effect
recipient-made db row rows = refl

mark-fit : (db : Db) (row : MarkRow) (rows : List MarkRow) →
    fits (effect.MarkGone row.person row.text) (record db { marks = rows }) ≡ is_some (find (same_mark row) rows)
unfolding fits mark_of
mark-fit db row rows = refl

mark-made : (db : Db) (row : MarkRow) (rows : List MarkRow) →
    after_effect (effect.MarkGone row.person row.text) (record db { marks = rows })
    ≡ record db { marks = filter (λ other. not (same_mark row other)) rows }
unfolding after_effect
mark-made db row rows = refl

-- an item of an object with a number is there, by the items that are told
pub item-named : (on_text : Bool) (object number : ℕ) (rows : List ItemRow) →
    list_any (λ (item : AuxRow). item.number == number)
    (map (λ (row : ItemRow). row.item) (filter (is_item_of on_text object) rows))
    ≡ is_some (find (is_item on_text object number) rows)
item-named on_text object number [] = refl
item-named on_text object number (row ∷ rows) =
    let rest : list_any (λ (item : AuxRow). item.number == number)
    (map (λ (row : ItemRow). row.item) (filter (is_item_of on_text object) rows))
    ≡ is_some (find (is_item on_text object number) rows) = item-named on_text object number rows in
    elim (cases_Bool (is_item_of on_text object row)) [
      | inl here ↦ elim (cases_Bool (row.item.number == number)) [
        | inl level ↦ rw here (rw level refl)
        | inr apart ↦ rw here (rw apart rest)
      ]
      | inr there ↦ rw there rest
    ]

item-fit : (text : ℕ) (db : Db) (row : ItemRow) (rows : List ItemRow) →
    fits (effect.AuxGone true text row.item.number) (record db { items = rows })
    ≡ is_some (find (same_item true text row) rows)
unfolding fits items_of
item-fit text db row rows = item-named true text row.item.number rows

item-made : (text : ℕ) (db : Db) (row : ItemRow) (rows : List ItemRow) →
    after_effect (effect.AuxGone true text row.item.number) (record db { items = rows })
    ≡ record db { items = filter (λ other. not (same_item true text row other)) rows }
unfolding after_effect
item-made text db row rows = refl

-- ---- the call
pub map-through : {X Y Z : Type 0} (tell : X → Y) (show : Y → Z) (rows : List X) →
    map show (map tell rows) ≡ map (λ row. show (tell row)) rows
map-through tell show [] = refl
map-through tell show (row ∷ rows) = ap (λ others. show (tell row) ∷ others) (map-through tell show rows)

module _ (db : Db) (whole : IsWhole db) (text : ℕ) where
  abbrev touches : TextLink → Bool
  touches row = row.child == text || row.parent == text

  abbrev links_left : List TextLink
  links_left = taken same_link touches (λ x is. link-own x) (λ x y row is. link-key x y row) (filter touches db.links)
      db.links

  abbrev is_sent : Recipient → Bool
  is_sent row = row.text == text

  abbrev recipients_left : List Recipient
  recipients_left = taken same_recipient is_sent (λ x is. recipient-own x) (λ x y row is. recipient-key x y row)
      (filter is_sent db.recipients) db.recipients

  abbrev is_marked : MarkRow → Bool
  is_marked row = row.text == text

  abbrev marks_left : List MarkRow
  marks_left = taken same_mark is_marked (λ x is. mark-own x) (λ x y row is. mark-key x y row)
      (filter is_marked db.marks) db.marks

  abbrev items_left : List ItemRow
  items_left = taken (same_item true text) (is_item_of true text) (item-own true text) (item-key true text)
      (filter (is_item_of true text) db.items) db.items

  abbrev left : Db
  left = record db { links = links_left; recipients = recipients_left; marks = marks_left; items = items_left }

  no-links : AllByRecursion (λ row. touches row ≡ false) links_left
  no-links = none-left same_link touches (λ x is. link-own x) (λ x y row is. link-key x y row) db.links

  none-of : (end : TextLink → ℕ) (footnote : Bool) → ((row : TextLink) → touches row ≡ false →
      (end row == text) ≡ false) →
      (length (filter (λ row. end row == text && alike row.footnote footnote) links_left) == 0) ≡ true
  none-of end footnote apart = eq-eqb _ 0 (count-none (λ row. end row == text && alike row.footnote footnote) links_left
      (all-weaker (λ row. touches row ≡ false) (λ row. (end row == text && alike row.footnote footnote) ≡ false)
      (λ row no. and_left _ _ (apart row no)) links_left no-links))

  -- then nothing hangs on the text
  bare-fits : is_some (text_of db text) ≡ true → fits (effect.TextGone text) left ≡ true
  unfolding fits text_of recipients_of links_from links_into marks_on items_of
  bare-fits there =
      let sent : (length (filter is_sent recipients_left) == 0) ≡ true = eq-eqb _ 0 (count-none is_sent recipients_left
      (none-left same_recipient is_sent (λ x is. recipient-own x)
      (λ x y row is. recipient-key x y row) db.recipients)) in
      let marked : (length (filter is_marked marks_left) == 0) ≡ true = eq-eqb _ 0 (count-none is_marked marks_left
      (none-left same_mark is_marked (λ x is. mark-own x) (λ x y row is. mark-key x y row) db.marks)) in
      let told : (length (map (λ (row : ItemRow). row.item) (filter (is_item_of true text) items_left)) == 0) ≡ true =
      eq-eqb _ 0 (told-length (λ (row : ItemRow). row.item) (filter (is_item_of true text) items_left)
      ∙ count-none (is_item_of true text) items_left
      (none-left (same_item true text) (is_item_of true text) (item-own true text) (item-key true text) db.items)) in
      let child : (row : TextLink) → touches row ≡ false → (row.child == text) ≡ false =
      λ row no. (or_parts (row.child == text) (row.parent == text) no).0 in
      let parent : (row : TextLink) → touches row ≡ false → (row.parent == text) ≡ false =
      λ row no. (or_parts (row.child == text) (row.parent == text) no).1 in
      and_from _ _ there (and_from _ _ (and_from _ _ (and_from _ _ (and_from _ _ (and_from _ _ (and_from _ _ sent
      (none-of (λ row. row.child) false child)) (none-of (λ row. row.child) true child))
      (none-of (λ row. row.parent) false parent)) (none-of (λ row. row.parent) true parent)) marked) told)

  abbrev gone_links : List Effect
  gone_links = map (λ link. effect.LinkGone link.child link.parent link.footnote) (filter touches db.links)

  abbrev gone_recipients : List Effect
  gone_recipients = map (λ row. effect.RecipientGone row.text row.conference) (filter is_sent db.recipients)

  abbrev gone_marks : List Effect
  gone_marks = map (λ row. effect.MarkGone row.person row.text) (filter is_marked db.marks)

  abbrev gone_items : List Effect
  gone_items = map (λ row. effect.AuxGone true text row.item.number) (filter (is_item_of true text) db.items)

  abbrev last : List Effect
  last = effect.TextGone text ∷ []

  all-fit : is_some (text_of db text) ≡ true →
      all_fit (gone_links ++ (gone_recipients ++ (gone_marks ++ (gone_items ++ last)))) db ≡ true
  all-fit there =
      removed-fit same_link touches (λ x is. link-own x) (λ x y row is. link-key x y row)
      (λ row. effect.LinkGone row.child row.parent row.footnote) (λ rows. record db { links = rows }) (link-fit db)
      (link-made db) (gone_recipients ++ (gone_marks ++ (gone_items ++ last))) (filter touches db.links) db.links
      (present same_link touches (λ x is. link-own x) (λ x y row is. link-key x y row) db.links
      (λ x. whole.links.once x.child x.parent x.footnote))
      (removed-fit same_recipient is_sent (λ x is. recipient-own x) (λ x y row is. recipient-key x y row)
      (λ row. effect.RecipientGone row.text row.conference)
      (λ rows. record db { links = links_left; recipients = rows }) (recipient-fit (record db { links = links_left }))
      (recipient-made (record db { links = links_left })) (gone_marks ++ (gone_items ++ last))
      (filter is_sent db.recipients) db.recipients
      (present same_recipient is_sent (λ x is. recipient-own x) (λ x y row is. recipient-key x y row) db.recipients
      (λ x. whole.recipients.once x.text x.conference))
      (removed-fit same_mark is_marked (λ x is. mark-own x) (λ x y row is. mark-key x y row)
      (λ row. effect.MarkGone row.person row.text)
      (λ rows. record db { links = links_left; recipients = recipients_left; marks = rows })
      (mark-fit (record db { links = links_left; recipients = recipients_left }))
      (mark-made (record db { links = links_left; recipients = recipients_left })) (gone_items ++ last)
      (filter is_marked db.marks) db.marks
      (present same_mark is_marked (λ x is. mark-own x) (λ x y row is. mark-key x y row) db.marks
      (λ x. whole.marks.once x.person x.text))
      (removed-fit (same_item true text) (is_item_of true text) (item-own true text) (item-key true text)
      (λ row. effect.AuxGone true text row.item.number)
      (λ rows. record db { links = links_left; recipients = recipients_left; marks = marks_left; items = rows })
      (item-fit text (record db { links = links_left; recipients = recipients_left; marks = marks_left }))
      (item-made text (record db { links = links_left; recipients = recipients_left; marks = marks_left })) last
      (filter (is_item_of true text) db.items) db.items
      (present (same_item true text) (is_item_of true text) (item-own true text) (item-key true text) db.items
      (λ x. whole.items.once true text x.item.number))
      (one-fits (effect.TextGone text) left (bare-fits there)))))

  pub gone_text-fits : is_some (text_of db text) ≡ true → all_fit (gone_text db text) db ≡ true
  unfolding links_of recipients_of marks_on items_of
  gone_text-fits there =
      let told : gone_items ≡ map (λ (item : AuxRow). effect.AuxGone true text item.number)
      (map (λ (row : ItemRow). row.item) (filter (is_item_of true text) db.items)) =
      sym (map-through (λ (row : ItemRow). row.item) (λ (item : AuxRow). effect.AuxGone true text item.number)
      (filter (is_item_of true text) db.items)) in
      let order : gone_links ++ gone_recipients ++ gone_marks ++ gone_items ++ last
      ≡ gone_links ++ (gone_recipients ++ (gone_marks ++ (gone_items ++ last))) =
      append_assoc (gone_links ++ gone_recipients ++ gone_marks) gone_items last
      ∙ append_assoc (gone_links ++ gone_recipients) gone_marks (gone_items ++ last)
      ∙ append_assoc gone_links gone_recipients (gone_marks ++ (gone_items ++ last)) in
      subst (λ (items : List Effect).
      all_fit (gone_links ++ gone_recipients ++ gone_marks ++ items ++ last) db ≡ true) told
      (subst (λ (effects : List Effect). all_fit effects db ≡ true) (sym order) (all-fit there))

pub delete_text-fits : (asked : Asked) (text : ℕ) → IsWhole asked.db → (delete_text asked text).early ≡ None →
    all_fit (delete_text asked text).rest.effects asked.db ≡ true
delete_text-fits asked text whole passes =
    let pass = all-pass (login_guard (caller asked) ∷ text_guard asked.db (caller asked) text
    ∷ unless (owns_text asked.db (caller asked) text) error.PERMISSION_DENIED text ∷ []) passes in
    gone_text-fits asked.db whole text (text-there asked.db (caller asked) text pass.1.0)
