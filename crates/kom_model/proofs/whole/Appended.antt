-- Recipients, links and aux-items that are added, or taken away, stay whole.
use Rattle.std.proofs.Common.{◌≡◌, ℕ, ◌<◌, ◌≤◌, Bool, true, false, ◌==◌, ◌&&◌, List, [], ◌∷◌, ◌++◌, length}
use Rattle.std.proofs.Common.{refl, sym, arith, eqb-true}
use Rattle.std.specs.Prelude.{is_some, is_none}
use Rattle.std.specs.List.{AllByRecursion, filter, find}
use Rattle.std.proofs.lemmas.Bool.{and_parts}
use Rattle.kom_types.specs.declared.limits.TheConstants.{LONGEST_CONTENT, MOST_AUX_ITEMS, MOST_RECIPIENTS}
use Rattle.kom_types.specs.AuxItems.{kind_of}
use Rattle.kom_types.specs.Bits.{alike}
use Rattle.kom_types.specs.declared.aux_items.ItemRow.{ItemRow}
use Rattle.kom_types.specs.declared.conferences.ConferenceRow.{ConferenceRow}
use Rattle.kom_types.specs.declared.texts.Recipient.{Recipient}
use Rattle.kom_types.specs.declared.texts.TextLink.{TextLink}
use Rattle.kom_types.specs.declared.texts.TextRow.{TextRow}
use Rattle.kom_types.specs.tables.AuxItems.{is_item, is_item_of}
use Rattle.kom_types.specs.tables.Texts.{is_recipient, recipients_of, is_link, links_from, links_into}
use Rattle.kom_model.specs.Effects.{is_recipient_tag, most_links}
use Rattle.kom_model.specs.Whole.{AreRecipients, AreLinks, AreItems, has_text, has_drawn_local, has_drawn_item}
use Rattle.kom_model.proofs.whole.Counts.{all-kept, all-more, count-kept, most-more, count-none, none-found}

-- two bits that are alike are the same
pub alike-same : (one other : Bool) → alike one other ≡ true → one ≡ other
alike-same true true is = refl
alike-same true false is = sym is
alike-same false true is = is
alike-same false false is = refl

-- a count that is bounded is so of fewer rows
fewer : {X : Type 0} (test keep : X → Bool) (most : ℕ) (rows : List X) → length (filter test rows) ≤ most →
    length (filter test (filter keep rows)) ≤ most
fewer test keep most rows less = let kept = count-kept test keep rows in omega (arith, less, kept)

-- a count of none has room for one
none-room : {X : Type 0} (test : X → Bool) (rows : List X) → AllByRecursion (λ row. test row ≡ false) rows →
    length (filter test rows) < 1
none-room test rows none = let zero = count-none test rows none in omega (arith, zero)

-- ---- recipients
module _ (texts : List TextRow) (conferences : List ConferenceRow) (rows : List Recipient)
    (whole : AreRecipients rows texts conferences) where
  pub recipients-kept : (keep : Recipient → Bool) → AreRecipients (filter keep rows) texts conferences
  recipients-kept keep = record {
    text_there = all-kept _ keep rows whole.text_there;
    drawn = all-kept _ keep rows whole.drawn;
    tagged = all-kept _ keep rows whole.tagged;
    once = λ text conference. fewer (is_recipient text conference) keep 1 rows (whole.once text conference);
    local_once = λ conference local. fewer (λ row. row.conference == conference && row.local == local) keep 1 rows
        (whole.local_once conference local);
    limited = λ text. fewer (λ row. row.text == text) keep MOST_RECIPIENTS rows (whole.limited text);
  }

  -- one more, whose local number is new in its conference
  pub recipients-more : (given : Recipient) → has_text texts given.text ≡ true →
      has_drawn_local conferences given.conference given.local ≡ true →
      is_none (find (is_recipient given.text given.conference) rows) ≡ true → is_recipient_tag given.tag ≡ true →
      AllByRecursion (λ row. (row.conference == given.conference && row.local == given.local) ≡ false) rows →
      length (recipients_of given.text rows) < MOST_RECIPIENTS →
      AreRecipients (rows ++ given ∷ []) texts conferences
  recipients-more given text drawn absent tag new room = record {
    text_there = all-more _ rows given whole.text_there text;
    drawn = all-more _ rows given whole.drawn drawn;
    tagged = all-more _ rows given whole.tagged tag;
    once = λ text conference. most-more (is_recipient text conference) 1 rows given (whole.once text conference)
        (λ is.
        let parts = and_parts (given.text == text) (given.conference == conference) is in
        rw (← eqb-true given.text text parts.0, ← eqb-true given.conference conference parts.1)
        (none-room (is_recipient given.text given.conference) rows
        (none-found (is_recipient given.text given.conference) rows absent)));
    local_once = λ conference local. most-more (λ row. row.conference == conference && row.local == local) 1 rows
        given (whole.local_once conference local)
        (λ is.
        let parts = and_parts (given.conference == conference) (given.local == local) is in
        rw (← eqb-true given.conference conference parts.0, ← eqb-true given.local local parts.1)
        (none-room (λ row. row.conference == given.conference && row.local == given.local) rows new));
    limited = λ text. most-more (λ row. row.text == text) MOST_RECIPIENTS rows given (whole.limited text)
        (λ is. rw (← eqb-true given.text text is) room);
  }

-- ---- links
module _ (texts : List TextRow) (rows : List TextLink) (whole : AreLinks rows texts) where
  pub links-kept : (keep : TextLink → Bool) → AreLinks (filter keep rows) texts
  links-kept keep = record {
    child_there = all-kept _ keep rows whole.child_there;
    parent_there = all-kept _ keep rows whole.parent_there;
    once = λ child parent footnote. fewer (is_link child parent footnote) keep 1 rows
        (whole.once child parent footnote);
    limited_from = λ text footnote. fewer (λ row. row.child == text && alike row.footnote footnote) keep
        (most_links footnote) rows (whole.limited_from text footnote);
    limited_into = λ text footnote. fewer (λ row. row.parent == text && alike row.footnote footnote) keep
        (most_links footnote) rows (whole.limited_into text footnote);
  }

  pub links-more : (given : TextLink) → has_text texts given.child ≡ true → has_text texts given.parent ≡ true →
      is_none (find (is_link given.child given.parent given.footnote) rows) ≡ true →
      length (links_from given.child given.footnote rows) < most_links given.footnote →
      length (links_into given.parent given.footnote rows) < most_links given.footnote →
      AreLinks (rows ++ given ∷ []) texts
  links-more given child parent absent from into = record {
    child_there = all-more _ rows given whole.child_there child;
    parent_there = all-more _ rows given whole.parent_there parent;
    once = λ child parent footnote. most-more (is_link child parent footnote) 1 rows given
        (whole.once child parent footnote)
        (λ is.
        let parts = and_parts (given.child == child && given.parent == parent) (alike given.footnote footnote) is in
        let numbers = and_parts (given.child == child) (given.parent == parent) parts.0 in
        rw (
          ← eqb-true given.child child numbers.0,
          ← eqb-true given.parent parent numbers.1,
          ← alike-same given.footnote footnote parts.1,
        )
        (none-room (is_link given.child given.parent given.footnote) rows
        (none-found (is_link given.child given.parent given.footnote) rows absent)));
    limited_from = λ text footnote. most-more (λ row. row.child == text && alike row.footnote footnote)
        (most_links footnote) rows given (whole.limited_from text footnote)
        (λ is.
        let parts = and_parts (given.child == text) (alike given.footnote footnote) is in
        rw (← eqb-true given.child text parts.0, ← alike-same given.footnote footnote parts.1) from);
    limited_into = λ text footnote. most-more (λ row. row.parent == text && alike row.footnote footnote)
        (most_links footnote) rows given (whole.limited_into text footnote)
        (λ is.
        let parts = and_parts (given.parent == text) (alike given.footnote footnote) is in
        rw (← eqb-true given.parent text parts.0, ← alike-same given.footnote footnote parts.1) into);
  }

-- ---- aux-items
module _ (texts : List TextRow) (conferences : List ConferenceRow) (rows : List ItemRow)
    (whole : AreItems rows texts conferences) where
  pub items-kept : (keep : ItemRow → Bool) → AreItems (filter keep rows) texts conferences
  items-kept keep = record {
    drawn = all-kept _ keep rows whole.drawn;
    known = all-kept _ keep rows whole.known;
    short = all-kept _ keep rows whole.short;
    once = λ on_text object number. fewer (is_item on_text object number) keep 1 rows
        (whole.once on_text object number);
    limited = λ on_text object. fewer (is_item_of on_text object) keep MOST_AUX_ITEMS rows
        (whole.limited on_text object);
  }

  -- one more, whose number is new on its object
  pub items-more : (given : ItemRow) →
      has_drawn_item texts conferences given.on_text given.object given.item.number ≡ true →
      is_some (kind_of given.item.tag) ≡ true → length given.item.content ≤ LONGEST_CONTENT →
      AllByRecursion (λ row. is_item given.on_text given.object given.item.number row ≡ false) rows →
      length (filter (is_item_of given.on_text given.object) rows) < MOST_AUX_ITEMS →
      AreItems (rows ++ given ∷ []) texts conferences
  items-more given drawn known short new room = record {
    drawn = all-more _ rows given whole.drawn drawn;
    known = all-more _ rows given whole.known known;
    short = all-more _ rows given whole.short short;
    once = λ on_text object number. most-more (is_item on_text object number) 1 rows given
        (whole.once on_text object number)
        (λ is.
        let parts = and_parts (is_item_of on_text object given) (given.item.number == number) is in
        let on = and_parts (alike given.on_text on_text) (given.object == object) parts.0 in
        rw (
          ← alike-same given.on_text on_text on.0,
          ← eqb-true given.object object on.1,
          ← eqb-true given.item.number number parts.1,
        )
        (none-room (is_item given.on_text given.object given.item.number) rows new));
    limited = λ on_text object. most-more (is_item_of on_text object) MOST_AUX_ITEMS rows given
        (whole.limited on_text object)
        (λ is.
        let on = and_parts (alike given.on_text on_text) (given.object == object) is in
        rw (← alike-same given.on_text on_text on.0, ← eqb-true given.object object on.1) room);
  }
