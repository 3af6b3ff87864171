-- A text that is hidden from a group as it is made tells it nothing, and what was hidden before is hidden after it.
use Rattle.std.proofs.Common.{◌≡◌, ℕ, ◌+◌, ◌<◌, ◌≤◌, Bool, true, false, cond, not, ◌==◌, ◌||◌, ◌&&◌, List, [], ◌∷◌}
use Rattle.std.proofs.Common.{◌++◌, Some, None, refl, sym, ap, ap₂, ◌∙◌, inl, inr, subst, arith, true≢false, length}
use Rattle.std.proofs.Common.{nat_lt}
use Rattle.std.specs.Prelude.{map, is_some, IsTrue}
use Rattle.std.specs.List.{AllByRecursion, filter, list_all}
use Rattle.std.proofs.lemmas.Bool.{cases_Bool, and_from, and_parts, cond_both, not_from_false}
use Rattle.std.proofs.lemmas.Bool.{ne_eqb, or_left, or_right, or_cases, ltb-true, ltb-false}
use Rattle.std.proofs.lemmas.List.Elements.{filter-append}
use Rattle.std.proofs.lemmas.List.Folds.{list_all-append}
use Rattle.kom_types.specs.declared.calls.Call.TheVariants as call
use Rattle.kom_types.specs.declared.decisions.Decision.{Decision}
use Rattle.kom_types.specs.declared.effects.Counter.{Counter}
use Rattle.kom_types.specs.declared.effects.Counter.TheVariants as counter
use Rattle.kom_types.specs.declared.effects.Effect.{Effect}
use Rattle.kom_types.specs.declared.effects.Effect.TheVariants as effect
use Rattle.kom_types.specs.declared.aux_items.Object.TheVariants as object
use Rattle.kom_types.specs.declared.replies.Reply.TheVariants as reply
use Rattle.kom_types.specs.declared.texts.MiscInput.{MiscInput}
use Rattle.kom_types.specs.declared.texts.NewText.{NewText}
use Rattle.kom_types.specs.tables.Texts.{lines_of, number_of_text}
use Rattle.kom_model.specs.declared.viewers.Viewer.{Viewer}
use Rattle.kom_model.specs.Db.{Db, next_text_of, text_of}
use Rattle.kom_model.specs.Decide.{decision_of}
use Rattle.kom_model.specs.Effects.{fits, after_effect, all_fit, apply, apply_all, IsProtected}
use Rattle.kom_model.specs.Kinds.{is_among}
use Rattle.kom_model.specs.Rights.{reads_conference}
use Rattle.kom_model.specs.ToWhom.{is_refused, of_made}
use Rattle.kom_model.specs.Whole.{IsWhole, has_text}
use Rattle.kom_model.specs.calls.AuxItems.{items_added}
use Rattle.kom_model.specs.calls.Call.{Asked}
use Rattle.kom_model.specs.calls.Guards.{Guard, caller, new_items_guard, with_items}
use Rattle.kom_model.specs.calls.NewTexts.{names_recipient, names_footnote, item_effect, item_written, author_effects}
use Rattle.kom_model.specs.calls.NewTexts.{new_items, text_effects}
use Rattle.kom_model.specs.calls.Sessions.{counts}
use Rattle.kom_model.specs.calls.Texts.{new_recipient}
use Rattle.kom_model.proofs.Deciding.{decision-meets}
use Rattle.kom_model.proofs.whole.Counts.{all-of, all-weaker}
use Rattle.kom_model.proofs.whole.Effects.{effects-whole}
use Rattle.kom_laws.specs.masking.Laws.{HidesMore}
use Rattle.kom_laws.specs.masking.Masks.{Mask}
use Rattle.kom_laws.specs.Erasing.{mask_of}
use Rattle.kom_laws.specs.Groups.{Group, IsInGroup, is_unseen, is_unread, weak}
use Rattle.kom_laws.proofs.Rows.{any-same}
use Rattle.noninterference.specs.steps.Steps.{HasNoOpening}
use Rattle.noninterference.proofs.steps.Agreeing.{there-drawn}
use Rattle.noninterference.proofs.steps.Standing.{texts-stood}
use Rattle.noninterference.proofs.steps.Steps.{gone-unread}
use Rattle.noninterference.specs.respect.Hidden.{is_read_by_some, tells_nothing}
use Rattle.noninterference.specs.respect.Quiet.{recipients_seen}
use Rattle.noninterference.specs.respect.Vanishing.{is_masked}
use Rattle.noninterference.proofs.respect.Making.{IsApart, IsKeptFrom, none-any, stays_unread, unseen-same}
use Rattle.noninterference.proofs.respect.Making.{unread-by_all, made-untold, after-kept, next-kept}
use Rattle.noninterference.proofs.respect.Running.{left}
use Rattle.noninterference.proofs.respect.Untold.{AreUntold, unseen-unread}

-- ---- lists
all-passing : {X : Type 0} (P : X → Type 0) (test : X → Bool) → ((row : X) → test row ≡ true → P row) →
    (rows : List X) → list_all test rows ≡ true → AllByRecursion P rows
all-passing P test passes [] all = tt
all-passing P test passes (row ∷ rows) all =
    let parts = and_parts (test row) (list_all test rows) all in
    (passes row parts.0, all-passing P test passes rows parts.1)

filter-both : {X : Type 0} (test other : X → Bool) (rows : List X) →
    filter other (filter test rows) ≡ filter (λ row. test row && other row) rows
filter-both test other [] = refl
filter-both test other (row ∷ rows) = by (test row) (filter-both test other rows) where
  by : (passes : Bool) → filter other (filter test rows) ≡ filter (λ row. test row && other row) rows →
      filter other (cond passes (row ∷ filter test rows) (filter test rows))
      ≡ cond (passes && other row) (row ∷ filter (λ row. test row && other row) rows)
      (filter (λ row. test row && other row) rows)
  by true rest = ap (λ others. cond (other row) (row ∷ others) others) rest
  by false rest = rest

and-true : (b : Bool) → (b && true) ≡ b
and-true true = refl
and-true false = refl

-- effects of one kind of which the mask leaves some, or none
left-mapped : {X : Type 0} (mask : Mask) (make : X → Effect) (test : X → Bool) (rows : List X) →
    AllByRecursion (λ row. not (is_masked mask (make row)) ≡ test row) rows →
    left mask (map make rows) ≡ map make (filter test rows)
left-mapped mask make test [] all = refl
left-mapped mask make test (row ∷ rows) all =
    ap₂ (λ stays (others : List Effect). cond stays (make row ∷ others) others) all.0
    (left-mapped mask make test rows all.1) ∙ by (test row) where
      by : (stays : Bool) → cond stays (make row ∷ map make (filter test rows)) (map make (filter test rows))
          ≡ map make (cond stays (row ∷ filter test rows) (filter test rows))
      by true = refl
      by false = refl

left-none : {X : Type 0} (mask : Mask) (make : X → Effect) (rows : List X) →
    ((row : X) → is_masked mask (make row) ≡ true) → left mask (map make rows) ≡ []
left-none mask make [] masked = refl
left-none mask make (row ∷ rows) masked =
    ap (λ stays. cond stays (make row ∷ left mask (map make rows)) (left mask (map make rows)))
    (ap not (masked row)) ∙ left-none mask make rows masked

each-passes : {X : Type 0} (test : Effect → Bool) (make : X → Effect) (rows : List X) →
    AllByRecursion (λ row. test (make row) ≡ true) rows → list_all test (map make rows) ≡ true
each-passes test make [] all = refl
each-passes test make (row ∷ rows) all = and_from (test (make row)) _ all.0 (each-passes test make rows all.1)

-- ---- what an accepted create-text comes to
abbrev pub text_made : Asked → NewText → Decision
text_made asked given = record {
  reply = reply.Number (next_text_of asked.db);
  effects = text_effects asked false (next_text_of asked.db) given;
  changes = [];
}

pub accepted-made : (asked : Asked) (given : NewText) →
    is_refused (decision_of asked (call.CreateText given)).reply ≡ false →
    decision_of asked (call.CreateText given) ≡ text_made asked given
accepted-made asked given accepted = decision-meets
    (λ decision. is_refused decision.reply ≡ false → decision ≡ text_made asked given)
    (λ why wrong. absurd (true≢false wrong)) asked (call.CreateText given)
    (λ early. by (new_items_guard object.Text (caller asked).person given.aux_items)) accepted where
      by : (guard : Guard) → is_refused (with_items guard (text_made asked given)).reply ≡ false →
          with_items guard (text_made asked given) ≡ text_made asked given
      by None is = refl
      by (Some why) wrong = absurd (true≢false wrong)

-- ---- a text that tells the group nothing
module _ (group : Group) (asked : Asked) (given : NewText) (whole : IsWhole asked.db)
    (protected : IsProtected asked.db) (outside : is_among group.persons (caller asked).person ≡ false)
    (tells : list_all (tells_nothing group asked.db) given.misc_inputs ≡ true) where
  abbrev pub mask : Mask
  mask = mask_of group asked.db

  abbrev pub text : ℕ
  text = next_text_of asked.db

  abbrev pub author : ℕ
  author = (caller asked).person

  -- what is made of it, beside the text itself
  abbrev pub rest : List Effect
  rest = map (item_effect asked text) given.misc_inputs ++ items_added true text (new_items asked given)
      ++ map (item_written asked) (filter names_recipient given.misc_inputs) ++ author_effects asked text given.body

  abbrev pub make : Effect
  make = effect.TextAdded text author asked.moment given.body

  text-absent : is_some (text_of asked.db text) ≡ false
  unfolding text_of next_text_of
  text-absent = elim (cases_Bool (is_some (text_of asked.db asked.db.next_text))) [
    | inl stands ↦
        let less : asked.db.next_text < asked.db.next_text =
        there-drawn number_of_text asked.db.next_text asked.db.next_text asked.db.texts whole.texts.drawn stands in
        absurd (omega (arith, less))
    | inr gone ↦ gone
  ]

  pub text-hidden : mask.text text ≡ true
  text-hidden = gone-unread group asked.db text text-absent

  -- ---- what the mask leaves of it
  item-left : (item : MiscInput) → tells_nothing group asked.db item ≡ true →
      not (is_masked mask (item_effect asked text item))
      ≡ (names_recipient item && not (is_unseen group asked.db item.value))
  item-left item = by (names_recipient item) where
    by : (names : Bool) → cond names
        (is_unseen group asked.db item.value || not (is_read_by_some group asked.db item.value))
        (is_unread group asked.db item.value) ≡ true →
        not (is_masked mask (cond names
        (effect.RecipientAdded (new_recipient asked text item.value item.tag 0))
        (effect.LinkAdded (record {
          child = text;
          parent = item.value;
          footnote = names_footnote item;
          sender = 0;
          at = asked.moment;
        })))) ≡ (names && not (is_unseen group asked.db item.value))
    by true tells = ap (λ hidden. not (hidden && is_unseen group asked.db item.value)) text-hidden
    by false tells = ap₂ (λ hidden unread. not (hidden && unread)) text-hidden tells

  pub rest-left : left mask rest ≡ map (item_effect asked text) (recipients_seen group asked.db given) ++ []
      ++ map (item_written asked) (recipients_seen group asked.db given)
      ++ left mask (author_effects asked text given.body)
  rest-left =
      let items : List Effect = map (item_effect asked text) given.misc_inputs in
      let added : List Effect = items_added true text (new_items asked given) in
      let named : List MiscInput = filter names_recipient given.misc_inputs in
      let seen : MiscInput → Bool =
      λ item. names_recipient item && not (is_unseen group asked.db item.value) in
      let stays : Effect → Bool = λ what. not (is_masked mask what) in
      let of_items : left mask items ≡ map (item_effect asked text) (recipients_seen group asked.db given) =
      left-mapped mask (item_effect asked text) seen given.misc_inputs
      (all-passing (λ item. not (is_masked mask (item_effect asked text item)) ≡ seen item)
      (tells_nothing group asked.db) item-left given.misc_inputs tells) in
      let of_added : left mask added ≡ [] = left-none mask (λ item. effect.AuxAdded true text item)
      (new_items asked given) (λ item. text-hidden) in
      let of_written : left mask (map (item_written asked) named)
      ≡ map (item_written asked) (recipients_seen group asked.db given) =
      left-mapped mask (item_written asked) (λ item. not (is_unseen group asked.db item.value)) named
      (all-of (λ item. not (is_masked mask (item_written asked item)) ≡ not (is_unseen group asked.db item.value))
      (λ item. ap not (and-true (is_unseen group asked.db item.value))) named)
      ∙ ap (map (item_written asked))
      (filter-both names_recipient (λ item. not (is_unseen group asked.db item.value)) given.misc_inputs) in
      filter-append stays (items ++ added ++ map (item_written asked) named) _
      ∙ ap (λ effects. effects ++ left mask (author_effects asked text given.body))
      (filter-append stays (items ++ added) (map (item_written asked) named)
      ∙ ap₂ (λ (first others : List Effect). first ++ others)
      (filter-append stays items added ∙ ap₂ (λ (first others : List Effect). first ++ others) of_items of_added)
      of_written)

  -- ---- nobody of the group reads it
  abbrev stays : Effect → Bool
  stays = stays_unread group asked.db text author outside

  unseen-none : (conference : ℕ) → is_unseen group asked.db conference ≡ true →
      not (is_read_by_some group asked.db conference) ≡ true
  unseen-none conference unseen = not_from_false _ (any-same
      (λ person. reads_conference asked.db (weak person) conference) (λ person. false) group.persons
      (λ person among.
      unseen-unread group asked.db (weak person) conference protected (or_right _ _ among, refl) unseen)
      ∙ none-any group.persons)

  item-stays : (item : MiscInput) → tells_nothing group asked.db item ≡ true →
      stays (item_effect asked text item) ≡ true
  item-stays item = by (names_recipient item) where
    by : (names : Bool) → cond names
        (is_unseen group asked.db item.value || not (is_read_by_some group asked.db item.value))
        (is_unread group asked.db item.value) ≡ true →
        stays (cond names
        (effect.RecipientAdded (new_recipient asked text item.value item.tag 0))
        (effect.LinkAdded (record {
          child = text;
          parent = item.value;
          footnote = names_footnote item;
          sender = 0;
          at = asked.moment;
        }))) ≡ true
    by true tells = elim (or_cases (is_unseen group asked.db item.value) _ tells) [
      | inl unseen ↦ unseen-none item.value unseen
      | inr none ↦ none
    ]
    by false tells = refl

  counts-stay : (which : Counter) (by : ℕ) → list_all stays (counts author which by) ≡ true
  counts-stay which by = cond_both (by == 0) [] (effect.Counted author which by ∷ [])
      (λ effects. list_all stays effects ≡ true) (λ none. refl) (λ some. refl)

  rest-stays : list_all stays rest ≡ true
  rest-stays =
      let items : List Effect = map (item_effect asked text) given.misc_inputs in
      let added : List Effect = items_added true text (new_items asked given) in
      let written : List Effect = map (item_written asked) (filter names_recipient given.misc_inputs) in
      list_all-append stays (items ++ added ++ written) _
      ∙ and_from _ _ (list_all-append stays (items ++ added) written
      ∙ and_from _ _ (list_all-append stays items added ∙ and_from _ _
      (each-passes stays (item_effect asked text) given.misc_inputs
      (all-passing (λ item. stays (item_effect asked text item) ≡ true) (tells_nothing group asked.db) item-stays
      given.misc_inputs tells))
      (each-passes stays (λ item. effect.AuxAdded true text item) (new_items asked given)
      (all-of (λ item. true ≡ true) (λ item. refl) (new_items asked given))))
      (each-passes stays (item_written asked) (filter names_recipient given.misc_inputs)
      (all-of (λ item. true ≡ true) (λ item. refl) (filter names_recipient given.misc_inputs))))
      (list_all-append stays (counts author counter.CreatedLines (lines_of given.body)) _
      ∙ and_from _ _ (counts-stay counter.CreatedLines (lines_of given.body))
      (counts-stay counter.CreatedBytes (length given.body)))

  pub text-untold : (viewer : Viewer) → IsInGroup group viewer →
      AreUntold viewer (of_made (text_effects asked false text given) asked.db)
  text-untold viewer in_group =
      made-untold group asked.db text author outside asked.moment given.body rest rest-stays viewer in_group

  apart : AllByRecursion (IsApart group asked.db text author outside) asked.db.recipients
  unfolding next_text_of
  apart = all-weaker (λ row. IsTrue (has_text asked.db.texts row.text))
      (IsApart group asked.db text author outside)
      (λ row there.
      let less : row.text < asked.db.next_text = there-drawn number_of_text asked.db.next_text row.text asked.db.texts
      whole.texts.drawn there in
      or_left _ _ (not_from_false _ (ne_eqb row.text asked.db.next_text (λ same. omega (arith, less, same)))))
      asked.db.recipients whole.recipients.text_there

  -- ---- what is hidden before is hidden after it
  module _ (fit : all_fit (make ∷ rest) asked.db ≡ true)
      (closed : HasNoOpening group asked.db (apply_all (make ∷ rest) asked.db)) where
    abbrev pub later : Db
    later = apply_all (make ∷ rest) asked.db

    first-fits : fits make asked.db ≡ true
    first-fits = (and_parts (fits make asked.db) _ fit).0

    kept : IsKeptFrom group asked.db text author outside later
    kept = after-kept group asked.db text author outside asked.moment given.body rest rest-stays apart first-fits

    next-later : later.next_text ≡ text + 1
    unfolding after_effect
    next-later = next-kept group asked.db text author outside rest (apply make asked.db) rest-stays
        ∙ ap (λ (fit : Bool). (cond fit (after_effect make asked.db) asked.db).next_text) first-fits

    unread-later : (number : ℕ) → is_unread group asked.db number ≡ true → is_unread group later number ≡ true
    unfolding text_of next_text_of
    unread-later number unread = elim (cases_Bool (is_some (text_of later number))) [
      | inl stands ↦
          let drawn : number < later.next_text = there-drawn number_of_text later.next_text number later.texts
          (effects-whole (make ∷ rest) asked.db whole).texts.drawn stands in
          let below : number < asked.db.next_text + 1 = subst (λ next. number < next) next-later drawn in
          elim (cases_Bool (nat_lt number asked.db.next_text)) [
            | inl less ↦ closed.text number (texts-stood (make ∷ rest) asked.db fit number
                (ltb-true number asked.db.next_text less) stands) stands unread
            | inr more ↦
                let least : asked.db.next_text ≤ number = ltb-false number asked.db.next_text more in
                let here : number ≡ asked.db.next_text = omega (arith, below, least) in
                subst (λ n. is_unread group later n ≡ true) (sym here)
                (unread-by_all group asked.db text author outside later kept)
          ]
      | inr gone ↦ gone-unread group later number gone
    ]

    pub later-hides : HidesMore mask (mask_of group later)
    later-hides = record {
      conference = λ number unseen. unseen-same asked.db later kept.rights group number ∙ unseen;
      text = unread-later;
      person = λ number hidden. hidden;
    }
