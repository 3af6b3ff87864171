-- The calls that make texts come to the same over two sets of stored rows that are alike to the caller.
use Rattle.std.proofs.Common.{◌≡◌, ℕ, Bool, true, false, cond, ◌==◌, ◌&&◌, List, [], ◌∷◌, ◌++◌, refl, sym, ap, ap₂}
use Rattle.std.proofs.Common.{◌∙◌, None, Some, eqb-true, subst, length, inl, inr}
use Rattle.std.specs.Prelude.{map, min}
use Rattle.std.specs.List.{filter, list_all, AllByRecursion}
use Rattle.std.proofs.lemmas.Bool.{cases_Bool, cond-true, cond-false}
use Rattle.kom_types.specs.declared.errors.TheConstants as error
use Rattle.kom_types.specs.AuxItems.{inherit, items_from}
use Rattle.kom_types.specs.declared.aux_items.AuxRow.{AuxRow}
use Rattle.kom_types.specs.declared.effects.Effect.{Effect}
use Rattle.kom_types.specs.declared.texts.MiscInput.{MiscInput}
use Rattle.kom_types.specs.declared.texts.NewText.{NewText}
use Rattle.kom_types.specs.declared.conferences.ConferenceHead.{ConferenceHead}
use Rattle.kom_types.specs.tables.Conferences.{allows_anonymous}
use Rattle.kom_model.specs.Db.{Db, items_of, next_text_of}
use Rattle.kom_model.specs.Effects.{is_recipient_tag}
use Rattle.kom_model.specs.Rights.{reads, sees}
use Rattle.kom_model.specs.calls.Call.{Asked}
use Rattle.kom_model.specs.calls.Guards.{Guard, caller, login_guard, first_refusal, refusal}
use Rattle.kom_model.specs.calls.NewTexts.{names_recipient, names_comment, names_footnote, recipient_guard}
use Rattle.kom_model.specs.calls.NewTexts.{comment_guard}
use Rattle.kom_model.specs.calls.NewTexts.{footnote_guard, item_guard, item_guards, has_local, item_effect}
use Rattle.kom_model.specs.calls.NewTexts.{inherited_from}
use Rattle.kom_model.specs.calls.NewTexts.{takes_anonymous, new_text}
use Rattle.kom_model.specs.calls.Texts.{author_of}
use Rattle.kom_laws.proofs.masking.Rows.{told}
use Rattle.noninterference.specs.outputs.Answers.{ComesToSame}
use Rattle.noninterference.specs.outputs.Same.{HasSameText}
use Rattle.noninterference.proofs.outputs.Alike.{IsAlikeTo, over, caller-same, read-passed, seen-passed}
use Rattle.noninterference.proofs.outputs.Passing.{itself, passing, refusing, by-guard}

-- of guards that let pass the first does, and so do the others
each-passed : (guard : Guard) (guards : List Guard) → first_refusal (guard ∷ guards) ≡ None →
    (guard ≡ None) × (first_refusal guards ≡ None)
each-passed None guards passes = (refl, passes)
each-passed (Some refused) guards passes = cc

first-passed : (guard : Guard) (guards : List Guard) → first_refusal (guard ∷ guards) ≡ None → guard ≡ None
first-passed guard guards passes = (each-passed guard guards passes).0

-- no item names a recipient and a text that is commented
comment-alone : (tag : ℕ) → (tag == 2) ≡ true → is_recipient_tag tag ≡ false
comment-alone tag is = subst (λ n. is_recipient_tag n ≡ false) (sym (eqb-true tag 2 is)) refl

module _ (asked : Asked) (one : Db) (alike : IsAlikeTo (caller asked) one asked.db) where
  abbrev part : Asked
  part = over one asked

  same : caller part ≡ caller asked
  same = caller-same asked one alike

  author-same : (text : ℕ) → author_of one text ≡ author_of asked.db text
  author-same text = ap (told 0 (λ (author : ℕ). author)) (alike.public.author text)

  anonymous-same : (conference : ℕ) → takes_anonymous one conference ≡ takes_anonymous asked.db conference
  anonymous-same conference = ap (told false (λ (head : ConferenceHead). allows_anonymous head.kind))
      (alike.public.head conference)

  -- ---- the guards of items
  recipient_guard-same : (anonymous : Bool) (before : List MiscInput) (conference : ℕ) →
      recipient_guard part anonymous before conference ≡ recipient_guard asked anonymous before conference
  recipient_guard-same anonymous before conference = rw same (rw (alike.rights.sees conference)
      (rw (alike.rights.may_submit conference) (rw (anonymous-same conference) refl)))

  module _ (login : login_guard (caller asked) ≡ None) where
    comment_guard-same : (before : List MiscInput) (text : ℕ) →
        comment_guard part before text ≡ comment_guard asked before text
    comment_guard-same before text = simp (same, by-guard, alike.rights.reads) (refusing refl (λ read.
        let whole : HasSameText text one asked.db =
        alike.text text login (read-passed asked.db (caller asked) text read) in
        rw (whole.links_into false) refl))

    footnote_guard-same : (anonymous : Bool) (before : List MiscInput) (text : ℕ) →
        footnote_guard part anonymous before text ≡ footnote_guard asked anonymous before text
    footnote_guard-same anonymous before text = simp (same, by-guard, alike.rights.reads, author-same)
        (refusing refl (λ read. let whole : HasSameText text one asked.db =
        alike.text text login (read-passed asked.db (caller asked) text read) in
        rw (whole.links_into true) refl))

    item_guard-same : (anonymous : Bool) (before : List MiscInput) (item : MiscInput) →
        item_guard part anonymous before item ≡ item_guard asked anonymous before item
    item_guard-same anonymous before item =
        let recipient : recipient_guard part anonymous before item.value
        ≡ recipient_guard asked anonymous before item.value =
        recipient_guard-same anonymous before item.value in
        let comment : comment_guard part before item.value ≡ comment_guard asked before item.value =
        comment_guard-same before item.value in
        let footnote : footnote_guard part anonymous before item.value
        ≡ footnote_guard asked anonymous before item.value =
        footnote_guard-same anonymous before item.value in
        λ i. cond (names_recipient item) (recipient i) (cond (names_comment item) (comment i)
        (cond (names_footnote item) (footnote i)
        (refusal error.ILLEGAL_MISC (min (length before) 4294967295))))

    item_guards-same : (anonymous : Bool) (before items : List MiscInput) →
        item_guards part anonymous before items ≡ item_guards asked anonymous before items
    item_guards-same anonymous before [] = refl
    item_guards-same anonymous before (item ∷ items) =
        ap₂ (λ (guard : Guard) (guards : List Guard). guard ∷ guards) (item_guard-same anonymous before item)
        (item_guards-same anonymous (before ++ item ∷ []) items)

  -- ---- what an item names is seen, or read, where its guards let pass
  pub record IsNamed (item : MiscInput) : Type 0 where
    pub recipient : names_recipient item ≡ true → sees asked.db (caller asked) item.value ≡ true
    pub comment : names_comment item ≡ true → reads asked.db (caller asked) item.value ≡ true

  named-passed : (anonymous : Bool) (before : List MiscInput) (item : MiscInput) →
      item_guard asked anonymous before item ≡ None → IsNamed item
  named-passed anonymous before item passes = record {
    recipient = λ is. seen-passed asked.db (caller asked) item.value
        (first-passed _ _ (sym (cond-true _ _ _ is) ∙ passes));
    comment = λ is. read-passed asked.db (caller asked) item.value
        (first-passed _ _ (sym (cond-true _ _ _ is) ∙ sym (cond-false _ _ _ (comment-alone item.tag is)) ∙ passes));
  }

  all-named : (anonymous : Bool) (before items : List MiscInput) →
      first_refusal (item_guards asked anonymous before items) ≡ None → AllByRecursion IsNamed items
  all-named anonymous before [] passes = tt
  all-named anonymous before (item ∷ items) passes =
      let parts = each-passed (item_guard asked anonymous before item)
      (item_guards asked anonymous (before ++ item ∷ []) items) passes in
      (named-passed anonymous before item parts.0, all-named anonymous (before ++ item ∷ []) items parts.1)

  -- ---- what a text is made of
  local-same : (item : MiscInput) → IsNamed item → has_local one item ≡ has_local asked.db item
  local-same item named = elim (cases_Bool (names_recipient item)) [
    | inl is ↦ rw (alike.conference item.value (named.recipient is)).next_local refl
    | inr other ↦ rw other refl
  ]

  locals-same : (items : List MiscInput) → AllByRecursion IsNamed items →
      list_all (has_local one) items ≡ list_all (has_local asked.db) items
  locals-same [] named = refl
  locals-same (item ∷ items) named =
      ap₂ (λ first others. first && others) (local-same item named.0) (locals-same items named.1)

  effect-same : (text : ℕ) (item : MiscInput) → IsNamed item → item_effect part text item ≡ item_effect asked text item
  effect-same text item named = elim (cases_Bool (names_recipient item)) [
    | inl is ↦ rw (alike.conference item.value (named.recipient is)).next_local refl
    | inr other ↦ rw other refl
  ]

  effects-same : (text : ℕ) (items : List MiscInput) → AllByRecursion IsNamed items →
      map (item_effect part text) items ≡ map (item_effect asked text) items
  effects-same text [] named = refl
  effects-same text (item ∷ items) named = ap₂ (λ (first : Effect) (others : List Effect). first ∷ others)
      (effect-same text item named.0) (effects-same text items named.1)

  inherited-same : login_guard (caller asked) ≡ None → (rows : List AuxRow) (items : List MiscInput) →
      AllByRecursion IsNamed items →
      inherited_from one rows (filter names_comment items) ≡ inherited_from asked.db rows (filter names_comment items)
  inherited-same login rows [] named = refl
  inherited-same login rows (item ∷ items) named = elim (cases_Bool (names_comment item)) [
    | inl is ↦
        let whole : HasSameText item.value one asked.db = alike.text item.value login (named.0.comment is) in
        rw is (ap (λ found. inherited_from one (inherit rows found) (filter names_comment items)) whole.items
        ∙ inherited-same login (inherit rows (items_of asked.db true item.value)) items named.1)
    | inr other ↦ rw other (inherited-same login rows items named.1)
  ]

  pub new_text-same : (anonymous : Bool) (given : NewText) →
      ComesToSame (new_text anonymous part given) (new_text anonymous asked given)
  new_text-same anonymous given = simp (same, by-guard, alike.public.next_text, alike.public.next_created)
      (passing refl (λ login. passing refl (λ short.
      passing (ap first_refusal (item_guards-same login anonymous [] given.misc_inputs)) (λ passes.
      let named : AllByRecursion IsNamed given.misc_inputs = all-named anonymous [] given.misc_inputs passes in
      rw (locals-same given.misc_inputs named) (rw (effects-same (next_text_of asked.db) given.misc_inputs named)
      (rw (inherited-same login (items_from 1 (caller asked).person asked.moment given.aux_items)
      given.misc_inputs named) (itself _)))))))
