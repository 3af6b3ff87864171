-- Effects of what is hidden leave the stored rows the same but for that.
use Rattle.std.proofs.Common.{◌≡◌, ℕ, ◌<◌, Bool, true, false, cond, not, ◌==◌, ◌&&◌, List, [], ◌∷◌, refl, sym, ap}
use Rattle.std.proofs.Common.{ap₂, ◌∙◌}
use Rattle.std.proofs.Common.{inl, inr, eqb-true, subst, true≢false}
use Rattle.std.specs.Prelude.{is_some}
use Rattle.std.specs.List.{list_all}
use Rattle.std.proofs.lemmas.Bool.{cases_Bool, and_parts}
use Rattle.kom_types.specs.Bits.{alike}
use Rattle.kom_types.specs.declared.aux_items.ItemRow.{ItemRow}
use Rattle.kom_types.specs.declared.conferences.ConferenceRow.{ConferenceRow}
use Rattle.kom_types.specs.declared.effects.ConfField.{ConfField}
use Rattle.kom_types.specs.declared.effects.ConfField.TheVariants as field
use Rattle.kom_types.specs.declared.effects.Counter.{Counter}
use Rattle.kom_types.specs.declared.effects.Counter.TheVariants as counter
use Rattle.kom_types.specs.declared.effects.Effect.{Effect}
use Rattle.kom_types.specs.declared.effects.Effect.TheVariants as effect
use Rattle.kom_types.specs.declared.memberships.MembershipRow.{MembershipRow}
use Rattle.kom_types.specs.declared.persons.PersonRow.{PersonRow}
use Rattle.kom_types.specs.declared.texts.Recipient.{Recipient}
use Rattle.kom_types.specs.declared.texts.TextLink.{TextLink}
use Rattle.kom_types.specs.declared.texts.TextRow.{TextRow}
use Rattle.kom_types.specs.tables.AuxItems.{is_item}
use Rattle.kom_types.specs.tables.Conferences as Conferences
use Rattle.kom_types.specs.tables.Memberships.{is_membership}
use Rattle.kom_types.specs.tables.Persons.{count_up}
use Rattle.kom_types.specs.tables.Texts as Texts
use Rattle.kom_types.specs.tables.Texts.{is_recipient, is_link, number_of_text}
use Rattle.read_ranges.specs.Merged.{merge_all}
use Rattle.read_ranges.specs.Reads.{ReadRow, is_read_of}
use Rattle.kom_model.specs.Db.{Db, text_of}
use Rattle.kom_model.specs.Effects.{fits, after_effect, apply, apply_all}
use Rattle.kom_model.specs.Whole.{IsWhole}
use Rattle.kom_model.proofs.Protection.{IsProtected-apply_all}
use Rattle.kom_laws.specs.masking.Laws.{HidesMore}
use Rattle.kom_laws.specs.masking.Masks.{Mask, masked_db, blank_conference, blank_person, blank_membership, blank_read}
use Rattle.kom_laws.specs.masking.Masks.{blank_text, stays_recipient, stays_link, stays_item}
use Rattle.kom_laws.proofs.masking.Effects.{same-db}
use Rattle.kom_model.proofs.Fields.{counted-number, field-number}
use Rattle.kom_laws.specs.Erasing.{erased_db, mask_of}
use Rattle.kom_laws.specs.Groups.{Group, is_unseen, is_unread}
use Rattle.kom_laws.proofs.Rights.{unseen-masked}
use Rattle.kom_model.proofs.whole.Effects.{effects-whole}
use Rattle.noninterference.specs.steps.Steps.{IsReadyFor}
use Rattle.noninterference.proofs.steps.Agreeing.{there-drawn}
use Rattle.noninterference.proofs.steps.Below.{erased-below}
use Rattle.noninterference.proofs.steps.Standing.{texts-stood}
use Rattle.noninterference.proofs.steps.Steps.{gone-unread}
use Rattle.noninterference.specs.respect.Vanishing.{is_hidden_field, is_hidden_counter, is_masked, HiddenVanish}
use Rattle.noninterference.proofs.respect.Rows.{picked-vanish, changed-vanishes, added-vanishes, gone-vanish}

-- ---- fields and counters that are hidden
field-vanishes : (what : ConfField) → is_hidden_field what ≡ true → (row : ConferenceRow) →
    blank_conference (Conferences.with_field what row) ≡ blank_conference row
field-vanishes (field.Presentation text) hidden row = refl
field-vanishes (field.Motd text) hidden row = refl
field-vanishes (field.LastWritten at) hidden row = refl
field-vanishes other hidden row = absurd (true≢false (sym hidden))

counter-vanishes : (which : Counter) (by : ℕ) → is_hidden_counter which ≡ true → (row : PersonRow) →
    blank_person (count_up which by row) ≡ blank_person row
counter-vanishes counter.ReadTexts by hidden row = refl
counter-vanishes counter.TextFetches by hidden row = refl
counter-vanishes other by hidden row = absurd (true≢false (sym hidden))

-- an item of a hidden text, or conference
text-goes : (on_text text conference : Bool) → alike on_text true ≡ true → text ≡ true →
    cond on_text (not text) (not conference) ≡ false
text-goes true text conference here hidden = ap not hidden
text-goes false text conference here hidden = absurd (true≢false (sym here))

conference-goes : (on_text text conference : Bool) → alike on_text false ≡ true → conference ≡ true →
    cond on_text (not text) (not conference) ≡ false
conference-goes true text conference here hidden = absurd (true≢false (sym here))
conference-goes false text conference here hidden = ap not hidden

module _ (mask : Mask) (db : Db) where
  recipient-goes : (text conference : ℕ) → (mask.text text && mask.conference conference) ≡ true →
      (row : Recipient) → is_recipient text conference row ≡ true → stays_recipient mask row ≡ false
  recipient-goes text conference hidden row here =
      let parts = and_parts (row.text == text) (row.conference == conference) here in
      ap₂ (λ text conference. not (mask.text text && mask.conference conference)) (eqb-true row.text text parts.0)
      (eqb-true row.conference conference parts.1) ∙ ap not hidden

  link-goes : (child parent : ℕ) (footnote : Bool) → (mask.text child && mask.text parent) ≡ true →
      (row : TextLink) → is_link child parent footnote row ≡ true → stays_link mask row ≡ false
  link-goes child parent footnote hidden row here =
      let parts = and_parts (row.child == child) (row.parent == parent)
      (and_parts (row.child == child && row.parent == parent) (alike row.footnote footnote) here).0 in
      ap₂ (λ child parent. not (mask.text child && mask.text parent)) (eqb-true row.child child parts.0)
      (eqb-true row.parent parent parts.1) ∙ ap not hidden

  text_item-goes : (text number : ℕ) → mask.text text ≡ true → (row : ItemRow) → is_item true text number row ≡ true →
      stays_item mask row ≡ false
  text_item-goes text number hidden row here =
      let parts = and_parts (alike row.on_text true) (row.object == text)
      (and_parts (alike row.on_text true && row.object == text) (row.item.number == number) here).0 in
      text-goes row.on_text (mask.text row.object) (mask.conference row.object) parts.0
      (ap mask.text (eqb-true row.object text parts.1) ∙ hidden)

  conference_item-goes : (conference number : ℕ) → mask.conference conference ≡ true → (row : ItemRow) →
      is_item false conference number row ≡ true → stays_item mask row ≡ false
  conference_item-goes conference number hidden row here =
      let parts = and_parts (alike row.on_text false) (row.object == conference)
      (and_parts (alike row.on_text false && row.object == conference) (row.item.number == number) here).0 in
      conference-goes row.on_text (mask.text row.object) (mask.conference row.object) parts.0
      (ap mask.conference (eqb-true row.object conference parts.1) ∙ hidden)

  effect-vanishes : (what : Effect) → is_masked mask what ≡ true →
      masked_db mask (after_effect what db) ≡ masked_db mask db
  unfolding after_effect
  effect-vanishes (effect.ConfField number what) hidden =
      let parts = and_parts (mask.conference number) (is_hidden_field what) hidden in
      same-db (changed-vanishes (λ (row : ConferenceRow). row.number) mask.conference blank_conference number
      (Conferences.with_field what) (field-number what) (field-vanishes what parts.1) parts.0 db.conferences)
      refl refl refl refl refl refl refl refl refl refl
  effect-vanishes (effect.Counted person which by) hidden =
      let parts = and_parts (mask.person person) (is_hidden_counter which) hidden in
      same-db refl (changed-vanishes (λ (row : PersonRow). row.number) mask.person blank_person person
      (count_up which by) (counted-number which by) (counter-vanishes which by parts.1) parts.0 db.persons)
      refl refl refl refl refl refl refl refl refl
  effect-vanishes (effect.RecipientAdded given) hidden =
      let parts = and_parts (mask.text given.text) (mask.conference given.conference) hidden in
      same-db (changed-vanishes (λ (row : ConferenceRow). row.number) mask.conference blank_conference given.conference
      (Conferences.with_local_drawn given.local) (λ row. refl) (λ row. refl) parts.1 db.conferences)
      refl refl refl refl (added-vanishes (stays_recipient mask) given (ap not hidden) db.recipients)
      refl refl refl refl refl
  effect-vanishes (effect.RecipientGone text conference) hidden =
      same-db refl refl refl refl refl (gone-vanish (stays_recipient mask) (is_recipient text conference)
      (recipient-goes text conference hidden) db.recipients) refl refl refl refl refl
  effect-vanishes (effect.LinkAdded link) hidden =
      same-db refl refl refl refl refl refl (added-vanishes (stays_link mask) link (ap not hidden) db.links)
      refl refl refl refl
  effect-vanishes (effect.LinkGone child parent footnote) hidden =
      same-db refl refl refl refl refl refl (gone-vanish (stays_link mask) (is_link child parent footnote)
      (link-goes child parent footnote hidden) db.links) refl refl refl refl
  effect-vanishes (effect.ReadSet person conference at ranges) hidden =
      same-db refl refl
      (picked-vanish (λ (row : MembershipRow). row.conference) mask.conference blank_membership
      (is_membership person conference) (λ row. record row { last_time_read = at }) (λ row. refl) (λ row. refl)
      (λ row here. ap mask.conference (eqb-true row.conference conference
      (and_parts (row.person == person) (row.conference == conference) here).1) ∙ hidden) db.memberships)
      (picked-vanish (λ (row : ReadRow). row.conference) mask.conference blank_read
      (is_read_of person conference) (λ row. record row { ranges = merge_all ranges }) (λ row. refl) (λ row. refl)
      (λ row here. ap mask.conference (eqb-true row.conference conference
      (and_parts (row.person == person) (row.conference == conference) here).1) ∙ hidden) db.reads)
      refl refl refl refl refl refl refl
  effect-vanishes (effect.AuxAdded true text item) hidden =
      same-db refl refl refl refl
      (changed-vanishes (λ (row : TextRow). row.number) mask.text blank_text text (Texts.with_item_drawn item.number)
      (λ row. refl) (λ row. refl) hidden db.texts) refl refl refl
      (added-vanishes (stays_item mask) (record { on_text = true; object = text; item = item }) (ap not hidden)
      db.items) refl refl
  effect-vanishes (effect.AuxAdded false conference item) hidden =
      same-db (changed-vanishes (λ (row : ConferenceRow). row.number) mask.conference blank_conference conference
      (Conferences.with_item_drawn item.number) (λ row. refl) (λ row. refl) hidden db.conferences)
      refl refl refl refl refl refl refl
      (added-vanishes (stays_item mask) (record { on_text = false; object = conference; item = item }) (ap not hidden)
      db.items) refl refl
  effect-vanishes (effect.AuxGone true text number) hidden =
      same-db refl refl refl refl refl refl refl refl (gone-vanish (stays_item mask) (is_item true text number)
      (text_item-goes text number hidden) db.items) refl refl
  effect-vanishes (effect.AuxGone false conference number) hidden =
      same-db refl refl refl refl refl refl refl refl (gone-vanish (stays_item mask) (is_item false conference number)
      (conference_item-goes conference number hidden) db.items) refl refl
  effect-vanishes other hidden = absurd (true≢false (sym hidden))

-- ---- effects one after the other
effects-vanish : (mask : Mask) (effects : List Effect) (db : Db) → list_all (is_masked mask) effects ≡ true →
    masked_db mask (apply_all effects db) ≡ masked_db mask db
effects-vanish mask [] db hidden = refl
effects-vanish mask (what ∷ effects) db hidden =
    let parts = and_parts (is_masked mask what) (list_all (is_masked mask) effects) hidden in
    effects-vanish mask effects (apply what db) parts.1 ∙ by (fits what db) (effect-vanishes mask db what parts.0) where
      by : (fit : Bool) → masked_db mask (after_effect what db) ≡ masked_db mask db →
          masked_db mask (cond fit (after_effect what db) db) ≡ masked_db mask db
      by true same = same
      by false same = refl

module _ (group : Group) (db : Db) (effects : List Effect) (ready : IsReadyFor group effects db)
    (hidden : list_all (is_masked (mask_of group db)) effects ≡ true) where
  abbrev mask : Mask
  mask = mask_of group db

  abbrev later : Db
  later = apply_all effects db

  vanished : masked_db mask later ≡ masked_db mask db
  vanished = effects-vanish mask effects db hidden

  unseen-same : (number : ℕ) → is_unseen group later number ≡ is_unseen group db number
  unseen-same number = sym (unseen-masked group mask later number) ∙ ap (λ db. is_unseen group db number) vanished
      ∙ unseen-masked group mask db number

  next-same : later.next_text ≡ db.next_text
  next-same = ap (λ (db : Db). db.next_text) vanished

  unread-stays : (number : ℕ) → is_unread group db number ≡ true → is_unread group later number ≡ true
  unfolding text_of
  unread-stays number unread = elim (cases_Bool (is_some (text_of later number))) [
    | inl stands ↦
        let whole : IsWhole later = effects-whole effects db ready.whole in
        let drawn : number < db.next_text = subst (λ next. number < next) next-same
        (there-drawn number_of_text later.next_text number later.texts whole.texts.drawn stands) in
        ready.closed.text number (texts-stood effects db ready.fit number drawn stands) stands unread
    | inr gone ↦ gone-unread group later number gone
  ]

  hides : HidesMore mask (mask_of group later)
  hides = record {
    conference = λ number unseen. unseen-same number ∙ unseen;
    text = unread-stays;
    person = λ number hidden. hidden;
  }

  erased-same : erased_db group later ≡ erased_db group db
  erased-same = erased-below group mask later db (IsProtected-apply_all effects db ready.protected) ready.protected
      hides (record {
        conference = λ number hidden. hidden;
        text = λ number hidden. hidden;
        person = λ number hidden. hidden;
      }) vanished

pub hidden-vanish : HiddenVanish
hidden-vanish = record {
  effect = effect-vanishes;
  effects = λ group db effects ready hidden. erased-same group db effects ready hidden;
}
