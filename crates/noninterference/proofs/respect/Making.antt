-- A text that is made with recipients alone that nobody of a group reads is read by nobody of it; and no right over a
-- conference hangs on it.
use Rattle.std.proofs.Common.{◌≡◌, ℕ, Bool, true, false, cond, not, ◌==◌, ◌||◌, List, [], ◌∷◌, ◌++◌, Option}
use Rattle.std.proofs.Common.{Some, None, refl, sym, ap, ap₂, ◌∙◌, inl, inr, subst, eqb-true, eq-eqb, true≢false}
use Rattle.std.specs.Prelude.{map, option_map}
use Rattle.std.specs.List.{AllByRecursion, filter, filter_map, list_all, list_any}
use Rattle.std.proofs.lemmas.Bool.{cases_Bool, and_left, and_parts, and_right, both_ways, not-true, not_from_false}
use Rattle.std.proofs.lemmas.Bool.{or_right, or_cases}
use Rattle.row_table.specs.Tables.{row_of, changed_row}
use Rattle.row_table.proofs.Rows.{row_of-with_row}
use Rattle.kom_types.specs.declared.conferences.ConferenceRow.{ConferenceRow}
use Rattle.kom_types.specs.declared.effects.ConfField.TheVariants as field
use Rattle.kom_types.specs.declared.effects.Effect.{Effect}
use Rattle.kom_types.specs.declared.effects.Effect.TheVariants as effect
use Rattle.kom_types.specs.declared.memberships.MembershipRow.{MembershipRow}
use Rattle.kom_types.specs.declared.texts.Recipient.{Recipient}
use Rattle.kom_types.specs.declared.texts.TextRow.{TextRow}
use Rattle.kom_types.specs.tables.Conferences.{number_of_conference, with_local_drawn, with_field}
use Rattle.kom_types.specs.tables.Texts as Texts
use Rattle.kom_types.specs.tables.Texts.{number_of_text, fresh_text, with_created_local}
use Rattle.kom_model.specs.declared.viewers.Viewer.{Viewer}
use Rattle.kom_model.specs.Db.{Db, empty_db, conference_of, conference_head_of, membership_of, membership_kind_of}
use Rattle.kom_model.specs.Db.{text_of, text_author_of, recipients_of}
use Rattle.kom_model.specs.Effects.{fits, after_effect, apply, apply_all}
use Rattle.kom_model.specs.Kinds.{is_among}
use Rattle.kom_model.specs.Messages.{gets_text, new_text}
use Rattle.kom_model.specs.Rights.{sees, reads_conference, reads, reads_by_recipient, is_author}
use Rattle.kom_model.specs.Shown.{text_head_of}
use Rattle.kom_model.specs.ToWhom.{text_added, recipient_added, only_added, of_made}
use Rattle.kom_laws.specs.masking.Masks.{Mask, blank_conference, blank_membership}
use Rattle.kom_laws.proofs.masking.Rows.{told, told-changed}
use Rattle.kom_laws.specs.Groups.{Group, IsInGroup, is_unseen, is_unread, weak}
use Rattle.kom_laws.proofs.Rights.{reads_conference-masked, unseen-masked}
use Rattle.kom_laws.proofs.Rows.{any-same, any-among}
use Rattle.noninterference.specs.respect.Hidden.{is_read_by_some}
use Rattle.noninterference.proofs.respect.Untold.{AreUntold}

-- a mask of everything
abbrev all : Mask
all = record {
  conference = λ number. true;
  text = λ number. true;
  person = λ number. true;
}

-- rows by which rights over conferences are told
abbrev only : List ConferenceRow → List MembershipRow → Db
only conferences memberships = record empty_db { conferences = conferences; memberships = memberships }

-- the same conferences, but for what no right hangs on, and the same memberships
pub record HasRights (base db : Db) : Type 0 where
  pub conferences : map blank_conference db.conferences ≡ map blank_conference base.conferences
  pub memberships : db.memberships ≡ base.memberships

module _ (base db : Db) (has : HasRights base db) where
  pub reads_conference-same : (viewer : Viewer) (conference : ℕ) →
      reads_conference db viewer conference ≡ reads_conference base viewer conference
  unfolding reads_conference conference_head_of conference_of membership_kind_of membership_of
  reads_conference-same viewer conference =
      let between : reads_conference (only (map blank_conference db.conferences)
      (map blank_membership db.memberships)) viewer conference
      ≡ reads_conference (only (map blank_conference base.conferences)
      (map blank_membership base.memberships)) viewer conference =
      λ i. reads_conference (only (has.conferences i) (map blank_membership (has.memberships i))) viewer conference in
      sym (reads_conference-masked all db viewer conference) ∙ between
      ∙ reads_conference-masked all base viewer conference

  pub unseen-same : (group : Group) (conference : ℕ) → is_unseen group db conference ≡ is_unseen group base conference
  unfolding sees conference_head_of conference_of membership_kind_of membership_of
  unseen-same group conference =
      let between : is_unseen group (only (map blank_conference db.conferences)
      (map blank_membership db.memberships)) conference
      ≡ is_unseen group (only (map blank_conference base.conferences)
      (map blank_membership base.memberships)) conference =
      λ i. is_unseen group (only (has.conferences i) (map blank_membership (has.memberships i))) conference in
      sym (unseen-masked group all db conference) ∙ between ∙ unseen-masked group all base conference

-- ---- lists
all-appended : {X : Type 0} (P : X → Type 0) (rows : List X) (given : X) → AllByRecursion P rows → P given →
    AllByRecursion P (rows ++ given ∷ [])
all-appended P [] given rows is = (is, tt)
all-appended P (row ∷ rows) given rows' is = (rows'.0, all-appended P rows given rows'.1 is)

pub none-any : (numbers : List ℕ) → list_any (λ number. false) numbers ≡ false
none-any [] = refl
none-any (number ∷ numbers) = none-any numbers

blank-changed : (at : ℕ) (change : ConferenceRow → ConferenceRow) →
    ((row : ConferenceRow) → blank_conference (change row) ≡ blank_conference row) → (rows : List ConferenceRow) →
    map blank_conference (changed_row number_of_conference at change rows) ≡ map blank_conference rows
blank-changed at change same [] = refl
blank-changed at change same (row ∷ rows) =
    ap₂ (λ (first : ConferenceRow) (others : List ConferenceRow). first ∷ others)
    (by (row.number == at)) (blank-changed at change same rows) where
      by : (here : Bool) → blank_conference (cond here (change row) row) ≡ blank_conference row
      by true = same row
      by false = refl

module _ (group : Group) (base : Db) (text author : ℕ) (outside : is_among group.persons author ≡ false) where
  -- effects that make the text read by nobody of the group
  abbrev pub stays_unread : Effect → Bool
  stays_unread (effect.RecipientAdded given) = not (is_read_by_some group base given.conference)
  stays_unread (effect.LinkAdded link) = true
  stays_unread (effect.AuxAdded true object item) = true
  stays_unread (effect.ConfField number (field.LastWritten at)) = true
  stays_unread (effect.Created person local made) = true
  stays_unread (effect.Counted person counter by) = true
  stays_unread other = false

  -- a recipient of another text, or one that nobody of the group reads
  abbrev pub IsApart : Recipient → Type 0
  IsApart row = (not (row.text == text) || not (is_read_by_some group base row.conference)) ≡ true

  -- the text is of nobody of the group, who reads no recipient of it
  pub record IsKeptFrom (db : Db) : Type 0 where
    pub of_other : told true (λ (row : TextRow). not (is_among group.persons row.author))
        (row_of number_of_text text db.texts) ≡ true
    pub recipients : AllByRecursion IsApart db.recipients
    pub rights : HasRights base db

  author-kept : (at : ℕ) (change : TextRow → TextRow) → ((row : TextRow) → (change row).number ≡ row.number) →
      ((row : TextRow) → (change row).author ≡ row.author) → (texts : List TextRow) →
      told true (λ (row : TextRow). not (is_among group.persons row.author))
      (row_of number_of_text text (changed_row number_of_text at change texts))
      ≡ told true (λ (row : TextRow). not (is_among group.persons row.author)) (row_of number_of_text text texts)
  author-kept at change numbers authors texts = told-changed (λ row. row.number == text)
      (λ row. cond (row.number == at) (change row) row) true
      (λ (row : TextRow). not (is_among group.persons row.author))
      (λ (row : TextRow). not (is_among group.persons row.author))
      (λ row. by-number row (row.number == at))
      (λ row here. by-author row (row.number == at)) texts where
        by-number : (row : TextRow) (changes : Bool) →
            ((cond changes (change row) row).number == text) ≡ (row.number == text)
        by-number row true = ap (λ n. n == text) (numbers row)
        by-number row false = refl

        by-author : (row : TextRow) (changes : Bool) →
            not (is_among group.persons (cond changes (change row) row).author)
            ≡ not (is_among group.persons row.author)
        by-author row true = ap (λ n. not (is_among group.persons n)) (authors row)
        by-author row false = refl

  made-kept : (what : Effect) (db : Db) → stays_unread what ≡ true → IsKeptFrom db → IsKeptFrom (after_effect what db)
  unfolding after_effect
  made-kept (effect.RecipientAdded given) db stays kept = record {
    of_other = kept.of_other;
    recipients = all-appended IsApart db.recipients given kept.recipients (or_right _ _ stays);
    rights = record {
      conferences = blank-changed given.conference (with_local_drawn given.local) (λ row. refl) db.conferences
          ∙ kept.rights.conferences;
      memberships = kept.rights.memberships;
    };
  }
  made-kept (effect.LinkAdded link) db stays kept = record {
    of_other = kept.of_other;
    recipients = kept.recipients;
    rights = record { conferences = kept.rights.conferences; memberships = kept.rights.memberships };
  }
  made-kept (effect.AuxAdded true object item) db stays kept = record {
    of_other = author-kept object (Texts.with_item_drawn item.number) (λ row. refl) (λ row. refl) db.texts
        ∙ kept.of_other;
    recipients = kept.recipients;
    rights = record { conferences = kept.rights.conferences; memberships = kept.rights.memberships };
  }
  made-kept (effect.ConfField number (field.LastWritten at)) db stays kept = record {
    of_other = kept.of_other;
    recipients = kept.recipients;
    rights = record {
      conferences = blank-changed number (with_field (field.LastWritten at)) (λ row. refl) db.conferences
          ∙ kept.rights.conferences;
      memberships = kept.rights.memberships;
    };
  }
  made-kept (effect.Created person local given) db stays kept = record {
    of_other = author-kept given (with_created_local local) (λ row. refl) (λ row. refl) db.texts ∙ kept.of_other;
    recipients = kept.recipients;
    rights = record { conferences = kept.rights.conferences; memberships = kept.rights.memberships };
  }
  made-kept (effect.Counted person counter by) db stays kept = record {
    of_other = kept.of_other;
    recipients = kept.recipients;
    rights = record { conferences = kept.rights.conferences; memberships = kept.rights.memberships };
  }
  made-kept other db stays kept = absurd (true≢false (sym stays))

  pub all-kept : (effects : List Effect) (db : Db) → list_all stays_unread effects ≡ true → IsKeptFrom db →
      IsKeptFrom (apply_all effects db)
  all-kept [] db stay kept = kept
  all-kept (what ∷ effects) db stay kept =
      let parts = and_parts (stays_unread what) (list_all stays_unread effects) stay in
      all-kept effects (apply what db) parts.1 (by (fits what db) (made-kept what db parts.0 kept)) where
        by : (fit : Bool) → IsKeptFrom (after_effect what db) → IsKeptFrom (cond fit (after_effect what db) db)
        by true kept' = kept'
        by false kept' = kept

  -- no other text is made
  next-made : (what : Effect) (db : Db) → stays_unread what ≡ true → (after_effect what db).next_text ≡ db.next_text
  unfolding after_effect
  next-made (effect.RecipientAdded given) db stays = refl
  next-made (effect.LinkAdded link) db stays = refl
  next-made (effect.AuxAdded true object item) db stays = refl
  next-made (effect.ConfField number (field.LastWritten at)) db stays = refl
  next-made (effect.Created person local given) db stays = refl
  next-made (effect.Counted person counter by) db stays = refl
  next-made other db stays = absurd (true≢false (sym stays))

  pub next-kept : (effects : List Effect) (db : Db) → list_all stays_unread effects ≡ true →
      (apply_all effects db).next_text ≡ db.next_text
  next-kept [] db stay = refl
  next-kept (what ∷ effects) db stay =
      let parts = and_parts (stays_unread what) (list_all stays_unread effects) stay in
      next-kept effects (apply what db) parts.1 ∙ by (fits what db) (next-made what db parts.0) where
        by : (fit : Bool) → (after_effect what db).next_text ≡ db.next_text →
            (cond fit (after_effect what db) db).next_text ≡ db.next_text
        by true same = same
        by false same = refl

  -- ---- who is of the group does not read it
  module _ (db : Db) (kept : IsKeptFrom db) (viewer : Viewer) (in_group : IsInGroup group viewer) where
    fails : (may : Bool) → (may ≡ true → ⊥) → may ≡ false
    fails true wrong = absurd (wrong refl)
    fails false wrong = refl

    conference-unread : (conference : ℕ) → not (is_read_by_some group base conference) ≡ true →
        reads_conference db viewer conference ≡ false
    conference-unread conference none =
        reads_conference-same base db kept.rights viewer conference
        ∙ fails (reads_conference base viewer conference) (λ is.
        both_ways (is_read_by_some group base conference) (not-true _ none)
        (any-among (λ person. reads_conference base (weak person) conference) group.persons viewer.person in_group.0
        (subst (λ strong. reads_conference base (record { person = viewer.person; strong = strong }) conference
        ≡ true) in_group.1 is)))

    recipient-unread : (row : Recipient) → IsApart row → (row.text == text) ≡ true →
        reads_conference db viewer row.conference ≡ false
    recipient-unread row apart here = elim (or_cases (not (row.text == text)) _ apart) [
      | inl other ↦ absurd (both_ways (row.text == text) (not-true _ other) here)
      | inr none ↦ conference-unread row.conference none
    ]

    none-read : (rows : List Recipient) → AllByRecursion IsApart rows →
        list_any (λ row. reads_conference db viewer row.conference) (filter (λ row. row.text == text) rows) ≡ false
    none-read [] apart = refl
    none-read (row ∷ rows) apart = elim (cases_Bool (row.text == text)) [
      | inl here ↦ rw here (rw (recipient-unread row apart.0 here) (none-read rows apart.1))
      | inr there ↦ rw there (none-read rows apart.1)
    ]

    by_recipient-unread : reads_by_recipient db viewer text ≡ false
    unfolding recipients_of
    by_recipient-unread = none-read db.recipients kept.recipients

    not-author : (author : ℕ) → not (is_among group.persons author) ≡ true → is_author viewer.person author ≡ false
    not-author author none = and_right _ _ (fails (author == viewer.person) (λ is.
        both_ways (is_among group.persons author) (not-true _ none)
        (subst (λ n. is_among group.persons n ≡ true) (sym (eqb-true author viewer.person is)) in_group.0)))

    pub unread : reads db viewer text ≡ false
    unfolding reads text_author_of text_of
    unread = by (row_of number_of_text text db.texts) kept.of_other where
      by : (found : Option TextRow) →
          told true (λ (row : TextRow). not (is_among group.persons row.author)) found ≡ true →
          told false (λ author. viewer.strong || is_author viewer.person author || reads_by_recipient db viewer text)
          (option_map (λ (row : TextRow). row.author) found) ≡ false
      by None none = refl
      by (Some row) none =
          let mine : is_author viewer.person row.author ≡ false = not-author row.author none in
          λ i. in_group.1 i || mine i || by_recipient-unread i

  pub unread-by_all : (db : Db) → IsKeptFrom db → is_unread group db text ≡ true
  unread-by_all db kept = not_from_false _ (any-same (λ person. reads db (weak person) text) (λ person. false)
      group.persons (λ person among. unread db kept (weak person) (among, refl)) ∙ none-any group.persons)

  -- ---- so it is told to nobody of the group
  made-none : (effects : List Effect) → list_all stays_unread effects ≡ true → filter_map text_added effects ≡ []
  made-none [] stay = refl
  made-none (effect.TextAdded number author at body ∷ effects) stay = absurd (true≢false (sym stay))
  made-none (other ∷ effects) stay = made-none effects (and_parts (stays_unread other) _ stay).1

  added-apart : (effects : List Effect) → list_all stays_unread effects ≡ true →
      AllByRecursion IsApart (filter_map recipient_added effects)
  added-apart [] stay = tt
  added-apart (effect.RecipientAdded given ∷ effects) stay =
      let parts = and_parts (stays_unread (effect.RecipientAdded given)) (list_all stays_unread effects) stay in
      (or_right (not (given.text == text)) _ parts.0, added-apart effects parts.1)
  added-apart (other ∷ effects) stay = added-apart effects (and_parts (stays_unread other) _ stay).1

  module _ (at : ℕ) (body : List ℕ) (effects : List Effect) (stay : list_all stays_unread effects ≡ true) where
    abbrev make : Effect
    make = effect.TextAdded text author at body

    only-kept : IsKeptFrom (only_added (make ∷ effects) base)
    only-kept = record {
      of_other = rw (eq-eqb text text refl) (ap not outside);
      recipients = added-apart effects stay;
      rights = record { conferences = refl; memberships = refl };
    }

    pub made-untold : (viewer : Viewer) → IsInGroup group viewer → AreUntold viewer (of_made (make ∷ effects) base)
    made-untold viewer in_group =
        let ungot : gets_text (only_added (make ∷ effects) base) viewer text ≡ false =
        and_left _ _ (unread (only_added (make ∷ effects) base) only-kept viewer in_group) in
        subst (λ (rows : List TextRow). AreUntold viewer
        (map (λ row. new_text (only_added (make ∷ effects) base) (text_head_of row))
        (fresh_text text author at body ∷ rows))) (sym (made-none effects stay)) (rw ungot refl, tt)

    -- and once it is made, whatever else is made of it
    text-kept : AllByRecursion IsApart base.recipients → IsKeptFrom (after_effect make base)
    unfolding after_effect
    text-kept apart = record {
      of_other = ap (told true (λ (row : TextRow). not (is_among group.persons row.author)))
          (row_of-with_row number_of_text text (fresh_text text author at body) base.texts)
          ∙ rw (eq-eqb text text refl) (ap not outside);
      recipients = apart;
      rights = record { conferences = refl; memberships = refl };
    }

    pub after-kept : AllByRecursion IsApart base.recipients → fits make base ≡ true →
        IsKeptFrom (apply_all (make ∷ effects) base)
    after-kept apart fit = all-kept effects (apply make base) stay
        (subst (λ db. IsKeptFrom db) (sym once) (text-kept apart)) where
          once : apply make base ≡ after_effect make base
          once = rw fit refl
