-- Each effect comes to the same rows but for what is masked, whether that was masked before or not.
use Rattle.std.proofs.Common.{◌≡◌, ℕ, ◌==◌, true, false, not, List, refl}
use Rattle.std.specs.Prelude.{map}
use Rattle.std.specs.List.{filter}
use Rattle.row_table.specs.Tables.{changed_row}
use Rattle.kom_types.specs.declared.conferences.ConferenceRow.{ConferenceRow}
use Rattle.kom_types.specs.declared.effects.Effect.{Effect}
use Rattle.kom_types.specs.declared.effects.Effect.TheVariants as effect
use Rattle.kom_types.specs.declared.persons.PersonRow.{PersonRow}
use Rattle.kom_types.specs.declared.texts.TextRow.{TextRow}
use Rattle.kom_types.specs.tables.AuxItems.{is_item}
use Rattle.kom_types.specs.tables.Conferences as Conferences
use Rattle.kom_types.specs.tables.Conferences.{number_of_conference, with_name, with_local_drawn, fresh_conference}
use Rattle.kom_types.specs.tables.Persons as Persons
use Rattle.kom_types.specs.tables.Persons.{number_of_person, fresh_person, count_up, logged_in, with_hash}
use Rattle.kom_types.specs.tables.Persons.{with_created_drawn}
use Rattle.kom_types.specs.tables.Texts as Texts
use Rattle.kom_types.specs.tables.Texts.{number_of_text, fresh_text, with_created_local, is_recipient, is_link}
use Rattle.read_ranges.specs.Merged.{merge_all}
use Rattle.kom_model.specs.Db.{Db}
use Rattle.kom_model.specs.Effects.{after_effect, without_number, member_row}
use Rattle.kom_laws.specs.masking.Masks.{Mask, masked_db, masked_conference, stays_recipient, blank_conference}
use Rattle.kom_laws.specs.masking.Masks.{masked_text, masked_membership, masked_read, masked_person, stays_link}
use Rattle.kom_laws.specs.masking.Masks.{stays_item, blank_person, blank_text}
use Rattle.kom_laws.proofs.masking.Listed.{map-twice, filter-twice, filter-appended, filter-filtered}
use Rattle.kom_laws.proofs.masking.Numbered.{masked-twice, picked-masked, changed-masked, added-masked, gone-masked}
use Rattle.kom_model.proofs.Fields.{field-number, person_field-number, counted-number}
use Rattle.kom_laws.proofs.masking.Fields.{field-blank, person_field-blank, counted-blank}
use Rattle.kom_laws.proofs.masking.Memberships.{membership-twice, read-set, gone-membership, set-membership}
use Rattle.kom_laws.proofs.masking.Reading.{read-twice, readers-gone, reader-set, ranges-set}

-- rows that are the same table by table
pub same-db : {one other : Db} → one.conferences ≡ other.conferences → one.persons ≡ other.persons →
    one.memberships ≡ other.memberships → one.reads ≡ other.reads → one.texts ≡ other.texts →
    one.recipients ≡ other.recipients → one.links ≡ other.links → one.marks ≡ other.marks →
    one.items ≡ other.items → one.next_conference ≡ other.next_conference → one.next_text ≡ other.next_text →
    one ≡ other
same-db conferences persons memberships reads texts recipients links marks items next next_text = λ i. record {
  conferences = conferences i;
  persons = persons i;
  memberships = memberships i;
  reads = reads i;
  texts = texts i;
  recipients = recipients i;
  links = links i;
  marks = marks i;
  items = items i;
  next_conference = next i;
  next_text = next_text i;
}

module _ (mask : Mask) (db : Db) where
  conferences-changed : (number : ℕ) (change : ConferenceRow → ConferenceRow) →
      ((row : ConferenceRow) → (change row).number ≡ row.number) →
      ((row : ConferenceRow) → blank_conference (change (blank_conference row)) ≡ blank_conference (change row)) →
      map (masked_conference mask) (changed_row number_of_conference number change
      (map (masked_conference mask) db.conferences))
      ≡ map (masked_conference mask) (changed_row number_of_conference number change db.conferences)
  conferences-changed number change keeps same = changed-masked number_of_conference mask.conference blank_conference
      (λ row. refl) (λ row. refl) number change keeps same db.conferences

  persons-changed : (number : ℕ) (change : PersonRow → PersonRow) →
      ((row : PersonRow) → (change row).number ≡ row.number) →
      ((row : PersonRow) → blank_person (change (blank_person row)) ≡ blank_person (change row)) →
      map (masked_person mask) (changed_row number_of_person number change (map (masked_person mask) db.persons))
      ≡ map (masked_person mask) (changed_row number_of_person number change db.persons)
  persons-changed number change keeps same = changed-masked number_of_person mask.person blank_person
      (λ row. refl) (λ row. refl) number change keeps same db.persons

  texts-changed : (number : ℕ) (change : TextRow → TextRow) →
      ((row : TextRow) → (change row).number ≡ row.number) →
      ((row : TextRow) → blank_text (change (blank_text row)) ≡ blank_text (change row)) →
      map (masked_text mask) (changed_row number_of_text number change (map (masked_text mask) db.texts))
      ≡ map (masked_text mask) (changed_row number_of_text number change db.texts)
  texts-changed number change keeps same = changed-masked number_of_text mask.text blank_text
      (λ row. refl) (λ row. refl) number change keeps same db.texts

  -- the texts of a person that goes have no numbers among those that it made any more
  numbers-left : (person : ℕ) → map (masked_text mask) (map (without_number person) (map (masked_text mask) db.texts))
      ≡ map (masked_text mask) (map (without_number person) db.texts)
  numbers-left person = picked-masked number_of_text mask.text blank_text (λ row. refl) (λ row. refl)
      (λ row. row.author == person) (with_created_local 0) (λ row. refl) (λ row. refl) (λ row. refl) db.texts

  -- the tables that an effect leaves alone
  conferences : map (masked_conference mask) (map (masked_conference mask) db.conferences)
      ≡ map (masked_conference mask) db.conferences
  conferences = map-twice (masked_conference mask) (masked-twice number_of_conference mask.conference blank_conference
      (λ row. refl) (λ row. refl)) db.conferences

  persons : map (masked_person mask) (map (masked_person mask) db.persons) ≡ map (masked_person mask) db.persons
  persons = map-twice (masked_person mask) (masked-twice number_of_person mask.person blank_person
      (λ row. refl) (λ row. refl)) db.persons

  memberships : map (masked_membership mask) (map (masked_membership mask) db.memberships)
      ≡ map (masked_membership mask) db.memberships
  memberships = map-twice (masked_membership mask) (membership-twice mask) db.memberships

  reads : map (masked_read mask) (map (masked_read mask) db.reads) ≡ map (masked_read mask) db.reads
  reads = map-twice (masked_read mask) (read-twice mask) db.reads

  texts : map (masked_text mask) (map (masked_text mask) db.texts) ≡ map (masked_text mask) db.texts
  texts = map-twice (masked_text mask) (masked-twice number_of_text mask.text blank_text
      (λ row. refl) (λ row. refl)) db.texts

  recipients : filter (stays_recipient mask) (filter (stays_recipient mask) db.recipients)
      ≡ filter (stays_recipient mask) db.recipients
  recipients = filter-twice (stays_recipient mask) db.recipients

  links : filter (stays_link mask) (filter (stays_link mask) db.links) ≡ filter (stays_link mask) db.links
  links = filter-twice (stays_link mask) db.links

  items : filter (stays_item mask) (filter (stays_item mask) db.items) ≡ filter (stays_item mask) db.items
  items = filter-twice (stays_item mask) db.items

  -- where the conferences, the persons, the texts, or the memberships alone are changed
  by-conferences : (one other : List ConferenceRow) (next : ℕ) →
      map (masked_conference mask) one ≡ map (masked_conference mask) other →
      masked_db mask (record (masked_db mask db) { conferences = one; next_conference = next })
      ≡ masked_db mask (record db { conferences = other; next_conference = next })
  by-conferences one other next same =
      same-db same persons memberships reads texts recipients links refl items refl refl

  by-persons : (one other : List PersonRow) → map (masked_person mask) one ≡ map (masked_person mask) other →
      masked_db mask (record (masked_db mask db) { persons = one }) ≡ masked_db mask (record db { persons = other })
  by-persons one other same =
      same-db conferences same memberships reads texts recipients links refl items refl refl

  by-texts : (one other : List TextRow) (next : ℕ) → map (masked_text mask) one ≡ map (masked_text mask) other →
      masked_db mask (record (masked_db mask db) { texts = one; next_text = next })
      ≡ masked_db mask (record db { texts = other; next_text = next })
  by-texts one other next same =
      same-db conferences persons memberships reads same recipients links refl items refl refl

  pub effect-masked : (what : Effect) →
      masked_db mask (after_effect what (masked_db mask db)) ≡ masked_db mask (after_effect what db)
  unfolding after_effect
  effect-masked (effect.ConfAdded number name kind at creator supervisor) = by-conferences _ _ _
      (added-masked number_of_conference mask.conference blank_conference (λ row. refl) (λ row. refl)
      (fresh_conference number name kind at creator supervisor) db.conferences)
  effect-masked (effect.ConfGone number) = by-conferences _ _ _
      (gone-masked number_of_conference mask.conference blank_conference (λ row. refl) (λ row. refl) number
      db.conferences)
  effect-masked (effect.ConfNamed number name) =
      by-conferences _ _ _ (conferences-changed number (with_name name) (λ row. refl) (λ row. refl))
  effect-masked (effect.ConfField number what) = by-conferences _ _ _
      (conferences-changed number (Conferences.with_field what) (field-number what) (field-blank what))
  effect-masked (effect.PersonAdded number privileges flags last_login) = by-persons _ _
      (added-masked number_of_person mask.person blank_person (λ row. refl) (λ row. refl)
      (fresh_person number privileges flags last_login) db.persons)
  effect-masked (effect.PersonGone number) = same-db conferences
      (gone-masked number_of_person mask.person blank_person (λ row. refl) (λ row. refl) number db.persons)
      memberships reads (numbers-left number) recipients links refl items refl refl
  effect-masked (effect.PersonField number what) = by-persons _ _
      (persons-changed number (Persons.with_field what) (person_field-number what) (person_field-blank what))
  effect-masked (effect.Password number hash) =
      by-persons _ _ (persons-changed number (with_hash hash) (λ row. refl) (λ row. refl))
  effect-masked (effect.LoggedIn number at user) =
      by-persons _ _ (persons-changed number (logged_in at user) (λ row. refl) (λ row. refl))
  effect-masked (effect.Counted number counter by) = by-persons _ _
      (persons-changed number (count_up counter by) (counted-number counter by) (counted-blank counter by))
  effect-masked (effect.TextAdded number author at body) = by-texts _ _ _
      (added-masked number_of_text mask.text blank_text (λ row. refl) (λ row. refl)
      (fresh_text number author at body) db.texts)
  effect-masked (effect.TextGone number) = by-texts _ _ _
      (gone-masked number_of_text mask.text blank_text (λ row. refl) (λ row. refl) number db.texts)
  effect-masked (effect.RecipientAdded given) = same-db
      (conferences-changed given.conference (with_local_drawn given.local) (λ row. refl) (λ row. refl))
      persons memberships reads texts (filter-appended (stays_recipient mask) db.recipients given)
      links refl items refl refl
  effect-masked (effect.RecipientGone text conference) = same-db conferences persons memberships reads texts
      (filter-filtered (stays_recipient mask) (λ row. not (is_recipient text conference row)) db.recipients)
      links refl items refl refl
  effect-masked (effect.LinkAdded given) = same-db conferences persons memberships reads texts recipients
      (filter-appended (stays_link mask) db.links given) refl items refl refl
  effect-masked (effect.LinkGone child parent footnote) = same-db conferences persons memberships reads texts
      recipients (filter-filtered (stays_link mask) (λ row. not (is_link child parent footnote row)) db.links)
      refl items refl refl
  effect-masked (effect.MemberSet person conference position priority added_by added_at kind) = same-db conferences
      persons (set-membership mask (member_row person conference position priority added_by added_at kind)
      db.memberships) (reader-set mask person conference db.reads) texts recipients links refl items refl refl
  effect-masked (effect.MemberGone person conference) = same-db conferences persons
      (gone-membership mask person conference db.memberships) (readers-gone mask person conference db.reads)
      texts recipients links refl items refl refl
  effect-masked (effect.ReadSet person conference at ranges) = same-db conferences persons
      (read-set mask person conference at db.memberships)
      (ranges-set mask person conference (merge_all ranges) db.reads) texts recipients links refl items refl refl
  effect-masked (effect.MarkSet person text kind) =
      same-db conferences persons memberships reads texts recipients links refl items refl refl
  effect-masked (effect.MarkGone person text) =
      same-db conferences persons memberships reads texts recipients links refl items refl refl
  effect-masked (effect.AuxAdded true object item) = same-db conferences persons memberships reads
      (texts-changed object (Texts.with_item_drawn item.number) (λ row. refl) (λ row. refl)) recipients links refl
      (filter-appended (stays_item mask) db.items (record { on_text = true; object = object; item = item })) refl refl
  effect-masked (effect.AuxAdded false object item) = same-db
      (conferences-changed object (Conferences.with_item_drawn item.number) (λ row. refl) (λ row. refl))
      persons memberships reads texts recipients links refl
      (filter-appended (stays_item mask) db.items (record { on_text = false; object = object; item = item })) refl refl
  effect-masked (effect.AuxGone on_text object number) = same-db conferences persons memberships reads texts
      recipients links refl
      (filter-filtered (stays_item mask) (λ row. not (is_item on_text object number row)) db.items) refl refl
  effect-masked (effect.Created person local text) = same-db conferences
      (persons-changed person (with_created_drawn local) (λ row. refl) (λ row. refl)) memberships reads
      (texts-changed text (with_created_local local) (λ row. refl) (λ row. refl)) recipients links refl items refl refl
