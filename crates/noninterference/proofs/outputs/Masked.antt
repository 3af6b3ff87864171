-- What definitions read of the stored rows is the same without what a mask hides, where it does not hide it.
use Rattle.std.proofs.Common.{◌≡◌, ℕ, Bool, true, false, ◌==◌, ◌||◌, Option, Some, None, refl, ap, ◌∙◌}
use Rattle.std.proofs.lemmas.Bool.{cond-false, and_parts, and_left, and_right, not_from_false, or_cases}
use Rattle.std.proofs.Common.{inl, inr}
use Rattle.std.specs.Prelude.{map, option_map}
use Rattle.kom_types.specs.declared.conferences.ConferenceRow.{ConferenceRow}
use Rattle.kom_types.specs.declared.memberships.MembershipRow.{MembershipRow}
use Rattle.kom_types.specs.declared.persons.PersonRow.{PersonRow}
use Rattle.kom_types.specs.declared.texts.TextLink.{TextLink}
use Rattle.kom_types.specs.declared.texts.TextRow.{TextRow}
use Rattle.kom_types.specs.tables.Memberships.{is_membership}
use Rattle.kom_types.specs.tables.Texts.{is_recipient, is_link}
use Rattle.kom_model.specs.Db.{Db, conference_of, person_of, membership_of, memberships_at, conferences_of, texts_of}
use Rattle.kom_model.specs.Db.{memberships_of, text_of, recipient_of, links_of, link_of, next_item_of, marks_of}
use Rattle.kom_model.specs.Db.{mark_of}
use Rattle.kom_model.specs.Db.{marks_on, next_conference_of, next_text_of}
use Rattle.kom_laws.specs.masking.Masks.{Mask, masked_db, masked_conference, masked_person, masked_membership}
use Rattle.kom_laws.specs.masking.Masks.{masked_text, stays_recipient, stays_link, blank_conference, blank_person}
use Rattle.kom_laws.specs.masking.Masks.{blank_membership, blank_text}
use Rattle.kom_laws.proofs.masking.Rows.{told, told-changed, map-changed, filter-thinned, find-thinned}
use Rattle.kom_laws.proofs.masking.Accessors.{same-conference, same-person, same-membership, same-text, not-hidden}
use Rattle.kom_laws.proofs.masking.Accessors.{conference-seen, text-read, head-masked, kind-masked, flags-masked}
use Rattle.kom_laws.proofs.masking.Accessors.{author-masked, memberships-masked, next_local-seen, locals-seen}
use Rattle.kom_laws.proofs.masking.Accessors.{first_local-seen, ranges-seen, recipient-seen, next_created-masked}
use Rattle.kom_laws.proofs.masking.Accessors.{created-masked, first_created-masked, recipients-read, links_from-read}
use Rattle.kom_laws.proofs.masking.Accessors.{links_into-read, items-read, items-seen}
use Rattle.noninterference.specs.outputs.Same.{HasSamePublic, HasSameConference, HasSameText, RowsStandMasked}
use Rattle.noninterference.proofs.outputs.Rows.{map-told, find-unchanged}

module _ (mask : Mask) (db : Db) where
  -- ---- what is hidden from nobody
  conferences-public :
      map blank_conference (conferences_of (masked_db mask db)) ≡ map blank_conference (conferences_of db)
  unfolding conferences_of
  conferences-public = map-told (masked_conference mask) blank_conference blank_conference
      (λ row. same-conference blank_conference mask row refl) db.conferences

  texts-public : map blank_text (texts_of (masked_db mask db)) ≡ map blank_text (texts_of db)
  unfolding texts_of
  texts-public = map-told (masked_text mask) blank_text blank_text
      (λ row. same-text blank_text mask row refl) db.texts

  conference-public : (number : ℕ) → option_map blank_conference (conference_of (masked_db mask db) number)
      ≡ option_map blank_conference (conference_of db number)
  unfolding conference_of
  conference-public number =
      let test : ConferenceRow → Bool = λ row. row.number == number in
      let tell : ConferenceRow → Option ConferenceRow = λ row. Some (blank_conference row) in
      told-changed test (masked_conference mask) None tell tell
      (λ row. same-conference test mask row refl) (λ row here. same-conference tell mask row refl) db.conferences

  person-public : (number : ℕ) → option_map blank_person (person_of (masked_db mask db) number)
      ≡ option_map blank_person (person_of db number)
  unfolding person_of
  person-public number =
      let test : PersonRow → Bool = λ row. row.number == number in
      let tell : PersonRow → Option PersonRow = λ row. Some (blank_person row) in
      told-changed test (masked_person mask) None tell tell
      (λ row. same-person test mask row refl) (λ row here. same-person tell mask row refl) db.persons

  membership-public : (person conference : ℕ) →
      option_map blank_membership (membership_of (masked_db mask db) person conference)
      ≡ option_map blank_membership (membership_of db person conference)
  unfolding membership_of
  membership-public person conference =
      let test : MembershipRow → Bool = is_membership person conference in
      let tell : MembershipRow → Option MembershipRow = λ row. Some (blank_membership row) in
      told-changed test (masked_membership mask) None tell tell
      (λ row. same-membership test mask row refl) (λ row here. same-membership tell mask row refl) db.memberships

  memberships-public : (person : ℕ) → map blank_membership (memberships_of (masked_db mask db) person)
      ≡ map blank_membership (memberships_of db person)
  memberships-public person = ap (map blank_membership) (memberships-masked mask db person)
      ∙ map-told (masked_membership mask) blank_membership blank_membership
      (λ row. same-membership blank_membership mask row refl) (memberships_of db person)

  memberships_at-public : (number : ℕ) → map blank_membership (memberships_at (masked_db mask db) number)
      ≡ map blank_membership (memberships_at db number)
  unfolding memberships_at
  memberships_at-public number =
      let test : MembershipRow → Bool = λ row. row.person == number || row.conference == number in
      map-changed test (masked_membership mask) blank_membership blank_membership
      (λ row. same-membership test mask row refl)
      (λ row here. same-membership blank_membership mask row refl) db.memberships

  next_conference-public : next_conference_of (masked_db mask db) ≡ next_conference_of db
  unfolding next_conference_of
  next_conference-public = refl

  next_text-public : next_text_of (masked_db mask db) ≡ next_text_of db
  unfolding next_text_of
  next_text-public = refl

  mark-public : (person text : ℕ) → mark_of (masked_db mask db) person text ≡ mark_of db person text
  unfolding mark_of
  mark-public person text = refl

  marks-public : (person : ℕ) → marks_of (masked_db mask db) person ≡ marks_of db person
  unfolding marks_of
  marks-public person = refl

  marks_on-public : (text : ℕ) → marks_on (masked_db mask db) text ≡ marks_on db text
  unfolding marks_on
  marks_on-public text = refl

  pub public-masked : HasSamePublic (masked_db mask db) db
  public-masked = record {
    conferences = conferences-public;
    conference = conference-public;
    person = person-public;
    membership = membership-public;
    memberships = memberships-public;
    memberships_at = memberships_at-public;
    texts = texts-public;
    head = head-masked mask db;
    kind = kind-masked mask db;
    flags = flags-masked mask db;
    author = author-masked mask db;
    created = created-masked mask db;
    next_created = next_created-masked mask db;
    first_created = first_created-masked mask db;
    mark = mark-public;
    marks = marks-public;
    marks_on = marks_on-public;
    next_conference = next_conference-public;
    next_text = next_text-public;
  }

  -- ---- a conference that is not hidden
  row-seen : (number : ℕ) → mask.conference number ≡ false →
      conference_of (masked_db mask db) number ≡ conference_of db number
  unfolding conference_of
  row-seen number seen =
      let test : ConferenceRow → Bool = λ row. row.number == number in
      find-unchanged test (masked_conference mask) (λ row. same-conference test mask row refl)
      (λ row here. conference-seen mask number row here seen) db.conferences

  membership-seen : (person number : ℕ) → mask.conference number ≡ false →
      membership_of (masked_db mask db) person number ≡ membership_of db person number
  unfolding membership_of
  membership-seen person number seen =
      let test : MembershipRow → Bool = is_membership person number in
      find-unchanged test (masked_membership mask) (λ row. same-membership test mask row refl)
      (λ row here. cond-false _ _ row (not-hidden mask.conference row.conference number
      (and_parts _ _ here).1 seen)) db.memberships

  next_item-seen : (number : ℕ) → mask.conference number ≡ false →
      next_item_of (masked_db mask db) false number ≡ next_item_of db false number
  unfolding next_item_of
  next_item-seen number seen =
      let tell : ConferenceRow → ℕ = λ row. row.next_item in
      ap (told 1 tell) (row-seen number seen)

  pub conference-masked : (number : ℕ) → mask.conference number ≡ false →
      HasSameConference number (masked_db mask db) db
  conference-masked number seen = record {
    row = row-seen number seen;
    next_local = next_local-seen mask db number seen;
    first_local = first_local-seen mask db number seen;
    locals = locals-seen mask db number seen;
    ranges = λ person. ranges-seen mask db person number seen;
    membership = λ person. membership-seen person number seen;
    recipient = λ text. recipient-seen mask db text number seen;
    items = items-seen mask db number seen;
    next_item = next_item-seen number seen;
  }

  -- ---- a text that is not hidden
  row-read : (number : ℕ) → mask.text number ≡ false → text_of (masked_db mask db) number ≡ text_of db number
  unfolding text_of
  row-read number read =
      let test : TextRow → Bool = λ row. row.number == number in
      find-unchanged test (masked_text mask) (λ row. same-text test mask row refl)
      (λ row here. text-read mask number row here read) db.texts

  recipient-read : (text conference : ℕ) → mask.text text ≡ false →
      recipient_of (masked_db mask db) text conference ≡ recipient_of db text conference
  unfolding recipient_of
  recipient-read text conference read =
      find-thinned (is_recipient text conference) (stays_recipient mask)
      (λ row here. not_from_false _ (and_left _ _ (not-hidden mask.text row.text text
      (and_parts _ _ here).0 read))) db.recipients

  -- a link stays that one of its texts keeps
  from-kept : (row : TextLink) → mask.text row.child ≡ false → stays_link mask row ≡ true
  from-kept row read = not_from_false _ (and_left _ _ read)

  into-kept : (row : TextLink) → mask.text row.parent ≡ false → stays_link mask row ≡ true
  into-kept row read = not_from_false _ (and_right _ _ read)

  links-read : (text : ℕ) → mask.text text ≡ false → links_of (masked_db mask db) text ≡ links_of db text
  unfolding links_of
  links-read text read =
      let test : TextLink → Bool = λ row. row.child == text || row.parent == text in
      filter-thinned test (stays_link mask) (λ row here. elim (or_cases _ _ here) [
        | inl child ↦ from-kept row (not-hidden mask.text row.child text child read)
        | inr parent ↦ into-kept row (not-hidden mask.text row.parent text parent read)
      ]) db.links

  link-read : (child parent : ℕ) (footnote : Bool) → mask.text child ≡ false →
      link_of (masked_db mask db) child parent footnote ≡ link_of db child parent footnote
  unfolding link_of
  link-read child parent footnote read =
      find-thinned (is_link child parent footnote) (stays_link mask)
      (λ row here. from-kept row (not-hidden mask.text row.child child
      (and_parts _ _ (and_parts _ _ here).0).0 read)) db.links

  next_item-read : (number : ℕ) → mask.text number ≡ false →
      next_item_of (masked_db mask db) true number ≡ next_item_of db true number
  unfolding next_item_of
  next_item-read number read =
      let tell : TextRow → ℕ = λ row. row.next_item in
      ap (told 1 tell) (row-read number read)

  pub text-masked : (number : ℕ) → mask.text number ≡ false → HasSameText number (masked_db mask db) db
  text-masked number read = record {
    row = row-read number read;
    recipients = recipients-read mask db number read;
    recipient = λ conference. recipient-read number conference read;
    links = links-read number read;
    links_from = λ footnote. links_from-read mask db number footnote read;
    links_into = λ footnote. links_into-read mask db number footnote read;
    link = λ parent footnote. link-read number parent footnote read;
    items = items-read mask db number read;
    next_item = next_item-read number read;
  }

pub rows-masked : RowsStandMasked
rows-masked = record { public = public-masked; conference = conference-masked; text = text-masked }
