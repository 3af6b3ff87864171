-- What is read of the stored rows without what a mask hides, where that is not hidden.
use Rattle.std.proofs.Common.{◌≡◌, ℕ, Bool, true, false, ◌==◌, ◌&&◌, List, [], ◌∷◌, Option, Some, None}
use Rattle.std.proofs.Common.{refl, sym, ap, ap₂, ◌∙◌, subst, eqb-true, cond, not, nat_lt, inl, inr, true≢false}
use Rattle.std.specs.Prelude.{map, is_some}
use Rattle.std.specs.List.{filter, fold}
use Rattle.std.proofs.lemmas.Bool.{cases_Bool, cond-false, and_parts, and_left, and_right, not_from_false}
use Rattle.kom_types.specs.Bits.{alike}
use Rattle.kom_types.specs.declared.aux_items.AuxRow.{AuxRow}
use Rattle.kom_types.specs.declared.aux_items.ItemRow.{ItemRow}
use Rattle.kom_types.specs.declared.conferences.ConferenceRow.{ConferenceRow}
use Rattle.kom_types.specs.declared.conferences.ConferenceHead.{ConferenceHead}
use Rattle.kom_types.specs.declared.memberships.MembershipRow.{MembershipRow}
use Rattle.kom_types.specs.declared.memberships.ReadRange.{ReadRange}
use Rattle.kom_types.specs.declared.persons.PersonRow.{PersonRow}
use Rattle.kom_types.specs.declared.texts.TextLink.{TextLink}
use Rattle.kom_types.specs.declared.texts.LocalText.{LocalText}
use Rattle.kom_types.specs.declared.texts.Recipient.{Recipient}
use Rattle.kom_types.specs.declared.texts.TextRow.{TextRow}
use Rattle.kom_types.specs.tables.AuxItems.{is_item_of}
use Rattle.kom_types.specs.tables.Conferences.{head_of}
use Rattle.kom_types.specs.tables.Memberships.{is_membership, by_position}
use Rattle.kom_types.specs.tables.Texts.{is_recipient, is_created_by, created_pair, rising_locals}
use Rattle.read_ranges.specs.Reads.{ReadRow, is_read_of}
use Rattle.kom_model.specs.Db.{Db, conference_of, person_of, membership_of, text_of, conference_head_of}
use Rattle.kom_model.specs.Db.{membership_kind_of, person_flags_of, text_author_of, memberships_of}
use Rattle.kom_model.specs.Db.{next_local_of, recipient_of, recipients_of, locals_of, first_local_of, links_from}
use Rattle.kom_model.specs.Db.{links_into, created_by, next_created_of, first_created_of, read_of, items_of}
use Rattle.kom_laws.specs.masking.Masks.{Mask, masked_db, masked_conference, masked_person, masked_membership}
use Rattle.kom_laws.specs.masking.Masks.{masked_read, masked_text, stays_recipient, stays_link, stays_item}
use Rattle.kom_laws.specs.masking.Masks.{blank_conference, blank_person, blank_membership, blank_read, blank_text}
use Rattle.kom_laws.proofs.masking.Rows.{same-changed, told-changed, map-changed, filter-changed}
use Rattle.kom_laws.proofs.masking.Rows.{filter-thinned, find-thinned, fold-changed}

-- what is told of a row that a mask leaves as it is
pub same-conference : {Y : Type 0} (tell : ConferenceRow → Y) (mask : Mask) (row : ConferenceRow) →
    tell (blank_conference row) ≡ tell row → tell (masked_conference mask row) ≡ tell row
same-conference tell mask row same = same-changed tell (mask.conference row.number) _ row same

pub same-person : {Y : Type 0} (tell : PersonRow → Y) (mask : Mask) (row : PersonRow) →
    tell (blank_person row) ≡ tell row → tell (masked_person mask row) ≡ tell row
same-person tell mask row same = same-changed tell (mask.person row.number) _ row same

pub same-membership : {Y : Type 0} (tell : MembershipRow → Y) (mask : Mask) (row : MembershipRow) →
    tell (blank_membership row) ≡ tell row → tell (masked_membership mask row) ≡ tell row
same-membership tell mask row same = same-changed tell (mask.conference row.conference) _ row same

pub same-read : {Y : Type 0} (tell : ReadRow → Y) (mask : Mask) (row : ReadRow) →
    tell (blank_read row) ≡ tell row → tell (masked_read mask row) ≡ tell row
same-read tell mask row same = same-changed tell (mask.conference row.conference) _ row same

pub same-text : {Y : Type 0} (tell : TextRow → Y) (mask : Mask) (row : TextRow) →
    tell (blank_text row) ≡ tell row → tell (masked_text mask row) ≡ tell row
same-text tell mask row same = same-changed tell (mask.text row.number) _ row same

-- a row of this number is as little hidden as the number
pub not-hidden : (hidden : ℕ → Bool) (n number : ℕ) → (n == number) ≡ true → hidden number ≡ false → hidden n ≡ false
not-hidden hidden n number here shown = subst (λ m. hidden m ≡ false) (sym (eqb-true n number here)) shown

-- a row that is not hidden is not changed
pub conference-seen : (mask : Mask) (number : ℕ) (row : ConferenceRow) → (row.number == number) ≡ true →
    mask.conference number ≡ false → masked_conference mask row ≡ row
conference-seen mask number row here seen =
    cond-false _ _ row (not-hidden mask.conference row.number number here seen)

pub text-read : (mask : Mask) (number : ℕ) (row : TextRow) → (row.number == number) ≡ true →
    mask.text number ≡ false → masked_text mask row ≡ row
text-read mask number row here read =
    cond-false _ _ row (not-hidden mask.text row.number number here read)

pub read-seen : (mask : Mask) (person conference : ℕ) (row : ReadRow) →
    is_read_of person conference row ≡ true → mask.conference conference ≡ false → masked_read mask row ≡ row
read-seen mask person conference row here seen =
    cond-false _ _ row (not-hidden mask.conference row.conference conference (and_parts _ _ here).1 seen)

-- what the rights hang on
pub head-masked : (mask : Mask) (db : Db) (number : ℕ) →
    conference_head_of (masked_db mask db) number ≡ conference_head_of db number
unfolding conference_head_of conference_of
head-masked mask db number =
    let test : ConferenceRow → Bool = λ row. row.number == number in
    let tell : ConferenceRow → Option ConferenceHead = λ row. Some (head_of row) in
    told-changed test (masked_conference mask) None tell tell
    (λ row. same-conference test mask row refl) (λ row here. same-conference tell mask row refl) db.conferences

pub kind-masked : (mask : Mask) (db : Db) (person conference : ℕ) →
    membership_kind_of (masked_db mask db) person conference ≡ membership_kind_of db person conference
unfolding membership_kind_of membership_of
kind-masked mask db person conference =
    let test : MembershipRow → Bool = is_membership person conference in
    let tell : MembershipRow → Option ℕ = λ row. Some row.kind in
    told-changed test (masked_membership mask) None tell tell
    (λ row. same-membership test mask row refl) (λ row here. same-membership tell mask row refl) db.memberships

pub joined-masked : (mask : Mask) (db : Db) (person conference : ℕ) →
    is_some (membership_of (masked_db mask db) person conference) ≡ is_some (membership_of db person conference)
unfolding membership_of
joined-masked mask db person conference =
    let test : MembershipRow → Bool = is_membership person conference in
    let tell : MembershipRow → Bool = λ row. true in
    told-changed test (masked_membership mask) false tell tell
    (λ row. same-membership test mask row refl) (λ row here. refl) db.memberships

pub flags-masked : (mask : Mask) (db : Db) (number : ℕ) →
    person_flags_of (masked_db mask db) number ≡ person_flags_of db number
unfolding person_flags_of person_of
flags-masked mask db number =
    let test : PersonRow → Bool = λ row. row.number == number in
    let tell : PersonRow → Option ℕ = λ row. Some row.flags in
    told-changed test (masked_person mask) None tell tell
    (λ row. same-person test mask row refl) (λ row here. same-person tell mask row refl) db.persons

pub author-masked : (mask : Mask) (db : Db) (number : ℕ) →
    text_author_of (masked_db mask db) number ≡ text_author_of db number
unfolding text_author_of text_of
author-masked mask db number =
    let test : TextRow → Bool = λ row. row.number == number in
    let tell : TextRow → Option ℕ = λ row. Some row.author in
    told-changed test (masked_text mask) None tell tell
    (λ row. same-text test mask row refl) (λ row here. same-text tell mask row refl) db.texts

-- all memberships of a person, by their places
position-masked : (mask : Mask) (row : MembershipRow) (rows : List MembershipRow) →
    by_position (masked_membership mask row) (map (masked_membership mask) rows)
    ≡ map (masked_membership mask) (by_position row rows)
position-masked mask row [] = refl
position-masked mask row (first ∷ rows) =
    let change : MembershipRow → MembershipRow = masked_membership mask in
    let rest : by_position (change row) (map change rows) ≡ map change (by_position row rows) =
    position-masked mask row rows in
    let place : nat_lt (change row).position (change first).position ≡ nat_lt row.position first.position =
    ap₂ nat_lt (same-membership (λ row. row.position) mask row refl)
    (same-membership (λ row. row.position) mask first refl) in
    elim (cases_Bool (nat_lt row.position first.position)) [
      | inl before ↦ rw (place, before) refl
      | inr after ↦ rw (place, after) (ap (λ rows. change first ∷ rows) rest)
    ]

pub memberships-masked : (mask : Mask) (db : Db) (person : ℕ) →
    memberships_of (masked_db mask db) person ≡ map (masked_membership mask) (memberships_of db person)
unfolding memberships_of
memberships-masked mask db person =
    let test : MembershipRow → Bool = λ row. row.person == person in
    let change : MembershipRow → MembershipRow = masked_membership mask in
    ap (λ rows. fold (λ sorted row. by_position row sorted) [] rows)
    (filter-changed test change (λ row. same-membership test mask row refl) db.memberships)
    ∙ fold-changed by_position change (position-masked mask) (filter test db.memberships)

-- of a conference that is seen
pub next_local-seen : (mask : Mask) (db : Db) (number : ℕ) → mask.conference number ≡ false →
    next_local_of (masked_db mask db) number ≡ next_local_of db number
unfolding next_local_of conference_of
next_local-seen mask db number seen =
    let test : ConferenceRow → Bool = λ row. row.number == number in
    let tell : ConferenceRow → ℕ = λ row. row.next_local in
    told-changed test (masked_conference mask) 1 tell tell
    (λ row. same-conference test mask row refl)
    (λ row here. ap tell (conference-seen mask number row here seen)) db.conferences

pub locals-seen : (mask : Mask) (db : Db) (number : ℕ) → mask.conference number ≡ false →
    locals_of (masked_db mask db) number ≡ locals_of db number
unfolding locals_of
locals-seen mask db number seen =
    let test : Recipient → Bool = λ row. row.conference == number in
    let pair : Recipient → LocalText = λ row. record { local = row.local; text = row.text } in
    ap (λ rows. map pair rows) (filter-thinned test (stays_recipient mask)
    (λ row here. not_from_false _ (and_right _ _ (not-hidden mask.conference row.conference number here seen)))
    db.recipients)

pub first_local-seen : (mask : Mask) (db : Db) (number : ℕ) → mask.conference number ≡ false →
    first_local_of (masked_db mask db) number ≡ first_local_of db number
unfolding first_local_of
first_local-seen mask db number seen =
    ap₂ (λ (pairs : List LocalText) (next : ℕ). elim pairs [ [] ↦ next | pair ∷ pairs ↦ pair.local ])
    (locals-seen mask db number seen) (next_local-seen mask db number seen)

pub ranges-seen : (mask : Mask) (db : Db) (person conference : ℕ) → mask.conference conference ≡ false →
    read_of (masked_db mask db) person conference ≡ read_of db person conference
unfolding read_of
ranges-seen mask db person conference seen =
    let test : ReadRow → Bool = is_read_of person conference in
    let tell : ReadRow → List ReadRange = λ row. row.ranges in
    told-changed test (masked_read mask) [] tell tell
    (λ row. same-read test mask row refl)
    (λ row here. ap tell (read-seen mask person conference row here seen)) db.reads

pub recipient-seen : (mask : Mask) (db : Db) (text conference : ℕ) → mask.conference conference ≡ false →
    recipient_of (masked_db mask db) text conference ≡ recipient_of db text conference
unfolding recipient_of
recipient-seen mask db text conference seen =
    find-thinned (is_recipient text conference) (stays_recipient mask)
    (λ row here. not_from_false _ (and_right _ _ (not-hidden mask.conference row.conference conference
    (and_parts _ _ here).1 seen))) db.recipients

-- of a person
pub next_created-masked : (mask : Mask) (db : Db) (number : ℕ) →
    next_created_of (masked_db mask db) number ≡ next_created_of db number
unfolding next_created_of person_of
next_created-masked mask db number =
    let test : PersonRow → Bool = λ row. row.number == number in
    let tell : PersonRow → ℕ = λ row. row.next_created in
    told-changed test (masked_person mask) 1 tell tell
    (λ row. same-person test mask row refl) (λ row here. same-person tell mask row refl) db.persons

pub created-masked : (mask : Mask) (db : Db) (person : ℕ) →
    created_by (masked_db mask db) person ≡ created_by db person
unfolding created_by
created-masked mask db person =
    ap rising_locals (map-changed (is_created_by person) (masked_text mask) created_pair created_pair
    (λ row. same-text (is_created_by person) mask row refl)
    (λ row here. same-text created_pair mask row refl) db.texts)

pub first_created-masked : (mask : Mask) (db : Db) (person : ℕ) →
    first_created_of (masked_db mask db) person ≡ first_created_of db person
unfolding first_created_of
first_created-masked mask db person =
    ap₂ (λ (pairs : List LocalText) (next : ℕ). elim pairs [ [] ↦ next | pair ∷ pairs ↦ pair.local ])
    (created-masked mask db person) (next_created-masked mask db person)

-- of a text that is read
pub recipients-read : (mask : Mask) (db : Db) (text : ℕ) → mask.text text ≡ false →
    recipients_of (masked_db mask db) text ≡ recipients_of db text
unfolding recipients_of
recipients-read mask db text read =
    let test : Recipient → Bool = λ row. row.text == text in
    filter-thinned test (stays_recipient mask)
    (λ row here. not_from_false _ (and_left _ _ (not-hidden mask.text row.text text here read)))
    db.recipients

pub links_from-read : (mask : Mask) (db : Db) (text : ℕ) (footnote : Bool) → mask.text text ≡ false →
    links_from (masked_db mask db) text footnote ≡ links_from db text footnote
unfolding links_from
links_from-read mask db text footnote read =
    let test : TextLink → Bool = λ row. row.child == text && alike row.footnote footnote in
    filter-thinned test (stays_link mask) (λ row here. not_from_false _ (and_left _ _
    (not-hidden mask.text row.child text (and_parts _ _ here).0 read))) db.links

pub links_into-read : (mask : Mask) (db : Db) (text : ℕ) (footnote : Bool) → mask.text text ≡ false →
    links_into (masked_db mask db) text footnote ≡ links_into db text footnote
unfolding links_into
links_into-read mask db text footnote read =
    let test : TextLink → Bool = λ row. row.parent == text && alike row.footnote footnote in
    filter-thinned test (stays_link mask) (λ row here. not_from_false _ (and_right _ _
    (not-hidden mask.text row.parent text (and_parts _ _ here).0 read))) db.links

-- a row stays that is of a text that is not hidden, or of a conference that is not
kept-on_text : (on_text unread unseen : Bool) → alike on_text true ≡ true → unread ≡ false →
    cond on_text (not unread) (not unseen) ≡ true
kept-on_text true unread unseen here read = not_from_false unread read
kept-on_text false unread unseen here read = absurd (true≢false (sym here))

kept-on_conference : (on_text unread unseen : Bool) → alike on_text false ≡ true → unseen ≡ false →
    cond on_text (not unread) (not unseen) ≡ true
kept-on_conference true unread unseen here seen = absurd (true≢false (sym here))
kept-on_conference false unread unseen here seen = not_from_false unseen seen

-- the aux-items of a text that is read, and of a conference that is seen
pub items-read : (mask : Mask) (db : Db) (text : ℕ) → mask.text text ≡ false →
    items_of (masked_db mask db) true text ≡ items_of db true text
unfolding items_of
items-read mask db text read =
    let item : ItemRow → AuxRow = λ row. row.item in
    ap (λ rows. map item rows) (filter-thinned (is_item_of true text) (stays_item mask)
    (λ row here. let parts = and_parts _ _ here in kept-on_text row.on_text _ _ parts.0
    (not-hidden mask.text row.object text parts.1 read)) db.items)

pub items-seen : (mask : Mask) (db : Db) (conference : ℕ) → mask.conference conference ≡ false →
    items_of (masked_db mask db) false conference ≡ items_of db false conference
unfolding items_of
items-seen mask db conference seen =
    let item : ItemRow → AuxRow = λ row. row.item in
    ap (λ rows. map item rows) (filter-thinned (is_item_of false conference) (stays_item mask)
    (λ row here. let parts = and_parts _ _ here in kept-on_conference row.on_text _ _ parts.0
    (not-hidden mask.conference row.object conference parts.1 seen)) db.items)
