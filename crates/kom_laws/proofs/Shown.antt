-- What is shown to who looks is the same in the state without what is hidden from a group.
use mathlib.Core.Path.{fun_ext}
use Rattle.std.proofs.Common.{◌≡◌, ℕ, ◌-◌, Bool, true, false, cond, not, ◌==◌, ◌||◌, ◌&&◌, List, [], length}
use Rattle.std.proofs.Common.{Some, None, refl, ap, ap₂, ◌∙◌}
use Rattle.std.specs.Prelude.{map, option_map}
use Rattle.std.specs.List.{filter}
use Rattle.std.proofs.lemmas.Bool.{cond-false, and_parts}
use Rattle.kom_types.specs.Bits.{is_on}
use Rattle.kom_types.specs.declared.conferences.ConferenceRow.{ConferenceRow}
use Rattle.kom_types.specs.declared.memberships.MembershipRow.{MembershipRow}
use Rattle.kom_types.specs.declared.memberships.ReadRange.{ReadRange}
use Rattle.kom_types.specs.declared.texts.Recipient.{Recipient}
use Rattle.kom_types.specs.tables.Memberships.{is_secret_membership}
use Rattle.kom_model.specs.declared.viewers.Viewer.{Viewer}
use Rattle.kom_model.specs.Db.{Db, conference_of, members_of, memberships_of, first_local_of, next_local_of}
use Rattle.kom_model.specs.Db.{items_of}
use Rattle.kom_model.specs.Rights.{supervises, sees, is_author}
use Rattle.kom_model.specs.Shown.{shows_recipient, shows_membership, is_reserved}
use Rattle.kom_model.specs.Shown.{shows_reads, members_shown, memberships_shown, ranges_shown, told_count}
use Rattle.kom_model.specs.Shown.{conference_told, conference_adder, items_shown}
use Rattle.kom_laws.specs.Groups.{Group, IsOfGroup, is_unseen}
use Rattle.kom_laws.specs.masking.Masks.{masked_conference, masked_membership}
use Rattle.kom_laws.specs.Erasing.{erased_db, mask_of}
use Rattle.kom_laws.specs.Laws.{IsShownSame}
use Rattle.kom_laws.proofs.masking.Rows.{told, told-changed}
use Rattle.kom_laws.proofs.Rows.{filter-unchanged, filter-kept}
use Rattle.kom_laws.proofs.masking.Accessors.{same-conference, same-membership, conference-seen, not-hidden}
use Rattle.kom_laws.proofs.masking.Accessors.{flags-masked, memberships-masked, ranges-seen, next_local-seen}
use Rattle.kom_laws.proofs.masking.Accessors.{first_local-seen, items-seen}
use Rattle.kom_laws.proofs.Rights.{supervises-masked, sees-masked, reads_conference-masked, seen-by}

pub recipient-erased : (group : Group) (db : Db) (viewer : Viewer) (author : ℕ) (row : Recipient) →
    shows_recipient (erased_db group db) viewer author row ≡ shows_recipient db viewer author row
recipient-erased group db viewer author row =
    ap₂ (λ seen read. seen && (not (row.tag == 15) || is_author viewer.person author
    || is_author viewer.person row.sender || read))
    (sees-masked (mask_of group db) db viewer row.conference)
    (reads_conference-masked (mask_of group db) db viewer row.conference)

membership-erased : (group : Group) (db : Db) (viewer : Viewer) (person conference kind : ℕ) →
    shows_membership (erased_db group db) viewer person conference kind
    ≡ shows_membership db viewer person conference kind
unfolding shows_membership
membership-erased group db viewer person conference kind =
    ap₂ (λ seen supervised. seen && (not (is_secret_membership kind) || viewer.strong || viewer.person == person
    || supervised || supervises (erased_db group db) viewer.person conference))
    (sees-masked (mask_of group db) db viewer conference) (supervises-masked (mask_of group db) db viewer.person person)
    ∙ ap (λ supervised. sees db viewer conference && (not (is_secret_membership kind) || viewer.strong
    || viewer.person == person || supervises db viewer.person person || supervised))
    (supervises-masked (mask_of group db) db viewer.person conference)

-- a membership is shown to who sees the conference
shown-sees : (db : Db) (viewer : Viewer) (person conference kind : ℕ) →
    shows_membership db viewer person conference kind ≡ true → sees db viewer conference ≡ true
unfolding shows_membership
shown-sees db viewer person conference kind is = (and_parts _ _ is).0

reserved-erased : (group : Group) (db : Db) (person : ℕ) →
    is_reserved (erased_db group db) person ≡ is_reserved db person
reserved-erased group db person = ap (told false (λ flags. is_on 128 flags)) (flags-masked (mask_of group db) db person)

reads_shown-erased : (group : Group) (db : Db) (viewer : Viewer) (person : ℕ) →
    shows_reads (erased_db group db) viewer person ≡ shows_reads db viewer person
reads_shown-erased group db viewer person =
    ap₂ (λ reserved supervised. not reserved || viewer.strong || viewer.person == person || supervised)
    (reserved-erased group db person) (supervises-masked (mask_of group db) db viewer.person person)

-- a membership in a conference that is seen is not changed
membership-seen : (group : Group) (db : Db) (row : MembershipRow) → is_unseen group db row.conference ≡ false →
    masked_membership (mask_of group db) row ≡ row
membership-seen group db row seen = cond-false _ _ row seen

members-erased : (group : Group) (db : Db) (viewer : Viewer) (conference : ℕ) → IsOfGroup group viewer →
    members_shown (erased_db group db) viewer conference ≡ members_shown db viewer conference
unfolding members_of
members-erased group db viewer conference of_group =
    let inner : MembershipRow → Bool = λ row. row.conference == conference in
    let outer : MembershipRow → Bool = λ row. shows_membership db viewer row.person conference row.kind in
    let change : MembershipRow → MembershipRow = masked_membership (mask_of group db) in
    ap (λ (outer : MembershipRow → Bool). filter outer (filter inner (map change db.memberships)))
    (fun_ext (λ (row : MembershipRow). membership-erased group db viewer row.person conference row.kind))
    ∙ filter-kept outer inner change (λ row. same-membership outer (mask_of group db) row refl)
    (λ row. same-membership inner (mask_of group db) row refl)
    (λ row here shown. membership-seen group db row (not-hidden (is_unseen group db) row.conference conference here
    (seen-by group db viewer conference of_group (shown-sees db viewer row.person conference row.kind shown))))
    db.memberships

pub memberships_shown-erased : (group : Group) (db : Db) (viewer : Viewer) (person : ℕ) → IsOfGroup group viewer →
    memberships_shown (erased_db group db) viewer person ≡ memberships_shown db viewer person
memberships_shown-erased group db viewer person of_group =
    let shows : MembershipRow → Bool = λ row. shows_membership db viewer row.person row.conference row.kind in
    ap₂ (λ (shows : MembershipRow → Bool) (rows : List MembershipRow). filter shows rows)
    (fun_ext (λ (row : MembershipRow). membership-erased group db viewer row.person row.conference row.kind))
    (memberships-masked (mask_of group db) db person)
    ∙ filter-unchanged shows (masked_membership (mask_of group db))
    (λ row. same-membership shows (mask_of group db) row refl)
    (λ row shown. membership-seen group db row (seen-by group db viewer row.conference of_group
    (shown-sees db viewer row.person row.conference row.kind shown))) (memberships_of db person)

ranges_shown-erased : (group : Group) (db : Db) (viewer : Viewer) (row : MembershipRow) → IsOfGroup group viewer →
    sees db viewer row.conference ≡ true → ranges_shown (erased_db group db) viewer row ≡ ranges_shown db viewer row
ranges_shown-erased group db viewer row of_group is =
    ap₂ (λ (shows : Bool) (ranges : List ReadRange). cond shows ranges [])
    (reads_shown-erased group db viewer row.person)
    (ranges-seen (mask_of group db) db row.person row.conference (seen-by group db viewer row.conference of_group is))

-- who looks owns the same conferences
owns-erased : (group : Group) (db : Db) (viewer : Viewer) (conference : ℕ) →
    conference_adder (erased_db group db) viewer conference ≡ conference_adder db viewer conference
owns-erased group db viewer conference =
    let supervised : supervises (erased_db group db) viewer.person conference ≡ supervises db viewer.person conference =
    supervises-masked (mask_of group db) db viewer.person conference in
    λ i. record { person = viewer.person; owns = supervised i || viewer.strong }

-- what is told of a conference that is seen
told-seen : (group : Group) (db : Db) (viewer : Viewer) (row : ConferenceRow) → IsOfGroup group viewer →
    is_unseen group db row.number ≡ false →
    conference_told (erased_db group db) viewer row ≡ conference_told db viewer row
told-seen group db viewer row of_group seen =
    let members : members_shown (erased_db group db) viewer row.number ≡ members_shown db viewer row.number =
    members-erased group db viewer row.number of_group in
    let first : first_local_of (erased_db group db) row.number ≡ first_local_of db row.number =
    first_local-seen (mask_of group db) db row.number seen in
    let next : next_local_of (erased_db group db) row.number ≡ next_local_of db row.number =
    next_local-seen (mask_of group db) db row.number seen in
    let adder : conference_adder (erased_db group db) viewer row.number ≡ conference_adder db viewer row.number =
    owns-erased group db viewer row.number in
    let items : items_of (erased_db group db) false row.number ≡ items_of db false row.number =
    items-seen (mask_of group db) db row.number seen in
    λ i. record (conference_told db viewer row) {
      members = told_count (length (members i));
      first_local = first i;
      texts = next i - first i;
      aux_items = items_shown (adder i) (items i);
    }

conference-erased : (group : Group) (db : Db) (viewer : Viewer) (number : ℕ) → IsOfGroup group viewer →
    sees db viewer number ≡ true →
    option_map (conference_told (erased_db group db) viewer) (conference_of (erased_db group db) number)
    ≡ option_map (conference_told db viewer) (conference_of db number)
unfolding conference_of
conference-erased group db viewer number of_group is =
    let test : ConferenceRow → Bool = λ row. row.number == number in
    let seen : is_unseen group db number ≡ false = seen-by group db viewer number of_group is in
    told-changed test (masked_conference (mask_of group db)) None
    (λ row. Some (conference_told (erased_db group db) viewer row)) (λ row. Some (conference_told db viewer row))
    (λ row. same-conference test (mask_of group db) row refl)
    (λ row here. ap (λ row. Some (conference_told (erased_db group db) viewer row))
    (conference-seen (mask_of group db) number row here seen) ∙ ap (λ shown. Some shown)
    (told-seen group db viewer row of_group
    (not-hidden (is_unseen group db) row.number number here seen))) db.conferences

pub shown-erased : (group : Group) (db : Db) (viewer : Viewer) → IsOfGroup group viewer →
    IsShownSame viewer (erased_db group db) db
shown-erased group db viewer of_group = record {
  recipient = recipient-erased group db viewer;
  membership = membership-erased group db viewer;
  reserved = reserved-erased group db;
  reads = reads_shown-erased group db viewer;
  members = λ conference. members-erased group db viewer conference of_group;
  memberships = λ person. memberships_shown-erased group db viewer person of_group;
  ranges = λ row is. ranges_shown-erased group db viewer row of_group is;
  time = λ row. ap (λ shows. cond shows row.last_time_read 0) (reads_shown-erased group db viewer row.person);
  conference = λ number is. conference-erased group db viewer number of_group is;
  working = λ seat. ap (λ seen. cond seen seat.working 0) (sees-masked (mask_of group db) db viewer seat.working);
}
