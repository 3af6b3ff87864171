-- What a person of a group is told is the same in the state without what is hidden from the group.
use mathlib.Core.Path.{fun_ext}
use Rattle.std.proofs.Common.{◌≡◌, ℕ, ◌-◌, Bool, true, false, ◌==◌, List, ◌++◌, length, Option, ◌||◌}
use Rattle.std.proofs.Common.{Some, None, refl, ap, ap₂, ◌∙◌, subst, inl, inr, eqb-true}
use Rattle.std.specs.Prelude.{map, option_map}
use Rattle.std.specs.List.{filter, flat_map}
use Rattle.std.proofs.lemmas.Bool.{cases_Bool, both_ways, or_right}
use Rattle.kom_types.specs.declared.persons.PersonRow.{PersonRow}
use Rattle.kom_types.specs.declared.texts.Recipient.{Recipient}
use Rattle.kom_types.specs.declared.texts.TextRow.{TextRow}
use Rattle.kom_model.specs.declared.text_heads.TextHead.{TextHead}
use Rattle.kom_model.specs.declared.viewers.Viewer.{Viewer}
use Rattle.kom_model.specs.Db.{Db, person_of, text_of, first_created_of, next_created_of, marks_of, marks_on}
use Rattle.kom_model.specs.Db.{links_from, links_into, items_of}
use Rattle.kom_model.specs.Kinds.{is_among}
use Rattle.kom_model.specs.Rights.{reads, is_author}
use Rattle.kom_model.specs.Shown.{memberships_shown, told_count, own_count, person_told, recipients_shown}
use Rattle.kom_model.specs.Shown.{recipient_infos, from_infos, into_info, text_head_of, stat_of, shown_stat}
use Rattle.kom_model.specs.Shown.{text_adder, items_shown}
use Rattle.kom_laws.specs.Groups.{Group, IsInGroup, IsOfGroup, is_unread}
use Rattle.kom_laws.specs.masking.Masks.{masked_person, masked_text}
use Rattle.kom_laws.specs.Erasing.{erased_db, mask_of}
use Rattle.kom_laws.specs.Laws.{IsToldSame}
use Rattle.kom_laws.proofs.masking.Rows.{told, told-changed}
use Rattle.kom_laws.proofs.masking.Accessors.{same-person, same-text, text-read, not-hidden, recipients-read}
use Rattle.kom_laws.proofs.masking.Accessors.{links_from-read, links_into-read, next_created-masked}
use Rattle.kom_laws.proofs.masking.Accessors.{first_created-masked, author-masked, items-read}
use Rattle.kom_laws.proofs.Rights.{read-by, supervises-masked}
use Rattle.kom_laws.proofs.Shown.{recipient-erased, memberships_shown-erased}

-- a person of a group is one of those to whom the same is shown
pub in-of : (group : Group) (viewer : Viewer) → IsInGroup group viewer → IsOfGroup group viewer
in-of group viewer in_group = (or_right _ _ in_group.0, in_group.1)

-- what is told to a person of itself alone is told to nobody else
others-count : (viewer : Viewer) (person count : ℕ) → viewer.strong ≡ false → (viewer.person == person) ≡ false →
    own_count viewer person 0 ≡ own_count viewer person count
others-count viewer person count not_strong other = rw (not_strong, other) refl

other-told : (db : Db) (viewer : Viewer) (row : PersonRow) → viewer.strong ≡ false →
    (viewer.person == row.number) ≡ false →
    person_told db viewer (record row { read_texts = 0; text_fetches = 0 }) ≡ person_told db viewer row
other-told db viewer row not_strong other =
    let read = others-count viewer row.number row.read_texts not_strong other in
    let fetched = others-count viewer row.number row.text_fetches not_strong other in
    λ i. record (person_told db viewer row) { read_texts = read i; text_fetches = fetched i }

row-told : (group : Group) (db : Db) (viewer : Viewer) (row : PersonRow) → IsInGroup group viewer →
    person_told db viewer (masked_person (mask_of group db) row) ≡ person_told db viewer row
row-told group db viewer row in_group = elim (cases_Bool (is_among group.persons row.number)) [
  | inl among ↦ rw among refl
  | inr apart ↦
      let other : (viewer.person == row.number) ≡ false = elim (cases_Bool (viewer.person == row.number)) [
        | inl here ↦ absurd (both_ways (is_among group.persons row.number) apart (subst
            (λ n. is_among group.persons n ≡ true) (eqb-true viewer.person row.number here) in_group.0))
        | inr there ↦ there
      ] in
      rw apart (other-told db viewer row in_group.1 other)
]

person-told : (group : Group) (db : Db) (viewer : Viewer) (row : PersonRow) → IsInGroup group viewer →
    person_told (erased_db group db) viewer row ≡ person_told db viewer row
unfolding marks_of
person-told group db viewer row in_group =
    let first : first_created_of (erased_db group db) row.number ≡ first_created_of db row.number =
    first_created-masked (mask_of group db) db row.number in
    let next : next_created_of (erased_db group db) row.number ≡ next_created_of db row.number =
    next_created-masked (mask_of group db) db row.number in
    let memberships : memberships_shown (erased_db group db) viewer row.number
    ≡ memberships_shown db viewer row.number =
    memberships_shown-erased group db viewer row.number (in-of group viewer in_group) in
    λ i. record (person_told db viewer row) {
      first_created_local = first i;
      created_texts = next i - first i;
      conferences = told_count (length (memberships i));
    }

person-erased : (group : Group) (db : Db) (viewer : Viewer) (number : ℕ) → IsInGroup group viewer →
    option_map (person_told (erased_db group db) viewer) (person_of (erased_db group db) number)
    ≡ option_map (person_told db viewer) (person_of db number)
unfolding person_of
person-erased group db viewer number in_group =
    let test : PersonRow → Bool = λ row. row.number == number in
    told-changed test (masked_person (mask_of group db)) None (λ row. Some (person_told
    (erased_db group db) viewer row))
    (λ row. Some (person_told db viewer row)) (λ row. same-person test (mask_of group db) row refl)
    (λ row here. ap (λ shown. Some shown) (person-told group db viewer (masked_person (mask_of group db) row) in_group
    ∙ row-told group db viewer row in_group)) db.persons

recipients-told : (group : Group) (db : Db) (viewer : Viewer) (author text : ℕ) → is_unread group db text ≡ false →
    recipients_shown (erased_db group db) viewer author text ≡ recipients_shown db viewer author text
recipients-told group db viewer author text read =
    ap₂ (λ (shows : Recipient → Bool) (rows : List Recipient). filter shows rows)
    (fun_ext (recipient-erased group db viewer author)) (recipients-read (mask_of group db) db text read)

-- who looks owns the same texts
pub owns-told : (group : Group) (db : Db) (viewer : Viewer) (text : ℕ) →
    text_adder (erased_db group db) viewer text ≡ text_adder db viewer text
owns-told group db viewer text =
    let owned = ap₂ (λ (owns : ℕ → Bool) (found : Option ℕ). told viewer.strong owns found)
    (fun_ext (λ author. ap (λ supervised. is_author viewer.person author || supervised || viewer.strong)
    (supervises-masked (mask_of group db) db viewer.person author))) (author-masked (mask_of group db) db text) in
    λ i. record { person = viewer.person; owns = owned i }

-- what is told of a text, where the same hangs on it
pub stat-same : (one other : Db) (viewer : Viewer) (head : TextHead) →
    recipients_shown one viewer head.author head.number ≡ recipients_shown other viewer head.author head.number →
    ((footnote : Bool) → links_from one head.number footnote ≡ links_from other head.number footnote) →
    ((footnote : Bool) → links_into one head.number footnote ≡ links_into other head.number footnote) →
    marks_on one head.number ≡ marks_on other head.number →
    text_adder one viewer head.number ≡ text_adder other viewer head.number →
    items_of one true head.number ≡ items_of other true head.number →
    stat_of one viewer head ≡ stat_of other viewer head
stat-same one other viewer head recipients from into marks adder items = λ i. record (stat_of other viewer head) {
  marks = told_count (length (marks i));
  misc_infos = flat_map recipient_infos (recipients i)
      ++ flat_map from_infos (from false i) ++ map into_info (into false i)
      ++ flat_map from_infos (from true i) ++ map into_info (into true i);
  aux_items = items_shown (adder i) (items i);
}

pub stat-told : (group : Group) (db : Db) (viewer : Viewer) (row : TextRow) → is_unread group db row.number ≡ false →
    shown_stat (erased_db group db) viewer row ≡ shown_stat db viewer row
unfolding marks_on
stat-told group db viewer row read = stat-same (erased_db group db) db viewer (text_head_of row)
    (recipients-told group db viewer row.author row.number read)
    (λ footnote. links_from-read (mask_of group db) db row.number footnote read)
    (λ footnote. links_into-read (mask_of group db) db row.number footnote read) refl
    (owns-told group db viewer row.number) (items-read (mask_of group db) db row.number read)

text-erased : (group : Group) (db : Db) (viewer : Viewer) (number : ℕ) → IsInGroup group viewer →
    reads db viewer number ≡ true →
    option_map (shown_stat (erased_db group db) viewer) (text_of (erased_db group db) number)
    ≡ option_map (shown_stat db viewer) (text_of db number)
unfolding text_of
text-erased group db viewer number in_group is =
    let test : TextRow → Bool = λ row. row.number == number in
    let read : is_unread group db number ≡ false = read-by group db viewer number in_group is in
    told-changed test (masked_text (mask_of group db)) None (λ row. Some (shown_stat (erased_db group db) viewer row))
    (λ row. Some (shown_stat db viewer row)) (λ row. same-text test (mask_of group db) row refl)
    (λ row here. ap (λ row. Some (shown_stat (erased_db group db) viewer row))
    (text-read (mask_of group db) number row here read) ∙ ap (λ shown. Some shown) (stat-told group db viewer row
    (not-hidden (is_unread group db) row.number number here read))) db.texts

pub told-erased : (group : Group) (db : Db) (viewer : Viewer) → IsInGroup group viewer →
    IsToldSame viewer (erased_db group db) db
told-erased group db viewer in_group = record {
  person = λ number. person-erased group db viewer number in_group;
  text = λ number is. text-erased group db viewer number in_group is;
}
