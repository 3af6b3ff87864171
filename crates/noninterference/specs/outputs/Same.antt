-- What definitions read of two sets of stored rows is the same.
use Rattle.std.specs.Prelude.{◌≡◌, ℕ, Bool, true, false, map, option_map}
use Rattle.kom_model.specs.Db.{Db, conference_of, person_of, membership_of, memberships_at}
use Rattle.kom_model.specs.Db.{conference_head_of, membership_kind_of, person_flags_of}
use Rattle.kom_model.specs.Db.{memberships_of, read_of, conferences_of, next_conference_of}
use Rattle.kom_model.specs.Db.{next_local_of, text_of, text_author_of, texts_of, next_text_of}
use Rattle.kom_model.specs.Db.{recipient_of, recipients_of, link_of, links_from, links_into}
use Rattle.kom_model.specs.Db.{links_of, locals_of, first_local_of, created_by, next_created_of}
use Rattle.kom_model.specs.Db.{first_created_of, mark_of, marks_of, marks_on, items_of}
use Rattle.kom_model.specs.Db.{next_item_of}
use Rattle.kom_laws.specs.masking.Masks.{Mask, masked_db, blank_conference, blank_person}
use Rattle.kom_laws.specs.masking.Masks.{blank_membership, blank_text}

-- what is hidden from nobody: all conferences, persons, memberships and texts but for what a mask
-- takes from one that it hides; what the rights hang on; what a person made; marks; next numbers
pub record HasSamePublic (one other : Db) : Type 0 where
  pub conferences : map blank_conference (conferences_of one)
      ≡ map blank_conference (conferences_of other)
  pub conference : (number : ℕ) → option_map blank_conference (conference_of one number)
      ≡ option_map blank_conference (conference_of other number)
  pub person : (number : ℕ) → option_map blank_person (person_of one number)
      ≡ option_map blank_person (person_of other number)
  pub membership : (person conference : ℕ)
      → option_map blank_membership (membership_of one person conference)
      ≡ option_map blank_membership (membership_of other person conference)
  pub memberships : (person : ℕ) → map blank_membership (memberships_of one person)
      ≡ map blank_membership (memberships_of other person)
  pub memberships_at : (number : ℕ) → map blank_membership (memberships_at one number)
      ≡ map blank_membership (memberships_at other number)
  pub texts : map blank_text (texts_of one) ≡ map blank_text (texts_of other)
  pub head : (number : ℕ) → conference_head_of one number ≡ conference_head_of other number
  pub kind : (person conference : ℕ)
      → membership_kind_of one person conference ≡ membership_kind_of other person conference
  pub flags : (number : ℕ) → person_flags_of one number ≡ person_flags_of other number
  pub author : (number : ℕ) → text_author_of one number ≡ text_author_of other number
  pub created : (person : ℕ) → created_by one person ≡ created_by other person
  pub next_created : (person : ℕ) → next_created_of one person ≡ next_created_of other person
  pub first_created : (person : ℕ) → first_created_of one person ≡ first_created_of other person
  pub mark : (person text : ℕ) → mark_of one person text ≡ mark_of other person text
  pub marks : (person : ℕ) → marks_of one person ≡ marks_of other person
  pub marks_on : (text : ℕ) → marks_on one text ≡ marks_on other text
  pub next_conference : next_conference_of one ≡ next_conference_of other
  pub next_text : next_text_of one ≡ next_text_of other

-- all of a conference: its row, its texts, what was read of it, its memberships and aux-items
pub record HasSameConference (number : ℕ) (one other : Db) : Type 0 where
  pub row : conference_of one number ≡ conference_of other number
  pub next_local : next_local_of one number ≡ next_local_of other number
  pub first_local : first_local_of one number ≡ first_local_of other number
  pub locals : locals_of one number ≡ locals_of other number
  pub ranges : (person : ℕ) → read_of one person number ≡ read_of other person number
  pub membership : (person : ℕ)
      → membership_of one person number ≡ membership_of other person number
  pub recipient : (text : ℕ) → recipient_of one text number ≡ recipient_of other text number
  pub items : items_of one false number ≡ items_of other false number
  pub next_item : next_item_of one false number ≡ next_item_of other false number

-- all of a text: its row, its recipients, its links and its aux-items
pub record HasSameText (number : ℕ) (one other : Db) : Type 0 where
  pub row : text_of one number ≡ text_of other number
  pub recipients : recipients_of one number ≡ recipients_of other number
  pub recipient : (conference : ℕ)
      → recipient_of one number conference ≡ recipient_of other number conference
  pub links : links_of one number ≡ links_of other number
  pub links_from : (footnote : Bool)
      → links_from one number footnote ≡ links_from other number footnote
  pub links_into : (footnote : Bool)
      → links_into one number footnote ≡ links_into other number footnote
  pub link : (parent : ℕ) (footnote : Bool)
      → link_of one number parent footnote ≡ link_of other number parent footnote
  pub items : items_of one true number ≡ items_of other true number
  pub next_item : next_item_of one true number ≡ next_item_of other true number

-- The laws of reading, for each mask, over all stored rows: what is hidden from nobody stays; so
-- does all of a conference, and of a text, that the mask does not hide.
pub record RowsStandMasked : Type 0 where
  pub public : (mask : Mask) (db : Db) → HasSamePublic (masked_db mask db) db
  pub conference : (mask : Mask) (db : Db) (number : ℕ) → mask.conference number ≡ false
      → HasSameConference number (masked_db mask db) db
  pub text : (mask : Mask) (db : Db) (number : ℕ) → mask.text number ≡ false
      → HasSameText number (masked_db mask db) db
