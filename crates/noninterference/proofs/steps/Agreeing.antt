-- Two masks that hide the same of the numbers that were drawn take the same out of whole rows.
use Rattle.std.proofs.Common.{◌≡◌, ℕ, ◌<◌, Bool, true, false, cond, not, ◌==◌, ◌&&◌, List, [], ◌∷◌, Option, Some, None}
use Rattle.std.proofs.Common.{refl, sym, ap, ap₂, subst, inl, inr, true≢false, eqb-true}
use Rattle.std.specs.Prelude.{map, is_some, IsTrue}
use Rattle.std.specs.List.{filter, AllByRecursion}
use Rattle.std.proofs.lemmas.Bool.{cases_Bool}
use Rattle.row_table.specs.Tables.{row_of}
use Rattle.kom_types.specs.declared.aux_items.ItemRow.{ItemRow}
use Rattle.kom_types.specs.declared.texts.Recipient.{Recipient}
use Rattle.kom_types.specs.declared.texts.TextLink.{TextLink}
use Rattle.kom_types.specs.tables.Conferences.{number_of_conference}
use Rattle.kom_types.specs.tables.Texts.{number_of_text}
use Rattle.kom_model.specs.Db.{Db}
use Rattle.kom_model.specs.Whole.{IsWhole, has_conference, has_text, has_drawn_local, has_drawn_item, key_of}
use Rattle.kom_model.specs.Whole.{read_key_of}
use Rattle.kom_laws.specs.masking.Masks.{Mask, masked_db, masked_conference, masked_person, masked_membership}
use Rattle.kom_laws.specs.masking.Masks.{masked_read, masked_text, stays_recipient, stays_link, stays_item}
use Rattle.kom_laws.specs.masking.Masks.{blank_conference, blank_person, blank_membership, blank_read, blank_text}
use Rattle.kom_laws.proofs.masking.Effects.{same-db}
use Rattle.kom_laws.proofs.masking.Rows.{told}

-- what two masks hide of the numbers that were drawn is the same
pub record AgreesOn (mask other : Mask) (db : Db) : Type 0 where
  pub conference : (number : ℕ) → number < db.next_conference → mask.conference number ≡ other.conference number
  pub text : (number : ℕ) → number < db.next_text → mask.text number ≡ other.text number
  pub person : (number : ℕ) → mask.person number ≡ other.person number

-- ---- rows of which something holds
map-where : {X Y : Type 0} (P : X → Type 0) (tell tell' : X → Y) → ((row : X) → P row → tell row ≡ tell' row) →
    (rows : List X) → AllByRecursion P rows → map tell rows ≡ map tell' rows
map-where P tell tell' tells [] all = refl
map-where {X} {Y} P tell tell' tells (row ∷ rows) all =
    ap₂ (λ (first : Y) (others : List Y). first ∷ others) (tells row all.0) (map-where P tell tell' tells rows all.1)

filter-where : {X : Type 0} (P : X → Type 0) (test test' : X → Bool) → ((row : X) → P row → test row ≡ test' row) →
    (rows : List X) → AllByRecursion P rows → filter test rows ≡ filter test' rows
filter-where P test test' tests [] all = refl
filter-where P test test' tests (row ∷ rows) all = ap₂ (λ keeps kept. cond keeps (row ∷ kept) kept)
    (tests row all.0) (filter-where P test test' tests rows all.1)

map-all : {X Y : Type 0} (tell tell' : X → Y) → ((row : X) → tell row ≡ tell' row) → (rows : List X) →
    map tell rows ≡ map tell' rows
map-all tell tell' tells [] = refl
map-all {X} {Y} tell tell' tells (row ∷ rows) =
    ap₂ (λ (first : Y) (others : List Y). first ∷ others) (tells row) (map-all tell tell' tells rows)

all-also : {X : Type 0} (P Q : X → Type 0) → ((row : X) → P row → Q row) → (rows : List X) → AllByRecursion P rows →
    AllByRecursion Q rows
all-also P Q also [] all = tt
all-also P Q also (row ∷ rows) all = (also row all.0, all-also P Q also rows all.1)

all-both : {X : Type 0} (P Q : X → Type 0) (rows : List X) → AllByRecursion P rows → AllByRecursion Q rows →
    AllByRecursion (λ row. P row × Q row) rows
all-both P Q [] all all' = tt
all-both P Q (row ∷ rows) all all' = ((all.0, all'.0), all-both P Q rows all.1 all'.1)

all-onto : {X Y : Type 0} (P : Y → Type 0) (tell : X → Y) (rows : List X) → AllByRecursion (λ row. P (tell row)) rows →
    AllByRecursion P (map tell rows)
all-onto P tell [] all = tt
all-onto P tell (row ∷ rows) all = (all.0, all-onto P tell rows all.1)

pub all-from : {X Y : Type 0} (P : Y → Type 0) (tell : X → Y) (rows : List X) → AllByRecursion P (map tell rows) →
    AllByRecursion (λ row. P (tell row)) rows
all-from P tell [] all = tt
all-from P tell (row ∷ rows) all = (all.0, all-from P tell rows all.1)

-- a row that is there has a number that was drawn
pub there-drawn : {X : Type 0} (number_of : X → ℕ) (next number : ℕ) (rows : List X) →
    AllByRecursion (λ row. number_of row < next) rows → is_some (row_of number_of number rows) ≡ true → number < next
there-drawn number_of next number [] all there = absurd (true≢false (sym there))
there-drawn number_of next number (row ∷ rows) all there = elim (cases_Bool (number_of row == number)) [
  | inl here ↦ subst (λ n. n < next) (eqb-true (number_of row) number here) all.0
  | inr other ↦ there-drawn number_of next number rows all.1 (rw other at there)
]

passes-there : {X : Type 0} (test : X → Bool) (found : Option X) → told false test found ≡ true → is_some found ≡ true
passes-there test None passes = absurd (true≢false (sym passes))
passes-there test (Some row) passes = refl

module _ (mask other : Mask) (db : Db) (whole : IsWhole db) (agrees : AgreesOn mask other db) where
  conference-drawn : (number : ℕ) → has_conference db.conferences number ≡ true → number < db.next_conference
  conference-drawn number there =
      there-drawn number_of_conference db.next_conference number db.conferences whole.conferences.drawn there

  text-drawn : (number : ℕ) → has_text db.texts number ≡ true → number < db.next_text
  text-drawn number there = there-drawn number_of_text db.next_text number db.texts whole.texts.drawn there

  local-drawn : (number local : ℕ) → has_drawn_local db.conferences number local ≡ true → number < db.next_conference
  local-drawn number local drawn = conference-drawn number (passes-there _ _ drawn)

  -- what each mask makes of rows, and whether they stay
  joined-drawn : AllByRecursion (λ row. row.conference < db.next_conference) db.memberships
  joined-drawn = all-also (λ row. IsTrue (has_conference db.conferences row.conference))
      (λ row. row.conference < db.next_conference) (λ row there. conference-drawn row.conference there) db.memberships
      whole.memberships.conference_there

  reads-drawn : AllByRecursion (λ row. row.conference < db.next_conference) db.reads
  reads-drawn =
      let below : ℕ × ℕ → Type 0 = λ key. key.1 < db.next_conference in
      all-from below read_key_of db.reads (subst (λ keys. AllByRecursion below keys) (sym whole.memberships.kept)
      (all-onto below key_of db.memberships joined-drawn))

  recipient-same : (row : Recipient) →
      IsTrue (has_text db.texts row.text) × IsTrue (has_drawn_local db.conferences row.conference row.local) →
      stays_recipient mask row ≡ stays_recipient other row
  recipient-same row there = ap₂ (λ text conference. not (text && conference))
      (agrees.text row.text (text-drawn row.text there.0))
      (agrees.conference row.conference (local-drawn row.conference row.local there.1))

  link-same : (row : TextLink) → IsTrue (has_text db.texts row.child) × IsTrue (has_text db.texts row.parent) →
      stays_link mask row ≡ stays_link other row
  link-same row there = ap₂ (λ child parent. not (child && parent))
      (agrees.text row.child (text-drawn row.child there.0)) (agrees.text row.parent (text-drawn row.parent there.1))

  object-same : (on_text : Bool) (object number : ℕ) →
      has_drawn_item db.texts db.conferences on_text object number ≡ true →
      cond on_text (not (mask.text object)) (not (mask.conference object))
      ≡ cond on_text (not (other.text object)) (not (other.conference object))
  object-same true object number drawn = ap not (agrees.text object (text-drawn object (passes-there _ _ drawn)))
  object-same false object number drawn =
      ap not (agrees.conference object (conference-drawn object (passes-there _ _ drawn)))

  pub masked-agrees : masked_db mask db ≡ masked_db other db
  masked-agrees = same-db
      (map-where (λ row. row.number < db.next_conference) (masked_conference mask) (masked_conference other)
      (λ row drawn. ap (λ hides. cond hides (blank_conference row) row) (agrees.conference row.number drawn))
      db.conferences whole.conferences.drawn)
      (map-all (masked_person mask) (masked_person other)
      (λ row. ap (λ hides. cond hides (blank_person row) row) (agrees.person row.number)) db.persons)
      (map-where (λ row. row.conference < db.next_conference) (masked_membership mask) (masked_membership other)
      (λ row drawn. ap (λ hides. cond hides (blank_membership row) row) (agrees.conference row.conference drawn))
      db.memberships joined-drawn)
      (map-where (λ row. row.conference < db.next_conference) (masked_read mask) (masked_read other)
      (λ row drawn. ap (λ hides. cond hides (blank_read row) row) (agrees.conference row.conference drawn))
      db.reads reads-drawn)
      (map-where (λ row. row.number < db.next_text) (masked_text mask) (masked_text other)
      (λ row drawn. ap (λ hides. cond hides (blank_text row) row) (agrees.text row.number drawn))
      db.texts whole.texts.drawn)
      (filter-where (λ (row : Recipient). IsTrue (has_text db.texts row.text)
      × IsTrue (has_drawn_local db.conferences row.conference row.local))
      (stays_recipient mask) (stays_recipient other) recipient-same db.recipients
      (all-both (λ (row : Recipient). IsTrue (has_text db.texts row.text))
      (λ (row : Recipient). IsTrue (has_drawn_local db.conferences row.conference row.local))
      db.recipients whole.recipients.text_there whole.recipients.drawn))
      (filter-where (λ (row : TextLink). IsTrue (has_text db.texts row.child)
      × IsTrue (has_text db.texts row.parent)) (stays_link mask) (stays_link other) link-same db.links
      (all-both (λ (row : TextLink). IsTrue (has_text db.texts row.child))
      (λ (row : TextLink). IsTrue (has_text db.texts row.parent))
      db.links whole.links.child_there whole.links.parent_there))
      refl
      (filter-where (λ (row : ItemRow).
      IsTrue (has_drawn_item db.texts db.conferences row.on_text row.object row.item.number))
      (stays_item mask) (stays_item other) (λ row. object-same row.on_text row.object row.item.number) db.items
      whole.items.drawn)
      refl refl
