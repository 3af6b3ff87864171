-- The stored rows without some of their texts.
use Rattle.std.specs.Prelude.{◌≡◌, ℕ, Bool, not, ◌||◌, ◌&&◌, List, [], map, filter}
use Rattle.kom_types.specs.declared.aux_items.ItemRow.{ItemRow}
use Rattle.kom_types.specs.declared.persons.PersonRow.{PersonRow}
use Rattle.kom_types.specs.declared.texts.TextLink.{TextLink}
use Rattle.kom_model.specs.Db.{Db}
use Rattle.kom_model.specs.Kinds.{is_among}

-- a text that is not among these
abbrev pub stays : List ℕ → ℕ → Bool
stays gone text = not (is_among gone text)

-- a link stays between two texts that do
abbrev pub stays_link : List ℕ → TextLink → Bool
stays_link gone row = stays gone row.child && stays gone row.parent

-- an aux-item stays with its text; one of a conference stays
abbrev pub stays_item : List ℕ → ItemRow → Bool
stays_item gone row = not row.on_text || stays gone row.object

-- The stored rows without these texts, and without their recipients, marks, aux-items and links.
-- All else is as it was: what conferences name, what was read, and the numbers that come next.
abbrev pub without_texts : List ℕ → Db → Db
without_texts gone db = record db {
  texts = filter (λ row. stays gone row.number) db.texts;
  recipients = filter (λ row. stays gone row.text) db.recipients;
  links = filter (stays_link gone) db.links;
  marks = filter (λ row. stays gone row.text) db.marks;
  items = filter (stays_item gone) db.items;
}

-- of a person but what is told of its logins: the last one, its user, how many, and for how long
abbrev pub without_logins : PersonRow → PersonRow
without_logins row = record row { user = []; last_login = 0; time_present = 0; sessions = 0 }

-- Rows became these, which are the same without these texts; but persons may have logged in and
-- out.
pub record IsWithout (gone : List ℕ) (old new : Db) : Type 0 where
  pub rows : new ≡ record (without_texts gone old) { persons = new.persons }
  pub persons : map without_logins new.persons ≡ map without_logins old.persons
