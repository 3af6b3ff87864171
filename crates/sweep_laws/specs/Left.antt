-- What is left of texts where some of them are gone.
use Rattle.std.specs.Prelude.{◌≡◌, ℕ, Bool, true, false, List, filter, None}
use Rattle.kom_model.specs.Db.{Db, text_of, recipients_of, marks_on, items_of}
use Rattle.kom_model.specs.Db.{links_from, links_into, conferences_of}
use Rattle.sweep_laws.specs.Without.{stays, IsWithout}

-- A text that is left has the same row, and so the same author, body and moment; the same
-- recipients, marks and aux-items; and of its comments and footnotes, and of the texts that it is
-- one to, those that are left.
pub record IsLeft (gone : List ℕ) (old new : Db) (text : ℕ) : Type 0 where
  pub row : text_of new text ≡ text_of old text
  pub recipients : recipients_of new text ≡ recipients_of old text
  pub marks : marks_on new text ≡ marks_on old text
  pub items : items_of new true text ≡ items_of old true text
  pub links_from : (footnote : Bool) → links_from new text footnote
      ≡ filter (λ row. stays gone row.parent) (links_from old text footnote)
  pub links_into : (footnote : Bool) → links_into new text footnote
      ≡ filter (λ row. stays gone row.child) (links_into old text footnote)

-- Where rows are the same without some texts, these are not found, and every other is left.
pub record LeavesRest : Type 0 where
  pub gone : (gone : List ℕ) (old new : Db) (text : ℕ) → IsWithout gone old new →
      stays gone text ≡ false → text_of new text ≡ None
  pub left : (gone : List ℕ) (old new : Db) (text : ℕ) → IsWithout gone old new →
      stays gone text ≡ true → IsLeft gone old new text
  pub conferences : (gone : List ℕ) (old new : Db) → IsWithout gone old new →
      conferences_of new ≡ conferences_of old
