-- Which texts are due by stored rows, worked out by hand.
use Rattle.std.specs.Prelude.{◌≡◌, ℕ, ◌*◌, ◌-◌, Bool, true, false, List, [], ◌∷◌, codes}
use Rattle.kom_types.specs.declared.aux_items.ItemRow.{ItemRow}
use Rattle.kom_types.specs.declared.conferences.ConferenceRow.{ConferenceRow}
use Rattle.kom_types.specs.declared.texts.TextRow.{TextRow}
use Rattle.kom_types.specs.tables.Conferences.{fresh_conference}
use Rattle.kom_types.specs.tables.Persons.{fresh_person}
use Rattle.kom_types.specs.tables.Texts.{fresh_text}
use Rattle.kom_model.specs.Db.{Db, empty_db}
use Rattle.sweep_laws.specs.Due.{due_texts}
use Rattle.sweep_laws.specs.WithoutRows.{sent, link, mark}

-- a text that was made at the beginning of a day
abbrev pub made_on : ℕ → ℕ → TextRow
made_on number day = fresh_text number 5 (day * 86400) (codes "a")

-- an aux-item of a text, or of conference 6
abbrev pub has : Bool → ℕ → ℕ → ℕ → List ℕ → ItemRow
has on_text object tag flags content = record {
  on_text = on_text;
  object = object;
  item = record {
    number = 1;
    tag = tag;
    creator = 5;
    at = 0;
    flags = flags;
    limit = 0;
    content = content;
  };
}

-- the letterbox of person 5, and conference 6, which keeps its texts for 77 days, as both are made
abbrev pub box : ConferenceRow
box = fresh_conference 5 (codes "Anna") 152 0 5 5

abbrev pub six : ConferenceRow
six = fresh_conference 6 (codes "Open") 0 0 5 5

-- Texts 1 and 2 of day 0 to conference 6, and 3 of day 77, a comment to 1, to nobody.
abbrev pub three : Db
three = record empty_db {
  conferences = box ∷ six ∷ [];
  persons = fresh_person 5 0 0 0 ∷ [];
  texts = made_on 1 0 ∷ made_on 2 0 ∷ made_on 3 77 ∷ [];
  recipients = sent 1 6 1 ∷ sent 2 6 2 ∷ [];
  links = link 3 1 false ∷ [];
  next_conference = 7;
  next_text = 4;
}

-- the same, where conference 6 is this one; and where these are the items
abbrev pub where_six : ConferenceRow → Db
where_six conference = record three { conferences = box ∷ conference ∷ [] }

abbrev pub with_item : ItemRow → Db
with_item item = record three { items = item ∷ [] }

-- the texts that are due at the beginning of a day
abbrev pub due_on : ℕ → Db → List ℕ
due_on day db = due_texts db (day * 86400)

pub record DueRows : Type 0 where
  -- the day comes once the nice is over, and for a commented one that of its comment
  pub on_77 : due_on 77 three ≡ []
  pub on_78 : due_on 78 three ≡ 2 ∷ []
  pub just_before_155 : due_texts three (155 * 86400 - 1) ≡ 2 ∷ []
  pub on_155 : due_on 155 three ≡ 1 ∷ 2 ∷ 3 ∷ []
  -- a footnote is as a comment
  pub with_footnote : due_on 78 (record three { links = link 3 2 true ∷ [] }) ≡ 1 ∷ []
  -- an expire counts whatever the comments, and may be longer than the nice
  pub expired : due_on 78 (where_six (record six { expire = 10 })) ≡ 1 ∷ 2 ∷ []
  pub unexpired : due_on 78 (where_six (record six { nice = 100; expire = 100 })) ≡ []
  -- a keep-commented of a comment's days
  pub not_kept : due_on 78 (where_six (record six { keep_commented = 0 })) ≡ 1 ∷ 2 ∷ []
  -- every recipient has to release it
  pub to_another : due_on 155 (record three {
    conferences =
        box ∷ six ∷ record (fresh_conference 7 (codes "Long") 0 0 5 5) { nice = 200 } ∷ [];
    recipients = sent 1 6 1 ∷ sent 2 6 2 ∷ sent 2 7 1 ∷ [];
  }) ≡ 1 ∷ 3 ∷ []
  -- a mark keeps its text, and so does an item that has the flag
  pub marked : due_on 155 (record three { marks = mark 5 2 ∷ [] }) ≡ 1 ∷ 3 ∷ []
  pub held : due_on 155 (with_item (has true 2 1 8 [])) ≡ 1 ∷ 3 ∷ []
  pub not_held : due_on 155 (with_item (has true 2 1 247 [])) ≡ 1 ∷ 2 ∷ 3 ∷ []
  pub held_conference : due_on 155 (with_item (has false 2 1 8 [])) ≡ 1 ∷ 2 ∷ 3 ∷ []
  -- what is named stays
  pub presentation : due_on 155 (where_six (record six { presentation = 2 })) ≡ 1 ∷ 3 ∷ []
  pub motd : due_on 155 (where_six (record six { motd = 1 })) ≡ 2 ∷ 3 ∷ []
  pub faq : due_on 155 (with_item (has false 6 14 0 (codes "3"))) ≡ 1 ∷ 2 ∷ []
  pub no_faq : due_on 155 (with_item (has false 6 14 0 (codes "3."))) ≡ 1 ∷ 2 ∷ 3 ∷ []
  pub user_area : due_on 155 (record three {
    persons = record (fresh_person 5 0 0 0) { user_area = 3 } ∷ [];
  }) ≡ 1 ∷ 2 ∷ []
  -- a letterbox without its person
  pub without_person : due_on 155 (record three { persons = [] }) ≡ []
