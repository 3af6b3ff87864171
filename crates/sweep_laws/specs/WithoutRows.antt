-- The stored rows without some of their texts, worked out by hand.
use Rattle.std.specs.Prelude.{◌≡◌, ℕ, Bool, true, false, [], ◌∷◌}
use Rattle.kom_types.specs.declared.aux_items.ItemRow.{ItemRow}
use Rattle.kom_types.specs.declared.texts.MarkRow.{MarkRow}
use Rattle.kom_types.specs.declared.texts.Recipient.{Recipient}
use Rattle.kom_types.specs.declared.texts.TextLink.{TextLink}
use Rattle.kom_types.specs.declared.texts.TextRow.{TextRow}
use Rattle.kom_types.specs.tables.Conferences.{fresh_conference}
use Rattle.kom_types.specs.tables.Texts.{fresh_text}
use Rattle.kom_model.specs.Db.{Db, empty_db}
use Rattle.sweep_laws.specs.Without.{without_texts}

abbrev pub text : ℕ → TextRow
text number = fresh_text number 5 20 (65 ∷ 10 ∷ [])

abbrev pub sent : ℕ → ℕ → ℕ → Recipient
sent number conference local = record {
  text = number;
  conference = conference;
  tag = 0;
  local = local;
  sender = 0;
  at = 20;
}

abbrev pub link : ℕ → ℕ → Bool → TextLink
link child parent footnote =
    record { child = child; parent = parent; footnote = footnote; sender = 0; at = 20 }

abbrev pub mark : ℕ → ℕ → MarkRow
mark person number = record { person = person; text = number; kind = 100 }

abbrev pub item : Bool → ℕ → ItemRow
item on_text object = record {
  on_text = on_text;
  object = object;
  item = record {
    number = 1;
    tag = 1;
    creator = 5;
    at = 20;
    flags = 0;
    limit = 0;
    content = [];
  };
}

-- Texts 1 to 4 to conference 2: 2 and 3 are comments to 1, and 4 is a footnote to 3 and a comment
-- to 2. Person 5 has marks on 1 and 2. Texts 2 and 4 have an aux-item, and so has conference 2.
abbrev pub rows : Db
rows = record empty_db {
  conferences = fresh_conference 2 [] 0 10 5 5 ∷ [];
  texts = text 1 ∷ text 2 ∷ text 3 ∷ text 4 ∷ [];
  recipients = sent 1 2 1 ∷ sent 2 2 2 ∷ sent 3 2 3 ∷ sent 4 2 4 ∷ [];
  links = link 2 1 false ∷ link 3 1 false ∷ link 4 3 true ∷ link 4 2 false ∷ [];
  marks = mark 5 1 ∷ mark 5 2 ∷ [];
  items = item true 2 ∷ item false 2 ∷ item true 4 ∷ [];
  next_text = 5;
}

-- What is left of them.
pub record WithoutRows : Type 0 where
  -- without text 2, which is a comment and has one
  pub without_a_comment : without_texts (2 ∷ []) rows ≡ record rows {
    texts = text 1 ∷ text 3 ∷ text 4 ∷ [];
    recipients = sent 1 2 1 ∷ sent 3 2 3 ∷ sent 4 2 4 ∷ [];
    links = link 3 1 false ∷ link 4 3 true ∷ [];
    marks = mark 5 1 ∷ [];
    items = item false 2 ∷ item true 4 ∷ [];
  }
  -- without 1 and 4, whatever their order
  pub without_two : without_texts (4 ∷ 1 ∷ []) rows ≡ record rows {
    texts = text 2 ∷ text 3 ∷ [];
    recipients = sent 2 2 2 ∷ sent 3 2 3 ∷ [];
    links = [];
    marks = mark 5 2 ∷ [];
    items = item true 2 ∷ item false 2 ∷ [];
  }
  -- without one that is not there, and without none
  pub without_another : without_texts (7 ∷ []) rows ≡ rows
  pub without_none : without_texts [] rows ≡ rows
