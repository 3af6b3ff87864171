-- A group of persons and their sessions, and what of the stored rows is hidden from it.
use Rattle.std.specs.Prelude.{◌≡◌, ℕ, Bool, false, not, List, ◌∷◌, IsTrue}
use Rattle.std.specs.List.{list_any}
use Rattle.kom_model.specs.declared.viewers.Viewer.{Viewer}
use Rattle.kom_model.specs.Db.{Db}
use Rattle.kom_model.specs.Kinds.{is_among}
use Rattle.kom_model.specs.Rights.{sees, reads}

-- persons, and sessions, by their numbers
pub record Group : Type 0 where
  pub persons : List ℕ
  pub sessions : List ℕ

-- a person who looks by a session that is not strong
abbrev pub weak : ℕ → Viewer
weak person = record { person = person; strong = false }

-- who looks is a person of the group; or nobody is logged in
abbrev pub IsInGroup : Group → Viewer → Type 0
IsInGroup group viewer =
    IsTrue (is_among group.persons viewer.person) × (viewer.strong ≡ false)

abbrev pub IsOfGroup : Group → Viewer → Type 0
IsOfGroup group viewer =
    IsTrue (is_among (0 ∷ group.persons) viewer.person) × (viewer.strong ≡ false)

-- neither nobody nor anybody of the group sees the conference
abbrev pub is_unseen : Group → Db → ℕ → Bool
is_unseen group db conference =
    not (list_any (λ person. sees db (weak person) conference) (0 ∷ group.persons))

-- nobody of the group reads the text
abbrev pub is_unread : Group → Db → ℕ → Bool
is_unread group db text = not (list_any (λ person. reads db (weak person) text) group.persons)
