-- When the entries and the lists of persons and conferences are those of one table.
use Rattle.std.specs.Prelude.{◌≡◌, ℕ, ◌<◌, List, Some, nat_eq, is_some}
use Rattle.std.specs.List.{IsDistinct}
use Rattle.std.specs.Map.{keys_of}
use Rattle.std.specs.Set.{is_member}
use Rattle.memberships.specs.Entries.{Key, Entry, same_key, persons_in, kept_at, turn_of}

-- Entries with the next turn to give, the conferences of each person and the persons in each
-- conference.
pub record IsTable (entries : List Entry) (next : ℕ)
    (conferences persons : ℕ → List ℕ) : Type 0 where
  pub unique : IsDistinct same_key (keys_of entries)
  -- all turns were given, each once
  pub given : (key : Key) (turn : ℕ) → turn_of key entries ≡ Some turn → turn < next
  pub apart : (one other : Key) (turn : ℕ) → turn_of one entries ≡ Some turn
      → turn_of other entries ≡ Some turn → one ≡ other
  -- a person's list has each conference that the person is in once
  pub once : (person : ℕ) → IsDistinct nat_eq (conferences person)
  pub listed : (person conference : ℕ) → is_member nat_eq (conferences person) conference
      ≡ is_some (kept_at (person, conference) entries)
  -- a conference's list has the persons in it, in the order of joining
  pub in_order : (conference : ℕ) → persons conference ≡ persons_in conference entries
