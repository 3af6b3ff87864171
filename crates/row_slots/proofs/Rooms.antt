-- The rooms of lists, and those after a change of one list.
use Rattle.std.proofs.Common.{◌≡◌, ℕ, ◌-◌, ◌≤◌, Option, Some, None, option_map, nat_eq, unwrap_or, inl, inr, refl, sym}
use Rattle.std.proofs.Common.{◌∙◌, ap, subst, arith}
use Rattle.std.specs.Option.{option_map_or}
use Rattle.std.proofs.lemmas.Bool.{cases_eq}
use Rattle.std.proofs.lemmas.Map.Made.{lookup-map_values}
use Rattle.indexmap.specs.IndexMap.{get}
use Rattle.smallvec.specs.SmallVec.{SmallVec, small_vec_len}
use Rattle.row_slots.specs.declared.lists.Lists.{Lists}
use Rattle.row_slots.specs.Lists.{room_of, rooms_of, room_in, HasOnlyChanged}

-- the room of a key by the rooms of all
pub room_in-rooms_of : (lists : Lists) (key : ℕ) → room_in (rooms_of lists) key ≡ room_of lists key
room_in-rooms_of lists key =
    ap (λ o. unwrap_or o 0)
    (lookup-map_values (λ (list : SmallVec ℕ). list.capacity - small_vec_len list) (nat_eq key) lists.map.entries)
    ∙ by (get nat_eq lists.map key)
  where
    by : (o : Option (SmallVec ℕ)) →
        unwrap_or (option_map (λ list. list.capacity - small_vec_len list) o) 0
        ≡ option_map_or (λ list. list.capacity - small_vec_len list) o 0
    by None = refl
    by (Some list) = refl

pub rooms_stay : (old new : Lists) → ((key : ℕ) → room_of old key ≤ room_of new key) → (key : ℕ) →
    room_in (rooms_of old) key ≤ room_in (rooms_of new) key
rooms_stay old new le key = omega (arith, room_in-rooms_of old key, room_in-rooms_of new key, le key)

-- where one list has changed, and its room did not fall, none did
pub no_room_falls : (old new : Lists) (key : ℕ) → HasOnlyChanged old new key → room_of old key ≤ room_of new key →
    (other : ℕ) → room_of old other ≤ room_of new other
no_room_falls old new key only le other = elim (cases_eq other key) [
  | inl is ↦ subst (λ k. room_of old k ≤ room_of new k) (sym is) le
  | inr unlike ↦ omega (arith, only.rooms other unlike)
]
