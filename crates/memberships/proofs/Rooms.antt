-- Lists after a change of one of them.
use Rattle.std.proofs.Common.{◌≡◌, ℕ, ◌+◌, ◌≤◌, min, Bool, true, false, nat_eq, List, [], ◌∷◌, map, Option, Some, None}
use Rattle.std.proofs.Common.{is_some, option_map, unwrap_or, MutBor, inl, inr, refl, sym, ap, ◌∙◌, arith}
use Rattle.std.specs.Map.{lookup}
use Rattle.std.specs.Option.{option_copied_mut}
use Rattle.std.proofs.lemmas.Bool.{cases_Bool, eqb-true}
use Rattle.row_slots.specs.declared.lists.Lists.{Lists}
use Rattle.row_slots.specs.Lists.{list_of, room_of, rooms_of, room_in, HasOnlyChanged}
use Rattle.row_slots.proofs.Rooms.{room_in-rooms_of}
use Rattle.memberships.specs.Secrets.{one_if, rooms_of_both}
use Rattle.memberships.proofs.Turns.{Sets}

pub sets_list : (old new : Lists) (key : ℕ) (list : List ℕ) → HasOnlyChanged old new key → list_of new key ≡ list →
    Sets (list_of old) (list_of new) key list
sets_list old new key list only here = record { here = here; others = only.lists }

-- there is a reference where there is what it refers to
pub is_some_copied : {X : Type 0} (o : Option (MutBor X)) → is_some (option_copied_mut o) ≡ true → is_some o ≡ true
is_some_copied None there = there
is_some_copied (Some r) there = refl

-- ---- rooms of two lists

-- the room of a key is the lesser of both
pub room_in-both : (lists secret : Lists) (key : ℕ) →
    room_in (rooms_of_both lists secret) key ≡ min (room_of lists key) (room_of secret key)
room_in-both lists secret key =
    ap (λ o. unwrap_or o 0) (lesser (rooms_of lists)) ∙ by (lookup (nat_eq key) (rooms_of lists))
    ∙ ap (λ n. min n (room_of secret key)) (room_in-rooms_of lists key)
  where
    lesser : (rooms : List (ℕ × ℕ)) →
        lookup (nat_eq key) (map {B = ℕ × ℕ} (λ room. (room.0, min room.1 (room_of secret room.0))) rooms)
        ≡ option_map (λ n. min n (room_of secret key)) (lookup (nat_eq key) rooms)
    lesser [] = refl
    lesser (room ∷ rooms) = elim (cases_Bool (nat_eq key room.0)) [
      | inl is ↦ rw is (ap (λ k. Some (min room.1 (room_of secret k))) (sym (eqb-true key room.0 is)))
      | inr other ↦ rw other (lesser rooms)
    ]

    by : (o : Option ℕ) →
        unwrap_or (option_map (λ n. min n (room_of secret key)) o) 0 ≡ min (unwrap_or o 0) (room_of secret key)
    by None = omega arith
    by (Some n) = refl

module _ (one one_now other other_now : Lists) where
  abbrev room_before : ℕ → ℕ
  room_before key = room_in (rooms_of_both one other) key

  abbrev room_after : ℕ → ℕ
  room_after key = room_in (rooms_of_both one_now other_now) key

  -- no room falls where neither list's does
  pub both_stay : ((key : ℕ) → room_of one key ≤ room_of one_now key) →
      ((key : ℕ) → room_of other key ≤ room_of other_now key) → (key : ℕ) → room_before key ≤ room_after key
  both_stay ones others key =
      omega (arith, room_in-both one other key, room_in-both one_now other_now key, ones key, others key)

  -- and by one at most where each falls by one at most
  pub both_fall : (key : ℕ) → room_of one key ≤ room_of one_now key + 1 →
      room_of other key ≤ room_of other_now key + 1 → room_before key ≤ room_after key + 1
  both_fall key ones others =
      omega (arith, room_in-both one other key, room_in-both one_now other_now key, ones, others)

  -- nor at the keys at which none has changed
  pub both_same : (key : ℕ) → room_of one_now key ≡ room_of one key → room_of other_now key ≡ room_of other key →
      room_before key ≤ room_after key
  both_same key ones others =
      omega (arith, room_in-both one other key, room_in-both one_now other_now key, ones, others)

-- one more number takes the room of one at most, and one less none
pub falls_by_one : (room room_now : ℕ) (was is : Bool) → room + one_if was ≤ room_now + one_if is → room ≤ room_now + 1
falls_by_one room room_now true true less = omega (arith, less)
falls_by_one room room_now true false less = omega (arith, less)
falls_by_one room room_now false true less = omega (arith, less)
falls_by_one room room_now false false less = omega (arith, less)

pub no_fall : (room room_now : ℕ) (was : Bool) → room + one_if was ≤ room_now + 0 → room ≤ room_now
no_fall room room_now true less = omega (arith, less)
no_fall room room_now false less = omega (arith, less)
