-- The lists and the rooms of keys that are numbered one after the other, and those after a change of one list.
use Rattle.std.proofs.Common.{◌≡◌, ℕ, zero, suc, ◌-◌, ◌/◌, ◌%◌, ◌<◌, ◌≤◌, List, [], ◌∷◌, length, map, slice_get, IsSome}
use Rattle.std.proofs.Common.{Option, Some, None, option_map, unwrap_or, inl, inr, refl, ◌∙◌, ap, sym, subst, arith}
use Rattle.std.specs.Option.{option_and_then, option_map_or}
use Rattle.std.specs.declared.alloc.Global.{Global}
use Rattle.std.specs.declared.vec.Vec.{Vec}
use Rattle.std.proofs.Math.ListN.{set}
use Rattle.std.proofs.lemmas.Bool.{cases_eq, false≢true}
use Rattle.std.proofs.lemmas.Option.{slice_get-map}
use Rattle.smallvec.specs.SmallVec.{SmallVec, small_vec_len}
use Rattle.row_slots.specs.declared.dense_lists.DenseLists.{DenseLists}
use Rattle.row_slots.specs.DenseLists.{dense_room, dense_rooms, dense_room_in, HasOnlyDenseChanged}
use Rattle.row_slots.specs.Lists.{room_of, rooms_of, room_in}
use Rattle.row_slots.proofs.Rooms.{room_in-rooms_of}

-- ---- the rooms of all keys

-- how many more numbers fit into a list
abbrev spare : SmallVec ℕ → ℕ
spare list = list.capacity - small_vec_len list

-- the room of a key by the rooms of all
pub dense_room_in-dense_rooms : (lists : DenseLists) (key : ℕ) →
    dense_room_in (dense_rooms lists) key ≡ dense_room lists key
dense_room_in-dense_rooms lists key =
    ap (λ o. unwrap_or (option_and_then (λ page. slice_get page (key % 64)) o) (room_in (rooms_of lists.far) key))
    (slice_get-map (λ (page : Vec (SmallVec ℕ) Global). map spare page.items) lists.near.items (key / 64))
    ∙ by_page (slice_get lists.near.items (key / 64))
  where
    by_list : (o : Option (SmallVec ℕ)) →
        unwrap_or (option_map spare o) (room_in (rooms_of lists.far) key)
        ≡ option_map_or spare o (room_of lists.far key)
    by_list None = room_in-rooms_of lists.far key
    by_list (Some list) = refl

    by_page : (o : Option (Vec (SmallVec ℕ) Global)) →
        unwrap_or (option_and_then (λ page. slice_get page (key % 64)) (option_map (λ page. map spare page.items) o))
        (room_in (rooms_of lists.far) key)
        ≡ option_map_or spare (option_and_then (λ page. slice_get page.items (key % 64)) o) (room_of lists.far key)
    by_page None = room_in-rooms_of lists.far key
    by_page (Some page) =
        ap (λ o. unwrap_or o (room_in (rooms_of lists.far) key)) (slice_get-map spare page.items (key % 64))
        ∙ by_list (slice_get page.items (key % 64))

pub dense_rooms_stay : (old new : DenseLists) → ((key : ℕ) → dense_room old key ≤ dense_room new key) → (key : ℕ) →
    dense_room_in (dense_rooms old) key ≤ dense_room_in (dense_rooms new) key
dense_rooms_stay old new le key =
    omega (arith, dense_room_in-dense_rooms old key, dense_room_in-dense_rooms new key, le key)

-- where one list has changed, and its room did not fall, none did
pub no_dense_room_falls : (old new : DenseLists) (key : ℕ) → HasOnlyDenseChanged old new key →
    dense_room old key ≤ dense_room new key → (other : ℕ) → dense_room old other ≤ dense_room new other
no_dense_room_falls old new key only le other = elim (cases_eq other key) [
  | inl is ↦ subst (λ k. dense_room old k ≤ dense_room new k) (sym is) le
  | inr unlike ↦ omega (arith, only.rooms other unlike)
]

-- ---- one list is another

pub slice_get-set_same : {X : Type 0} (xs : List X) (place : ℕ) (x : X) → place < length xs →
    slice_get (set xs place x) place ≡ Some x
slice_get-set_same [] place x within = absurd (omega arith)
slice_get-set_same (first ∷ xs) zero x within = refl
slice_get-set_same (first ∷ xs) (suc place) x within = slice_get-set_same xs place x (omega arith)

pub within_list : {X : Type 0} (xs : List X) (place : ℕ) → IsSome (slice_get xs place) → place < length xs
within_list [] place there = absurd (false≢true there)
within_list (first ∷ xs) zero there = omega arith
within_list (first ∷ xs) (suc place) there = omega (arith, within_list xs place there)
