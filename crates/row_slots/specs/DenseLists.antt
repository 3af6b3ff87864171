-- A list of numbers for each key, near ones in pages and far ones hashed, and the room in it.
use Rattle.std.specs.Prelude.{◌≡◌, ◌≢◌, ℕ, ◌-◌, ◌/◌, ◌%◌, List, [], Option, map}
use Rattle.std.specs.Prelude.{slice_get, unwrap_or, IsSome}
use Rattle.std.specs.Option.{option_and_then, option_map_or}
use Rattle.std.specs.declared.alloc.Global.{Global}
use Rattle.std.specs.declared.vec.Vec.{Vec}
use Rattle.smallvec.specs.SmallVec.{SmallVec, small_vec_len}
use Rattle.row_slots.specs.declared.dense_lists.DenseLists.{DenseLists}
use Rattle.row_slots.specs.Lists.{list_of, room_of, rooms_of, room_in}

-- the list at a place of a page, empty past its end
abbrev pub page_list : Vec (SmallVec ℕ) Global → ℕ → List ℕ
page_list page place = option_map_or (λ list. list.items) (slice_get page.items place) []

-- how many more numbers fit into it without memory
abbrev pub page_room : Vec (SmallVec ℕ) Global → ℕ → ℕ
page_room page place =
    option_map_or (λ list. list.capacity - small_vec_len list) (slice_get page.items place) 0

-- a list without a number
abbrev pub IsUnusedList : SmallVec ℕ → Type 0
IsUnusedList list = list.items ≡ []

-- the list of a key in its page, of which each has those of 64 keys, or of none
abbrev pub near_list : List (Vec (SmallVec ℕ) Global) → ℕ → Option (SmallVec ℕ)
near_list pages key =
    option_and_then (λ page. slice_get page.items (key % 64)) (slice_get pages (key / 64))

-- the list of a key: a near one, or else a far one
abbrev pub dense_list : DenseLists → ℕ → List ℕ
dense_list lists key =
    option_map_or (λ list. list.items) (near_list lists.near.items key) (list_of lists.far key)

-- how many more numbers fit into the list of a key without memory
abbrev pub dense_room : DenseLists → ℕ → ℕ
dense_room lists key =
    option_map_or (λ list. list.capacity - small_vec_len list) (near_list lists.near.items key)
    (room_of lists.far key)

-- the list of a key is a near one
abbrev pub IsNear : DenseLists → ℕ → Type 0
IsNear lists key = IsSome (near_list lists.near.items key)

-- no list is a far one
abbrev pub HasNoneFar : DenseLists → Type 0
HasNoneFar lists = lists.far.map.entries ≡ []

-- a page has no lists
abbrev pub HasNoPage : DenseLists → ℕ → Type 0
HasNoPage lists place =
    option_map_or (λ page. page.items) (slice_get lists.near.items place) [] ≡ []

-- the lists and rooms of all other keys are as they were
pub record HasOnlyDenseChanged (old new : DenseLists) (key : ℕ) : Type 0 where
  pub lists : (other : ℕ) → other ≢ key → dense_list new other ≡ dense_list old other
  pub rooms : (other : ℕ) → other ≢ key → dense_room new other ≡ dense_room old other

-- the rooms of lists: of the near ones, from key 0 on, and of the far ones, each with its key
pub record DenseRooms : Type 0 where
  pub near : List (List ℕ)
  pub far : List (ℕ × ℕ)

abbrev pub dense_rooms : DenseLists → DenseRooms
dense_rooms lists = record {
  near = map (λ page. map (λ list. list.capacity - small_vec_len list) page.items)
      lists.near.items;
  far = rooms_of lists.far;
}

-- the room of a key among such rooms
abbrev pub dense_room_in : DenseRooms → ℕ → ℕ
dense_room_in rooms key = unwrap_or
    (option_and_then (λ page. slice_get page (key % 64)) (slice_get rooms.near (key / 64)))
    (room_in rooms.far key)
