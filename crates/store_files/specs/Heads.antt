-- What the head of a store's file says.
use Rattle.std.specs.Prelude.{ℕ, Bool, false, ◌==◌, ◌&&◌, nat_lt, min, List, [], ◌∷◌, ◌++◌}
use Rattle.std.specs.Prelude.{length, take, drop, codes, slice_index, if◌then◌else◌}
use Rattle.std.specs.Int.{w64, to_le_bytes, from_le_bytes}
use Rattle.std.specs.List.{common_prefix_len}
use Rattle.store_files.specs.declared.heads.Side.{Side}
use Rattle.store_files.specs.declared.heads.Side.TheVariants as side
use Rattle.store_files.specs.declared.heads.Head.{Head}
use Rattle.store_files.specs.declared.heads.Head.TheVariants as head

-- how a file begins: its name, and the number of its version in four bytes, the lowest first, with
-- four of zero after them
abbrev pub header_1 : List ℕ
header_1 = codes "KOMSTORE" ++ 1 ∷ 0 ∷ 0 ∷ 0 ∷ 0 ∷ 0 ∷ 0 ∷ 0 ∷ []

abbrev pub header_2 : List ℕ
header_2 = codes "KOMSTORE" ++ 2 ∷ 0 ∷ 0 ∷ 0 ∷ 0 ∷ 0 ∷ 0 ∷ 0 ∷ []

-- what stands before the gate of a snapshot: the header, and a generation in eight bytes, the
-- lowest first
abbrev pub head_of : ℕ → List ℕ
head_of generation = header_2 ++ to_le_bytes w64 generation

abbrev pub generation_of : List ℕ → ℕ
generation_of head = from_le_bytes w64 (drop 16 head)

-- a file with a snapshot: its gate is open, and this stands after it
abbrev pub live_file : ℕ → List ℕ → List ℕ
live_file generation content = head_of generation ++ 1 ∷ content

-- for how many places bytes are those of a header
abbrev pub places_as : List ℕ → List ℕ → ℕ
places_as header bytes = common_prefix_len (λ one other. one == other) bytes header

-- A file of version 1, which stands at the first place alone. It has a gate.
abbrev pub is_old : Side → ℕ → List ℕ → Bool
is_old side.First len front = places_as header_1 front == 16 && nat_lt 16 len
is_old side.Second len front = false

-- what bytes say that differ from the header of version 2, first at this place, which holds this
abbrev pub other_head : ℕ → ℕ → ℕ → Head
other_head len place byte =
    if nat_lt 25 len then head.Foreign place byte else head.Stub place byte

-- what the first 25 bytes of a file of this length say, or all its bytes where it has fewer
abbrev pub head_from : Side → ℕ → List ℕ → Head
head_from place len front =
    if is_old place len front then head.Old
    else if nat_lt (places_as header_2 front) (min 16 len)
    then other_head len (places_as header_2 front) (slice_index front (places_as header_2 front))
    else if nat_lt len 25 then head.Short len
    else if nat_lt 25 len && slice_index front 24 == 1
    then head.Live (generation_of (take 24 front))
    else head.Shut

abbrev pub head_in : Side → List ℕ → Head
head_in place file = head_from place (length file) (take 25 file)
