-- What the head of a file says.
use Rattle.std.proofs.Common.{◌≡◌, ◌≢◌, ◌<◌, ◌≤◌, ◌+◌, ◌^◌, ℕ, Bool, true, false, List, [], ◌∷◌, ◌++◌, length, take}
use Rattle.std.proofs.Common.{refl, sym, ◌∙◌, ap, subst, arith, length-append, inl, inr, get_or}
use Rattle.std.specs.Prelude.{nat_lt, min, if◌then◌else◌, ◌==◌, ◌&&◌, slice_index}
use Rattle.std.proofs.lemmas.Bool.{cases_lt}
use Rattle.std.proofs.lemmas.Bool.Decides.{nat_tests}
use Rattle.std.proofs.lemmas.List.{take-take, take_all, take-append-le, length-take, get_or-drop, get_or-take}
use Rattle.std.proofs.lemmas.Nat.{from_le_bytes-to_le_bytes_8}
use Rattle.std.specs.Int.{w64, from_le_bytes}
use Rattle.kom_disk.specs.Disk.{IsShortened}
use Rattle.batch_log.specs.Gates.{IsShut}
use Rattle.store_files.specs.Heads.{header_1, header_2, head_of, live_file, places_as, is_old, other_head}
use Rattle.store_files.specs.Heads.{generation_of, head_from, head_in}
use Rattle.store_files.specs.Choices.{IsIdle, IsBeside}
use Rattle.store_files.specs.Writing.{IsNoStore}
use Rattle.store_files.specs.declared.heads.Side.{Side}
use Rattle.store_files.specs.declared.heads.Side.TheVariants as side
use Rattle.store_files.specs.declared.heads.Head.{Head}
use Rattle.store_files.specs.declared.heads.Head.TheVariants as head
use Rattle.store_files.specs.declared.choices.Choice.{Choice}
use Rattle.store_files.specs.declared.choices.Choice.TheVariants as choice

lt_false : (a b : ℕ) → b ≤ a → nat_lt a b ≡ false
lt_false a b le = grind (arith, nat_tests)

min_left : (a b : ℕ) → a ≤ b → min a b ≡ a
min_left a b le = omega (arith, le)

lt_true : (a b : ℕ) → a < b → nat_lt a b ≡ true
lt_true a b less = grind (arith, nat_tests)

-- what says no generation is idle, unless it is foreign
other_idle : (limit len place byte : ℕ) → len ≤ 25 → IsIdle limit (other_head len place byte)
other_idle limit len place byte short =
    subst (λ (b : Bool). IsIdle limit (if b then head.Foreign place byte else head.Stub place byte))
    (sym (lt_false 25 len short)) tt

-- a file that ends at its gate or before is idle
idle_if : (limit len place byte generation : ℕ) (old other short gate : Bool) → len ≤ 25
    → IsIdle limit (if old then head.Old else if other then other_head len place byte
    else if short then head.Short len else if false && gate then head.Live generation else head.Shut)
idle_if limit len place byte generation true other short gate le = tt
idle_if limit len place byte generation false true short gate le = other_idle limit len place byte le
idle_if limit len place byte generation false false true gate le = tt
idle_if limit len place byte generation false false false gate le = tt

pub idle_short : (limit : ℕ) (place : Side) (file : List ℕ) → length file ≤ 25 → IsIdle limit (head_in place file)
idle_short limit place file short =
    let front = take 25 file in
    let len = length file in
    let at = places_as header_2 front in
    subst
    (λ (b : Bool). IsIdle limit (if is_old place len front then head.Old
    else if nat_lt at (min 16 len) then other_head len at (slice_index front at)
    else if nat_lt len 25 then head.Short len
    else if b && (slice_index front 24 == 1) then head.Live (generation_of (take 24 front)) else head.Shut))
    (sym (lt_false 25 len short))
    (idle_if limit len at (slice_index front at) (generation_of (take 24 front)) (is_old place len front)
    (nat_lt at (min 16 len)) (nat_lt len 25) (slice_index front 24 == 1) short)

-- the head of a longer file is that of its first 25 bytes
abbrev long_head : Side → ℕ → List ℕ → Head
long_head place at front =
    if is_old place 26 front then head.Old
    else if nat_lt at 16 then head.Foreign at (slice_index front at)
    else if slice_index front 24 == 1 then head.Live (generation_of (take 24 front)) else head.Shut

same_old : (place : Side) (len : ℕ) (front : List ℕ) → 25 < len → is_old place len front ≡ is_old place 26 front
same_old side.First len front long =
    ap (λ (b : Bool). (places_as header_1 front == 16) && b) (lt_true 16 len (omega (arith, long)))
same_old side.Second len front long = refl

is_long : (place : Side) (len : ℕ) (front : List ℕ) → 25 < len
    → head_from place len front ≡ long_head place (places_as header_2 front) front
is_long place len front long =
    let at = places_as header_2 front in
    let byte = slice_index front at in
    let is_open = slice_index front 24 == 1 in
    let live = head.Live (generation_of (take 24 front)) in
    ap (λ (old : Bool). if old then head.Old
    else if nat_lt at (min 16 len) then other_head len at byte
    else if nat_lt len 25 then head.Short len
    else if nat_lt 25 len && is_open then live else head.Shut)
    (same_old place len front long)
    ∙ ap (λ (n : ℕ). if is_old place 26 front then head.Old
    else if nat_lt at n then other_head len at byte
    else if nat_lt len 25 then head.Short len
    else if nat_lt 25 len && is_open then live else head.Shut)
    (min_left 16 len (omega (arith, long)))
    ∙ ap (λ (b : Bool). if is_old place 26 front then head.Old
    else if nat_lt at 16 then if b then head.Foreign at byte else head.Stub at byte
    else if nat_lt len 25 then head.Short len
    else if b && is_open then live else head.Shut)
    (lt_true 25 len long)
    ∙ ap (λ (b : Bool). if is_old place 26 front then head.Old
    else if nat_lt at 16 then head.Foreign at byte
    else if b then head.Short len
    else if is_open then live else head.Shut)
    (lt_false len 25 (omega (arith, long)))

pub same_head : (place : Side) (one other : ℕ) (front : List ℕ) → 25 < one → 25 < other
    → head_from place one front ≡ head_from place other front
same_head place one other front long more =
    is_long place one front long ∙ sym (is_long place other front more)

-- a file stays idle while it is cut
pub idle_cut : (limit : ℕ) (place : Side) (bytes image : List ℕ) → IsShortened 16 bytes image
    → IsIdle limit (head_in place bytes) → IsIdle limit (head_in place image)
idle_cut limit place bytes image cut idle = elim (cases_lt 25 (length image)) [
  | inl long ↦
      let whole : 25 < length bytes =
      omega (arith, long, ap length cut.prefix, length-take (length image) bytes) in
      let front : take 25 image ≡ take 25 bytes =
      ap (take 25) (sym cut.prefix) ∙ take-take 25 (length image) bytes (omega (arith, long)) in
      subst (λ (h : Head). IsIdle limit h)
      (sym (ap (head_from place (length image)) front
      ∙ same_head place (length image) (length bytes) (take 25 bytes) long whole)) idle
  | inr short ↦ idle_short limit place image short
]

pub beside_cut : (which : Choice) (bytes image : List ℕ) → IsShortened 16 bytes image
    → IsBeside which bytes → IsBeside which image
beside_cut choice.Old bytes image cut idle = idle_cut 0 side.Second bytes image cut idle
beside_cut choice.Empty bytes image cut idle = idle_cut 0 side.Second bytes image cut idle
beside_cut (choice.First g) bytes image cut idle = idle_cut (g + 1) side.Second bytes image cut idle
beside_cut (choice.Second g) bytes image cut idle = idle_cut g side.First bytes image cut idle

pub no_short : (at : ℕ) (file : List ℕ) → length file ≤ 25 → IsNoStore at file
no_short at file short choice.Old = idle_short 0 side.Second file short
no_short at file short choice.Empty = idle_short 0 side.Second file short
no_short at file short (choice.First g) = idle_short (g + 1) side.Second file short
no_short at file short (choice.Second g) = idle_short g side.First file short

-- and so is one whose gate is not open
gate_no : (gate : ℕ) → gate ≢ 1 → (gate == 1) ≡ false
gate_no gate shut = grind (arith, nat_tests)

shut_if : (is_open : Bool) (generation : ℕ) → is_open ≡ false
    → (if is_open then head.Live generation else head.Shut) ≡ head.Shut
shut_if is_open generation shut = ap (λ (b : Bool). if b then head.Live generation else head.Shut) shut

shut_long : (g gate : ℕ) (place : Side) (more : List ℕ) → gate ≢ 1 → 0 < length more
    → head_in place (head_of g ++ gate ∷ more) ≡ head.Shut
shut_long g gate side.First more shut some =
    is_long side.First (length (head_of g ++ gate ∷ more)) (take 25 (head_of g ++ gate ∷ more))
    (omega (arith, some, length-append (head_of g) (gate ∷ more)))
    ∙ shut_if (gate == 1) (generation_of (head_of g)) (gate_no gate shut)
shut_long g gate side.Second more shut some =
    is_long side.Second (length (head_of g ++ gate ∷ more)) (take 25 (head_of g ++ gate ∷ more))
    (omega (arith, some, length-append (head_of g) (gate ∷ more)))
    ∙ shut_if (gate == 1) (generation_of (head_of g)) (gate_no gate shut)

idle_shut : (limit g gate : ℕ) (place : Side) (more : List ℕ) → gate ≢ 1
    → IsIdle limit (head_in place (head_of g ++ gate ∷ more))
idle_shut limit g gate place [] shut =
    idle_short limit place (head_of g ++ gate ∷ []) (omega (arith, length-append (head_of g) (gate ∷ [])))
idle_shut limit g gate place (byte ∷ bytes) shut =
    subst (IsIdle limit) (sym (shut_long g gate place (byte ∷ bytes) shut (omega arith))) tt

no_shut_file : (g gate at : ℕ) (more : List ℕ) → gate ≢ 1 → IsNoStore at (head_of g ++ gate ∷ more)
no_shut_file g gate at more shut choice.Old = idle_shut 0 g gate side.Second more shut
no_shut_file g gate at more shut choice.Empty = idle_shut 0 g gate side.Second more shut
no_shut_file g gate at more shut (choice.First n) = idle_shut (n + 1) g gate side.Second more shut
no_shut_file g gate at more shut (choice.Second n) = idle_shut n g gate side.First more shut

pub no_gate : (g gate at : ℕ) (more image : List ℕ) → gate ≢ 1 → image ≡ head_of g ++ gate ∷ more → IsNoStore at image
no_gate g gate at more image shut is = subst (IsNoStore at) (sym is) (no_shut_file g gate at more shut)

pub no_shut : (g at moment : ℕ) (image : List ℕ) → IsShut (head_of g) at image → IsNoStore moment image
no_shut g at moment image (more, is) = no_gate g 0 moment more image (λ (one : 0 ≡ 1). omega (arith, one)) is

-- a file with a snapshot says its generation
pub live_says : (place : Side) (g : ℕ) (content : List ℕ) → g < 2 ^ 64 → 0 < length content
    → head_in place (live_file g content) ≡ head.Live g
live_says side.First g content in_range some =
    is_long side.First (length (live_file g content)) (take 25 (live_file g content))
    (omega (arith, some, length-append (head_of g) (1 ∷ content)))
    ∙ ap head.Live (from_le_bytes-to_le_bytes_8 g in_range)
live_says side.Second g content in_range some =
    is_long side.Second (length (live_file g content)) (take 25 (live_file g content))
    (omega (arith, some, length-append (head_of g) (1 ∷ content)))
    ∙ ap head.Live (from_le_bytes-to_le_bytes_8 g in_range)

-- and a first file with the header of version 1 and a byte more that it is one
pub old_says : (gate : ℕ) (rest : List ℕ) → head_in side.First (header_1 ++ gate ∷ rest) ≡ head.Old
old_says gate rest =
    ap (λ (b : Bool). if b then head.Old else head_from side.Second (length (header_1 ++ gate ∷ rest))
    (take 25 (header_1 ++ gate ∷ rest)))
    (lt_true 16 (length (header_1 ++ gate ∷ rest)) (omega (arith, length-append header_1 (gate ∷ rest))))

-- eight numbers of a head, as one
pub number_of : (front : List ℕ)
    → from_le_bytes w64 (get_or front 16 0 ∷ get_or front 17 0 ∷ get_or front 18 0 ∷ get_or front 19 0
    ∷ get_or front 20 0 ∷ get_or front 21 0 ∷ get_or front 22 0 ∷ get_or front 23 0 ∷ [])
    ≡ generation_of (take 24 front)
number_of front =
    let head = take 24 front in
    omega (
      arith,
      get_or-drop 16 head 0 0 ∙ get_or-take 24 front 16 0 (omega arith),
      get_or-drop 16 head 1 0 ∙ get_or-take 24 front 17 0 (omega arith),
      get_or-drop 16 head 2 0 ∙ get_or-take 24 front 18 0 (omega arith),
      get_or-drop 16 head 3 0 ∙ get_or-take 24 front 19 0 (omega arith),
      get_or-drop 16 head 4 0 ∙ get_or-take 24 front 20 0 (omega arith),
      get_or-drop 16 head 5 0 ∙ get_or-take 24 front 21 0 (omega arith),
      get_or-drop 16 head 6 0 ∙ get_or-take 24 front 22 0 (omega arith),
      get_or-drop 16 head 7 0 ∙ get_or-take 24 front 23 0 (omega arith),
    )

front_whole : (bytes : List ℕ) (n : ℕ) → n ≡ min 25 (length bytes) → take n bytes ≡ take 25 bytes
front_whole bytes n is = elim (cases_lt 25 (length bytes)) [
  | inl long ↦ let all : n ≡ 25 = omega (arith, is, long) in ap (λ (k : ℕ). take k bytes) all
  | inr short ↦ take_all n bytes (omega (arith, is, short)) ∙ sym (take_all 25 bytes short)
]

-- what is read of the first bytes
pub front_of : (bytes rest : List ℕ) (n : ℕ) → n ≡ min 25 (length bytes)
    → take n (take n bytes ++ rest) ≡ take 25 bytes
front_of bytes rest n is =
    take-append-le n (take n bytes) rest (omega (arith, length-take n bytes, is))
    ∙ take-take n n bytes (omega arith) ∙ front_whole bytes n is
