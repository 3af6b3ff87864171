-- Which file of a pair is chosen, by what both heads say.
use Rattle.std.specs.Prelude.{◌≡◌, ◌<◌, ◌+◌, ℕ, List, nat_lt, Result, Ok, Err, if◌then◌else◌}
use Rattle.store_files.specs.Heads.{head_in}
use Rattle.store_files.specs.declared.heads.Side.TheVariants as side
use Rattle.store_files.specs.declared.heads.Head.{Head}
use Rattle.store_files.specs.declared.heads.Head.TheVariants as head
use Rattle.store_files.specs.declared.choices.Choice.{Choice}
use Rattle.store_files.specs.declared.choices.Choice.TheVariants as choice
use Rattle.store_files.specs.declared.choices.NotChosen.{NotChosen}
use Rattle.store_files.specs.declared.choices.NotChosen.TheVariants as refusal

-- what the second file comes to beside a first one of this generation
abbrev pub beside_live : ℕ → Head → Result Choice NotChosen
beside_live one (head.Foreign place byte) = Err (refusal.Foreign place byte)
beside_live one (head.Live other) =
    Ok (if nat_lt one other then choice.Second other else choice.First one)
beside_live one second = Ok (choice.First one)

-- and beside one without a snapshot, which comes to this alone
abbrev pub beside_other : Result Choice NotChosen → Head → Result Choice NotChosen
beside_other alone (head.Foreign place byte) = Err (refusal.Foreign place byte)
beside_other alone (head.Live other) = Ok (choice.Second other)
beside_other alone second = alone

-- A foreign file is at fault, the first before the second. Else the greater generation is chosen,
-- the first where both are equal; else a first file of version 1, or one whose gate is shut, which
-- is empty. Else the first is at fault.
abbrev pub choice_of : Head → Head → Result Choice NotChosen
choice_of (head.Foreign place byte) second = Err (refusal.Foreign place byte)
choice_of (head.Live one) second = beside_live one second
choice_of head.Old second = beside_other (Ok choice.Old) second
choice_of head.Shut second = beside_other (Ok choice.Empty) second
choice_of (head.Short len) second = beside_other (Err (refusal.Short len)) second
choice_of (head.Stub place byte) second =
    beside_other (Err (refusal.Foreign place byte)) second

-- which of two files is chosen
abbrev pub choice_in : List ℕ → List ℕ → Result Choice NotChosen
choice_in first second = choice_of (head_in side.First first) (head_in side.Second second)

-- Beside a file of a generation from this one on, a file whose head says this is not chosen, and it
-- is no fault.
abbrev pub IsIdle : ℕ → Head → Type 0
IsIdle limit (head.Live generation) = generation < limit
IsIdle limit (head.Foreign place byte) = ⊥
IsIdle limit (head.Short len) = Unit {0}
IsIdle limit (head.Stub place byte) = Unit {0}
IsIdle limit head.Shut = Unit {0}
IsIdle limit head.Old = Unit {0}

-- the other file may stand beside the chosen one
abbrev pub IsBeside : Choice → List ℕ → Type 0
IsBeside choice.Old other = IsIdle 0 (head_in side.Second other)
IsBeside choice.Empty other = IsIdle 0 (head_in side.Second other)
IsBeside (choice.First generation) other = IsIdle (generation + 1) (head_in side.Second other)
IsBeside (choice.Second generation) other = IsIdle generation (head_in side.First other)

-- the chosen file says what is chosen
abbrev pub SaysChoice : Choice → List ℕ → Type 0
SaysChoice choice.Old one = head_in side.First one ≡ head.Old
SaysChoice choice.Empty one = head_in side.First one ≡ head.Shut
SaysChoice (choice.First generation) one = head_in side.First one ≡ head.Live generation
SaysChoice (choice.Second generation) one = head_in side.Second one ≡ head.Live generation

-- the choice from one file, which stands where the chosen one does, and the other
abbrev pub choice_with : Choice → List ℕ → List ℕ → Result Choice NotChosen
choice_with choice.Old one other = choice_in one other
choice_with choice.Empty one other = choice_in one other
choice_with (choice.First generation) one other = choice_in one other
choice_with (choice.Second generation) one other = choice_in other one

-- the generation of what is chosen: a file of version 1, and an empty one, count as 0
abbrev pub generation_in : Choice → ℕ
generation_in choice.Old = 0
generation_in choice.Empty = 0
generation_in (choice.First generation) = generation
generation_in (choice.Second generation) = generation

-- what is chosen once the other file has a snapshot of the next generation
abbrev pub next_choice : Choice → Choice
next_choice choice.Old = choice.Second 1
next_choice choice.Empty = choice.Second 1
next_choice (choice.First generation) = choice.Second (generation + 1)
next_choice (choice.Second generation) = choice.First (generation + 1)
