-- What follows from which file of a pair is chosen.
use Rattle.std.specs.Prelude.{◌≡◌, ◌<◌, ◌+◌, ◌^◌, ◌↔◌, ◌⊎◌, ℕ, List, Ok}
use Rattle.batch_log.specs.Batches.{with_length, HasBatches}
use Rattle.store_files.specs.Heads.{header_1, live_file}
use Rattle.store_files.specs.Choices.{IsBeside, SaysChoice, choice_with, generation_in, next_choice}
use Rattle.store_files.specs.Writing.{new_file, IsNoStoreOrNew}
use Rattle.store_files.specs.declared.choices.Choice.{Choice}
use Rattle.store_files.specs.declared.choices.Choice.TheVariants as choice

-- what is chosen is what the one file says beside which the other may stand
abbrev pub ChoiceStands : Type 0
ChoiceStands = (choice : Choice) (one other : List ℕ)
    → ((choice_with choice one other ≡ Ok choice) ↔ (SaysChoice choice one × IsBeside choice other))

-- a head of this generation, an open gate, and a snapshot after its length
abbrev pub IsLiveStart : ℕ → List ℕ → Type 0
IsLiveStart generation start = (generation < 2 ^ 64)
    × ((snapshot : List ℕ) × (start ≡ live_file generation (with_length snapshot)))

-- this stands before the batches of what is chosen; an empty file has none
abbrev pub IsStartOf : Choice → List ℕ → Type 0
IsStartOf choice.Old start = start ≡ header_1
IsStartOf choice.Empty start = ⊥
IsStartOf (choice.First generation) start = IsLiveStart generation start
IsStartOf (choice.Second generation) start = IsLiveStart generation start

-- a file with this start and any batches after it says so: what a flush leaves is chosen as it was
abbrev pub BatchesAreChosen : Type 0
BatchesAreChosen = (choice : Choice) (start image : List ℕ) (bodies : List (List ℕ))
    → IsStartOf choice start → HasBatches start bodies image → SaysChoice choice image

-- While a snapshot is written into the other file, what is chosen stays so until the new file is
-- whole, and then that one is.
abbrev pub SnapshotsKeep : Type 0
SnapshotsKeep = (choice : Choice) (one snapshot image : List ℕ) (moment : ℕ)
    → generation_in choice + 1 < 2 ^ 64 → SaysChoice choice one
    → IsNoStoreOrNew (generation_in choice + 1) snapshot moment image
    → (choice_with choice one image ≡ Ok choice)
    ⊎ ((image ≡ new_file (generation_in choice + 1) snapshot)
    × (choice_with choice one image ≡ Ok (next_choice choice)))

-- the new file says that it is chosen, and the file before may stand beside it
abbrev pub NextStands : Type 0
NextStands = (choice : Choice) (one snapshot : List ℕ)
    → generation_in choice + 1 < 2 ^ 64 → SaysChoice choice one
    → SaysChoice (next_choice choice) (new_file (generation_in choice + 1) snapshot)
    × IsBeside (next_choice choice) one
