-- The words of a command line.
use Rattle.std.specs.Prelude.{◌≡◌, ◌≢◌, ℕ, ◌≤◌, Bool, true, false, List, [], ◌∷◌, length, codes}
use Rattle.kom_types.specs.declared.limits.TheConstants.{LONGEST_PASSWORD}
use Rattle.kom_commands.specs.declared.words.Command.{Command}
use Rattle.kom_commands.specs.declared.words.Command.TheVariants as command
use Rattle.kom_commands.specs.Numbers.{SaysServe}
use Rattle.kom_commands.specs.Loads.{SaysLoad}
use Rattle.kom_commands.specs.Sweeps.{SaysSweep}

-- The words are this command. A store is named by a path that is not empty.
abbrev pub IsSpelled : List (List ℕ) → Command → Type 0
IsSpelled words command.Once = words ≡ codes "once" ∷ []
IsSpelled words command.OnceOver =
    (store : List ℕ) × (words ≡ codes "once" ∷ store ∷ []) × (store ≢ [])
IsSpelled words (command.Serve at) = SaysServe words at
IsSpelled words command.Init = (store password : List ℕ)
    × (words ≡ codes "init" ∷ store ∷ password ∷ []) × (store ≢ [])
    × (length password ≤ LONGEST_PASSWORD)
IsSpelled words command.Check =
    (store : List ℕ) × (words ≡ codes "check" ∷ store ∷ []) × (store ≢ [])
IsSpelled words (command.Load count) = SaysLoad words count
IsSpelled words (command.Sweep person) = SaysSweep words person

-- the words are no command
abbrev pub IsRefused : List (List ℕ) → Type 0
IsRefused words = (command : Command) → IsSpelled words command → ⊥

-- whether a command serves sessions; the others write a report
abbrev pub serves : Command → Bool
serves command.Once = true
serves command.OnceOver = true
serves (command.Serve at) = true
serves command.Init = false
serves command.Check = false
serves (command.Load count) = false
serves (command.Sweep person) = false

-- whether a command names a store
abbrev pub names_store : Command → Bool
names_store command.Once = false
names_store command.OnceOver = true
names_store (command.Serve at) = true
names_store command.Init = true
names_store command.Check = true
names_store (command.Load count) = false
names_store (command.Sweep person) = true
