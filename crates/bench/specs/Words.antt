-- What the words of a command line ask for.
use Rattle.std.specs.Prelude.{ℕ, List, ◌<◌, ◌^◌, Option, Some, None, IfSome}
use Rattle.std.specs.Prelude.{codes, if◌then◌else◌}
use Rattle.std.specs.Str.{bytes_eq}
use Rattle.std.specs.Str.Parse.{IsNumeral, digits_value, without_leading_plus}
use Rattle.bench.specs.declared.request.Request.{Request}
use Rattle.bench.specs.declared.request.Subject.{Subject}
use Rattle.bench.specs.declared.request.Subject.TheVariants.{MapChain, Disk, StateLock}

-- what a word names
abbrev pub subject_of : List ℕ → Option Subject
subject_of word =
    if bytes_eq word (codes "map_chain") then Some MapChain
    else if bytes_eq word (codes "disk") then Some Disk
    else if bytes_eq word (codes "state_lock") then Some StateLock else None

-- the number that a word writes
abbrev pub number_of : List ℕ → ℕ
number_of word = digits_value 10 (without_leading_plus word)

-- the word writes a number, which is not 0 and has 32 bits at most
abbrev pub IsCount : List ℕ → Type 0
IsCount word =
    IsNumeral 10 (without_leading_plus word) × (0 < number_of word) × (number_of word < 2 ^ 32)

-- where a number is asked for, it is not 0
abbrev pub AsksForSome : Request → Type 0
AsksForSome request = IfSome request.count (λ count. 0 < count)
