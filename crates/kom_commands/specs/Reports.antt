-- The lines of the program's reports.
use Rattle.std.specs.Prelude.{◌≡◌, ℕ, List, [], ◌∷◌, ◌++◌, codes, IfSome}
use Rattle.std.specs.Fmt.{decimal}
use Rattle.kom_links.specs.Doors.{SinkView}
use Rattle.kom_links.specs.Talk.{IsPrefix}

-- a word and a number, as a line
abbrev pub line : List ℕ → ℕ → List ℕ
line word number = word ++ 32 ∷ decimal number ++ 10 ∷ []

-- what a store holds: how many batches it had as it was opened, and how many rows of each kind
abbrev pub check_lines : ℕ → ℕ → ℕ → ℕ → List ℕ
check_lines batches conferences persons texts =
    line (codes "batches") batches ++ line (codes "conferences") conferences
    ++ line (codes "persons") persons ++ line (codes "texts") texts

-- how many texts a sweep deleted, and how many others it was told of
abbrev pub sweep_lines : ℕ → ℕ → List ℕ
sweep_lines swept kept = line (codes "swept") swept ++ line (codes "kept") kept

-- what is printed when a store was made
abbrev pub made_line : List ℕ
made_line = codes "store made\n"

-- what a sink has of a text that was put to it alone: all of it, or where it failed a prefix
abbrev pub HasText : List ℕ → SinkView → Type 0
HasText text sink = IfSome sink.put
    (λ bytes. IsPrefix bytes text × (sink.faults ≡ 0 → bytes ≡ text))
