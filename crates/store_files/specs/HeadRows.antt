-- Heads and choices that were worked out by hand.
use Rattle.std.specs.Prelude.{◌≡◌, ℕ, List, [], ◌∷◌, ◌++◌, take, codes, replicate, Ok, Err}
use Rattle.store_files.specs.Heads.{header_1, header_2, head_in}
use Rattle.store_files.specs.Choices.{choice_of}
use Rattle.store_files.specs.declared.heads.Side.TheVariants as side
use Rattle.store_files.specs.declared.heads.Head.{Head}
use Rattle.store_files.specs.declared.heads.Head.TheVariants as head
use Rattle.store_files.specs.declared.choices.Choice.TheVariants as choice
use Rattle.store_files.specs.declared.choices.NotChosen.TheVariants as refusal

-- the header of version 2, the generation 258, a gate, and a byte more
abbrev pub of_two : ℕ → List ℕ
of_two gate = header_2 ++ 2 ∷ 1 ∷ 0 ∷ 0 ∷ 0 ∷ 0 ∷ 0 ∷ 0 ∷ gate ∷ 7 ∷ []

-- a first file says this
abbrev pub first : List ℕ → Head
first file = head_in side.First file

abbrev pub second : List ℕ → Head
second file = head_in side.Second file

pub record HeadRows : Type 0 where
  pub live : first (of_two 1) ≡ head.Live 258
  pub second_live : second (of_two 1) ≡ head.Live 258
  pub shut : first (of_two 0) ≡ head.Shut
  pub torn : first (of_two 2) ≡ head.Shut
  pub only_head : first (header_2 ++ replicate 9 1) ≡ head.Shut
  pub old : first (header_1 ++ 0 ∷ []) ≡ head.Old
  pub long_old : first (header_1 ++ replicate 10 3) ≡ head.Old
  pub cut_old : first header_1 ≡ head.Stub 8 1
  pub second_old : second (header_1 ++ 0 ∷ []) ≡ head.Stub 8 1
  pub long_second_old : second (header_1 ++ replicate 10 3) ≡ head.Foreign 8 1
  pub strange : first (codes "KOMSTART" ++ replicate 20 0) ≡ head.Foreign 5 65
  pub late : second (take 15 header_2 ++ replicate 11 9) ≡ head.Foreign 15 9
  pub stub : first (codes "K2") ≡ head.Stub 1 50
  pub nothing : first [] ≡ head.Short 0
  pub part : first (codes "KOMS") ≡ head.Short 4
  pub no_gate : first (header_2 ++ replicate 8 0) ≡ head.Short 24

-- which of two files is chosen
pub record ChoiceRows : Type 0 where
  pub first_strange : choice_of (head.Foreign 5 65) (head.Foreign 8 1) ≡ Err (refusal.Foreign 5 65)
  pub second_strange : choice_of (head.Live 4) (head.Foreign 8 1) ≡ Err (refusal.Foreign 8 1)
  pub greater : choice_of (head.Live 3) (head.Live 4) ≡ Ok (choice.Second 4)
  pub greater_first : choice_of (head.Live 5) (head.Live 4) ≡ Ok (choice.First 5)
  pub equal : choice_of (head.Live 4) (head.Live 4) ≡ Ok (choice.First 4)
  pub alone : choice_of (head.Stub 8 1) (head.Live 1) ≡ Ok (choice.Second 1)
  pub first_alone : choice_of (head.Live 0) (head.Short 0) ≡ Ok (choice.First 0)
  pub before_cut : choice_of head.Old (head.Live 1) ≡ Ok (choice.Second 1)
  pub before_new : choice_of head.Old head.Shut ≡ Ok choice.Old
  pub empty : choice_of head.Shut (head.Stub 1 50) ≡ Ok choice.Empty
  pub no_store : choice_of (head.Stub 8 1) (head.Short 0) ≡ Err (refusal.Foreign 8 1)
  pub short : choice_of (head.Short 24) head.Shut ≡ Err (refusal.Short 24)
