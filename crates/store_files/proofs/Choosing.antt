-- What is chosen by what both heads say.
use Rattle.std.proofs.Common.{◌≡◌, ◌≢◌, ◌<◌, ◌≤◌, ◌+◌, ◌⊎◌, inl, inr, ℕ, List, Result, Ok, Err, arith, ap, refl, sym}
use Rattle.std.proofs.Common.{subst, ◌∙◌}
use Rattle.std.proofs.lemmas.Bool.{cases_lt}
use Rattle.std.proofs.lemmas.Bool.Decides.{nat_tests}
use Rattle.store_files.specs.Choices.{beside_live, beside_other, choice_of, choice_with, IsIdle, IsBeside}
use Rattle.store_files.specs.Choices.{SaysChoice, generation_in}
use Rattle.store_files.specs.Heads.{head_in}
use Rattle.store_files.specs.declared.heads.Side.TheVariants as side
use Rattle.store_files.specs.declared.heads.Head.{Head}
use Rattle.store_files.specs.declared.heads.Head.TheVariants as head
use Rattle.store_files.specs.declared.choices.Choice.{Choice}
use Rattle.store_files.specs.declared.choices.Choice.TheVariants as choice
use Rattle.store_files.specs.declared.choices.NotChosen.{NotChosen}
use Rattle.store_files.specs.declared.choices.NotChosen.TheVariants as refusal

-- what tells one choice from another
abbrev kind : Result Choice NotChosen → ℕ
kind (Err why) = 0
kind (Ok choice.Old) = 1
kind (Ok choice.Empty) = 2
kind (Ok (choice.First generation)) = 3
kind (Ok (choice.Second generation)) = 4

abbrev number : Result Choice NotChosen → ℕ
number (Err why) = 0
number (Ok which) = generation_in which

-- of two generations
choice_less : (one other : ℕ) → one < other
    → choice_of (head.Live one) (head.Live other) ≡ Ok (choice.Second other)
choice_less one other less = grind (arith, nat_tests)

choice_more : (one other : ℕ) → other ≤ one
    → choice_of (head.Live one) (head.Live other) ≡ Ok (choice.First one)
choice_more one other more = grind (arith, nat_tests)

kind_some : (which : Choice) → 0 < kind (Ok which)
kind_some choice.Old = omega arith
kind_some choice.Empty = omega arith
kind_some (choice.First generation) = omega arith
kind_some (choice.Second generation) = omega arith

-- beside a first file without a snapshot
other_comes : (alone : Result Choice NotChosen) (which : Choice) (second : Head)
    → beside_other alone second ≡ Ok which
    → ((alone ≡ Ok which) × IsIdle 0 second)
    ⊎ ((second ≡ head.Live (generation_in which)) × (kind (Ok which) ≡ 4))
other_comes alone which (head.Foreign place byte) is = absurd (omega (arith, ap kind is, kind_some which))
other_comes alone which head.Old is = inl (is, tt)
other_comes alone which (head.Short len) is = inl (is, tt)
other_comes alone which (head.Stub place byte) is = inl (is, tt)
other_comes alone which head.Shut is = inl (is, tt)
other_comes alone which (head.Live other) is = inr (ap head.Live (ap number is), sym (ap kind is))

-- and beside one with a snapshot
less_comes : (one other : ℕ) (which : Choice) → one < other → beside_live one (head.Live other) ≡ Ok which
    → (one < generation_in which) × (head.Live other ≡ head.Live (generation_in which)) × (kind (Ok which) ≡ 4)
less_comes one other which less is =
    let found = sym (choice_less one other less) ∙ is in
    let same : other ≡ generation_in which = ap number found in
    (omega (arith, less, same), ap head.Live same, sym (ap kind found))

more_comes : (one other : ℕ) (which : Choice) → other ≤ one → beside_live one (head.Live other) ≡ Ok which
    → (one ≡ generation_in which) × (kind (Ok which) ≡ 3)
more_comes one other which more is =
    let found = sym (choice_more one other more) ∙ is in
    (ap number found, sym (ap kind found))

live_comes : (one : ℕ) (which : Choice) (second : Head) → beside_live one second ≡ Ok which
    → ((one ≡ generation_in which) × (kind (Ok which) ≡ 3) × IsIdle (one + 1) second)
    ⊎ ((one < generation_in which) × (second ≡ head.Live (generation_in which)) × (kind (Ok which) ≡ 4))
live_comes one which (head.Foreign place byte) is = absurd (omega (arith, ap kind is, kind_some which))
live_comes one which head.Old is = inl (ap number is, sym (ap kind is), tt)
live_comes one which (head.Short len) is = inl (ap number is, sym (ap kind is), tt)
live_comes one which (head.Stub place byte) is = inl (ap number is, sym (ap kind is), tt)
live_comes one which head.Shut is = inl (ap number is, sym (ap kind is), tt)
live_comes one which (head.Live other) is = elim (cases_lt one other) [
  | inl less ↦ inr (less_comes one other which less is)
  | inr more ↦ let both = more_comes one other which more is in inl (both.0, both.1, omega (arith, more))
]

-- so nothing else comes of a first file that alone would come to something else
none_comes : (alone : Result Choice NotChosen) (which : Choice) (second : Head) → kind (Ok which) ≢ 4
    → kind alone ≢ kind (Ok which) → beside_other alone second ≡ Ok which → ⊥
none_comes alone which second first apart is = elim (other_comes alone which second is) [
  | inl both ↦ apart (ap kind both.0)
  | inr live ↦ first live.1
]

-- what is chosen says so, and the other may stand beside it
old_says : (first second : Head) → choice_of first second ≡ Ok choice.Old
    → (first ≡ head.Old) × IsIdle 0 second
old_says (head.Foreign place byte) second is = absurd (omega (arith, ap kind is))
old_says head.Old second is = elim (other_comes (Ok choice.Old) choice.Old second is) [
  | inl both ↦ (refl, both.1)
  | inr live ↦ absurd (omega (arith, live.1))
]
old_says (head.Short len) second is =
    absurd (none_comes (Err (refusal.Short len)) choice.Old second (omega arith) (omega arith) is)
old_says (head.Stub place byte) second is =
    absurd (none_comes (Err (refusal.Foreign place byte)) choice.Old second (omega arith) (omega arith) is)
old_says head.Shut second is = absurd (none_comes (Ok choice.Empty) choice.Old second (omega arith) (omega arith) is)
old_says (head.Live one) second is = elim (live_comes one choice.Old second is) [
  | inl first ↦ absurd (omega (arith, first.1))
  | inr later ↦ absurd (omega (arith, later.2))
]

-- and so of an empty one
empty_says : (first second : Head) → choice_of first second ≡ Ok choice.Empty
    → (first ≡ head.Shut) × IsIdle 0 second
empty_says (head.Foreign place byte) second is = absurd (omega (arith, ap kind is))
empty_says head.Shut second is = elim (other_comes (Ok choice.Empty) choice.Empty second is) [
  | inl both ↦ (refl, both.1)
  | inr live ↦ absurd (omega (arith, live.1))
]
empty_says (head.Short len) second is =
    absurd (none_comes (Err (refusal.Short len)) choice.Empty second (omega arith) (omega arith) is)
empty_says (head.Stub place byte) second is =
    absurd (none_comes (Err (refusal.Foreign place byte)) choice.Empty second (omega arith) (omega arith) is)
empty_says head.Old second is = absurd (none_comes (Ok choice.Old) choice.Empty second (omega arith) (omega arith) is)
empty_says (head.Live one) second is = elim (live_comes one choice.Empty second is) [
  | inl first ↦ absurd (omega (arith, first.1))
  | inr later ↦ absurd (omega (arith, later.2))
]

-- and of one with a snapshot
first_says : (g : ℕ) (first second : Head) → choice_of first second ≡ Ok (choice.First g)
    → (first ≡ head.Live g) × IsIdle (g + 1) second
first_says g (head.Foreign place byte) second is = absurd (omega (arith, ap kind is))
first_says g head.Old second is =
    absurd (none_comes (Ok choice.Old) (choice.First g) second (omega arith) (omega arith) is)
first_says g (head.Short len) second is =
    absurd (none_comes (Err (refusal.Short len)) (choice.First g) second (omega arith) (omega arith) is)
first_says g (head.Stub place byte) second is =
    absurd (none_comes (Err (refusal.Foreign place byte)) (choice.First g) second (omega arith) (omega arith) is)
first_says g head.Shut second is =
    absurd (none_comes (Ok choice.Empty) (choice.First g) second (omega arith) (omega arith) is)
first_says g (head.Live one) second is = elim (live_comes one (choice.First g) second is) [
  | inl first ↦ (ap head.Live first.0, subst (λ (n : ℕ). IsIdle (n + 1) second) first.0 first.2)
  | inr later ↦ absurd (omega (arith, later.2))
]

-- at either place
second_after : (g : ℕ) (alone : Result Choice NotChosen) (second : Head) → kind alone ≢ 4
    → beside_other alone second ≡ Ok (choice.Second g) → second ≡ head.Live g
second_after g alone second apart is = elim (other_comes alone (choice.Second g) second is) [
  | inl both ↦ absurd (apart (ap kind both.0))
  | inr live ↦ live.0
]

second_says : (g : ℕ) (first second : Head) → choice_of first second ≡ Ok (choice.Second g)
    → IsIdle g first × (second ≡ head.Live g)
second_says g (head.Foreign place byte) second is = absurd (omega (arith, ap kind is))
second_says g head.Old second is = (tt, second_after g (Ok choice.Old) second (omega arith) is)
second_says g (head.Short len) second is = (tt, second_after g (Err (refusal.Short len)) second (omega arith) is)
second_says g (head.Stub place byte) second is =
    (tt, second_after g (Err (refusal.Foreign place byte)) second (omega arith) is)
second_says g head.Shut second is = (tt, second_after g (Ok choice.Empty) second (omega arith) is)
second_says g (head.Live one) second is = elim (live_comes one (choice.Second g) second is) [
  | inl first ↦ absurd (omega (arith, first.1))
  | inr later ↦ (later.0, later.1)
]

-- beside it the other may stand
old_stands : (second : Head) → IsIdle 0 second → choice_of head.Old second ≡ Ok choice.Old
old_stands (head.Foreign place byte) idle = absurd idle
old_stands head.Old idle = refl
old_stands (head.Short len) idle = refl
old_stands (head.Stub place byte) idle = refl
old_stands head.Shut idle = refl
old_stands (head.Live other) idle = absurd (omega (arith, idle))

empty_stands : (second : Head) → IsIdle 0 second → choice_of head.Shut second ≡ Ok choice.Empty
empty_stands (head.Foreign place byte) idle = absurd idle
empty_stands head.Old idle = refl
empty_stands (head.Short len) idle = refl
empty_stands (head.Stub place byte) idle = refl
empty_stands head.Shut idle = refl
empty_stands (head.Live other) idle = absurd (omega (arith, idle))

first_stands : (g : ℕ) (second : Head) → IsIdle (g + 1) second
    → choice_of (head.Live g) second ≡ Ok (choice.First g)
first_stands g (head.Foreign place byte) idle = absurd idle
first_stands g head.Old idle = refl
first_stands g (head.Short len) idle = refl
first_stands g (head.Stub place byte) idle = refl
first_stands g head.Shut idle = refl
first_stands g (head.Live other) idle = choice_more g other (omega (arith, idle))

second_stands : (g : ℕ) (first : Head) → IsIdle g first
    → choice_of first (head.Live g) ≡ Ok (choice.Second g)
second_stands g (head.Foreign place byte) idle = absurd idle
second_stands g head.Old idle = refl
second_stands g (head.Short len) idle = refl
second_stands g (head.Stub place byte) idle = refl
second_stands g head.Shut idle = refl
second_stands g (head.Live other) idle = choice_less other g idle

pub stands : (which : Choice) (one other : List ℕ)
    → (choice_with which one other ≡ Ok which → SaysChoice which one × IsBeside which other)
    × (SaysChoice which one × IsBeside which other → choice_with which one other ≡ Ok which)
stands choice.Old one other = (
  λ is. old_says (head_in side.First one) (head_in side.Second other) is,
  λ both. ap (λ (h : Head). choice_of h (head_in side.Second other)) both.0
      ∙ old_stands (head_in side.Second other) both.1,
)
stands choice.Empty one other = (
  λ is. empty_says (head_in side.First one) (head_in side.Second other) is,
  λ both. ap (λ (h : Head). choice_of h (head_in side.Second other)) both.0
      ∙ empty_stands (head_in side.Second other) both.1,
)
stands (choice.First g) one other = (
  λ is. first_says g (head_in side.First one) (head_in side.Second other) is,
  λ both. ap (λ (h : Head). choice_of h (head_in side.Second other)) both.0
      ∙ first_stands g (head_in side.Second other) both.1,
)
stands (choice.Second g) one other = (
  λ is. let both = second_says g (head_in side.First other) (head_in side.Second one) is in (both.1, both.0),
  λ both. ap (λ (h : Head). choice_of (head_in side.First other) h) both.0
      ∙ second_stands g (head_in side.First other) both.1,
)
