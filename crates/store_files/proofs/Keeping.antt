-- What is chosen while a snapshot is written, and then.
use Rattle.std.proofs.Common.{◌≡◌, ◌<◌, ◌+◌, ◌^◌, ◌⊎◌, inl, inr, ℕ, List, [], ◌∷◌, ◌++◌, length, Ok, sym, ◌∙◌, ap}
use Rattle.std.proofs.Common.{subst, arith}
use Rattle.std.proofs.Common.{length-append, append_assoc}
use Rattle.std.specs.Int.{w64, to_le_bytes}
use Rattle.batch_log.specs.Batches.{with_length, batches, HasBatches, IsEnd}
use Rattle.store_files.specs.Laws.{IsLiveStart, IsStartOf}
use Rattle.store_files.specs.Choices.{choice_with, IsIdle, IsBeside, SaysChoice, generation_in, next_choice}
use Rattle.store_files.specs.Writing.{new_file, IsNoStoreOrNew}
use Rattle.store_files.specs.declared.heads.Side.{Side}
use Rattle.store_files.specs.declared.heads.Side.TheVariants as side
use Rattle.store_files.specs.declared.heads.Head.TheVariants as head
use Rattle.store_files.specs.Heads.{header_1, head_of, live_file, head_in}
use Rattle.store_files.specs.declared.choices.Choice.{Choice}
use Rattle.store_files.specs.declared.choices.Choice.TheVariants as choice
use Rattle.store_files.proofs.Choosing.{stands}
use Rattle.store_files.proofs.Reading.{live_says, old_says}

new_says : (place : Side) (g : ℕ) (snapshot : List ℕ) → g < 2 ^ 64
    → head_in place (new_file g snapshot) ≡ head.Live g
new_says place g snapshot in_range =
    live_says place g (with_length snapshot ++ 0 ∷ []) in_range
    (omega (arith, length-append (with_length snapshot) (0 ∷ [])))

pub next_stands : (which : Choice) (one snapshot : List ℕ) → generation_in which + 1 < 2 ^ 64 → SaysChoice which one
    → SaysChoice (next_choice which) (new_file (generation_in which + 1) snapshot) × IsBeside (next_choice which) one
next_stands choice.Old one snapshot in_range says = (
  new_says side.Second 1 snapshot in_range,
  subst (IsIdle 1) (sym says) tt,
)
next_stands choice.Empty one snapshot in_range says = (
  new_says side.Second 1 snapshot in_range,
  subst (IsIdle 1) (sym says) tt,
)
next_stands (choice.First g) one snapshot in_range says = (
  new_says side.Second (g + 1) snapshot in_range,
  subst (IsIdle (g + 1)) (sym says) (omega arith),
)
next_stands (choice.Second g) one snapshot in_range says = (
  new_says side.First (g + 1) snapshot in_range,
  subst (IsIdle (g + 1 + 1)) (sym says) (omega arith),
)

-- the same pair, seen from the new file
from_new : (which : Choice) (one new : List ℕ) → choice_with (next_choice which) new one ≡ Ok (next_choice which)
    → choice_with which one new ≡ Ok (next_choice which)
from_new choice.Old one new is = is
from_new choice.Empty one new is = is
from_new (choice.First g) one new is = is
from_new (choice.Second g) one new is = is

pub snapshots_keep : (which : Choice) (one snapshot image : List ℕ) (moment : ℕ) → generation_in which + 1 < 2 ^ 64
    → SaysChoice which one → IsNoStoreOrNew (generation_in which + 1) snapshot moment image
    → (choice_with which one image ≡ Ok which)
    ⊎ ((image ≡ new_file (generation_in which + 1) snapshot) × (choice_with which one image ≡ Ok (next_choice which)))
snapshots_keep which one snapshot image moment in_range says (inl none) =
    inl ((stands which one image).1 (says, none which))
snapshots_keep which one snapshot image moment in_range says (inr new) =
    let next = next_choice which in
    let both = next_stands which one snapshot in_range says in
    inr (
      new,
      from_new which one image ((stands next image one).1 (subst (SaysChoice next) (sym new) both.0, both.1)),
    )

length-with_length : (body : List ℕ) → length (with_length body) ≡ 8 + length body
unfolding with_length
length-with_length body = length-append (to_le_bytes w64 (length body)) body

old_after : (bodies : List (List ℕ)) (end : List ℕ) → IsEnd end
    → head_in side.First (header_1 ++ batches bodies ++ end) ≡ head.Old
old_after [] [] ended = absurd ended
old_after [] (gate ∷ rest) ended = old_says gate rest
old_after (body ∷ bodies) end ended = old_says 1 (with_length body ++ batches bodies ++ end)

-- with batches after its start
pub live_batches : (place : Side) (g : ℕ) (start image : List ℕ) (bodies : List (List ℕ)) → IsLiveStart g start
    → HasBatches start bodies image → head_in place image ≡ head.Live g
live_batches place g start image bodies live has =
    let snapshot = live.1.0 in
    let after = with_length snapshot ++ batches bodies ++ has.end in
    let is : image ≡ live_file g after =
    has.whole
    ∙ ap (λ (l : List ℕ). l ++ batches bodies ++ has.end) live.1.1
    ∙ ap (λ (l : List ℕ). l ++ has.end) (append_assoc (head_of g) (1 ∷ with_length snapshot) (batches bodies))
    ∙ append_assoc (head_of g) (1 ∷ (with_length snapshot ++ batches bodies)) has.end in
    subst (λ (l : List ℕ). head_in place l ≡ head.Live g) (sym is)
    (live_says place g after live.0 (omega (
      arith,
      length-append (with_length snapshot ++ batches bodies) has.end,
      length-append (with_length snapshot) (batches bodies),
      length-with_length snapshot,
    )))

old_batches : (start image : List ℕ) (bodies : List (List ℕ)) → start ≡ header_1 → HasBatches start bodies image
    → head_in side.First image ≡ head.Old
old_batches start image bodies is has =
    subst (λ (l : List ℕ). head_in side.First l ≡ head.Old)
    (sym (has.whole ∙ ap (λ (l : List ℕ). l ++ batches bodies ++ has.end) is))
    (old_after bodies has.end has.ended)

pub batches_chosen : (which : Choice) (start image : List ℕ) (bodies : List (List ℕ)) → IsStartOf which start
    → HasBatches start bodies image → SaysChoice which image
batches_chosen choice.Old start image bodies is has = old_batches start image bodies is has
batches_chosen choice.Empty start image bodies is has = absurd is
batches_chosen (choice.First g) start image bodies is has = live_batches side.First g start image bodies is has
batches_chosen (choice.Second g) start image bodies is has = live_batches side.Second g start image bodies is has
