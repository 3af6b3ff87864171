-- What the steps of a new file leave.
use Rattle.std.proofs.Common.{◌≡◌, ◌<◌, ◌≤◌, ◌+◌, inl, inr, ℕ, List, [], ◌∷◌, ◌++◌, length, take, drop, sym, ◌∙◌}
use Rattle.std.proofs.Common.{ap, subst, arith, append_assoc, length-append, take-append-drop, Result, Ok, Err, OnOk}
use Rattle.std.proofs.lemmas.List.{take_at, take-take, take_all, drop_all, append-nil}
use Rattle.std.proofs.lemmas.Bool.{cases_eq}
use Rattle.std.specs.Prelude.{replicate}
use Rattle.std.specs.Int.{w64, to_le_bytes}
use Rattle.kom_disk.specs.Disk.{overwritten, IsTorn, IsShortened, ComesBy, Only}
use Rattle.batch_log.specs.Batches.{with_length}
use Rattle.batch_log.specs.Gates.{IsShut, IsGated, IsStable}
use Rattle.store_files.specs.Heads.{head_of}
use Rattle.store_files.specs.Choices.{IsBeside}
use Rattle.store_files.specs.Writing.{unfinished_file, AreShut, IsNoStore, IsNoStoreOrNew}
use Rattle.store_files.specs.declared.choices.Choice.{Choice}
use Rattle.store_files.proofs.Reading.{beside_cut, no_short, no_gate}

-- what a stop leaves of a cut, and of a write of a head
module _ (bytes : List ℕ) (old new : List ℕ → Type 0) (stable : Only bytes old) where
  pub left_cut : (which : Choice) → IsBeside which bytes → ComesBy (IsShortened 16) old new → (image : List ℕ) → new image
      → IsBeside which image
  left_cut which beside comes image left =
      let from = comes image left in
      beside_cut which bytes image (subst (λ (was : List ℕ). IsShortened 16 was image) (stable from.0 from.1) from.2)
      beside

  pub left_short : (n at : ℕ) → length bytes ≤ 16 → n ≡ 25 → ComesBy (IsTorn 0 n) old new → (image : List ℕ) → new image
      → IsNoStore at image
  left_short n at short is comes image left =
      let from = comes image left in
      let torn = subst (λ (was : List ℕ). IsTorn 0 n was image) (stable from.0 from.1) from.2 in
      no_short at image (omega (arith, torn.no_longer, short, is))

-- a head over no more than a header
pub written_head : (bytes head : List ℕ) → length bytes ≤ 16 → length head ≡ 25 → overwritten bytes 0 head ≡ head
written_head bytes head short long =
    ap (λ (l : List ℕ). head ++ l) (drop_all (0 + length head) bytes (omega (arith, short, long))) ∙ append-nil head

-- a closed gate stays while something is written behind it
still_shut : (before was image : List ℕ) (at n : ℕ) → length before < at → IsShut before 0 was → IsTorn at n was image
    → IsShut before 0 image
still_shut before was image at n within (more, is) torn =
    let front = before ++ 0 ∷ [] in
    let k = length before + 1 in
    let long : length front ≡ k = length-append before (0 ∷ []) in
    let le : k ≤ at = omega (arith, within) in
    let there : take k image ≡ front =
    sym (take-take k at image le) ∙ ap (take k) torn.prefix ∙ take-take k at was le
    ∙ ap (take k) (is ∙ sym (append_assoc before (0 ∷ []) more)) ∙ take_at front more k long in (
      drop k image,
      sym (take-append-drop k image) ∙ ap (λ (l : List ℕ). l ++ drop k image) there
          ∙ append_assoc before (0 ∷ []) (drop k image),
    )

pub left_shut : (generation : ℕ) (old new : List ℕ → Type 0) (at n : ℕ) → 24 < at → AreShut generation old
    → ComesBy (IsTorn at n) old new → AreShut generation new
left_shut generation old new at n within shut comes image left =
    let from = comes image left in
    still_shut (head_of generation) from.0 image at n within (shut from.0 from.1) from.2

-- what is written at the end of a file, and over zeros behind its gate
pub written_end : (bytes block : List ℕ) (at : ℕ) → at ≡ length bytes → overwritten bytes at block ≡ bytes ++ block
written_end bytes block at is =
    ap (λ (l : List ℕ). l ++ block ++ drop (at + length block) bytes) (take_all at bytes (omega (arith, is)))
    ∙ ap (λ (l : List ℕ). bytes ++ block ++ l) (drop_all (at + length block) bytes (omega (arith, is)))
    ∙ append-nil (bytes ++ block)

-- the head and the closed gate, and eight zeros after them
pub zeros_after : (generation : ℕ) (bytes : List ℕ) → bytes ≡ head_of generation ++ 0 ∷ []
    → overwritten bytes 25 (replicate 8 0) ≡ unfinished_file generation []
zeros_after generation bytes is =
    ap (λ (l : List ℕ). overwritten l 25 (replicate 8 0)) is

-- a block more
pub more_snapshot : (generation at : ℕ) (bytes snapshot block : List ℕ) → at ≡ length bytes
    → bytes ≡ unfinished_file generation snapshot
    → overwritten bytes at block ≡ unfinished_file generation (snapshot ++ block)
more_snapshot generation at bytes snapshot block end is =
    written_end bytes block at end
    ∙ ap (λ (l : List ℕ). l ++ block) is
    ∙ append_assoc (head_of generation ++ 0 ∷ replicate 8 0) snapshot block

-- the length over the zeros
pub with_len : (generation len : ℕ) (bytes snapshot : List ℕ) → bytes ≡ unfinished_file generation (snapshot ++ 0 ∷ [])
    → len ≡ length snapshot
    → overwritten bytes 25 (to_le_bytes w64 len) ≡ head_of generation ++ 0 ∷ with_length snapshot ++ 0 ∷ []
unfolding with_length
with_len generation len bytes snapshot is same =
    ap (λ (l : List ℕ). overwritten l 25 (to_le_bytes w64 len)) is
    ∙ ap (λ (n : ℕ). head_of generation ++ 0 ∷ to_le_bytes w64 n ++ snapshot ++ 0 ∷ []) same

-- while the gate is set
pub set_or_new : (generation at : ℕ) (snapshot image : List ℕ)
    → IsGated (head_of generation) (with_length snapshot ++ 0 ∷ []) at image
    → IsNoStoreOrNew generation snapshot at image
set_or_new generation at snapshot image (gate, is) = elim (cases_eq gate 1) [
  | inl opens ↦ inr (is ∙ ap (λ (g : ℕ). head_of generation ++ g ∷ with_length snapshot ++ 0 ∷ []) opens)
  | inr shut ↦ inl (no_gate generation gate at (with_length snapshot ++ 0 ∷ []) image shut is)
]

-- at its head alone a file is shut
pub head_shut : (generation : ℕ) (bytes : List ℕ) (images : List ℕ → Type 0)
    → IsStable (head_of generation ++ 0 ∷ []) bytes images → AreShut generation images
head_shut generation bytes images written image left = ([], written.stable image left ∙ written.is)

pub on_ok : {P T E : Type 0} (result : Result T E) → P → OnOk result P
on_ok (Ok value) is = is
on_ok (Err why) is = tt

pub length-unfinished : (generation : ℕ) (bytes snapshot : List ℕ) → bytes ≡ unfinished_file generation snapshot
    → length bytes ≡ 33 + length snapshot
length-unfinished generation bytes snapshot is =
    ap length is ∙ length-append (head_of generation ++ 0 ∷ replicate 8 0) snapshot
