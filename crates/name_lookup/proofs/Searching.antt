-- Where a search through blocks ends.
use Rattle.std.proofs.Common.{◌≡◌, ℕ, zero, suc, ◌+◌, ◌-◌, ◌<◌, ◌≤◌, ◌⊎◌, Bool, true, false, List, [], ◌∷◌, length}
use Rattle.std.proofs.Common.{get_or, slice_get, All, sym, ap, ◌∙◌, inl, inr, true≢false, arith}
use Rattle.std.specs.List.{AllWithin}
use Rattle.std.specs.List.Sorted.{IsPartitionedBy, IsPartitionPoint}
use Rattle.std.specs.Option.{option_map_or}
use Rattle.std.specs.declared.alloc.Global.{Global}
use Rattle.std.specs.declared.vec.Vec.{Vec}
use Rattle.std.proofs.lemmas.Bool.{cases_lt, false_from_ne_true}
use Rattle.std.proofs.lemmas.List.{get_or_default}
use Rattle.std.proofs.lemmas.Option.{slice_get-get_or}
use Rattle.name_lookup.specs.Blocks.{numbers_in, numbers_at, start_of, IsBlock}
use Rattle.name_lookup.proofs.BlockLists.{BlockList, numbers_at-get, start_of-next, start_of-end, start_of-rises}
use Rattle.name_lookup.proofs.BlockLists.{start_of-within, get_or-numbers_in, block_some}

module _ (test : ℕ → Bool) where
  -- the test of the last of some numbers, true of none
  abbrev pub at_end : List ℕ → Bool
  at_end numbers = option_map_or test (slice_get numbers (length numbers - 1)) true

  at_end-is : (numbers : List ℕ) → 0 < length numbers → at_end numbers ≡ test (get_or numbers (length numbers - 1) 0)
  at_end-is numbers some =
      ap (λ o. option_map_or test o true) (slice_get-get_or numbers (length numbers - 1) 0 (omega arith))

  -- the last number of a block stands before the next block
  at_end-block : (n : ℕ) (blocks : BlockList) → n < length blocks → 0 < length (numbers_at n blocks) →
      at_end (numbers_at n blocks) ≡ test (get_or (numbers_in blocks) (start_of (suc n) blocks - 1) 0)
  at_end-block n blocks within some =
      let numbers = numbers_at n blocks in
      let last : start_of n blocks + (length numbers - 1) ≡ start_of (suc n) blocks - 1 =
      omega (arith, start_of-next n blocks within) in
      at_end-is numbers some
      ∙ ap test (sym (get_or-numbers_in n (length numbers - 1) blocks 0 within (omega arith))
      ∙ ap (λ i. get_or (numbers_in blocks) i 0) last)

  pub parted_blocks : (blocks : BlockList) → All IsBlock blocks → IsPartitionedBy test (numbers_in blocks) →
      IsPartitionedBy (λ (block : Vec ℕ Global). at_end block.items) blocks
  parted_blocks blocks are parted i j d le lt hit =
      let within : i < length blocks = omega arith in
      let some : 0 < length (numbers_at i blocks) = block_some i blocks d are within in
      let some' : 0 < length (numbers_at j blocks) = block_some j blocks d are lt in
      let here : at_end (get_or blocks i d).items ≡ test (get_or (numbers_in blocks) (start_of (suc i) blocks - 1) 0) =
      ap at_end (sym (numbers_at-get i blocks d within)) ∙ at_end-block i blocks within some in
      let there : at_end (get_or blocks j d).items ≡ test (get_or (numbers_in blocks) (start_of (suc j) blocks - 1) 0) =
      ap at_end (sym (numbers_at-get j blocks d lt)) ∙ at_end-block j blocks lt some' in
      let up = start_of-rises (suc i) (suc j) blocks (omega arith) in
      let whole = start_of-within j blocks lt in
      let next = start_of-next j blocks lt in
      here ∙ parted (start_of (suc i) blocks - 1) (start_of (suc j) blocks - 1) 0 (omega arith) (omega arith)
      (sym there ∙ hit)

  -- the numbers of one block
  pub parted_at : (n : ℕ) (blocks : BlockList) → n < length blocks → IsPartitionedBy test (numbers_in blocks) →
      IsPartitionedBy test (numbers_at n blocks)
  parted_at n blocks within parted i j d le lt hit =
      let whole = start_of-within n blocks within in
      ap test (sym (get_or-numbers_in n i blocks d within (omega arith)))
      ∙ parted (start_of n blocks + i) (start_of n blocks + j) d (omega arith) (omega arith)
      (ap test (get_or-numbers_in n j blocks d within lt) ∙ hit)

  -- a search has ended where what stands on either side of it tells so
  point_between : (numbers : List ℕ) (place : ℕ) → IsPartitionedBy test numbers → place ≤ length numbers →
      (0 < place → test (get_or numbers (place - 1) 0) ≡ true) →
      (place < length numbers → test (get_or numbers place 0) ≡ false) →
      IsPartitionPoint (λ number. test number ≡ true) (λ number. test number ≡ false) numbers place
  point_between numbers place parted within before after = (
    (λ k d low high. ap test (get_or_default numbers k d 0 (omega arith))
        ∙ parted k (place - 1) 0 (omega arith) (omega arith) (before (omega arith))),
    λ k d low high. false_from_ne_true (test (get_or numbers k d)) (λ hit.
        let here : test (get_or numbers place 0) ≡ true =
        parted place k 0 low high (ap test (get_or_default numbers k 0 d high) ∙ hit) in
        true≢false (sym here ∙ after (omega arith))),
  )

  -- the number before a block, where the blocks before it end below
  before_block : (n : ℕ) (blocks : BlockList) → All IsBlock blocks → n ≤ length blocks →
      AllWithin (λ (block : Vec ℕ Global). at_end block.items ≡ true) blocks 0 n → 0 < start_of n blocks →
      test (get_or (numbers_in blocks) (start_of n blocks - 1) 0) ≡ true
  before_block zero blocks are within below some = absurd (omega arith)
  before_block (suc n) [] are within below some = absurd (omega arith)
  before_block (suc n) (first ∷ blocks) are within below some =
      let all : BlockList = first ∷ blocks in
      let lt : n < length all = omega arith in
      sym (at_end-block n all lt (block_some n all first are lt))
      ∙ ap at_end (numbers_at-get n all first lt) ∙ below n first (omega arith) (omega arith)

  -- all blocks end below
  pub point_past : (blocks : BlockList) (n : ℕ) → All IsBlock blocks → IsPartitionedBy test (numbers_in blocks) →
      AllWithin (λ (block : Vec ℕ Global). at_end block.items ≡ true) blocks 0 n → n ≡ length blocks →
      IsPartitionPoint (λ number. test number ≡ true) (λ number. test number ≡ false) (numbers_in blocks)
      (start_of n blocks)
  point_past blocks n are parted below end =
      let whole : start_of n blocks ≡ length (numbers_in blocks) =
      ap (λ m. start_of m blocks) end ∙ start_of-end blocks in
      point_between (numbers_in blocks) (start_of n blocks) parted (omega arith)
      (before_block n blocks are (omega arith) below) (λ lt. absurd (omega arith))

  -- a block is the first that does not end below
  pub point_within : (blocks : BlockList) (n offset : ℕ) → All IsBlock blocks →
      IsPartitionedBy test (numbers_in blocks) → n < length blocks →
      IsPartitionPoint (λ (block : Vec ℕ Global). at_end block.items ≡ true)
      (λ (block : Vec ℕ Global). at_end block.items ≡ false) blocks n → offset ≤ length (numbers_at n blocks) →
      IsPartitionPoint (λ number. test number ≡ true) (λ number. test number ≡ false) (numbers_at n blocks) offset →
      IsPartitionPoint (λ number. test number ≡ true) (λ number. test number ≡ false) (numbers_in blocks)
      (start_of n blocks + offset)
  point_within [] n offset are parted within parts le point = absurd (omega arith)
  point_within (first ∷ blocks) n offset are parted within parts le point =
      let all : BlockList = first ∷ blocks in
      let numbers = numbers_at n all in
      let start = start_of n all in
      let whole = start_of-within n all within in
      let some : 0 < length numbers = block_some n all first are within in
      let lt : offset < length numbers = less (cases_lt offset (length numbers)) some in
      point_between (numbers_in all) (start + offset) parted (omega arith)
      (λ pos. lower (cases_lt 0 offset) pos lt)
      (λ inside. ap test (get_or-numbers_in n offset all 0 within lt) ∙ point.1 offset 0 (omega arith) lt)
    where
      less : (offset < length (numbers_at n (first ∷ blocks))) ⊎ (length (numbers_at n (first ∷ blocks)) ≤ offset) →
          0 < length (numbers_at n (first ∷ blocks)) → offset < length (numbers_at n (first ∷ blocks))
      less (inl lt) some = lt
      less (inr past) some =
          let numbers = numbers_at n (first ∷ blocks) in
          let last : test (get_or numbers (length numbers - 1) 0) ≡ true =
          point.0 (length numbers - 1) 0 (omega arith) (omega arith) in
          let ends : at_end numbers ≡ false =
          ap at_end (numbers_at-get n (first ∷ blocks) first within) ∙ parts.1 n first (omega arith) within in
          absurd (true≢false (sym (at_end-is numbers some ∙ last) ∙ ends))

      lower : (0 < offset) ⊎ (offset ≤ 0) → 0 < start_of n (first ∷ blocks) + offset →
          offset < length (numbers_at n (first ∷ blocks)) →
          test (get_or (numbers_in (first ∷ blocks)) (start_of n (first ∷ blocks) + offset - 1) 0) ≡ true
      lower (inl later) pos lt =
          let all : BlockList = first ∷ blocks in
          let before : start_of n all + offset - 1 ≡ start_of n all + (offset - 1) = omega arith in
          ap (λ i. test (get_or (numbers_in all) i 0)) before
          ∙ ap test (get_or-numbers_in n (offset - 1) all 0 within (omega arith))
          ∙ point.0 (offset - 1) 0 (omega arith) (omega arith)
      lower (inr none) pos lt =
          let all : BlockList = first ∷ blocks in
          let before : start_of n all + offset - 1 ≡ start_of n all - 1 = omega arith in
          ap (λ i. test (get_or (numbers_in all) i 0)) before
          ∙ before_block n all are (omega arith) parts.0 (omega arith)
