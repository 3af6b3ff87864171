-- The numbers of blocks, and what a change of one block makes of them.
use Rattle.std.proofs.Common.{◌≡◌, ℕ, zero, suc, ◌+◌, ◌-◌, ◌<◌, ◌≤◌, List, [], ◌∷◌, ◌++◌, length, get_or, insert}
use Rattle.std.proofs.Common.{remove, take, drop, All, refl, sym, ap, ◌∙◌, arith, length-append, length-drop}
use Rattle.std.proofs.Common.{get_or-drop, append_assoc, zero-add}
use Rattle.std.specs.declared.alloc.Global.{Global}
use Rattle.std.specs.declared.vec.Vec.{Vec}
use Rattle.std.proofs.Math.ListN.{set}
use Rattle.std.proofs.Math.Seq.{take-length}
use Rattle.std.proofs.lemmas.List.Concat.{get_or-flat_map}
use Rattle.std.proofs.lemmas.List.Edits.{insert-append_left, insert-append_right, remove-append_left}
use Rattle.std.proofs.lemmas.List.Edits.{remove-append_right}
use Rattle.name_lookup.specs.Blocks.{numbers_in, numbers_at, start_of, IsBlock, StandsAt}

abbrev pub BlockList : Type 0
BlockList = List (Vec ℕ Global)

-- ---- the numbers of a block

pub numbers_at-get : (n : ℕ) (blocks : BlockList) (d : Vec ℕ Global) → n < length blocks →
    numbers_at n blocks ≡ (get_or blocks n d).items
numbers_at-get n [] d within = absurd (omega arith)
numbers_at-get zero (first ∷ blocks) d within = refl
numbers_at-get (suc n) (first ∷ blocks) d within = numbers_at-get n blocks d (omega arith)

pub numbers_at-read : (n : ℕ) (blocks : BlockList) (block : Vec ℕ Global) → n < length blocks →
    block ≡ get_or blocks n block → numbers_at n blocks ≡ block.items
numbers_at-read n blocks block within is =
    numbers_at-get n blocks block within ∙ ap (λ (b : Vec ℕ Global). b.items) (sym is)

pub numbers_at-set : (n : ℕ) (blocks : BlockList) (block : Vec ℕ Global) → n < length blocks →
    numbers_at n (set blocks n block) ≡ block.items
numbers_at-set n [] block within = absurd (omega arith)
numbers_at-set zero (first ∷ blocks) block within = refl
numbers_at-set (suc n) (first ∷ blocks) block within = numbers_at-set n blocks block (omega arith)

pub nothing : (numbers : List ℕ) → length numbers ≡ 0 → numbers ≡ []
nothing [] none = refl
nothing (number ∷ numbers) none = absurd (omega arith)

-- ---- places

pub start_of-cons : (n : ℕ) (first : Vec ℕ Global) (blocks : BlockList) →
    start_of (suc n) (first ∷ blocks) ≡ length first.items + start_of n blocks
start_of-cons n first blocks = length-append first.items (numbers_in (take n blocks))

pub start_of-next : (n : ℕ) (blocks : BlockList) → n < length blocks →
    start_of (suc n) blocks ≡ start_of n blocks + length (numbers_at n blocks)
start_of-next n [] within = absurd (omega arith)
start_of-next zero (first ∷ blocks) within = omega (arith, start_of-cons zero first blocks)
start_of-next (suc n) (first ∷ blocks) within =
    omega (
      arith,
      start_of-next n blocks (omega arith),
      start_of-cons (suc n) first blocks,
      start_of-cons n first blocks,
    )

pub start_of-end : (blocks : BlockList) → start_of (length blocks) blocks ≡ length (numbers_in blocks)
start_of-end blocks = ap (λ l. length (numbers_in l)) (take-length blocks)

pub start_of-rises : (low high : ℕ) (blocks : BlockList) → low ≤ high → start_of low blocks ≤ start_of high blocks
start_of-rises zero high blocks le = omega arith
start_of-rises (suc low) zero blocks le = absurd (omega arith)
start_of-rises (suc low) (suc high) [] le = omega arith
start_of-rises (suc low) (suc high) (first ∷ blocks) le =
    omega (
      arith,
      start_of-rises low high blocks (omega arith),
      start_of-cons low first blocks,
      start_of-cons high first blocks,
    )

-- a block ends among the numbers of all
pub start_of-within : (n : ℕ) (blocks : BlockList) → n < length blocks →
    start_of n blocks + length (numbers_at n blocks) ≤ length (numbers_in blocks)
start_of-within n blocks within =
    omega (
      arith,
      start_of-next n blocks within,
      start_of-rises (suc n) (length blocks) blocks (omega arith),
      start_of-end blocks,
    )

pub get_or-numbers_in : (n offset : ℕ) (blocks : BlockList) (d : ℕ) → n < length blocks →
    offset < length (numbers_at n blocks) →
    get_or (numbers_in blocks) (start_of n blocks + offset) d ≡ get_or (numbers_at n blocks) offset d
get_or-numbers_in n offset [] d within lt = absurd (omega arith)
get_or-numbers_in n offset (first ∷ blocks) d within lt =
    let at : numbers_at n (first ∷ blocks) ≡ (get_or (first ∷ blocks) n first).items =
    numbers_at-get n (first ∷ blocks) first within in
    get_or-flat_map (λ (b : Vec ℕ Global). b.items) (first ∷ blocks) n offset first d within
    (omega (arith, ap length at, lt)) ∙ ap (λ l. get_or l offset d) (sym at)

-- the rest of a block stands at its place
pub stands_at : (blocks : BlockList) (n offset place : ℕ) → n < length blocks → offset < length (numbers_at n blocks) →
    start_of n blocks + offset ≡ place → StandsAt (drop offset (numbers_at n blocks)) place (numbers_in blocks)
stands_at blocks n offset place within lt is =
    let numbers = numbers_at n blocks in
    let long = length-drop offset numbers in
    let whole = start_of-within n blocks within in
    record {
      some = omega arith;
      within = omega arith;
      same = λ k low.
          let inside : offset + k < length numbers = omega (arith, long) in
          let at : start_of n blocks + (offset + k) ≡ place + k = omega arith in
          get_or-drop offset numbers k 0 ∙ sym (get_or-numbers_in n (offset + k) blocks 0 within inside)
          ∙ ap (λ i. get_or (numbers_in blocks) i 0) at;
    }

-- ---- one block has other numbers

pub numbers_in-put : (n : ℕ) (blocks : BlockList) (block : Vec ℕ Global) (offset number : ℕ) → n < length blocks →
    offset ≤ length (numbers_at n blocks) → block.items ≡ insert (numbers_at n blocks) offset number →
    numbers_in (set blocks n block) ≡ insert (numbers_in blocks) (start_of n blocks + offset) number
numbers_in-put n [] block offset number within le is = absurd (omega arith)
numbers_in-put zero (first ∷ blocks) block offset number within le is =
    ap (λ l. l ++ numbers_in blocks) is
    ∙ sym (insert-append_left first.items (numbers_in blocks) offset number le)
    ∙ ap (λ i. insert (first.items ++ numbers_in blocks) i number) (sym (zero-add offset))
numbers_in-put (suc n) (first ∷ blocks) block offset number within le is =
    let place = start_of (suc n) (first ∷ blocks) + offset in
    let rest : start_of n blocks + offset ≡ place - length first.items =
    omega (arith, start_of-cons n first blocks) in
    let past : length first.items ≤ place = omega (arith, start_of-cons n first blocks) in
    ap (λ l. first.items ++ l) (numbers_in-put n blocks block offset number (omega arith) le is
    ∙ ap (λ i. insert (numbers_in blocks) i number) rest)
    ∙ sym (insert-append_right first.items (numbers_in blocks) (length first.items) place number refl past)

pub numbers_in-taken : (n : ℕ) (blocks : BlockList) (block : Vec ℕ Global) (offset : ℕ) → n < length blocks →
    offset < length (numbers_at n blocks) → block.items ≡ remove (numbers_at n blocks) offset →
    numbers_in (set blocks n block) ≡ remove (numbers_in blocks) (start_of n blocks + offset)
numbers_in-taken n [] block offset within lt is = absurd (omega arith)
numbers_in-taken zero (first ∷ blocks) block offset within lt is =
    ap (λ l. l ++ numbers_in blocks) is
    ∙ sym (remove-append_left first.items (numbers_in blocks) offset lt)
    ∙ ap (λ i. remove (first.items ++ numbers_in blocks) i) (sym (zero-add offset))
numbers_in-taken (suc n) (first ∷ blocks) block offset within lt is =
    let place = start_of (suc n) (first ∷ blocks) + offset in
    let rest : start_of n blocks + offset ≡ place - length first.items =
    omega (arith, start_of-cons n first blocks) in
    let past : length first.items ≤ place = omega (arith, start_of-cons n first blocks) in
    ap (λ l. first.items ++ l) (numbers_in-taken n blocks block offset (omega arith) lt is
    ∙ ap (λ i. remove (numbers_in blocks) i) rest)
    ∙ sym (remove-append_right first.items (numbers_in blocks) (length first.items) place refl past)

-- a block comes to so many that it is cut in two
pub numbers_in-cut : (n : ℕ) (blocks : BlockList) (lower upper : Vec ℕ Global) (offset number : ℕ) → n < length blocks →
    offset ≤ length (numbers_at n blocks) → lower.items ++ upper.items ≡ insert (numbers_at n blocks) offset number →
    numbers_in (insert (set blocks n lower) (suc n) upper)
    ≡ insert (numbers_in blocks) (start_of n blocks + offset) number
numbers_in-cut n [] lower upper offset number within le is = absurd (omega arith)
numbers_in-cut zero (first ∷ blocks) lower upper offset number within le is =
    sym (append_assoc lower.items upper.items (numbers_in blocks)) ∙ ap (λ l. l ++ numbers_in blocks) is
    ∙ sym (insert-append_left first.items (numbers_in blocks) offset number le)
    ∙ ap (λ i. insert (first.items ++ numbers_in blocks) i number) (sym (zero-add offset))
numbers_in-cut (suc n) (first ∷ blocks) lower upper offset number within le is =
    let place = start_of (suc n) (first ∷ blocks) + offset in
    let rest : start_of n blocks + offset ≡ place - length first.items =
    omega (arith, start_of-cons n first blocks) in
    let past : length first.items ≤ place = omega (arith, start_of-cons n first blocks) in
    ap (λ l. first.items ++ l) (numbers_in-cut n blocks lower upper offset number (omega arith) le is
    ∙ ap (λ i. insert (numbers_in blocks) i number) rest)
    ∙ sym (insert-append_right first.items (numbers_in blocks) (length first.items) place number refl past)

-- without a block that has none
pub numbers_in-remove : (n : ℕ) (blocks : BlockList) → n < length blocks → numbers_at n blocks ≡ [] →
    numbers_in (remove blocks n) ≡ numbers_in blocks
numbers_in-remove n [] within none = absurd (omega arith)
numbers_in-remove zero (first ∷ blocks) within none = ap (λ l. l ++ numbers_in blocks) (sym none)
numbers_in-remove (suc n) (first ∷ blocks) within none =
    ap (λ l. first.items ++ l) (numbers_in-remove n blocks (omega arith) none)

-- a block has a number
pub block_some : (n : ℕ) (blocks : BlockList) (d : Vec ℕ Global) → All IsBlock blocks → n < length blocks →
    0 < length (numbers_at n blocks)
block_some n blocks d are within =
    let some : 0 < length (get_or blocks n d).items = (are n d within).some in
    omega (arith, ap length (numbers_at-get n blocks d within), some)
