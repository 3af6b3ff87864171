-- What the parts of a body come to, over a part, a block, and all of it.
use Rattle.std.proofs.Common.{◌≡◌, ◌<◌, ◌≤◌, ◌+◌, ℕ, List, [], ◌++◌, length, take, drop, Some, None, arith}
use Rattle.std.proofs.Common.{ap, sym, subst, ◌∙◌, length-drop}
use Rattle.std.proofs.lemmas.List.{append-nil, drop-drop, drop-append-le}
use Rattle.kom_journal.specs.Reading.{MakesFirst, ComesNext, ComesSome, part}
use Rattle.kom_journal.proofs.Reading.{part_block, part_drop, part_none}

module _ {M : Type 0} (makes : M → M → List ℕ → List ℕ → Type 0) (refuses : M → List ℕ → Type 0)
    (in_turn : (one two three : M) (a b c : List ℕ) → makes one two a b → makes two three b c → makes one three a c)
    (later : (one two : M) (a b : List ℕ) → makes one two a b → refuses two b → refuses one a) where
  -- a part more
  pub makes_more : (bytes : List ℕ) (old mid new : M) (used len : ℕ) → MakesFirst makes bytes old mid used
      → ComesNext makes refuses (drop used bytes) mid new (Some len) → MakesFirst makes bytes old new (used + len)
  makes_more bytes old mid new used len first next = (
    omega (arith, first.0, next.1.0, length-drop used bytes),
    λ more.
        let then : makes mid new (drop used bytes ++ more) (drop (used + len) bytes ++ more) =
        subst (λ (l : List ℕ). makes mid new (drop used bytes ++ more) (l ++ more)) (drop-drop len used bytes)
        (next.1.1 more) in
        in_turn old mid new (bytes ++ more) (drop used bytes ++ more) (drop (used + len) bytes ++ more) (first.1 more)
        then,
  )

  -- and no more
  pub makes_last : (bytes : List ℕ) (old mid new : M) (used : ℕ) → MakesFirst makes bytes old mid used
      → ComesNext makes refuses (drop used bytes) mid new None → ComesSome makes refuses bytes old new used
  makes_last bytes old mid new used first next = (
    (
      first.0,
      λ more. in_turn old mid new (bytes ++ more) (drop used bytes ++ more) (drop used bytes ++ more) (first.1 more)
          (next.0 more),
    ),
    next.1,
  )

  pub next_refused : (bytes : List ℕ) (old mid : M) (used : ℕ) → MakesFirst makes bytes old mid used
      → ((more : List ℕ) → refuses mid (drop used bytes ++ more)) → (more : List ℕ) → refuses old (bytes ++ more)
  next_refused bytes old mid used first refused more =
      later old mid (bytes ++ more) (drop used bytes ++ more) (first.1 more) (refused more)

  -- a block of a body in a file
  module _ (at held end : ℕ) (bytes block : List ℕ) (within : at + held ≤ end)
      (is : block ≡ take held (drop at bytes)) (long : length block ≡ held) where
    whole : part at end bytes ≡ block ++ part (at + held) end bytes
    whole = part_block at held end bytes within ∙ ap (λ (l : List ℕ). l ++ part (at + held) end bytes) (sym is)

    pub block_made : (old new : M) (used : ℕ) → ComesSome makes refuses block old new used
        → makes old new (part at end bytes) (part (at + used) end bytes)
    block_made old new used made =
        let after : drop used block ++ part (at + held) end bytes ≡ part (at + used) end bytes =
        sym (drop-append-le used block (part (at + held) end bytes) made.0.0)
        ∙ ap (drop used) (sym whole) ∙ part_drop at used end bytes (omega (arith, within, made.0.0, long)) in
        subst (λ (l : List ℕ). makes old new (part at end bytes) l) after
        (subst (λ (l : List ℕ). makes old new l (drop used block ++ part (at + held) end bytes)) (sym whole)
        (made.0.1 (part (at + held) end bytes)))

    pub block_refused : (old : M) → ((more : List ℕ) → refuses old (block ++ more)) → refuses old (part at end bytes)
    block_refused old refused = subst (refuses old) (sym whole) (refused (part (at + held) end bytes))

    -- the last block ends inside a part
    pub last_refused : (old new : M) (used : ℕ) → ComesSome makes refuses block old new used → used < held
        → at + held ≡ end → refuses old (part at end bytes)
    last_refused old new used made less last =
        let none : part (at + held) end bytes ≡ [] =
        ap (λ (n : ℕ). part n end bytes) last ∙ part_none end bytes in
        let all : part at end bytes ≡ block =
        whole ∙ ap (λ (l : List ℕ). block ++ l) none ∙ append-nil block in
        let first : makes old new block (drop used block) =
        subst (λ (l : List ℕ). makes old new l (drop used block)) (append-nil block)
        (subst (λ (l : List ℕ). makes old new (block ++ []) l) (append-nil (drop used block)) (made.0.1 [])) in
        subst (refuses old) (sym all)
        (later old new block (drop used block) first
        (made.1 (omega (arith, less, long, length-drop used block))))
