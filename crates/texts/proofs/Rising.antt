-- Pairs by rising local number: what putting in one after another leaves.
use Rattle.std.proofs.Common.{◌≡◌, ℕ, ◌<◌, ◌≤◌, ◌++◌, Bool, true, false, cond, ltb, List, [], ◌∷◌, filter, fold}
use Rattle.std.proofs.Common.{refl, sym, ap, ◌∙◌, inl, inr, arith}
use Rattle.std.proofs.lemmas.Bool.{cases_Bool, lt-ltb, le-ltb, ltb-true, ltb-false, cond_both}
use Rattle.std.specs.List.{AllByRecursion}
use Rattle.kom_types.specs.declared.texts.LocalText.{LocalText}
use Rattle.kom_types.specs.tables.Texts.{by_local, rising_locals}
use Rattle.local_maps.specs.Pairs.{AllBelow, AllAbove}

abbrev pub put_all : List LocalText → List LocalText → List LocalText
put_all sorted pairs = fold (λ sorted pair. by_local pair sorted) sorted pairs

-- ---- what holds of each

module _ (P : LocalText → Type 0) where
  pub all-by_local : (pair : LocalText) (pairs : List LocalText) → P pair → AllByRecursion P pairs →
      AllByRecursion P (by_local pair pairs)
  all-by_local pair [] here all = (here, tt)
  all-by_local pair (first ∷ pairs) here all =
      cond_both (ltb pair.local first.local) _ _ (AllByRecursion P) (λ _. (here, all))
      (λ _. (all.0, all-by_local pair pairs here all.1))

  all_of-by_local : (pair : LocalText) (pairs : List LocalText) → AllByRecursion P (by_local pair pairs) →
      P pair × AllByRecursion P pairs
  all_of-by_local pair [] all = all
  all_of-by_local pair (first ∷ pairs) all = elim (cases_Bool (ltb pair.local first.local)) [
    | inl is ↦ rw is at all
    | inr is ↦
        let all : AllByRecursion P (first ∷ by_local pair pairs) = rw is at all in
        let rest = all_of-by_local pair pairs all.1 in (rest.0, (all.0, rest.1))
  ]

  all_of-put_all : (sorted pairs : List LocalText) → AllByRecursion P (put_all sorted pairs) →
      AllByRecursion P sorted × AllByRecursion P pairs
  all_of-put_all sorted [] all = (all, tt)
  all_of-put_all sorted (pair ∷ pairs) all =
      let rest = all_of-put_all (by_local pair sorted) pairs all in
      let first = all_of-by_local pair sorted rest.0 in
      (first.1, (first.0, rest.1))

-- what holds of each of the rising pairs holds of each
pub all_of-rising_locals : (P : LocalText → Type 0) (pairs : List LocalText) →
    AllByRecursion P (rising_locals pairs) → AllByRecursion P pairs
all_of-rising_locals P pairs all = (all_of-put_all P [] pairs all).1

-- ---- one more, above the others

by_local-above : (pair : LocalText) (pairs : List LocalText) → AllBelow pair.local pairs →
    by_local pair pairs ≡ pairs ++ pair ∷ []
by_local-above pair [] below = refl
by_local-above pair (first ∷ pairs) below =
    let after : ltb pair.local first.local ≡ false = le-ltb _ _ (omega (arith, below.0)) in
    rw after (ap (λ l. first ∷ l) (by_local-above pair pairs below.1))

by_local-push : (pair last : LocalText) (pairs : List LocalText) → pair.local < last.local →
    by_local pair (pairs ++ last ∷ []) ≡ by_local pair pairs ++ last ∷ []
by_local-push pair last [] below = let before : ltb pair.local last.local ≡ true = lt-ltb _ _ below in rw before refl
by_local-push pair last (first ∷ pairs) below = elim (cases_Bool (ltb pair.local first.local)) [
  | inl is ↦ rw is refl
  | inr is ↦ rw is (ap (λ l. first ∷ l) (by_local-push pair last pairs below))
]

put_all-push : (last : LocalText) (sorted pairs : List LocalText) → AllBelow last.local pairs →
    put_all (sorted ++ last ∷ []) pairs ≡ put_all sorted pairs ++ last ∷ []
put_all-push last sorted [] below = refl
put_all-push last sorted (pair ∷ pairs) below =
    ap (λ s. put_all s pairs) (by_local-push pair last sorted below.0)
    ∙ put_all-push last (by_local pair sorted) pairs below.1

-- wherever a pair that is above all others is put in, it comes last
pub put_all-above : (last : LocalText) (sorted pairs : List LocalText) → AllBelow last.local sorted →
    AllBelow last.local pairs → put_all sorted (last ∷ pairs) ≡ put_all sorted pairs ++ last ∷ []
put_all-above last sorted pairs below_sorted below =
    ap (λ s. put_all s pairs) (by_local-above last sorted below_sorted) ∙ put_all-push last sorted pairs below

-- ---- a filter of rising pairs

-- all have this local number at least
abbrev AllFrom : ℕ → List LocalText → Type 0
AllFrom local pairs = AllByRecursion (λ pair. local ≤ pair.local) pairs

-- the local numbers do not fall
abbrev Rises : List LocalText → Type 0
Rises [] = Unit {0}
Rises (pair ∷ pairs) = AllFrom pair.local pairs × Rises pairs

from_less : (less local : ℕ) (pairs : List LocalText) → less ≤ local → AllFrom local pairs → AllFrom less pairs
from_less less local [] le from = tt
from_less less local (pair ∷ pairs) le from = (omega (arith, from.0), from_less less local pairs le from.1)

rises-by_local : (pair : LocalText) (pairs : List LocalText) → Rises pairs → Rises (by_local pair pairs)
rises-by_local pair [] up = (tt, tt)
rises-by_local pair (first ∷ pairs) up =
    cond_both (ltb pair.local first.local) _ _ Rises
    (λ is.
    let below = ltb-true _ _ is in
    ((omega (arith, below), from_less pair.local first.local pairs (omega (arith, below)) up.0), up))
    (λ is.
    (all-by_local (λ p. first.local ≤ p.local) pair pairs (ltb-false _ _ is) up.0, rises-by_local pair pairs up.1))

by_local-below : (pair : LocalText) (pairs : List LocalText) → AllAbove pair.local pairs →
    by_local pair pairs ≡ pair ∷ pairs
by_local-below pair [] above = refl
by_local-below pair (first ∷ pairs) above =
    let before : ltb pair.local first.local ≡ true = lt-ltb _ _ above.0 in rw before refl

above_from : (local high : ℕ) (pairs : List LocalText) → local < high → AllFrom high pairs → AllAbove local pairs
above_from local high [] below from = tt
above_from local high (pair ∷ pairs) below from = (omega (arith, from.0), above_from local high pairs below from.1)

pub all-filter : (P : LocalText → Type 0) (test : LocalText → Bool) (pairs : List LocalText) → AllByRecursion P pairs →
    AllByRecursion P (filter test pairs)
all-filter P test [] all = tt
all-filter P test (pair ∷ pairs) all =
    cond_both (test pair) _ _ (AllByRecursion P) (λ _. (all.0, all-filter P test pairs all.1))
    (λ _. all-filter P test pairs all.1)

module _ (test : LocalText → Bool) where
  filter-by_local : (pair : LocalText) (pairs : List LocalText) → Rises pairs →
      filter test (by_local pair pairs) ≡ cond (test pair) (by_local pair (filter test pairs)) (filter test pairs)
  filter-by_local pair [] up = refl
  filter-by_local pair (first ∷ pairs) up = elim (cases_Bool (ltb pair.local first.local)) [
    | inl is ↦
        let above : AllAbove pair.local (first ∷ pairs) =
        (ltb-true _ _ is, above_from pair.local first.local pairs (ltb-true _ _ is) up.0) in
        let first_of_all = by_local-below pair (filter test (first ∷ pairs))
        (all-filter (λ p. pair.local < p.local) test (first ∷ pairs) above) in
        rw is (ap (λ l. cond (test pair) l (filter test (first ∷ pairs))) (sym first_of_all))
    | inr is ↦
        let rest = filter-by_local pair pairs up.1 in
        elim (cases_Bool (test first)) [
          | inl kept ↦ elim (cases_Bool (test pair)) [
            | inl passes ↦
                let rest : filter test (by_local pair pairs) ≡ by_local pair (filter test pairs) = rw passes at rest in
                rw (is, kept, passes, is) (ap (λ l. first ∷ l) rest)
            | inr fails ↦
                let rest : filter test (by_local pair pairs) ≡ filter test pairs = rw fails at rest in
                rw (is, kept, fails) (ap (λ l. first ∷ l) rest)
          ]
          | inr left ↦ rw (is, left) rest
        ]
  ]

  filter-put_all : (sorted pairs : List LocalText) → Rises sorted →
      filter test (put_all sorted pairs) ≡ put_all (filter test sorted) (filter test pairs)
  filter-put_all sorted [] up = refl
  filter-put_all sorted (pair ∷ pairs) up =
      filter-put_all (by_local pair sorted) pairs (rises-by_local pair sorted up)
      ∙ ap (λ s. put_all s (filter test pairs)) (filter-by_local pair sorted up)
      ∙ elim (cases_Bool (test pair)) [
        | inl passes ↦ rw (passes) refl
        | inr fails ↦ rw (fails) refl
      ]

  -- a filter of the rising pairs is that of the pairs, rising
  pub filter-rising_locals : (pairs : List LocalText) →
      filter test (rising_locals pairs) ≡ rising_locals (filter test pairs)
  filter-rising_locals pairs = filter-put_all [] pairs tt
