-- What holds of all rows, and how many of them pass a test, as rows are added, changed and taken away.
use Rattle.std.proofs.Common.{◌≡◌, ℕ, ◌+◌, ◌<◌, ◌≤◌, Bool, true, false, cond, eqb, ltb, List, [], ◌∷◌, ◌++◌}
use Rattle.std.proofs.Common.{length, refl, sym, inl, inr, arith, true≢false}
use Rattle.std.specs.Prelude.{map, is_none}
use Rattle.std.specs.List.{AllByRecursion, filter, find, fold}
use Rattle.std.proofs.lemmas.Bool.{cases_Bool, cond_both}
use Rattle.row_table.specs.Tables.{with_row, IsByNumber}

-- ---- what holds of all
pub all-along : {X : Type 0} (P Q S : X → Type 0) → ((x : X) → P x → Q x → S x) → (xs : List X) →
    AllByRecursion P xs → AllByRecursion Q xs → AllByRecursion S xs
all-along P Q S both [] all all' = tt
all-along P Q S both (x ∷ xs) all all' = (both x all.0 all'.0, all-along P Q S both xs all.1 all'.1)

pub all-weaker : {X : Type 0} (P Q : X → Type 0) → ((x : X) → P x → Q x) → (xs : List X) → AllByRecursion P xs →
    AllByRecursion Q xs
all-weaker P Q weaker [] all = tt
all-weaker P Q weaker (x ∷ xs) all = (weaker x all.0, all-weaker P Q weaker xs all.1)

pub all-of : {X : Type 0} (P : X → Type 0) → ((x : X) → P x) → (xs : List X) → AllByRecursion P xs
all-of P each [] = tt
all-of P each (x ∷ xs) = (each x, all-of P each xs)

pub all-kept : {X : Type 0} (P : X → Type 0) (test : X → Bool) (xs : List X) → AllByRecursion P xs →
    AllByRecursion P (filter test xs)
all-kept P test [] all = tt
all-kept P test (x ∷ xs) all =
    let rest = all-kept P test xs all.1 in
    cond_both (test x) (x ∷ filter test xs) (filter test xs) (AllByRecursion P) (λ _. (all.0, rest)) (λ _. rest)

pub all-more : {X : Type 0} (P : X → Type 0) (xs : List X) (last : X) → AllByRecursion P xs → P last →
    AllByRecursion P (xs ++ last ∷ [])
all-more P [] last all here = (here, tt)
all-more P (x ∷ xs) last all here = (all.0, all-more P xs last all.1 here)

pub all-mapped : {X : Type 0} (P Q : X → Type 0) (change : X → X) → ((x : X) → P x → Q (change x)) →
    (xs : List X) → AllByRecursion P xs → AllByRecursion Q (map change xs)
all-mapped P Q change each [] all = tt
all-mapped P Q change each (x ∷ xs) all = (each x all.0, all-mapped P Q change each xs all.1)

-- rows that a test picks are changed
pub all-picked : {X : Type 0} (P Q : X → Type 0) (pick : X → Bool) (change : X → X) →
    ((x : X) → pick x ≡ true → P x → Q (change x)) → ((x : X) → P x → Q x) → (xs : List X) → AllByRecursion P xs →
    AllByRecursion Q (map (λ x. cond (pick x) (change x) x) xs)
all-picked P Q pick change there other xs all = all-mapped P Q (λ x. cond (pick x) (change x) x)
    (λ x here. cond_both (pick x) (change x) x Q (λ is. there x is here) (λ _. other x here)) xs all

pub all-with_row : {X : Type 0} (number_of : X → ℕ) (P : X → Type 0) (row : X) (rows : List X) → P row →
    AllByRecursion P rows → AllByRecursion P (with_row number_of row rows)
all-with_row number_of P row [] here all = (here, tt)
all-with_row number_of P row (first ∷ rows) here all =
    cond_both (eqb (number_of row) (number_of first)) _ _ (AllByRecursion P) (λ _. (here, all.1))
    (λ _. cond_both (ltb (number_of row) (number_of first)) _ _ (AllByRecursion P) (λ _. (here, all))
    (λ _. (all.0, all-with_row number_of P row rows here all.1)))

-- numbers that rise, of rows that are changed and keep them
pub rising-mapped : {X : Type 0} (number_of : X → ℕ) (change : X → X) →
    ((row : X) → number_of (change row) ≡ number_of row) → (rows : List X) → IsByNumber number_of rows →
    IsByNumber number_of (map change rows)
rising-mapped number_of change keeps [] rising = tt
rising-mapped number_of change keeps (row ∷ rows) rising = (
  all-mapped (λ one. number_of row < number_of one) (λ one. number_of (change row) < number_of one) change
      (λ one less. omega (arith, less, keeps row, keeps one)) rows rising.0,
  rising-mapped number_of change keeps rows rising.1,
)

-- ---- how many pass a test
pub count-kept : {X : Type 0} (test keep : X → Bool) (rows : List X) →
    length (filter test (filter keep rows)) ≤ length (filter test rows)
count-kept test keep [] = omega arith
count-kept test keep (row ∷ rows) =
    let rest : length (filter test (filter keep rows)) ≤ length (filter test rows) = count-kept test keep rows in
    elim (cases_Bool (keep row)) [
      | inl kept ↦ elim (cases_Bool (test row)) [
        | inl passes ↦ rw kept (rw passes (omega arith))
        | inr fails ↦ rw kept (rw fails rest)
      ]
      | inr gone ↦ elim (cases_Bool (test row)) [
        | inl passes ↦ rw (gone, passes) (omega arith)
        | inr fails ↦ rw (gone, fails) rest
      ]
    ]

-- rows that pass after a change passed before
pub count-mapped : {X : Type 0} (test test' : X → Bool) (change : X → X) →
    ((row : X) → test' (change row) ≡ true → test row ≡ true) → (rows : List X) →
    length (filter test' (map change rows)) ≤ length (filter test rows)
count-mapped test test' change passed [] = omega arith
count-mapped test test' change passed (row ∷ rows) =
    let rest : length (filter test' (map change rows)) ≤ length (filter test rows) =
    count-mapped test test' change passed rows in
    elim (cases_Bool (test' (change row))) [
      | inl passes ↦ rw (passes, passed row passes) (omega arith)
      | inr fails ↦ elim (cases_Bool (test row)) [
        | inl here ↦ rw (fails, here) (omega arith)
        | inr there ↦ rw (fails, there) rest
      ]
    ]

count-more : {X : Type 0} (test : X → Bool) (rows : List X) (given : X) →
    length (filter test (rows ++ given ∷ [])) ≡ length (filter test rows) + cond (test given) 1 0
count-more test [] given = elim (cases_Bool (test given)) [
  | inl passes ↦ rw passes refl
  | inr fails ↦ rw fails refl
]
count-more test (row ∷ rows) given =
    let rest : length (filter test (rows ++ given ∷ [])) ≡ length (filter test rows) + cond (test given) 1 0 =
    count-more test rows given in
    elim (cases_Bool (test row)) [
      | inl passes ↦ rw passes (omega arith)
      | inr fails ↦ rw fails rest
    ]

-- one row more, where there is room for it if it passes
pub most-more : {X : Type 0} (test : X → Bool) (most : ℕ) (rows : List X) (given : X) →
    length (filter test rows) ≤ most → (test given ≡ true → length (filter test rows) < most) →
    length (filter test (rows ++ given ∷ [])) ≤ most
most-more test most rows given less room =
    let count : length (filter test (rows ++ given ∷ [])) ≡ length (filter test rows) + cond (test given) 1 0 =
    count-more test rows given in
    elim (cases_Bool (test given)) [
      | inl passes ↦
          let one : length (filter test (rows ++ given ∷ [])) ≡ length (filter test rows) + 1 = rw passes at count in
          let free : length (filter test rows) < most = room passes in
          omega arith
      | inr fails ↦
          let none : length (filter test (rows ++ given ∷ [])) ≡ length (filter test rows) + 0 = rw fails at count in
          omega arith
    ]

pub count-none : {X : Type 0} (test : X → Bool) (rows : List X) → AllByRecursion (λ row. test row ≡ false) rows →
    length (filter test rows) ≡ 0
count-none test [] none = refl
count-none test (row ∷ rows) none = let fails : test row ≡ false = none.0 in rw fails (count-none test rows none.1)

-- none passes that a test finds none of
pub none-found : {X : Type 0} (test : X → Bool) (rows : List X) → is_none (find test rows) ≡ true →
    AllByRecursion (λ row. test row ≡ false) rows
none-found test [] absent = tt
none-found test (row ∷ rows) absent = elim (cases_Bool (test row)) [
  | inl passes ↦ absurd (true≢false (sym (rw passes at absent)))
  | inr fails ↦ (fails, none-found test rows (rw fails at absent))
]

-- none passes where so many do
pub none-counted : {X : Type 0} (test : X → Bool) (rows : List X) → length (filter test rows) ≡ 0 →
    AllByRecursion (λ row. test row ≡ false) rows
none-counted test [] zero = tt
none-counted test (row ∷ rows) zero = elim (cases_Bool (test row)) [
  | inl passes ↦ let one = rw passes at zero in absurd (omega (arith, one))
  | inr fails ↦ (fails, none-counted test rows (rw fails at zero))
]

longer : {X : Type 0} (test : X → Bool) (row : X) (rows : List X) →
    length (filter test rows) ≤ length (filter test (row ∷ rows))
longer test row rows = elim (cases_Bool (test row)) [
  | inl passes ↦ rw passes (omega arith)
  | inr other ↦ rw other (omega arith)
]

pub count-with_row : {X : Type 0} (number_of : X → ℕ) (test : X → Bool) (given : X) → test given ≡ false →
    (rows : List X) → length (filter test (with_row number_of given rows)) ≤ length (filter test rows)
count-with_row number_of test given fails [] = rw fails (omega arith)
count-with_row number_of test given fails (row ∷ rows) =
    let rest : length (filter test (with_row number_of given rows)) ≤ length (filter test rows) =
    count-with_row number_of test given fails rows in
    cond_both (eqb (number_of given) (number_of row)) _ _
    (λ new. length (filter test new) ≤ length (filter test (row ∷ rows)))
    (λ _. rw fails (longer test row rows))
    (λ _. cond_both (ltb (number_of given) (number_of row)) _ _
    (λ new. length (filter test new) ≤ length (filter test (row ∷ rows)))
    (λ _. rw fails (omega arith))
    (λ _. elim (cases_Bool (test row)) [
      | inl passes ↦ rw passes (omega arith)
      | inr other ↦ rw other rest
    ]))

-- rows that are put into their places one by one are as many
pub count-placed : {X : Type 0} (put : X → List X → List X) →
    ((row : X) (rows : List X) → length (put row rows) ≡ length rows + 1) → (rows sorted : List X) →
    length (fold (λ sorted row. put row sorted) sorted rows) ≡ length rows + length sorted
count-placed put puts [] sorted = omega arith
count-placed put puts (row ∷ rows) sorted =
    let rest = count-placed put puts rows (put row sorted) in
    let one = puts row sorted in
    omega (arith, rest, one)
