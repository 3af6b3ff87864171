-- The name of a number among rows by rising number.
use Rattle.std.proofs.Common.{◌≡◌, ℕ, ◌+◌, length, ◌<◌, ◌≤◌, ◌⊎◌, Bool, true, false, cond, eqb, ltb, List, [], ◌∷◌}
use Rattle.std.proofs.Common.{filter, Option, Some, None, refl, sym, ap, ap₂, ◌∙◌, inl, inr, arith}
use Rattle.std.specs.List.{AllByRecursion, IsDistinct}
use Rattle.std.specs.Map.{lookup, keys_of}
use Rattle.std.proofs.lemmas.Map.Keys.{IsDistinct-head, IsDistinct-tail}
use Rattle.std.proofs.lemmas.Bool.{eq-eqb, ne_eqb, lt-ltb, le-ltb, cases_order, cases_eq}
use Rattle.std.proofs.lemmas.Bool.Decides.{nat_tests}
use Rattle.std.proofs.lemmas.Option.{none-some, same_Some}
use Rattle.name_lookup.specs.NamedRows.{Named, named_row, with_name, without_name}
use Rattle.name_lookup.specs.Order.{rows_of}

-- the numbers of all rows are above this one
abbrev pub AllAbove : ℕ → List Named → Type 0
AllAbove number rows = AllByRecursion (λ later. number < later.number) rows

abbrev pub IsRising : List Named → Type 0
IsRising [] = Unit {0}
IsRising (one ∷ rows) = AllAbove one.number rows × IsRising rows

-- the name of a number
abbrev pub name_at : ℕ → List Named → Option (List ℕ)
name_at number [] = None
name_at number (one ∷ rows) = cond (eqb number one.number) (Some one.name) (name_at number rows)

pub AllAbove-lower : (low high : ℕ) (rows : List Named) → low ≤ high → AllAbove high rows → AllAbove low rows
AllAbove-lower low high [] le above = tt
AllAbove-lower low high (one ∷ rows) le above =
    let here : high < one.number = above.0 in (omega arith, AllAbove-lower low high rows le above.1)

pub name_at-none : (number : ℕ) (rows : List Named) → AllAbove number rows → name_at number rows ≡ None
name_at-none number [] above = refl
name_at-none number (one ∷ rows) above =
    let here : number < one.number = above.0 in
    let other : eqb number one.number ≡ false = ne_eqb _ _ (λ e. omega arith) in
    rw other (name_at-none number rows above.1)

-- ---- with a name
module _ (number : ℕ) (name : List ℕ) where
  pub with_name-at : (one : Named) (rows : List Named) → number ≡ one.number →
      with_name number name (one ∷ rows) ≡ named_row number name ∷ rows
  with_name-at one rows same = rw (eq-eqb number one.number same) refl

  pub with_name-before : (one : Named) (rows : List Named) → number < one.number →
      with_name number name (one ∷ rows) ≡ named_row number name ∷ one ∷ rows
  with_name-before one rows below =
      let other : eqb number one.number ≡ false = ne_eqb _ _ (λ e. omega arith) in
      rw (other, lt-ltb number one.number below) refl

  pub with_name-after : (one : Named) (rows : List Named) → one.number < number →
      with_name number name (one ∷ rows) ≡ one ∷ with_name number name rows
  with_name-after one rows above =
      let other : eqb number one.number ≡ false = ne_eqb _ _ (λ e. omega arith) in
      let not_below : ltb number one.number ≡ false = le-ltb _ _ (omega arith) in
      rw (other, not_below) refl

  -- what holds of the rows and of the name holds with it
  pub all_with_name : (P : Named → Type 0) → P (named_row number name) → (rows : List Named) → AllByRecursion P rows →
      AllByRecursion P (with_name number name rows)
  all_with_name P new [] all = (new, tt)
  all_with_name P new (one ∷ rows) all = by (all_with_name P new rows all.1) (cases_order number one.number)
    where
      by : AllByRecursion P (with_name number name rows) →
          (number ≡ one.number) ⊎ ((number < one.number) ⊎ (one.number < number)) →
          AllByRecursion P (with_name number name (one ∷ rows))
      by rest (inl same) = rw (with_name-at one rows same) (new, all.1)
      by rest (inr (inl below)) = rw (with_name-before one rows below) (new, all)
      by rest (inr (inr above)) = rw (with_name-after one rows above) (all.0, rest)

  pub IsRising-with_name : (rows : List Named) → IsRising rows → IsRising (with_name number name rows)
  IsRising-with_name [] rising = (tt, tt)
  IsRising-with_name (one ∷ rows) rising =
      by (IsRising-with_name rows rising.1) (cases_order number one.number)
    where
      by : IsRising (with_name number name rows) →
          (number ≡ one.number) ⊎ ((number < one.number) ⊎ (one.number < number)) →
          IsRising (with_name number name (one ∷ rows))
      by rest (inl same) = rw (with_name-at one rows same) (rw same rising.0, rising.1)
      by rest (inr (inl below)) =
          rw (with_name-before one rows below)
          ((below, AllAbove-lower number one.number rows (omega arith) rising.0), rising)
      by rest (inr (inr above)) =
          rw (with_name-after one rows above)
          (all_with_name (λ later. one.number < later.number) above rows rising.0, rest)

  pub name_at-with_name : (asked : ℕ) (rows : List Named) → IsRising rows →
      name_at asked (with_name number name rows) ≡ cond (eqb number asked) (Some name) (name_at asked rows)
  name_at-with_name asked [] rising = grind (arith, nat_tests)
  name_at-with_name asked (one ∷ rows) rising =
      by (name_at-with_name asked rows rising.1) (cases_order number one.number)
    where
      by : name_at asked (with_name number name rows) ≡ cond (eqb number asked) (Some name) (name_at asked rows) →
          (number ≡ one.number) ⊎ ((number < one.number) ⊎ (one.number < number)) →
          name_at asked (with_name number name (one ∷ rows))
          ≡ cond (eqb number asked) (Some name) (name_at asked (one ∷ rows))
      by rest (inl same) = rw (with_name-at one rows same) (grind (arith, nat_tests))
      by rest (inr (inl below)) = rw (with_name-before one rows below) (grind (arith, nat_tests))
      by rest (inr (inr above)) = rw (with_name-after one rows above) (grind (arith, nat_tests, rest))

-- ---- rows of entries
pub IsRising-rows_of : (entries : List (ℕ × List ℕ)) → IsRising (rows_of entries)
IsRising-rows_of [] = tt
IsRising-rows_of (entry ∷ entries) = IsRising-with_name entry.0 entry.1 (rows_of entries) (IsRising-rows_of entries)

pub name_at-rows_of : (number : ℕ) (entries : List (ℕ × List ℕ)) →
    name_at number (rows_of entries) ≡ lookup (eqb number) entries
name_at-rows_of number [] = refl
name_at-rows_of number (entry ∷ entries) =
    let rest = name_at-rows_of number entries in
    let with' = name_at-with_name entry.0 entry.1 number (rows_of entries) (IsRising-rows_of entries) in
    with' ∙ grind (arith, nat_tests, rest)

-- ---- without a name
pub all_filter : (P : Named → Type 0) (keep : Named → Bool) (rows : List Named) → AllByRecursion P rows →
    AllByRecursion P (filter keep rows)
all_filter P keep [] all = tt
all_filter P keep (one ∷ rows) all =
    let rest : AllByRecursion P (filter keep rows) = all_filter P keep rows all.1 in
    elim (keep one) as (λ b. AllByRecursion P (cond b (one ∷ filter keep rows) (filter keep rows))) [
      | true ↦ (all.0, rest)
      | false ↦ rest
    ]

pub IsRising-filter : (keep : Named → Bool) (rows : List Named) → IsRising rows → IsRising (filter keep rows)
IsRising-filter keep [] rising = tt
IsRising-filter keep (one ∷ rows) rising =
    let rest : IsRising (filter keep rows) = IsRising-filter keep rows rising.1 in
    elim (keep one) as (λ b. IsRising (cond b (one ∷ filter keep rows) (filter keep rows))) [
      | true ↦ (all_filter (λ later. one.number < later.number) keep rows rising.0, rest)
      | false ↦ rest
    ]

pub name_at-without_name : (number asked : ℕ) (rows : List Named) →
    name_at asked (without_name number rows) ≡ cond (eqb number asked) None (name_at asked rows)
name_at-without_name number asked [] = grind (arith, nat_tests)
name_at-without_name number asked (one ∷ rows) =
    by (name_at-without_name number asked rows) (cases_eq number one.number)
  where
    by : name_at asked (without_name number rows) ≡ cond (eqb number asked) None (name_at asked rows) →
        (number ≡ one.number) ⊎ (number ≡ one.number → ⊥) →
        name_at asked (without_name number (one ∷ rows)) ≡ cond (eqb number asked) None (name_at asked (one ∷ rows))
    by rest (inl same) = rw (eq-eqb one.number number (sym same)) (grind (arith, nat_tests, rest))
    by rest (inr other) = rw (ne_eqb one.number number (λ e. other (sym e))) (grind (arith, nat_tests, rest))

-- ---- rows are told apart by the names of their numbers
pub name_at-here : (number : ℕ) (one : Named) (rows : List Named) → number ≡ one.number →
    name_at number (one ∷ rows) ≡ Some one.name
name_at-here number one rows here = rw (eq-eqb number one.number here) refl

pub name_at-tail : (number : ℕ) (one : Named) (rows : List Named) → (number ≡ one.number → ⊥) →
    name_at number (one ∷ rows) ≡ name_at number rows
name_at-tail number one rows other = rw (ne_eqb number one.number other) refl

pub same_rows : (xs ys : List Named) → IsRising xs → IsRising ys →
    ((number : ℕ) → name_at number xs ≡ name_at number ys) → xs ≡ ys
same_rows [] [] up up' same = refl
same_rows [] (y ∷ ys) up up' same = absurd (none-some y.name (same y.number ∙ name_at-here y.number y ys refl))
same_rows (x ∷ xs) [] up up' same = absurd (none-some x.name (sym (same x.number) ∙ name_at-here x.number x xs refl))
same_rows (x ∷ xs) (y ∷ ys) up up' same = by (same_rows xs ys up.1 up'.1) (cases_order x.number y.number)
  where
    rest : x.number ≡ y.number → (number : ℕ) → (number ≡ x.number) ⊎ (number ≡ x.number → ⊥) →
        name_at number xs ≡ name_at number ys
    rest e number (inl here) =
        name_at-none number xs (rw here up.0) ∙ sym (name_at-none number ys (rw (here ∙ e) up'.0))
    rest e number (inr other) =
        sym (name_at-tail number x xs other) ∙ same number
        ∙ name_at-tail number y ys (λ here. other (here ∙ sym e))

    by : (((number : ℕ) → name_at number xs ≡ name_at number ys) → xs ≡ ys) →
        (x.number ≡ y.number) ⊎ ((x.number < y.number) ⊎ (y.number < x.number)) → x ∷ xs ≡ y ∷ ys
    by tails (inl e) =
        let names : x.name ≡ y.name =
        same_Some _ _ (sym (name_at-here x.number x xs refl) ∙ same x.number ∙ name_at-here x.number y ys e) in
        ap₂ (λ one rows. one ∷ rows) (ap₂ named_row e names)
        (tails (λ number. rest e number (cases_eq number x.number)))
    by tails (inr (inl below)) =
        absurd (none-some x.name (sym (sym (name_at-here x.number x xs refl) ∙ same x.number
        ∙ name_at-none x.number (y ∷ ys) (below, AllAbove-lower x.number y.number ys (omega arith) up'.0))))
    by tails (inr (inr above)) =
        absurd (none-some y.name (sym (name_at-none y.number (x ∷ xs)
        (above, AllAbove-lower y.number x.number xs (omega arith) up.0)) ∙ same y.number
        ∙ name_at-here y.number y ys refl))

-- the rows of entries of which one was put
pub rows_put : (number : ℕ) (name : List ℕ) (old new : List (ℕ × List ℕ)) →
    ((asked : ℕ) → lookup (eqb asked) new ≡ cond (eqb number asked) (Some name) (lookup (eqb asked) old)) →
    rows_of new ≡ with_name number name (rows_of old)
rows_put number name old new put =
    let rising = IsRising-rows_of old in
    same_rows (rows_of new) (with_name number name (rows_of old)) (IsRising-rows_of new)
    (IsRising-with_name number name (rows_of old) rising)
    (λ asked. name_at-rows_of asked new ∙ put asked
    ∙ ap (λ known. cond (eqb number asked) (Some name) known) (sym (name_at-rows_of asked old))
    ∙ sym (name_at-with_name number name asked (rows_of old) rising))

-- the rows of entries of which one was taken out
pub rows_removed : (number : ℕ) (old new : List (ℕ × List ℕ)) →
    ((asked : ℕ) → lookup (eqb asked) new ≡ cond (eqb number asked) None (lookup (eqb asked) old)) →
    rows_of new ≡ without_name number (rows_of old)
rows_removed number old new gone =
    same_rows (rows_of new) (without_name number (rows_of old)) (IsRising-rows_of new)
    (IsRising-filter _ (rows_of old) (IsRising-rows_of old))
    (λ asked. name_at-rows_of asked new ∙ gone asked
    ∙ ap (λ known. cond (eqb number asked) None known) (sym (name_at-rows_of asked old))
    ∙ sym (name_at-without_name number asked (rows_of old)))

length-with_name : (number : ℕ) (name : List ℕ) (rows : List Named) → name_at number rows ≡ None →
    length (with_name number name rows) ≡ length rows + 1
length-with_name number name [] none = refl
length-with_name number name (one ∷ rows) none =
    by (length-with_name number name rows) (cases_order number one.number)
  where
    by : (name_at number rows ≡ None → length (with_name number name rows) ≡ length rows + 1) →
        (number ≡ one.number) ⊎ ((number < one.number) ⊎ (one.number < number)) →
        length (with_name number name (one ∷ rows)) ≡ length (one ∷ rows) + 1
    by rest (inl same) = absurd (none-some one.name (sym none ∙ name_at-here number one rows same))
    by rest (inr (inl below)) = rw (with_name-before number name one rows below) (omega arith)
    by rest (inr (inr above)) =
        let later = rest (sym (name_at-tail number one rows (λ e. omega arith)) ∙ none) in
        rw (with_name-after number name one rows above) (omega (arith, later))

lookup-none : (number : ℕ) (entries : List (ℕ × List ℕ)) →
    AllByRecursion (λ other. eqb number other ≡ false) (keys_of entries) → lookup (eqb number) entries ≡ None
lookup-none number [] apart = refl
lookup-none number (entry ∷ entries) apart =
    let here : eqb number entry.0 ≡ false = apart.0 in rw here (lookup-none number entries apart.1)

-- each number stands in one entry
pub length-rows_of : (entries : List (ℕ × List ℕ)) → IsDistinct eqb (keys_of entries) →
    length (rows_of entries) ≡ length entries
length-rows_of [] apart = refl
length-rows_of (entry ∷ entries) apart =
    let known : name_at entry.0 (rows_of entries) ≡ None =
    name_at-rows_of entry.0 entries
    ∙ lookup-none entry.0 entries (IsDistinct-head eqb entry.0 (keys_of entries) apart) in
    let rest = length-rows_of entries (IsDistinct-tail eqb entry.0 (keys_of entries) apart) in
    length-with_name entry.0 entry.1 (rows_of entries) known ∙ omega (arith, rest)
