-- How often numbers are counted among needs.
use Rattle.std.proofs.Common.{◌≡◌, ℕ, ◌+◌, ◌≤◌, ◌⊎◌, true, false, cond, eqb, List, [], ◌∷◌, Option, Some, length}
use Rattle.std.proofs.Common.{count_by, unwrap_or, refl, sym, ap, ◌∙◌, inl, inr, arith}
use Rattle.std.specs.Map.{count_at}
use Rattle.std.specs.Option.{option_map_or}
use Rattle.std.proofs.lemmas.Bool.{cases_Bool, cases_eq, eq-eqb, ne_eqb}
use Rattle.std.proofs.lemmas.List.Sums.{sum_by-cons}
use Rattle.texts.specs.declared.needs.Need.{Need}
use Rattle.texts.specs.Needs.{same, count_of}
use Rattle.kom_state.specs.Counts.{number_of, is_of}
use Rattle.kom_state.proofs.Needed.{same_eq}

count-first : (one first : Need) (needs : List Need) →
    count_of one (first ∷ needs) ≡ cond (same one first) 1 0 + count_of one needs
count-first one first needs = sum_by-cons (λ other. cond (same one other) 1 0) first needs

number-first : (number : ℕ) (first : Need) (needs : List Need) →
    count_by (is_of number) (first ∷ needs) ≡ cond (is_of number first) 1 0 + count_by (is_of number) needs
number-first number first needs = sum_by-cons (λ other. cond (is_of number other) 1 0) first needs

is_of_number : (one : Need) (number : ℕ) → number_of one ≡ Some number → is_of number one ≡ true
is_of_number one number is =
    ap (λ o. option_map_or (eqb number) o false) is ∙ eq-eqb number number refl

-- a thing is needed as often as things of its number at most, and as there are needs
pub count_of-number : (one : Need) (number : ℕ) (needs : List Need) → number_of one ≡ Some number →
    count_of one needs ≤ count_by (is_of number) needs
count_of-number one number [] is = omega arith
count_of-number one number (first ∷ needs) is =
    by (cases_Bool (same one first)) (count_of-number one number needs is)
  where
    by : (same one first ≡ true) ⊎ (same one first ≡ false) → count_of one needs ≤ count_by (is_of number) needs →
        count_of one (first ∷ needs) ≤ count_by (is_of number) (first ∷ needs)
    by (inl alike) rest =
        let held : is_of number first ≡ true =
        ap (is_of number) (sym (same_eq one first alike)) ∙ is_of_number one number is in
        let here : cond {A = ℕ} (same one first) 1 0 ≡ 1 = rw alike refl in
        let there : cond {A = ℕ} (is_of number first) 1 0 ≡ 1 = rw held refl in
        omega (arith, count-first one first needs, number-first number first needs, here, there, rest)
    by (inr other) rest =
        let here : cond {A = ℕ} (same one first) 1 0 ≡ 0 = rw other refl in
        omega (arith, count-first one first needs, number-first number first needs, here, rest)

pub count_of-length : (one : Need) (needs : List Need) → count_of one needs ≤ length needs
count_of-length one [] = omega arith
count_of-length one (first ∷ needs) = by (cases_Bool (same one first)) (count_of-length one needs)
  where
    by : (same one first ≡ true) ⊎ (same one first ≡ false) → count_of one needs ≤ length needs →
        count_of one (first ∷ needs) ≤ length (first ∷ needs)
    by (inl alike) rest =
        let here : cond {A = ℕ} (same one first) 1 0 ≡ 1 = rw alike refl in
        omega (arith, count-first one first needs, here, rest)
    by (inr other) rest =
        let here : cond {A = ℕ} (same one first) 1 0 ≡ 0 = rw other refl in
        omega (arith, count-first one first needs, here, rest)

-- a number is counted once more
pub counted_once : (old new : ℕ → Option ℕ) (number count other : ℕ) → count ≡ count_at old number →
    new other ≡ cond (eqb number other) (Some (count + 1)) (old other) →
    count_at new other ≡ count_at old other + cond (eqb number other) 1 0
counted_once old new number count other is now =
    ap (λ o. unwrap_or o 0) now ∙ by (cases_eq number other)
  where
    by : (number ≡ other) ⊎ (number ≡ other → ⊥) →
        unwrap_or (cond (eqb number other) (Some (count + 1)) (old other)) 0
        ≡ count_at old other + cond (eqb number other) 1 0
    by (inl same) =
        let hit : eqb number other ≡ true = eq-eqb number other same in
        rw hit (ap (λ n. n + 1) (is ∙ ap (count_at old) same))
    by (inr apart) =
        let miss : eqb number other ≡ false = ne_eqb number other apart in
        rw miss (omega arith)
