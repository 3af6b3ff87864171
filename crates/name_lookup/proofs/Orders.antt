-- The order of names.
use Rattle.std.proofs.Common.{◌≡◌, ℕ, ◌+◌, ◌<◌, ◌≤◌, ◌⊎◌, Bool, true, false, cond, eqb, List, length, get_or, map}
use Rattle.std.proofs.Common.{count_by, is_some, is_lt, is_eq, Ordering, Less, Equal, Greater, refl, sym, ap, ◌∙◌}
use Rattle.std.proofs.Common.{true≢false, inl, inr, arith, IsSortedByKey}
use Rattle.std.specs.Cmp.{IsTotalOrder}
use Rattle.std.specs.List.Sorted.{IsPartitionedBy, IsPartitionPoint, IsNonDecreasingBy}
use Rattle.std.specs.Map.{lookup}
use Rattle.std.specs.Ordering.{ordering_index, ordering_then}
use Rattle.std.proofs.lemmas.Bool.{cases_lt}
use Rattle.std.proofs.lemmas.Cmp.{lists_total, nat_cmp_total, on_total, then_total, tied_itself}
use Rattle.std.proofs.lemmas.List.Sorted.{searchable_from_sorted}
use Rattle.std.proofs.lemmas.Map.Text.{is_eq-slice_cmp}
use Rattle.kom_types.specs.Names.{fold, clash, outside}
use Rattle.name_lookup.specs.declared.order.By.{By}
use Rattle.name_lookup.specs.declared.order.By.TheVariants.{Name, Letters}
use Rattle.name_lookup.specs.Letters.{letters, letters_of}
use Rattle.name_lookup.specs.Order.{letters_cmp, name_cmp, cmp_by, name_in, letters_in, is_below, IsByName}
use Rattle.name_lookup.specs.Order.{StandsOnce}
use Rattle.name_lookup.proofs.Clashes.{folds_alike, clash_back}

pub letters_total : IsTotalOrder letters_cmp
letters_total = lists_total nat_cmp_total

pub name_total : IsTotalOrder name_cmp
name_total = then_total (on_total letters_of letters_total) (on_total (map fold) letters_total)

-- ---- what an answer of a comparison tells
first_up : (first second : Ordering) → is_lt (ordering_then first second) ≡ false → is_lt first ≡ false
first_up Less second up = up
first_up Equal second up = refl
first_up Greater second up = refl

second_equal : (first second : Ordering) → ordering_then first second ≡ Equal → second ≡ Equal
second_equal Less second same = absurd (true≢false (ap is_lt same))
second_equal Equal second same = same
second_equal Greater second same = absurd (true≢false (sym (ap is_eq same)))

not_above : (first second : Ordering) → ordering_index first ≤ ordering_index second → is_lt second ≡ true →
    is_lt first ≡ true
not_above Less second le lt = refl
not_above first Equal le lt = absurd (true≢false (sym lt))
not_above first Greater le lt = absurd (true≢false (sym lt))
not_above Equal Less le lt = absurd (omega arith)
not_above Greater Less le lt = absurd (omega arith)

not_low : (first second : Ordering) → ordering_index first ≤ ordering_index second → first ≡ Equal →
    is_lt second ≡ false
not_low first Less le eq = absurd (omega (arith, ap ordering_index eq))
not_low first Equal le eq = refl
not_low first Greater le eq = refl

equal_between : (first second : Ordering) → ordering_index first ≤ ordering_index second → is_lt first ≡ false →
    second ≡ Equal → first ≡ Equal
equal_between Less second le low eq = absurd (true≢false low)
equal_between Equal second le low eq = refl
equal_between Greater second le low eq = absurd (omega (arith, ap ordering_index eq))

-- ---- names that clash are equal in the order, and no others
pub equal_clash : (name held : List ℕ) → name_cmp held name ≡ Equal → clash name held ≡ true
equal_clash name held same =
    let bytes : letters_cmp (map fold held) (map fold name) ≡ Equal =
    second_equal (letters_cmp (letters_of held) (letters_of name)) (letters_cmp (map fold held) (map fold name)) same in
    clash_back held name (sym (is_eq-slice_cmp (map fold held) (map fold name)) ∙ ap is_eq bytes)

pub clash_equal : (name held : List ℕ) → clash name held ≡ true → name_cmp held name ≡ Equal
clash_equal name held alike =
    let same : map fold held ≡ map fold name = sym (folds_alike name held alike) in
    let first : letters_cmp (letters_of held) (letters_of name) ≡ Equal =
    ap (λ bytes. letters_cmp (letters false (outside false bytes)) (letters_of name)) same
    ∙ tied_itself letters_total (letters_of name) in
    let second : letters_cmp (map fold held) (map fold name) ≡ Equal =
    ap (λ bytes. letters_cmp bytes (map fold name)) same ∙ tied_itself letters_total (map fold name) in
    ap (λ o. ordering_then o (letters_cmp (map fold held) (map fold name))) first ∙ second

pub clash_itself : (name : List ℕ) → clash name name ≡ true
clash_itself name = equal_clash name name (tied_itself name_total name)

module _ (entries : List (ℕ × List ℕ)) where
  by_letters : (order : List ℕ) → IsByName entries order → IsSortedByKey (letters_in entries) letters_cmp order
  by_letters order sorted = λ k d low high.
      let first = name_in entries (get_or order (k + 1) d) in
      let second = name_in entries (get_or order k d) in
      first_up (letters_cmp (letters_of first) (letters_of second)) (letters_cmp (map fold first) (map fold second))
      (sorted k d low high)

  -- how the names stand to what is asked for does not fall along the order
  pub rises : (by : By) (asked order : List ℕ) → IsByName entries order →
      IsNonDecreasingBy (λ number. ordering_index (cmp_by by (name_in entries number) asked)) order
  rises Name asked order sorted = searchable_from_sorted name_total (name_in entries) order asked sorted
  rises Letters asked order sorted =
      searchable_from_sorted letters_total (letters_in entries) order asked (by_letters order sorted)

  pub below_first : (by : By) (asked order : List ℕ) → IsByName entries order →
      IsPartitionedBy (is_below entries by asked) order
  below_first by asked order sorted = λ i j d le lt below.
      not_above _ _ (rises by asked order sorted i j d le lt) below

  -- the letters of what comes later are not below
  pub not_below_later : (order : List ℕ) → IsByName entries order → (i j d : ℕ) → i ≤ j → j < length order →
      is_lt (letters_cmp (letters_in entries (get_or order j d)) (letters_in entries (get_or order i d))) ≡ false
  not_below_later order sorted i j d le lt =
      let first = letters_in entries (get_or order i d) in
      not_low (letters_cmp first first) (letters_cmp (letters_in entries (get_or order j d)) first)
      (rises Letters first order sorted i j d le lt) (tied_itself letters_total first)

  -- a name that clashes with one of the order clashes with the one at its own place
  pub first_alike : (name order : List ℕ) (place k : ℕ) → IsByName entries order → k < length order →
      IsPartitionPoint (λ number. is_below entries Name name number ≡ true)
      (λ number. is_below entries Name name number ≡ false) order place →
      clash name (name_in entries (get_or order k 0)) ≡ true →
      (place < length order) × (clash name (name_in entries (get_or order place 0)) ≡ true)
  first_alike name order place k sorted lt point alike =
      let at : (i : ℕ) → Ordering = λ i. name_cmp (name_in entries (get_or order i 0)) name in
      let equal : at k ≡ Equal = clash_equal name (name_in entries (get_or order k 0)) alike in
      let le : place ≤ k = by (cases_lt k place) equal in
      let first : at place ≡ Equal =
      equal_between (at place) (at k) (rises Name name order sorted place k 0 le lt)
      (point.1 place 0 (omega arith) (omega arith)) equal in
      (omega arith, equal_clash name (name_in entries (get_or order place 0)) first)
    where
      by : (k < place) ⊎ (place ≤ k) → name_cmp (name_in entries (get_or order k 0)) name ≡ Equal → place ≤ k
      by (inl before) equal = absurd (true≢false (sym (point.0 k 0 (omega arith) before) ∙ ap is_lt equal))
      by (inr after) equal = after

  pub once_at_most : (number : ℕ) (order : List ℕ) → StandsOnce entries order → count_by (eqb number) order ≤ 1
  once_at_most number order once = by (is_some (lookup (eqb number) entries)) (once number)
    where
      by : (known : Bool) → count_by (eqb number) order ≡ cond known 1 0 → count_by (eqb number) order ≤ 1
      by true is = omega (arith, is)
      by false is = omega (arith, is)
