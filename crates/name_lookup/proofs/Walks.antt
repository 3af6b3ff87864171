-- What a test keeps of the first of a list, as more of them are looked at.
use Rattle.std.proofs.Common.{◌≡◌, ℕ, ◌+◌, ◌<◌, ◌≤◌, Bool, true, false, cond, List, [], ◌∷◌, ◌++◌, length, take, get_or}
use Rattle.std.proofs.Common.{filter, is_lt, max, refl, sym, ap, ap₂, subst, ◌∙◌, add-zero, append_assoc, ◌⊎◌, inl, inr}
use Rattle.std.proofs.Common.{zero, suc, arith}
use Rattle.std.specs.List.{AllWithin}
use Rattle.std.proofs.lemmas.Bool.{cases_eq}
use Rattle.std.proofs.lemmas.List.{append-nil, get_or_default, take_more}
use Rattle.std.proofs.lemmas.List.Elements.{filter-append}
use Rattle.name_lookup.specs.declared.order.By.TheVariants.{Letters}
use Rattle.name_lookup.specs.declared.steps.Step.{Step}
use Rattle.name_lookup.specs.declared.steps.Step.TheVariants.{Found, Seek, End}
use Rattle.name_lookup.specs.declared.walking.Passed.{Passed}
use Rattle.name_lookup.specs.Blocks.{StandsAt}
use Rattle.name_lookup.specs.Letters.{letters_of, matches}
use Rattle.name_lookup.specs.Order.{letters_cmp, name_in, letters_in, is_below, IsByName}
use Rattle.name_lookup.specs.Steps.{IsStepOf}
use Rattle.name_lookup.specs.Walks.{StopsBy, PassesFound}
use Rattle.name_lookup.proofs.Orders.{not_below_later}

module _ {X : Type 0} (p : X → Bool) where
  -- some more, of which none passes
  pub filter_on : (xs : List X) (i j : ℕ) → i ≤ j → j ≤ length xs →
      ((k : ℕ) (d : X) → i ≤ k → k < j → p (get_or xs k d) ≡ false) → filter p (take j xs) ≡ filter p (take i xs)
  filter_on [] zero zero le within none = refl
  filter_on [] i (suc j) le within none = absurd (omega arith)
  filter_on [] (suc i) zero le within none = absurd (omega arith)
  filter_on (x ∷ xs) zero zero le within none = refl
  filter_on (x ∷ xs) (suc i) zero le within none = absurd (omega arith)
  filter_on (x ∷ xs) zero (suc j) le within none =
      let here : p x ≡ false = none 0 x (omega arith) (omega arith) in
      rw here (filter_on xs zero j (omega arith) (omega arith)
      (λ k d low high. none (suc k) d (omega arith) (omega arith)))
  filter_on (x ∷ xs) (suc i) (suc j) le within none =
      let rest = filter_on xs i j (omega arith) (omega arith)
      (λ k d low high. none (suc k) d (omega arith) (omega arith)) in
      ap (λ l. cond (p x) (x ∷ l) l) rest

-- some that stand there all pass
pub filter_ahead : (p : ℕ → Bool) (xs ahead : List ℕ) (place n : ℕ) → place + n ≤ length xs → n ≤ length ahead →
    ((k : ℕ) → k < n → get_or ahead k 0 ≡ get_or xs (place + k) 0) → ((k : ℕ) → k < n → p (get_or ahead k 0) ≡ true) →
    filter p (take (place + n) xs) ≡ filter p (take place xs) ++ take n ahead
filter_ahead p xs ahead place zero within le same hit =
    ap (λ i. filter p (take i xs)) (add-zero place) ∙ sym (append-nil (filter p (take place xs)))
filter_ahead p xs ahead place (suc n) within le same hit =
    let rest = filter_ahead p xs ahead place n (omega arith) (omega arith) (λ k lt. same k (omega arith))
    (λ k lt. hit k (omega arith)) in
    let x = get_or xs (place + n) 0 in
    let next : place + suc n ≡ (place + n) + 1 = omega arith in
    let more : suc n ≡ n + 1 = omega arith in
    let here : get_or ahead n 0 ≡ x = same n (omega arith) in
    let passes : p x ≡ true = ap p (sym here) ∙ hit n (omega arith) in
    let one : filter p (x ∷ []) ≡ x ∷ [] = rw passes refl in
    let longer : take (suc n) ahead ≡ take n ahead ++ x ∷ [] =
    ap (λ i. take i ahead) more ∙ take_more ahead n 0 (omega arith) ∙ ap (λ y. take n ahead ++ y ∷ []) here in
    ap (λ i. filter p (take i xs)) next ∙ ap (filter p) (take_more xs (place + n) 0 (omega arith))
    ∙ filter-append p (take (place + n) xs) (x ∷ []) ∙ ap₂ (λ l m. l ++ m) rest one
    ∙ append_assoc (filter p (take place xs)) (take n ahead) (x ∷ [])
    ∙ ap (λ l. filter p (take place xs) ++ l) (sym longer)

module _ (entries : List (ℕ × List ℕ)) (order pattern : List ℕ) (place : ℕ) (sorted : IsByName entries order)
    (there : place < length order) where
  -- what a look tells of the names after the one at a place
  pub none_sought : (target : List ℕ) (sought : ℕ) → sought ≤ length order →
      IsStepOf Seek pattern (letters_in entries (get_or order place 0)) target →
      AllWithin (λ number. is_lt (letters_cmp (letters_in entries number) target) ≡ true) order 0 sought →
      (k d : ℕ) → place ≤ k → k < max sought (place + 1) →
      matches pattern (letters_in entries (get_or order k d)) ≡ false
  none_sought target sought bound tells below k d low high =
      ap (λ number. matches pattern (letters_in entries number)) (get_or_default order k d 0 (omega arith))
      ∙ by (cases_eq k place)
    where
      by : (k ≡ place) ⊎ (k ≡ place → ⊥) → matches pattern (letters_in entries (get_or order k 0)) ≡ false
      by (inl is) = ap (λ i. matches pattern (letters_in entries (get_or order i 0))) is ∙ tells.0
      by (inr other) =
          tells.1 (letters_in entries (get_or order k 0))
          (not_below_later entries order sorted place k 0 low (omega arith))
          (below k 0 (omega arith) (omega arith))

  pub none_later : (target : List ℕ) → IsStepOf End pattern (letters_in entries (get_or order place 0)) target →
      (k d : ℕ) → place ≤ k → k < length order → matches pattern (letters_in entries (get_or order k d)) ≡ false
  none_later target tells k d low high =
      ap (λ number. matches pattern (letters_in entries number)) (get_or_default order k d 0 high)
      ∙ tells (letters_in entries (get_or order k 0)) (not_below_later entries order sorted place k 0 low high)

-- what a step tells where a walk along some numbers stops
pub stops_by : (step : Step) (entries : List (ℕ × List ℕ)) (pattern ahead : List ℕ) (len : ℕ) (name target : List ℕ) →
    (step ≡ Found → ⊥) → len < length ahead → name ≡ name_in entries (get_or ahead len 0) →
    IsStepOf step pattern (letters_of name) target → StopsBy step entries pattern ahead len target
stops_by Found entries pattern ahead len name target other lt is tells = absurd (other refl)
stops_by Seek entries pattern ahead len name target other lt is tells =
    (lt, subst (λ n. IsStepOf Seek pattern (letters_of n) target) is tells)
stops_by End entries pattern ahead len name target other lt is tells =
    (lt, subst (λ n. IsStepOf End pattern (letters_of n) target) is tells)

module _ (entries : List (ℕ × List ℕ)) (order pattern ahead : List ℕ) (place : ℕ) (passed : Passed)
    (target : List ℕ) (sorted : IsByName entries order) (stands : StandsAt ahead place order)
    (went : PassesFound entries pattern ahead passed target) where
  -- the names that were passed
  walked_on : filter (λ number. matches pattern (letters_in entries number)) (take (place + passed.len) order)
      ≡ filter (λ number. matches pattern (letters_in entries number)) (take place order) ++ take passed.len ahead
  walked_on =
      filter_ahead (λ number. matches pattern (letters_in entries number)) order ahead place passed.len
      (omega (arith, stands.within, went.within)) went.within
      (λ k lt. stands.same k (omega (arith, went.within))) went.found

  -- and all of them
  pub walked_all : passed.step ≡ Found → (0 < passed.len) × (place + passed.len ≤ length order) × (
      filter (λ number. matches pattern (letters_in entries number)) (take (place + passed.len) order)
      ≡ filter (λ number. matches pattern (letters_in entries number)) (take place order) ++ take passed.len ahead)
  walked_all is =
      let end : passed.len ≡ length ahead =
      subst (λ s. StopsBy s entries pattern ahead passed.len target) is went.stops in
      (omega (arith, stands.some), omega (arith, stands.within), walked_on)

  pub walked_to : passed.step ≡ Seek → (sought : ℕ) → sought ≤ length order →
      AllWithin (λ number. is_below entries Letters target number ≡ true) order 0 sought →
      (max sought (place + passed.len + 1) ≤ length order) × (
      filter (λ number. matches pattern (letters_in entries number)) (take (max sought (place + passed.len + 1)) order)
      ≡ filter (λ number. matches pattern (letters_in entries number)) (take place order) ++ take passed.len ahead)
  walked_to is sought bound below =
      let stops : StopsBy Seek entries pattern ahead passed.len target =
      subst (λ s. StopsBy s entries pattern ahead passed.len target) is went.stops in
      let lt : passed.len < length ahead = stops.0 in
      let there : place + passed.len < length order = omega (arith, stands.within) in
      let tells : IsStepOf Seek pattern (letters_in entries (get_or order (place + passed.len) 0)) target =
      subst (λ n. IsStepOf Seek pattern (letters_in entries n) target) (stands.same passed.len lt) stops.1 in
      let within : max sought (place + passed.len + 1) ≤ length order = omega arith in (
        within,
        filter_on (λ number. matches pattern (letters_in entries number)) order (place + passed.len)
            (max sought (place + passed.len + 1)) (omega arith) within
            (none_sought entries order pattern (place + passed.len) sorted there target sought bound tells below)
            ∙ walked_on,
      )

  pub walked_out : passed.step ≡ End →
      filter (λ number. matches pattern (letters_in entries number)) (take (length order) order)
      ≡ filter (λ number. matches pattern (letters_in entries number)) (take place order) ++ take passed.len ahead
  walked_out is =
      let stops : StopsBy End entries pattern ahead passed.len target =
      subst (λ s. StopsBy s entries pattern ahead passed.len target) is went.stops in
      let lt : passed.len < length ahead = stops.0 in
      let there : place + passed.len < length order = omega (arith, stands.within) in
      let tells : IsStepOf End pattern (letters_in entries (get_or order (place + passed.len) 0)) target =
      subst (λ n. IsStepOf End pattern (letters_in entries n) target) (stands.same passed.len lt) stops.1 in
      filter_on (λ number. matches pattern (letters_in entries number)) order (place + passed.len) (length order)
      (omega arith) (omega arith)
      (none_later entries order pattern (place + passed.len) sorted there target tells) ∙ walked_on
