-- Memberships that are set, or taken away, are the same but for what is masked, whether that was masked before or not.
use Rattle.std.proofs.Common.{◌≡◌, ℕ, ◌+◌, ◌-◌, Bool, true, cond, not, ◌==◌, ◌&&◌, List, [], ◌∷◌, ◌++◌}
use Rattle.std.proofs.Common.{suc, eqb-true, subst, Option, Some, None, refl, sym, ap, ap₂, ◌∙◌, inl, inr, nat_lt}
use Rattle.std.proofs.Common.{nat_le}
use Rattle.std.specs.Prelude.{map, option_map, min}
use Rattle.std.specs.List.{filter, find}
use Rattle.std.proofs.lemmas.Bool.{cases_Bool, and_parts}
use Rattle.kom_types.specs.declared.memberships.MembershipRow.{MembershipRow}
use Rattle.kom_types.specs.tables.Memberships.{is_membership, closed_up, with_gap, at_place, count_of}
use Rattle.kom_types.specs.tables.Memberships.{with_membership, without_membership, with_new, set_again}
use Rattle.kom_types.specs.tables.Memberships.{membership_of}
use Rattle.read_ranges.specs.Reads.{read_at}
use Rattle.kom_laws.specs.masking.Masks.{Mask, masked_membership, blank_membership}
use Rattle.kom_laws.proofs.masking.Rows.{filter-changed, same-changed}
use Rattle.kom_model.proofs.whole.Found.{find-mapped}
use Rattle.kom_laws.proofs.masking.Listed.{map-twice}
use Rattle.kom_laws.proofs.masking.Numbered.{picked-masked}

module _ (mask : Mask) where
  membership-tests : {Y : Type 0} (tell : MembershipRow → Y) (row : MembershipRow) →
      tell (blank_membership row) ≡ tell row → tell (masked_membership mask row) ≡ tell row
  membership-tests tell row same = same-changed tell (mask.conference row.conference) _ row same

  pub membership-twice : (row : MembershipRow) →
      masked_membership mask (masked_membership mask row) ≡ masked_membership mask row
  membership-twice row = elim (cases_Bool (mask.conference row.conference)) [
    | inl hidden ↦ rw hidden (rw hidden refl)
    | inr shown ↦ rw shown (rw shown refl)
  ]

  -- memberships that a test picks are changed
  picked : (pick : MembershipRow → Bool) (change : MembershipRow → MembershipRow) →
      ((row : MembershipRow) → pick (blank_membership row) ≡ pick row) →
      ((row : MembershipRow) → (change row).conference ≡ row.conference) →
      ((row : MembershipRow) → blank_membership (change (blank_membership row)) ≡ blank_membership (change row)) →
      (rows : List MembershipRow) →
      map (masked_membership mask) (map (λ row. cond (pick row) (change row) row) (map (masked_membership mask) rows))
      ≡ map (masked_membership mask) (map (λ row. cond (pick row) (change row) row) rows)
  picked pick change picks keeps same rows = picked-masked (λ row. row.conference) mask.conference blank_membership
      (λ row. refl) (λ row. refl) pick change picks keeps same rows

  pub read-set : (person conference at : ℕ) (rows : List MembershipRow) →
      map (masked_membership mask) (read_at person conference at (map (masked_membership mask) rows))
      ≡ map (masked_membership mask) (read_at person conference at rows)
  read-set person conference at rows = picked (is_membership person conference)
      (λ row. record row { last_time_read = at }) (λ row. refl) (λ row. refl) (λ row. refl) rows

  closed-masked : (person place : ℕ) (rows : List MembershipRow) →
      map (masked_membership mask) (closed_up person place (map (masked_membership mask) rows))
      ≡ map (masked_membership mask) (closed_up person place rows)
  closed-masked person place rows = picked (λ row. row.person == person && nat_lt place row.position)
      (λ row. at_place (row.position - 1) row) (λ row. refl) (λ row. refl) (λ row. refl) rows

  opened-masked : (person place : ℕ) (rows : List MembershipRow) →
      map (masked_membership mask) (with_gap person place (map (masked_membership mask) rows))
      ≡ map (masked_membership mask) (with_gap person place rows)
  opened-masked person place rows = picked (λ row. row.person == person && nat_le place row.position)
      (λ row. at_place (row.position + 1) row) (λ row. refl) (λ row. refl) (λ row. refl) rows

  is-masked : (person conference : ℕ) (row : MembershipRow) →
      is_membership person conference (masked_membership mask row) ≡ is_membership person conference row
  is-masked person conference row = membership-tests (is_membership person conference) row refl

  count-masked : (person : ℕ) (rows : List MembershipRow) →
      count_of person (map (masked_membership mask) rows) ≡ count_of person rows
  count-masked person [] = refl
  count-masked person (row ∷ rows) =
      let same : ((masked_membership mask row).person == person) ≡ (row.person == person) =
      membership-tests (λ row. row.person == person) row refl in
      let rest = count-masked person rows in
      elim (cases_Bool (row.person == person)) [
        | inl here ↦ rw same (rw here (ap suc rest))
        | inr there ↦ rw same (rw there rest)
      ]

  pub gone-membership : (person conference : ℕ) (rows : List MembershipRow) →
      map (masked_membership mask) (without_membership person conference (map (masked_membership mask) rows))
      ≡ map (masked_membership mask) (without_membership person conference rows)
  gone-membership person conference rows =
      ap (λ (found : Option MembershipRow). map (masked_membership mask) (elim found [
        | None ↦ map (masked_membership mask) rows
        | Some row ↦ closed_up person row.position (filter (λ row. not (is_membership person conference row))
            (map (masked_membership mask) rows))
      ])) (find-mapped (is_membership person conference) (masked_membership mask) (is-masked person conference) rows)
      ∙ by-found (membership_of person conference rows) where
        by-found : (found : Option MembershipRow) →
            map (masked_membership mask) (elim (option_map (masked_membership mask) found) [
              | None ↦ map (masked_membership mask) rows
              | Some row ↦ closed_up person row.position (filter (λ row. not (is_membership person conference row))
                  (map (masked_membership mask) rows))
            ])
            ≡ map (masked_membership mask) (elim found [
              | None ↦ rows
              | Some row ↦ closed_up person row.position
                  (filter (λ row. not (is_membership person conference row)) rows)
            ])
        by-found None = map-twice (masked_membership mask) membership-twice rows
        by-found (Some row) =
            let test : MembershipRow → Bool = λ row. not (is_membership person conference row) in
            ap (λ place. map (masked_membership mask) (closed_up person place
            (filter test (map (masked_membership mask) rows)))) (membership-tests (λ row. row.position) row refl)
            ∙ ap (λ rows. map (masked_membership mask) (closed_up person row.position rows))
            (filter-changed test (masked_membership mask) (λ row. ap not (is-masked person conference row)) rows)
            ∙ closed-masked person row.position (filter test rows)

  map-added : (rows : List MembershipRow) (given : MembershipRow) →
      map (masked_membership mask) (rows ++ given ∷ [])
      ≡ map (masked_membership mask) rows ++ masked_membership mask given ∷ []
  map-added [] given = refl
  map-added (row ∷ rows) given = ap (λ others. masked_membership mask row ∷ others) (map-added rows given)

  new-membership : (given : MembershipRow) (rows : List MembershipRow) →
      map (masked_membership mask) (with_new given (map (masked_membership mask) rows))
      ≡ map (masked_membership mask) (with_new given rows)
  new-membership given rows =
      let place = min given.position (count_of given.person rows) in
      ap (λ count. let place = min given.position count in map (masked_membership mask)
      (with_gap given.person place (map (masked_membership mask) rows) ++ at_place place given ∷ []))
      (count-masked given.person rows)
      ∙ map-added (with_gap given.person place (map (masked_membership mask) rows)) (at_place place given)
      ∙ ap (λ rows. rows ++ masked_membership mask (at_place place given) ∷ [])
      (opened-masked given.person place rows)
      ∙ sym (map-added (with_gap given.person place rows) (at_place place given))

  -- rows in which another row stands, that is the same once it is masked
  replaced-masked : (person conference : ℕ) (given given' : MembershipRow) →
      masked_membership mask given' ≡ masked_membership mask given → (rows : List MembershipRow) →
      map (masked_membership mask) (map (λ row. cond (is_membership person conference row) given' row)
      (map (masked_membership mask) rows))
      ≡ map (masked_membership mask) (map (λ row. cond (is_membership person conference row) given row) rows)
  replaced-masked person conference given given' same [] = refl
  replaced-masked person conference given given' same (row ∷ rows) =
      let rest = replaced-masked person conference given given' same rows in
      elim (cases_Bool (is_membership person conference row)) [
        | inl here ↦ rw (is-masked person conference row) (rw here
            (ap₂ (λ (first : MembershipRow) (others : List MembershipRow). first ∷ others) same rest))
        | inr there ↦ rw (is-masked person conference row) (rw there
            (ap₂ (λ (first : MembershipRow) (others : List MembershipRow). first ∷ others)
            (membership-twice row) rest))
      ]

  -- the mask of rows goes through one change, and then another
  through : (first second : List MembershipRow → List MembershipRow) →
      ((rows : List MembershipRow) → map (masked_membership mask) (first (map (masked_membership mask) rows))
      ≡ map (masked_membership mask) (first rows)) →
      ((rows : List MembershipRow) → map (masked_membership mask) (second (map (masked_membership mask) rows))
      ≡ map (masked_membership mask) (second rows)) → (rows : List MembershipRow) →
      map (masked_membership mask) (second (first (map (masked_membership mask) rows)))
      ≡ map (masked_membership mask) (second (first rows))
  through first second firsts seconds rows =
      sym (seconds (first (map (masked_membership mask) rows)))
      ∙ ap (λ rows. map (masked_membership mask) (second rows)) (firsts rows)
      ∙ seconds (first rows)

  kept-time : (given old : MembershipRow) (place : ℕ) → old.conference ≡ given.conference →
      masked_membership mask (at_place place (record given {
        last_time_read = (masked_membership mask old).last_time_read;
      }))
      ≡ masked_membership mask (at_place place (record given { last_time_read = old.last_time_read }))
  kept-time given old place same = elim (cases_Bool (mask.conference given.conference)) [
    | inl hidden ↦ rw hidden refl
    | inr shown ↦ rw same (rw shown refl)
  ]

  again : (given old : MembershipRow) (rows : List MembershipRow) → old.conference ≡ given.conference →
      map (masked_membership mask) (set_again given (masked_membership mask old) (map (masked_membership mask) rows))
      ≡ map (masked_membership mask) (set_again given old rows)
  again given old rows same =
      let given' = masked_membership mask old in
      let put : ℕ → MembershipRow → MembershipRow =
      λ place old. at_place place (record given { last_time_read = old.last_time_read }) in
      let moved : ℕ → ℕ → List MembershipRow → List MembershipRow =
      λ place from rows. with_gap given.person place (closed_up given.person from rows) in
      let replace : MembershipRow → List MembershipRow → List MembershipRow =
      λ row rows. map (λ other. cond (is_membership given.person given.conference other) row other) rows in
      let place = min given.position (count_of given.person rows - 1) in
      ap₂ (λ count from. let place = min given.position (count - 1) in
      map (masked_membership mask) (replace (put place given') (moved place from (map (masked_membership mask) rows))))
      (count-masked given.person rows) (membership-tests (λ row. row.position) old refl)
      ∙ sym (replaced-masked given.person given.conference (put place given') (put place given') refl
      (moved place old.position (map (masked_membership mask) rows)))
      ∙ ap (λ rows. map (masked_membership mask) (replace (put place given') rows))
      (through (closed_up given.person old.position) (with_gap given.person place)
      (closed-masked given.person old.position) (opened-masked given.person place) rows)
      ∙ replaced-masked given.person given.conference (put place old) (put place given')
      (kept-time given old place same) (moved place old.position rows)

  abbrev Passes : ℕ → ℕ → Option MembershipRow → Type 0
  Passes person conference None = Unit {0}
  Passes person conference (Some row) = is_membership person conference row ≡ true

  found-is : (person conference : ℕ) (rows : List MembershipRow) (row : MembershipRow) →
      find (is_membership person conference) rows ≡ Some row → is_membership person conference row ≡ true
  found-is person conference [] row found = cc
  found-is person conference (first ∷ rows) row found =
      elim (cases_Bool (is_membership person conference first)) [
        | inl here ↦
            let same : Some first ≡ Some row = rw here at found in
            subst (Passes person conference) same here
        | inr there ↦ found-is person conference rows row (rw there at found)
      ]

  pub set-membership : (given : MembershipRow) (rows : List MembershipRow) →
      map (masked_membership mask) (with_membership given (map (masked_membership mask) rows))
      ≡ map (masked_membership mask) (with_membership given rows)
  set-membership given rows =
      ap (λ (found : Option MembershipRow). map (masked_membership mask) (elim found [
        | None ↦ with_new given (map (masked_membership mask) rows)
        | Some old ↦ set_again given old (map (masked_membership mask) rows)
      ])) (find-mapped (is_membership given.person given.conference) (masked_membership mask)
      (is-masked given.person given.conference) rows)
      ∙ by-found (membership_of given.person given.conference rows) refl where
        by-found : (found : Option MembershipRow) → membership_of given.person given.conference rows ≡ found →
            map (masked_membership mask) (elim (option_map (masked_membership mask) found) [
              | None ↦ with_new given (map (masked_membership mask) rows)
              | Some old ↦ set_again given old (map (masked_membership mask) rows)
            ])
            ≡ map (masked_membership mask) (elim found [
              | None ↦ with_new given rows
              | Some old ↦ set_again given old rows
            ])
        by-found None found = new-membership given rows
        by-found (Some old) found = again given old rows (eqb-true old.conference given.conference
            (and_parts _ _ (found-is given.person given.conference rows old found)).1)
