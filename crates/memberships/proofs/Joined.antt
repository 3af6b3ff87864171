-- Who is among those that joined a conference first: who joined before the next one.
use Rattle.std.proofs.Common.{◌≡◌, ℕ, zero, suc, ◌<◌, Bool, true, false, ◌||◌, eqb, ltb, nat_eq, List, [], ◌∷◌, map}
use Rattle.std.proofs.Common.{filter, take, Option, Some, None, option_map, inl, inr, refl, sym, ◌∙◌, ap, arith}
use Rattle.std.specs.Prelude.{slice_get}
use Rattle.std.specs.List.{AllByRecursion, list_any}
use Rattle.std.proofs.lemmas.Bool.{cases_Bool, eqb-true, eq-eqb, ne_eqb, lt-ltb, false≢true, true≢false}
use Rattle.std.proofs.lemmas.Bool.Decides.{nat_tests}
use Rattle.std.proofs.lemmas.Option.{none-some, same_Some}
use Rattle.kom_types.specs.declared.memberships.MembershipRow.{MembershipRow}
use Rattle.kom_types.specs.tables.Memberships.{members_of}
use Rattle.memberships.specs.declared.kept.Kept.{Kept}
use Rattle.memberships.specs.Entries.{Key, Entry, row_of, in_turn, rows_of, kept_at}
use Rattle.memberships.specs.Keeping.{IsTable}
use Rattle.memberships.proofs.Finding.{person_there, persons_place, entry_kept, entry_in}
use Rattle.memberships.proofs.Order.{Rises}
use Rattle.memberships.proofs.Pairs.{all_both, all_filter, all_at, filter_passes, pairwise_filter}
use Rattle.memberships.proofs.Places.{flip_eqb}
use Rattle.memberships.proofs.Turns.{turn, AreInTurn, in_turn_is, all_in_turn}
use Rattle.memberships.proofs.Viewing.{members}

-- ---- lists
module _ {X : Type 0} where
  any_alike : (one other : X → Bool) (xs : List X) → AllByRecursion (λ x. one x ≡ other x) xs →
      list_any one xs ≡ list_any other xs
  any_alike one other [] all = refl
  any_alike one other (x ∷ xs) all = λ i. all.0 i || any_alike one other xs all.1 i

  all_first : (P : X → Type 0) (xs : List X) (count : ℕ) → AllByRecursion P xs → AllByRecursion P (take count xs)
  all_first P xs zero all = tt
  all_first P [] (suc count) all = tt
  all_first P (x ∷ xs) (suc count) all = (all.0, all_first P xs count all.1)

  any_none : (xs : List X) → list_any (λ (x : X). false) xs ≡ false
  any_none [] = refl
  any_none (x ∷ xs) = any_none xs

  any_map : {Y : Type 0} (f : X → Y) (test : Y → Bool) (xs : List X) →
      list_any test (map f xs) ≡ list_any (λ x. test (f x)) xs
  any_map f test [] = refl
  any_map f test (x ∷ xs) = ap (λ b. test (f x) || b) (any_map f test xs)

  first_map : {Y : Type 0} (f : X → Y) (xs : List X) (count : ℕ) → take count (map f xs) ≡ map f (take count xs)
  first_map f xs zero = refl
  first_map f [] (suc count) = refl
  first_map f (x ∷ xs) (suc count) = ap (λ l. f x ∷ l) (first_map f xs count)

  -- the first are all where there are no more
  take_whole : (xs : List X) (count : ℕ) → slice_get xs count ≡ None → take count xs ≡ xs
  take_whole [] zero none = refl
  take_whole [] (suc count) none = refl
  take_whole (x ∷ xs) zero none = absurd (none-some x (sym none))
  take_whole (x ∷ xs) (suc count) none = ap (λ l. x ∷ l) (take_whole xs count none)

  -- where numbers rise, one of them is among the first if it is below the next
  module _ (number : X → ℕ) where
    abbrev has : ℕ → List X → Bool
    has n xs = list_any (λ x. eqb (number x) n) xs

    later : (least n : ℕ) (xs : List X) → AllByRecursion (λ x. least < number x) xs → has n xs ≡ true → least < n
    later least n [] all there = absurd (false≢true there)
    later least n (x ∷ xs) all there = elim (cases_Bool (eqb (number x) n)) [
      | inl is ↦ omega (arith, all.0, eqb-true (number x) n is)
      | inr other ↦ later least n xs all.1 (rw other at there)
    ]

    -- one that is there is not below the first
    not_below : (n : ℕ) (x : X) (xs : List X) → Rises number (x ∷ xs) → has n (x ∷ xs) ≡ true →
        ltb n (number x) ≡ false
    not_below n x xs rises there = elim (cases_Bool (eqb (number x) n)) [
      | inl is ↦ let same : number x ≡ n = eqb-true (number x) n is in grind (arith, nat_tests, same)
      | inr other ↦ let above : number x < n = later (number x) n xs rises.0 (rw other at there) in
          grind (arith, nat_tests, above)
    ]

    below_next : (n count : ℕ) (xs : List X) (next : X) → Rises number xs → has n xs ≡ true →
        slice_get xs count ≡ Some next → has n (take count xs) ≡ ltb n (number next)
    below_next n count [] next rises there at = absurd (none-some next at)
    below_next n zero (x ∷ xs) next rises there at =
        sym (not_below n x xs rises there) ∙ ap (λ y. ltb n (number y)) (same_Some x next at)
    below_next n (suc count) (x ∷ xs) next rises there at = elim (cases_Bool (eqb (number x) n)) [
      | inl is ↦ rw is
          (sym (lt-ltb n (number next)
          (omega (
            arith,
            eqb-true (number x) n is,
            all_at (λ y. number x < number y) xs count next rises.0 at,
          ))))
      | inr other ↦ rw other (below_next n count xs next rises.1 (rw other at there) at)
    ]

module _ (es : List Entry) (next : ℕ) (conferences persons : ℕ → List ℕ)
    (table : IsTable es next conferences persons) where
  -- the entries in a conference, in the order of joining
  abbrev inside : ℕ → List Entry
  inside c = filter (λ e. eqb e.0.1 c) (in_turn es)

  turns : AreInTurn (in_turn es) (λ key. kept_at key es)
  turns = in_turn_is es table.unique table.apart

  -- what holds of each that is kept in a conference holds of these
  all_inside : (P : Entry → Type 0) (c : ℕ) →
      ((key : Key) (kept : Kept) → kept_at key es ≡ Some kept → key.1 ≡ c → P (key, kept)) →
      AllByRecursion P (inside c)
  all_inside P c each =
      all_both (λ (e : Entry). e.0.1 ≡ c → P e) (λ (e : Entry). eqb e.0.1 c ≡ true) P
      (λ e holds is. holds (eqb-true e.0.1 c is)) (inside c)
      (all_filter (λ (e : Entry). e.0.1 ≡ c → P e) (λ (e : Entry). eqb e.0.1 c) (in_turn es)
      (all_in_turn (λ (e : Entry). e.0.1 ≡ c → P e) (in_turn es) (λ key. kept_at key es) turns each))
      (filter_passes (λ (e : Entry). eqb e.0.1 c) (in_turn es))

  -- the first members, by their entries
  first_members : (p c count : ℕ) →
      list_any (λ row. eqb row.person p) (take count (members_of c (rows_of conferences es)))
      ≡ list_any (λ e. eqb e.0.0 p) (take count (inside c))
  first_members p c count =
      ap (λ (rows : List MembershipRow). list_any (λ row. eqb row.person p) (take count rows))
      (members es next conferences persons table c)
      ∙ ap (list_any (λ (row : MembershipRow). eqb row.person p)) (first_map (row_of conferences) (inside c) count)
      ∙ any_map (row_of conferences) (λ row. eqb row.person p) (take count (inside c))

  module _ (p c : ℕ) (kept : Kept) (there : kept_at (p, c) es ≡ Some kept) where
    -- the person's entry is the one with its turn
    by_turn : AllByRecursion (λ e. eqb e.0.0 p ≡ eqb (turn e) kept.turn) (inside c)
    by_turn = all_inside (λ e. eqb e.0.0 p ≡ eqb (turn e) kept.turn) c each
      where
        each : (key : Key) (other : Kept) → kept_at key es ≡ Some other → key.1 ≡ c →
            eqb key.0 p ≡ eqb other.turn kept.turn
        each key other is within = elim (cases_Bool (eqb key.0 p)) [
          | inl same ↦
              let own : key ≡ (p, c) = λ i. (eqb-true key.0 p same i, within i) in
              let one : other ≡ kept = same_Some other kept (sym is ∙ ap (λ k. kept_at k es) own ∙ there) in
              same ∙ sym (eq-eqb other.turn kept.turn (ap (λ (k : Kept). k.turn) one))
          | inr unlike ↦
              unlike
              ∙ sym (ne_eqb other.turn kept.turn (λ e.
              let own : key ≡ (p, c) =
              table.apart key (p, c) kept.turn (ap (option_map (λ k. k.turn)) is ∙ ap Some e)
              (ap (option_map (λ k. k.turn)) there) in
              true≢false (sym (eq-eqb key.0 p (ap (λ (k : Key). k.0) own)) ∙ unlike)))
        ]

    -- it is there
    is_inside : list_any (λ e. eqb e.0.0 p) (inside c) ≡ true
    is_inside =
        (λ i. list_any (λ (e : Entry). flip_eqb e.0.0 p i) (inside c))
        ∙ sym (any_map (λ (e : Entry). e.0.0) (nat_eq p) (inside c))
        ∙ ap (list_any (nat_eq p)) (sym (table.in_order c))
        ∙ person_there es next conferences persons table p c kept there

    -- all are among the first where there are no more
    pub whole_first : (count : ℕ) → slice_get (persons c) count ≡ None →
        list_any (λ row. eqb row.person p) (take count (members_of c (rows_of conferences es))) ≡ true
    whole_first count none =
        first_members p c count
        ∙ ap (list_any (λ (e : Entry). eqb e.0.0 p))
        (take_whole (inside c) count
        (beyond (slice_get (inside c) count) (persons_place es next conferences persons table c count)))
        ∙ is_inside
      where
        beyond : (o : Option Entry) → slice_get (persons c) count ≡ option_map (λ e. e.0.0) o → o ≡ None
        beyond None e = refl
        beyond (Some entry) e = absurd (none-some entry.0.0 (sym none ∙ e))

    -- else those with earlier turns than the next
    pub before_next : (count person : ℕ) (other : Kept) → slice_get (persons c) count ≡ Some person →
        kept_at (person, c) es ≡ Some other →
        list_any (λ row. eqb row.person p) (take count (members_of c (rows_of conferences es)))
        ≡ ltb kept.turn other.turn
    before_next count person other at its =
        first_members p c count
        ∙ any_alike (λ (e : Entry). eqb e.0.0 p) (λ e. eqb (turn e) kept.turn) (take count (inside c))
        (all_first (λ e. eqb e.0.0 p ≡ eqb (turn e) kept.turn) (inside c) count by_turn)
        ∙ by (slice_get (inside c) count) refl
      where
        by : (o : Option Entry) → slice_get (inside c) count ≡ o →
            list_any (λ e. eqb (turn e) kept.turn) (take count (inside c)) ≡ ltb kept.turn other.turn
        by None e = absurd (none-some person
            (sym (ap (option_map (λ (x : Entry). x.0.0)) e)
            ∙ sym (persons_place es next conferences persons table c count) ∙ at))
        by (Some entry) e =
            let is : entry.0.0 ≡ person =
            same_Some _ _ (sym (ap (option_map (λ (x : Entry). x.0.0)) e)
            ∙ sym (persons_place es next conferences persons table c count) ∙ at) in
            let of : entry.0.1 ≡ c = entry_in es next conferences persons table c count entry e in
            let one : entry.1 ≡ other =
            same_Some _ _ (sym (entry_kept es next conferences persons table c count entry e)
            ∙ (λ i. kept_at (is i, of i) es) ∙ its) in
            below_next turn kept.turn count (inside c) entry
            (pairwise_filter (λ (x y : Entry). turn x < turn y) (λ (x : Entry). eqb x.0.1 c) (in_turn es) turns.rises)
            (sym (any_alike (λ (x : Entry). eqb x.0.0 p) (λ x. eqb (turn x) kept.turn) (inside c) by_turn)
            ∙ is_inside) e
            ∙ ap (λ (k : Kept). ltb kept.turn k.turn) one

  -- who is no member is not among them
  pub none_first : (p c count : ℕ) → kept_at (p, c) es ≡ None →
      list_any (λ row. eqb row.person p) (take count (members_of c (rows_of conferences es))) ≡ false
  none_first p c count none =
      first_members p c count
      ∙ any_alike (λ (e : Entry). eqb e.0.0 p) (λ (e : Entry). false) (take count (inside c))
      (all_first (λ (e : Entry). eqb e.0.0 p ≡ false) (inside c) count
      (all_inside (λ e. eqb e.0.0 p ≡ false) c each))
      ∙ any_none (take count (inside c))
    where
      each : (key : Key) (kept : Kept) → kept_at key es ≡ Some kept → key.1 ≡ c → eqb key.0 p ≡ false
      each key kept is within = elim (cases_Bool (eqb key.0 p)) [
        | inl same ↦
            let own : key ≡ (p, c) = λ i. (eqb-true key.0 p same i, within i) in
            absurd (none-some kept (sym none ∙ ap (λ k. kept_at k es) (sym own) ∙ is))
        | inr unlike ↦ unlike
      ]
