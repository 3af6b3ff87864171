-- Effects that take rows away one by one: each fits, since its row is still there.
use Rattle.std.proofs.Common.{◌≡◌, ◌≤◌, Bool, true, false, not, ◌||◌, List, [], ◌∷◌, ◌++◌, length, refl, sym, ap}
use Rattle.std.proofs.Common.{◌∙◌, inl, inr, arith, subst, true≢false}
use Rattle.std.specs.Prelude.{map, is_some}
use Rattle.std.specs.List.{AllByRecursion, filter, find, list_any}
use Rattle.std.proofs.lemmas.Bool.{cases_Bool, and_from, or_left, or_right, not_from_false, not-true}
use Rattle.std.proofs.lemmas.Bool.{false_from_ne_true}
use Rattle.kom_types.specs.declared.effects.Effect.{Effect}
use Rattle.kom_model.specs.Db.{Db}
use Rattle.kom_model.specs.Effects.{fits, after_effect, apply, all_fit}
use Rattle.kom_laws.proofs.masking.Rows.{find-thinned}
use Rattle.kom_model.proofs.whole.Counts.{all-weaker, count-kept, none-counted}

-- what holds of rows, of those that pass, which pass
pub all-passing : {X : Type 0} (P : X → Type 0) (keep : X → Bool) (rows : List X) → AllByRecursion P rows →
    AllByRecursion (λ row. P row × (keep row ≡ true)) (filter keep rows)
all-passing P keep [] all = tt
all-passing P keep (row ∷ rows) all = elim (cases_Bool (keep row)) [
  | inl kept ↦ rw kept ((all.0, kept), all-passing P keep rows all.1)
  | inr gone ↦ rw gone (all-passing P keep rows all.1)
]

-- rows of which those go that pass a test; each is the same as itself, and as no other
module _ {X : Type 0} (same : X → X → Bool) (test : X → Bool)
    (own : (x : X) → test x ≡ true → same x x ≡ true)
    (key : (x y row : X) → test y ≡ true → same y row ≡ true → same x row ≡ same x y) where
  -- rows without these, one by one
  abbrev pub taken : List X → List X → List X
  taken [] rows = rows
  taken (x ∷ todo) rows = taken todo (filter (λ row. not (same x row)) rows)

  -- each of these is there as it goes
  abbrev pub ArePresent : List X → List X → Type 0
  ArePresent [] rows = Unit {0}
  ArePresent (x ∷ todo) rows =
      (is_some (find (same x) rows) ≡ true) × ArePresent todo (filter (λ row. not (same x row)) rows)

  -- no later row is the same
  abbrev AreApart : List X → Type 0
  AreApart [] = Unit {0}
  AreApart (x ∷ rows) = AllByRecursion (λ y. same x y ≡ false) rows × AreApart rows

  apart-once : (todo : List X) → AllByRecursion (λ x. test x ≡ true) todo →
      ((x : X) → length (filter (same x) todo) ≤ 1) → AreApart todo
  apart-once [] tests once = tt
  apart-once (x ∷ todo) tests once =
      let here : same x x ≡ true = own x tests.0 in
      let most : length (filter (same x) (x ∷ todo)) ≤ 1 = once x in
      let none : length (filter (same x) todo) ≡ 0 = let one = rw here at most in omega (arith, one) in
      (none-counted (same x) todo none, apart-once todo tests.1 (λ y. fewer y (once y))) where
        fewer : (y : X) → length (filter (same y) (x ∷ todo)) ≤ 1 → length (filter (same y) todo) ≤ 1
        fewer y most = elim (cases_Bool (same y x)) [
          | inl passes ↦ let one = rw passes at most in omega (arith, one)
          | inr fails ↦ rw fails at most
        ]

  -- where those that go are there, and differ, each is there as it goes
  present-apart : (todo rows : List X) → AllByRecursion (λ x. (is_some (find (same x) rows) ≡ true) × (test x ≡ true))
      todo → AreApart todo → ArePresent todo rows
  present-apart [] rows found apart = tt
  present-apart (x ∷ todo) rows found apart = (
    found.0.0,
    present-apart todo (filter (λ row. not (same x row)) rows)
        (still todo found.1 apart.0) apart.1,
  ) where
    still : (others : List X) → AllByRecursion (λ y. (is_some (find (same y) rows) ≡ true) × (test y ≡ true)) others →
        AllByRecursion (λ y. same x y ≡ false) others →
        AllByRecursion (λ y. (is_some (find (same y) (filter (λ row. not (same x row)) rows)) ≡ true) × (test y ≡ true))
        others
    still [] found apart = tt
    still (y ∷ others) found apart =
        let left : find (same y) (filter (λ row. not (same x row)) rows) ≡ find (same y) rows =
        find-thinned (same y) (λ row. not (same x row))
        (λ row is. not_from_false _ (key x y row found.0.1 is ∙ apart.0)) rows in
        ((ap is_some left ∙ found.0.0, found.0.1), still others found.1 apart.1)

  -- a row that passes is found among all
  pub found-among : (rows : List X) → AllByRecursion (λ x. test x ≡ true → is_some (find (same x) rows) ≡ true) rows
  found-among [] = tt
  found-among (row ∷ rows) = (
    λ is. let here : same row row ≡ true = own row is in rw here refl,
    all-weaker (λ x. test x ≡ true → is_some (find (same x) rows) ≡ true)
        (λ x. test x ≡ true → is_some (find (same x) (row ∷ rows)) ≡ true) (λ x found is. later x (found is)) rows
        (found-among rows),
  ) where
    later : (x : X) → is_some (find (same x) rows) ≡ true → is_some (find (same x) (row ∷ rows)) ≡ true
    later x found = elim (cases_Bool (same x row)) [
      | inl here ↦ rw here refl
      | inr there ↦ rw there found
    ]

  pub present : (rows : List X) → ((x : X) → length (filter (same x) rows) ≤ 1) → ArePresent (filter test rows) rows
  present rows once =
      let passing = all-passing (λ x. test x ≡ true → is_some (find (same x) rows) ≡ true) test rows
      (found-among rows) in
      present-apart (filter test rows) rows
      (all-weaker (λ x. (test x ≡ true → is_some (find (same x) rows) ≡ true) × (test x ≡ true))
      (λ x. (is_some (find (same x) rows) ≡ true) × (test x ≡ true)) (λ x both. (both.0 both.1, both.1))
      (filter test rows) passing)
      (apart-once (filter test rows)
      (all-weaker (λ x. (test x ≡ true → is_some (find (same x) rows) ≡ true) × (test x ≡ true))
      (λ x. test x ≡ true) (λ x both. both.1) (filter test rows) passing)
      (λ x. let most = once x in let less = count-kept (same x) test rows in omega (arith, most, less)))

  -- the same of those that go in any order
  pub present-of : (todo rows : List X) →
      AllByRecursion (λ x. (is_some (find (same x) rows) ≡ true) × (test x ≡ true)) todo →
      ((x : X) → length (filter (same x) todo) ≤ 1) → ArePresent todo rows
  present-of todo rows found once = present-apart todo rows found
      (apart-once todo (all-weaker (λ x. (is_some (find (same x) rows) ≡ true) × (test x ≡ true)) (λ x. test x ≡ true)
      (λ x both. both.1) todo found) once)

  -- none is left that passes
  pub gone-all : (todo rows : List X) →
      AllByRecursion (λ row. test row ≡ true → list_any (λ x. same x row) todo ≡ true) rows →
      AllByRecursion (λ row. test row ≡ false) (taken todo rows)
  gone-all [] rows named = all-weaker (λ row. test row ≡ true → false ≡ true) (λ row. test row ≡ false)
      (λ row no. false_from_ne_true _ (λ is. true≢false (sym (no is)))) rows named
  gone-all (x ∷ todo) rows named = gone-all todo (filter (λ row. not (same x row)) rows)
      (all-weaker (λ row. (test row ≡ true → (same x row || list_any (λ x. same x row) todo) ≡ true)
      × (not (same x row) ≡ true)) (λ row. test row ≡ true → list_any (λ x. same x row) todo ≡ true)
      (λ row both is. let other : same x row ≡ false = not-true _ both.1 in let some = both.0 is in rw other at some)
      (filter (λ row. not (same x row)) rows)
      (all-passing (λ row. test row ≡ true → (same x row || list_any (λ x. same x row) todo) ≡ true)
      (λ row. not (same x row)) rows named))

  pub named-among : (rows : List X) →
      AllByRecursion (λ row. test row ≡ true → list_any (λ x. same x row) (filter test rows) ≡ true) rows
  named-among [] = tt
  named-among (first ∷ rows) = (
    λ is. rw is (or_left _ _ (own first is)),
    all-weaker (λ row. test row ≡ true → list_any (λ x. same x row) (filter test rows) ≡ true)
        (λ row. test row ≡ true → list_any (λ x. same x row) (filter test (first ∷ rows)) ≡ true)
        (λ row named is. more row (named is)) rows (named-among rows),
  ) where
    more : (row : X) → list_any (λ x. same x row) (filter test rows) ≡ true →
        list_any (λ x. same x row) (filter test (first ∷ rows)) ≡ true
    more row named = elim (cases_Bool (test first)) [
      | inl passes ↦ rw passes (or_right _ _ named)
      | inr fails ↦ rw fails named
    ]

  pub none-left : (rows : List X) → AllByRecursion (λ row. test row ≡ false) (taken (filter test rows) rows)
  none-left rows = gone-all (filter test rows) rows (named-among rows)

  -- effects that take them away fit, and those after them do if they do over what is left
  pub removed-fit : (gone : X → Effect) (put : List X → Db) →
      ((x : X) (rows : List X) → fits (gone x) (put rows) ≡ is_some (find (same x) rows)) →
      ((x : X) (rows : List X) → after_effect (gone x) (put rows) ≡ put (filter (λ row. not (same x row)) rows)) →
      (rest : List Effect) (todo rows : List X) → ArePresent todo rows → all_fit rest (put (taken todo rows)) ≡ true →
      all_fit (map gone todo ++ rest) (put rows) ≡ true
  removed-fit gone put fit make rest [] rows present after = after
  removed-fit gone put fit make rest (x ∷ todo) rows present after =
      let here : fits (gone x) (put rows) ≡ true = fit x rows ∙ present.0 in
      let left : apply (gone x) (put rows) ≡ put (filter (λ row. not (same x row)) rows) = rw here (make x rows) in
      and_from _ _ here (subst (λ db. all_fit (map gone todo ++ rest) db ≡ true) (sym left)
      (removed-fit gone put fit make rest todo (filter (λ row. not (same x row)) rows) present.1 after))

  -- the same, where what is known of the rows is said of all of them
  pub removed-hold : (gone : X → Effect) (Holds : List X → Db → Type 0) →
      ((x : X) (rows : List X) (db : Db) → Holds rows db → fits (gone x) db ≡ is_some (find (same x) rows)) →
      ((x : X) (rows : List X) (db : Db) → Holds rows db → is_some (find (same x) rows) ≡ true →
      Holds (filter (λ row. not (same x row)) rows) (after_effect (gone x) db)) →
      (rest : List Effect) (todo rows : List X) (db : Db) → Holds rows db → ArePresent todo rows →
      ((db : Db) → Holds (taken todo rows) db → all_fit rest db ≡ true) → all_fit (map gone todo ++ rest) db ≡ true
  removed-hold gone Holds fit make rest [] rows db holds present after = after db holds
  removed-hold gone Holds fit make rest (x ∷ todo) rows db holds present after =
      let here : fits (gone x) db ≡ true = fit x rows db holds ∙ present.0 in
      let left : apply (gone x) db ≡ after_effect (gone x) db = rw here refl in
      and_from _ _ here (subst (λ db. all_fit (map gone todo ++ rest) db ≡ true) (sym left)
      (removed-hold gone Holds fit make rest todo (filter (λ row. not (same x row)) rows) (after_effect (gone x) db)
      (make x rows db holds present.0) present.1 after))
