-- The numbers that the texts of a person have among those that it made: rising, each of a text of its own.
use Rattle.std.proofs.Common.{◌≡◌, ℕ, ◌<◌, ◌≤◌, Bool, true, false, ◌==◌, ◌||◌, List, [], ◌∷◌, ◌++◌, length}
use Rattle.std.proofs.Common.{Some, None, refl, sym, ◌∙◌, ap, subst, arith, append_assoc, inl, inr, eqb-true}
use Rattle.std.proofs.Common.{nat_lt, true≢false}
use Rattle.std.specs.Prelude.{map}
use Rattle.std.specs.List.{AllByRecursion, filter, find, fold, list_any}
use Rattle.std.proofs.lemmas.Bool.{or_right, cases_Bool, cond_both, and_parts, ltb-true, ltb-false, lt-ltb, eq-eqb}
use Rattle.std.proofs.lemmas.List.{append-nil}
use Rattle.row_table.specs.Tables.{row_of, IsByNumber}
use Rattle.kom_types.specs.declared.texts.LocalText.{LocalText}
use Rattle.kom_types.specs.declared.texts.TextRow.{TextRow}
use Rattle.kom_types.specs.tables.Texts.{number_of_text, by_local, is_created_by, created_pair, created_by}
use Rattle.kom_model.specs.Whole.{is_created}
use Rattle.kom_model.proofs.whole.Counts.{all-along}
use Rattle.kom_snapshot.proofs.replay.Tables.{none-before, own-rows}

-- each local number is below all later ones
abbrev pub Rise : List LocalText → Type 0
Rise [] = Unit {0}
Rise (pair ∷ pairs) = AllByRecursion (λ later. pair.local < later.local) pairs × Rise pairs

-- ---- one that is put in by its size
all-placed : (P : LocalText → Type 0) (pair : LocalText) (pairs : List LocalText) → P pair → AllByRecursion P pairs →
    AllByRecursion P (by_local pair pairs)
all-placed P pair [] here all = (here, tt)
all-placed P pair (first ∷ pairs) here all =
    cond_both (nat_lt pair.local first.local) (pair ∷ first ∷ pairs) (first ∷ by_local pair pairs) (AllByRecursion P)
    (λ _. (here, all)) (λ _. (all.0, all-placed P pair pairs here all.1))

rise-placed : (pair : LocalText) (pairs : List LocalText) → Rise pairs →
    AllByRecursion (λ one. one.local ≡ pair.local → ⊥) pairs → Rise (by_local pair pairs)
rise-placed pair [] rise apart = (tt, tt)
rise-placed pair (first ∷ pairs) rise apart =
    cond_both (nat_lt pair.local first.local) (pair ∷ first ∷ pairs) (first ∷ by_local pair pairs) Rise
    (λ is.
    let less = ltb-true pair.local first.local is in (
      (
        less,
        all-along (λ one. first.local < one.local) (λ one. first.local < one.local)
            (λ one. pair.local < one.local) (λ one more _. omega (arith, less, more)) pairs rise.0 rise.0,
      ),
      rise,
    ))
    (λ not_less.
    let more = ltb-false pair.local first.local not_less in
    let differs = apart.0 in (
      all-placed (λ one. first.local < one.local) pair pairs (omega (arith, more, differs)) rise.0,
      rise-placed pair pairs rise.1 apart.1,
    ))

any-placed : (test : LocalText → Bool) (pair : LocalText) (pairs : List LocalText) →
    list_any test (by_local pair pairs) ≡ (test pair || list_any test pairs)
any-placed test pair [] = refl
any-placed test pair (first ∷ pairs) =
    cond_both (nat_lt pair.local first.local) (pair ∷ first ∷ pairs) (first ∷ by_local pair pairs)
    (λ l. list_any test l ≡ (test pair || list_any test (first ∷ pairs))) (λ _. refl)
    (λ _. ap (λ b. test first || b) (any-placed test pair pairs)
    ∙ turn (test first) (test pair) (list_any test pairs))
  where
    turn : (a b c : Bool) → (a || (b || c)) ≡ (b || (a || c))
    turn true true c = refl
    turn true false c = refl
    turn false b c = refl

any-sorted : (test : LocalText → Bool) (pairs sorted : List LocalText) →
    list_any test (fold (λ sorted pair. by_local pair sorted) sorted pairs)
    ≡ (list_any test pairs || list_any test sorted)
any-sorted test [] sorted = refl
any-sorted test (pair ∷ pairs) sorted =
    any-sorted test pairs (by_local pair sorted)
    ∙ ap (λ b. list_any test pairs || b) (any-placed test pair sorted)
    ∙ turn (list_any test pairs) (test pair) (list_any test sorted)
  where
    turn : (a b c : Bool) → (a || (b || c)) ≡ ((b || a) || c)
    turn true true c = refl
    turn true false c = refl
    turn false b c = ap (λ b. b || c) (flip b)
      where
        flip : (b : Bool) → b ≡ (b || false)
        flip true = refl
        flip false = refl

-- ---- the pairs of a person
-- a pair is the number of a text of the person's with the text
pub record IsOwn (texts : List TextRow) (person : ℕ) (pair : LocalText) : Type 0 where
  pub text : TextRow
  pub found : row_of number_of_text pair.text texts ≡ Some text
  pub author : text.author ≡ person
  pub numbered : text.created_local ≡ pair.local
  pub positive : 0 < pair.local

module _ (texts : List TextRow) (rising : IsByNumber number_of_text texts)
    (once : (person local : ℕ) → 0 < local → length (filter (is_created person local) texts) ≤ 1) (person : ℕ) where
  -- what holds of the pairs of the texts before some
  record IsSorted (front : List TextRow) (sorted : List LocalText) : Type 0 where
    pub rise : Rise sorted
    pub own : AllByRecursion (IsOwn texts person) sorted
    pub known : (local : ℕ) → find (is_created person local) front ≡ None →
        AllByRecursion (λ pair. pair.local ≡ local → ⊥) sorted

  find-front : {X : Type 0} (test : X → Bool) (front : List X) (last : X) → find test (front ++ last ∷ []) ≡ None →
      (find test front ≡ None) × (test last ≡ false)
  find-front test [] last none = elim (cases_Bool (test last)) [
    | inl here ↦ let some : Some last ≡ None = rw here at none in absurd (cc)
    | inr there ↦ (refl, there)
  ]
  find-front test (first ∷ front) last none = elim (cases_Bool (test first)) [
    | inl here ↦ let some : Some first ≡ None = rw here at none in absurd (cc)
    | inr there ↦
        let rest = find-front test front last (rw there at none) in
        (rw there rest.0, rest.1)
  ]

  one-more : (front : List TextRow) (row : TextRow) (rest : List TextRow) (sorted : List LocalText) →
      front ++ row ∷ rest ≡ texts → is_created_by person row ≡ true → IsSorted front sorted →
      IsSorted (front ++ row ∷ []) (by_local (created_pair row) sorted)
  one-more front row rest sorted same is here =
      let parts = and_parts (row.author == person) (nat_lt 0 row.created_local) is in
      let positive = ltb-true 0 row.created_local parts.1 in
      let author = eqb-true row.author person parts.0 in
      let none = none-before (is_created person row.created_local) front row rest
      (subst (λ l. length (filter (is_created person row.created_local) l) ≤ 1) (sym same)
      (once person row.created_local positive))
      (rw (parts.0, eq-eqb row.created_local row.created_local refl) refl) in
      record {
        rise = rise-placed (created_pair row) sorted here.rise (here.known row.created_local none);
        own = all-placed (IsOwn texts person) (created_pair row) sorted (record {
          text = row;
          found = (own-rows number_of_text front (row ∷ rest) texts same rising).0;
          author = author;
          numbered = refl;
          positive = positive;
        }) here.own;
        known = λ local absent.
            let split = find-front (is_created person local) front row absent in
            all-placed (λ pair. pair.local ≡ local → ⊥) (created_pair row) sorted
            (λ e. absurd (true≢false (sym (rw (parts.0, eq-eqb row.created_local local e) refl) ∙ split.1)))
            (here.known local split.0);
      }

  all-sorted : (front rest : List TextRow) (sorted : List LocalText) → front ++ rest ≡ texts → IsSorted front sorted →
      IsSorted texts (fold (λ sorted pair. by_local pair sorted) sorted
      (map created_pair (filter (is_created_by person) rest)))
  all-sorted front [] sorted same here = subst (λ l. IsSorted l sorted) (sym (append-nil front) ∙ same) here
  all-sorted front (row ∷ rest) sorted same here =
      let same' : (front ++ row ∷ []) ++ rest ≡ texts = append_assoc front (row ∷ []) rest ∙ same in
      elim (cases_Bool (is_created_by person row)) [
        | inl is ↦ rw is (all-sorted (front ++ row ∷ []) rest (by_local (created_pair row) sorted) same'
            (one-more front row rest sorted same is here))
        | inr other ↦ rw other (all-sorted (front ++ row ∷ []) rest sorted same' (record {
          rise = here.rise;
          own = here.own;
          known = λ local absent. here.known local (find-front (is_created person local) front row absent).0;
        }))
      ]

  sorted : IsSorted texts (created_by person texts)
  sorted = all-sorted [] texts [] refl (record { rise = tt; own = tt; known = λ local none. tt })

  pub created-rise : Rise (created_by person texts)
  created-rise = sorted.rise

  pub created-own : AllByRecursion (IsOwn texts person) (created_by person texts)
  created-own = sorted.own

-- a text that its author numbered is among these
pub created-all : (texts front : List TextRow) (row : TextRow) (rest : List TextRow) → front ++ row ∷ rest ≡ texts →
    0 < row.created_local → list_any (λ pair. pair.text == row.number) (created_by row.author texts) ≡ true
created-all texts front row rest same positive =
    let test : LocalText → Bool = λ pair. pair.text == row.number in
    any-sorted test (map created_pair (filter (is_created_by row.author) texts)) []
    ∙ ap (λ b. b || false) (subst (λ l. list_any test (map created_pair (filter (is_created_by row.author) l)) ≡ true)
    same (there front))
  where
    there : (front : List TextRow) → list_any (λ (pair : LocalText). pair.text == row.number)
        (map created_pair (filter (is_created_by row.author) (front ++ row ∷ rest))) ≡ true
    there [] = rw (eq-eqb row.author row.author refl, lt-ltb 0 row.created_local positive)
        (rw (eq-eqb row.number row.number refl) refl)
    there (first ∷ front) = cond_both (is_created_by row.author first)
        (first ∷ filter (is_created_by row.author) (front ++ row ∷ rest))
        (filter (is_created_by row.author) (front ++ row ∷ rest))
        (λ l. list_any (λ (pair : LocalText). pair.text == row.number) (map created_pair l) ≡ true)
        (λ _. or_right (first.number == row.number) _ (there front)) (λ _. there front)
