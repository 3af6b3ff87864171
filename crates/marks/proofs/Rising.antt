-- Marks by rising text: a stable sort of marks leaves them as putting in one after another does.
use Rattle.std.proofs.Common.{◌≡◌, ℕ, suc, ◌+◌, ◌<◌, ◌≤◌, Bool, true, false, cond, not, ◌&&◌, eqb, ltb, List, [], ◌∷◌}
use Rattle.std.proofs.Common.{◌++◌, length, get_or, map, filter, fold, refl, sym, ap, ◌∙◌, inl, inr, append_assoc}
use Rattle.std.proofs.Common.{arith, is_lt, nat_cmp}
use Rattle.std.specs.declared.cmp.Ordering.TheVariants.{Less, Equal, Greater}
use Rattle.std.specs.List.Sorted.{IsNonDecreasingBy, IsStableByKey}
use Rattle.std.proofs.lemmas.Bool.{cases_Bool, eqb-true, eq-eqb, ne_eqb, ltb-true, ltb-false}
use Rattle.std.proofs.lemmas.List.{append-nil}
use Rattle.kom_types.specs.declared.texts.Mark.{Mark}
use Rattle.kom_types.specs.declared.texts.MarkRow.{MarkRow}
use Rattle.kom_types.specs.tables.Texts.{by_text, marks_of, shown_mark}

-- ---- lists by rising numbers

module _ {X : Type 0} (n : X → ℕ) where
  -- all have this number at least
  abbrev pub AllFrom : ℕ → List X → Type 0
  AllFrom k [] = Unit {0}
  AllFrom k (x ∷ xs) = (k ≤ n x) × AllFrom k xs

  abbrev pub Rises : List X → Type 0
  Rises [] = Unit {0}
  Rises (x ∷ xs) = AllFrom (n x) xs × Rises xs

  -- whether this is the number
  abbrev pub is_at : ℕ → X → Bool
  is_at k x = eqb (n x) k

  all_from : (k : ℕ) (xs : List X) → ((i : ℕ) (d : X) → i < length xs → k ≤ n (get_or xs i d)) → AllFrom k xs
  all_from k [] from = tt
  all_from k (x ∷ xs) from = (from 0 x (omega arith), all_from k xs (λ i d below. from (suc i) d (omega arith)))

  pub rises_from : (xs : List X) → IsNonDecreasingBy n xs → Rises xs
  rises_from [] up = tt
  rises_from (x ∷ xs) up = (
    all_from (n x) xs (λ i d below. up 0 (suc i) d (omega arith) (omega arith)),
    rises_from xs (λ i j d le below. up (suc i) (suc j) d (omega arith) (omega arith)),
  )

  pub from_less : (k m : ℕ) (xs : List X) → k ≤ m → AllFrom m xs → AllFrom k xs
  from_less k m [] le from = tt
  from_less k m (x ∷ xs) le from = (omega (arith, from.0), from_less k m xs le from.1)

  pub none_at : (k m : ℕ) (xs : List X) → k < m → AllFrom m xs → filter (is_at k) xs ≡ []
  none_at k m [] below from = refl
  none_at k m (x ∷ xs) below from =
      let other : eqb (n x) k ≡ false = ne_eqb (n x) k (λ is. absurd (omega (arith, is, from.0))) in
      rw other (none_at k m xs below from.1)

  first_at : (k : ℕ) (x : X) (xs : List X) → n x ≡ k → filter (is_at k) (x ∷ xs) ≡ x ∷ filter (is_at k) xs
  first_at k x xs is = let here : eqb (n x) k ≡ true = eq-eqb (n x) k is in rw here refl

  no_first : (x : X) (xs : List X) → [] ≡ x ∷ xs → ⊥
  no_first x xs is = absurd (omega (arith, ap (λ l. length l) is))

  same_tails : (one other : Bool) (x y : X) (xs ys : List X) → one ≡ other →
      cond one (x ∷ xs) xs ≡ cond other (y ∷ ys) ys → xs ≡ ys
  same_tails true true x y xs ys alike is = cc
  same_tails true false x y xs ys alike is = cc
  same_tails false true x y xs ys alike is = cc
  same_tails false false x y xs ys alike is = is

  same_heads : (x y : X) (xs ys : List X) → x ∷ xs ≡ y ∷ ys → x ≡ y
  same_heads x y xs ys is = cc

  -- lists that rise are one where they have the same of each number, in the same order
  pub same_rising : (xs ys : List X) → Rises xs → Rises ys →
      ((k : ℕ) → filter (is_at k) xs ≡ filter (is_at k) ys) → xs ≡ ys
  same_rising [] [] up also same = refl
  same_rising [] (y ∷ ys) up also same = absurd (no_first y _ (same (n y) ∙ first_at (n y) y ys refl))
  same_rising (x ∷ xs) [] up also same = absurd (no_first x _ (sym (same (n x)) ∙ first_at (n x) x xs refl))
  same_rising (x ∷ xs) (y ∷ ys) up also same = elim (cases_Bool (ltb (n x) (n y))) [
    | inl below ↦
        let none = none_at (n x) (n y) (y ∷ ys) (ltb-true (n x) (n y) below) (omega arith, also.0) in
        absurd (no_first x _ (sym none ∙ sym (same (n x)) ∙ first_at (n x) x xs refl))
    | inr le ↦ elim (cases_Bool (ltb (n y) (n x))) [
      | inl below ↦
          let none = none_at (n y) (n x) (x ∷ xs) (ltb-true (n y) (n x) below) (omega arith, up.0) in
          absurd (no_first y _ (sym none ∙ same (n y) ∙ first_at (n y) y ys refl))
      | inr ge ↦
          let is : n y ≡ n x = omega (arith, ltb-false (n x) (n y) le, ltb-false (n y) (n x) ge) in
          let head : x ≡ y = same_heads x y _ _
          (sym (first_at (n x) x xs refl) ∙ same (n x) ∙ first_at (n x) y ys is) in
          let tail : xs ≡ ys = same_rising xs ys up.1 also.1
          (λ k. same_tails (eqb (n x) k) (eqb (n y) k) x y _ _ (ap (λ m. eqb m k) (sym is)) (same k)) in
          λ i. head i ∷ tail i
    ]
  ]

-- ---- a mark among others by its text

abbrev text_of : MarkRow → ℕ
text_of row = row.text

from-by_text : (k : ℕ) (row : MarkRow) (rows : List MarkRow) → k ≤ row.text → AllFrom text_of k rows →
    AllFrom text_of k (by_text row rows)
from-by_text k row [] le from = (le, tt)
from-by_text k row (first ∷ rows) le from =
    elim (ltb row.text first.text) as
    (λ b. AllFrom text_of k (cond b (row ∷ first ∷ rows) (first ∷ by_text row rows))) [
      | true ↦ (le, from)
      | false ↦ (from.0, from-by_text k row rows le from.1)
    ]

rises-by_text : (row : MarkRow) (rows : List MarkRow) → Rises text_of rows → Rises text_of (by_text row rows)
rises-by_text row [] up = (tt, tt)
rises-by_text row (first ∷ rows) up =
    elim (ltb row.text first.text) as
    (λ b. ltb row.text first.text ≡ b → Rises text_of (cond b (row ∷ first ∷ rows) (first ∷ by_text row rows))) [
      | true ↦ λ below.
          let less = ltb-true row.text first.text below in
          ((omega (arith, less), from_less text_of row.text first.text rows (omega (arith, less)) up.0), up)
      | false ↦ λ above.
          (from-by_text first.text row rows (ltb-false row.text first.text above) up.0, rises-by_text row rows up.1)
    ] refl

appended : (b : Bool) (first : MarkRow) (rows more all : List MarkRow) → all ≡ rows ++ more →
    cond b (first ∷ all) all ≡ cond b (first ∷ rows) rows ++ more
appended true first rows more all is = ap (λ l. first ∷ l) is
appended false first rows more all is = is

joined : (b : Bool) (row : MarkRow) (rows : List MarkRow) → cond b (row ∷ []) [] ++ rows ≡ cond b (row ∷ rows) rows
joined true row rows = refl
joined false row rows = refl

at-by_text : (k : ℕ) (row : MarkRow) (rows : List MarkRow) → Rises text_of rows →
    filter (is_at text_of k) (by_text row rows) ≡ filter (is_at text_of k) rows ++ cond (eqb row.text k) (row ∷ []) []
at-by_text k row [] up = refl
at-by_text k row (first ∷ rows) up =
    let others : List MarkRow = filter (is_at text_of k) (first ∷ rows) in
    elim (ltb row.text first.text) as
    (λ b. ltb row.text first.text ≡ b →
    filter (is_at text_of k) (cond b (row ∷ first ∷ rows) (first ∷ by_text row rows))
    ≡ others ++ cond (eqb row.text k) (row ∷ []) []) [
      | true ↦ λ below.
          elim (eqb row.text k) as
          (λ b. eqb row.text k ≡ b → cond b (row ∷ others) others ≡ others ++ cond b (row ∷ []) []) [
            | true ↦ λ is.
                let none : others ≡ [] = none_at text_of k first.text (first ∷ rows)
                (omega (arith, eqb-true row.text k is, ltb-true row.text first.text below)) (omega arith, up.0) in
                (λ i. row ∷ none i) ∙ sym (λ i. none i ++ row ∷ [])
            | false ↦ λ other. sym (append-nil others)
          ] refl
      | false ↦ λ above.
          appended (eqb first.text k) first (filter (is_at text_of k) rows) (cond (eqb row.text k) (row ∷ []) [])
          (filter (is_at text_of k) (by_text row rows)) (at-by_text k row rows up.1)
    ] refl

length-by_text : (row : MarkRow) (rows : List MarkRow) → length (by_text row rows) ≡ suc (length rows)
length-by_text row [] = refl
length-by_text row (first ∷ rows) =
    elim (ltb row.text first.text) as
    (λ b. length (cond b (row ∷ first ∷ rows) (first ∷ by_text row rows)) ≡ suc (suc (length rows))) [
      | true ↦ refl
      | false ↦ ap suc (length-by_text row rows)
    ]

-- ---- one mark after another

abbrev put_all : List MarkRow → List MarkRow → List MarkRow
put_all sorted rows = fold (λ others row. by_text row others) sorted rows

rises-put_all : (sorted rows : List MarkRow) → Rises text_of sorted → Rises text_of (put_all sorted rows)
rises-put_all sorted [] up = up
rises-put_all sorted (row ∷ rows) up = rises-put_all (by_text row sorted) rows (rises-by_text row sorted up)

at-put_all : (k : ℕ) (sorted rows : List MarkRow) → Rises text_of sorted →
    filter (is_at text_of k) (put_all sorted rows) ≡ filter (is_at text_of k) sorted ++ filter (is_at text_of k) rows
at-put_all k sorted [] up = sym (append-nil (filter (is_at text_of k) sorted))
at-put_all k sorted (row ∷ rows) up =
    let rest : List MarkRow = filter (is_at text_of k) rows in
    at-put_all k (by_text row sorted) rows (rises-by_text row sorted up)
    ∙ ap (λ l. l ++ rest) (at-by_text k row sorted up)
    ∙ append_assoc (filter (is_at text_of k) sorted) (cond (eqb row.text k) (row ∷ []) []) rest
    ∙ ap (λ l. filter (is_at text_of k) sorted ++ l) (joined (eqb row.text k) row rest)

length-put_all : (sorted rows : List MarkRow) → length (put_all sorted rows) ≡ length sorted + length rows
length-put_all sorted [] = omega arith
length-put_all sorted (row ∷ rows) =
    omega (arith, length-put_all (by_text row sorted) rows, length-by_text row sorted)

-- a person has as many marks by rising text
pub length-marks_of : (person : ℕ) (rows : List MarkRow) →
    length (marks_of person rows) ≡ length (filter (λ row. eqb row.person person) rows)
length-marks_of person rows = omega (arith, length-put_all [] (filter (λ row. eqb row.person person) rows))

-- ---- marks as they are shown

abbrev text_shown : Mark → ℕ
text_shown mark = mark.text

from-shown : (k : ℕ) (rows : List MarkRow) → AllFrom text_of k rows → AllFrom text_shown k (map shown_mark rows)
from-shown k [] from = tt
from-shown k (row ∷ rows) from = (from.0, from-shown k rows from.1)

rises-shown : (rows : List MarkRow) → Rises text_of rows → Rises text_shown (map shown_mark rows)
rises-shown [] up = tt
rises-shown (row ∷ rows) up = (from-shown row.text rows up.0, rises-shown rows up.1)

at-shown : (k : ℕ) (rows : List MarkRow) →
    filter (is_at text_shown k) (map shown_mark rows) ≡ map shown_mark (filter (is_at text_of k) rows)
at-shown k [] = refl
at-shown k (row ∷ rows) =
    elim (eqb row.text k) as
    (λ b. cond b (shown_mark row ∷ filter (is_at text_shown k) (map shown_mark rows))
    (filter (is_at text_shown k) (map shown_mark rows))
    ≡ map shown_mark (cond b (row ∷ filter (is_at text_of k) rows) (filter (is_at text_of k) rows))) [
      | true ↦ ap (λ l. shown_mark row ∷ l) (at-shown k rows)
      | false ↦ at-shown k rows
    ]

is_lt-nat_cmp : (k text : ℕ) → is_lt (nat_cmp k text) ≡ ltb k text
is_lt-nat_cmp k text =
    elim (ltb k text) as (λ b. is_lt (cond b Less (cond (eqb k text) Equal Greater)) ≡ b) [
      | true ↦ refl
      | false ↦ elim (eqb k text) as (λ b. is_lt (cond b Equal Greater) ≡ false) [ true ↦ refl | false ↦ refl ]
    ]

ties_are : (k text : ℕ) → (not (is_lt (nat_cmp k text)) && not (is_lt (nat_cmp text k))) ≡ eqb text k
ties_are k text =
    (λ i. not (is_lt-nat_cmp k text i) && not (is_lt-nat_cmp text k i))
    ∙ elim (cases_Bool (ltb k text)) [
      | inl below ↦
          let other : eqb text k ≡ false = ne_eqb text k (λ is. absurd (omega (arith, is, ltb-true k text below))) in
          rw (below, other) refl
      | inr le ↦ elim (cases_Bool (ltb text k)) [
        | inl below ↦
            let other : eqb text k ≡ false = ne_eqb text k (λ is. absurd (omega (arith, is, ltb-true text k below))) in
            rw (le, below, other) refl
        | inr ge ↦
            let is : eqb text k ≡ true = eq-eqb text k (omega (arith, ltb-false k text le, ltb-false text k ge)) in
            rw (le, ge, is) refl
      ]
    ]

-- the marks of a person, once they are sorted
pub sorted_marks : (rows : List MarkRow) (marks : List Mark) → IsNonDecreasingBy text_shown marks →
    IsStableByKey text_shown nat_cmp (map shown_mark rows) marks → marks ≡ map shown_mark (put_all [] rows)
sorted_marks rows marks up stable =
    same_rising text_shown marks (map shown_mark (put_all [] rows)) (rises_from text_shown marks up)
    (rises-shown (put_all [] rows) (rises-put_all [] rows tt))
    (λ k.
    (λ i. filter (λ mark. sym (ties_are k mark.text) i) marks) ∙ stable (record { text = k; kind = 0 })
    ∙ (λ i. filter (λ mark. ties_are k mark.text i) (map shown_mark rows))
    ∙ at-shown k rows ∙ sym (ap (map shown_mark) (at-put_all k [] rows tt)) ∙ sym (at-shown k (put_all [] rows)))
