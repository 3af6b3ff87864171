-- What one more or one less number does to ranges.
use Rattle.std.proofs.Common.{◌≡◌, ℕ, suc, ◌+◌, ◌-◌, ◌<◌, ◌≤◌, ◌≢◌, false, ◌||◌, ◌&&◌, eqb, not, List, [], ◌∷◌, ◌++◌}
use Rattle.std.proofs.Common.{length, get_or, take, drop, set, refl, sym, ap, ◌∙◌, subst, Result, Ok, Err, OnOk, OnErr}
use Rattle.std.proofs.Common.{arith, append_assoc}
use Rattle.std.specs.List.{AllByRecursion, insert, remove}
use Rattle.std.specs.FinSet as finite
use Rattle.std.specs.Ordering.{nat_cmp}
use Rattle.std.proofs.lemmas.Bool.Decides.{nat_tests}
use Rattle.std.proofs.lemmas.List.{take-append-drop, drop_all, set_split, take_more_set, drop-set-lt, take-append-le}
use Rattle.std.proofs.lemmas.List.{take-take, drop_at, length-take-le, length-set}
use Rattle.std.proofs.lemmas.List.Folds.{list_any-append}
use Rattle.std.proofs.lemmas.List.Edits.{length-insert}
use Rattle.kom_types.specs.declared.memberships.ReadRange.{ReadRange}
use Rattle.read_ranges.specs.Numbers.{range, RiseFrom, AreRanges, greatest, union_of, ranges_of}
use Rattle.read_ranges.specs.Places.{IsPlaceOf, EndBelow, EndFrom, Marks}
use Rattle.read_ranges.proofs.Rises.{is_in_range, holds_in, holds_below, held_behind, after, after_below, rise_front}
use Rattle.read_ranges.proofs.Rises.{rise_back, rise_join, rise_lower}
use Rattle.read_ranges.proofs.Sets.{union_of-marked, union_of-unmarked, ranges_of-union_of}
use Rattle.read_ranges.proofs.Found.{from_place}

-- new has the numbers of old but n
pub record Unmarks (old new : List ReadRange) (n : ℕ) : Type 0 where
  pub ranges : AreRanges new
  pub numbers : union_of new ≡ finite.remove (union_of old) n

-- `others` stand for `back` with n added, wherever ranges up to n may begin
record Adds (back others : List ReadRange) (n : ℕ) : Type 0 where
  rises : (a : ℕ) → a ≤ n → RiseFrom a back → RiseFrom a others
  held : (a : ℕ) → RiseFrom a back → (m : ℕ) → holds_in others m ≡ (eqb m n || holds_in back m)

add_alone_end : (n : ℕ) → n ≤ greatest → Adds [] ((range n n) ∷ []) n
add_alone_end n fits = record {
  rises = λ a le rise. (le, omega arith, fits, tt);
  held = λ a rise m. grind (arith, nat_tests);
}

add_alone : (n : ℕ) (x : ReadRange) (rest : List ReadRange) → n + 1 < x.first →
    Adds (x ∷ rest) ((range n n) ∷ x ∷ rest) n
add_alone n x rest apart = record {
  rises = λ a le rise. (le, omega arith, omega arith, (omega arith, rise.1, rise.2, rise.3));
  held = λ a rise m. grind (arith, nat_tests);
}

add_before : (n : ℕ) (x : ReadRange) (rest : List ReadRange) → n + 1 ≡ x.first →
    Adds (x ∷ rest) ((range n x.last) ∷ rest) n
add_before n x rest touches = record {
  rises = λ a le rise. (le, omega arith, rise.2, rise.3);
  held = λ a rise m. grind (arith, nat_tests);
}

add_held : (n : ℕ) (x : ReadRange) (rest : List ReadRange) → x.first ≤ n → n ≤ x.last → Adds (x ∷ rest) (x ∷ rest) n
add_held n x rest from to = record {
  rises = λ a le rise. rise;
  held = λ a rise m. grind (arith, nat_tests);
}

add_last : (n : ℕ) (x : ReadRange) → x.last + 1 ≡ n → n ≤ greatest → Adds (x ∷ []) ((range x.first n) ∷ []) n
add_last n x touches fits = record {
  rises = λ a le rise. (rise.0, omega arith, fits, tt);
  held = λ a rise m. grind (arith, nat_tests);
}

add_after : (n : ℕ) (x y : ReadRange) (rest : List ReadRange) → x.last + 1 ≡ n → y.first ≢ n + 1 →
    Adds (x ∷ y ∷ rest) ((range x.first n) ∷ y ∷ rest) n
add_after n x y rest touches apart = record {
  rises = λ a le rise. let next = rise.3 in (rise.0, omega arith, omega arith, (omega arith, next.1, next.2, next.3));
  held = λ a rise m. grind (arith, nat_tests);
}

add_join : (n : ℕ) (x y : ReadRange) (rest : List ReadRange) → x.last + 1 ≡ n → y.first ≡ n + 1 →
    Adds (x ∷ y ∷ rest) ((range x.first y.last) ∷ rest) n
add_join n x y rest touches meets = record {
  rises = λ a le rise. let next = rise.3 in (rise.0, omega arith, next.2, next.3);
  held = λ a rise m. grind (arith, nat_tests);
}

-- `others` stand for `back` without n
record Takes (back others : List ReadRange) (n : ℕ) : Type 0 where
  rises : (a : ℕ) → RiseFrom a back → RiseFrom a others
  held : (a : ℕ) → RiseFrom a back → (m : ℕ) → holds_in others m ≡ (not (eqb m n) && holds_in back m)

-- past the end of a range the others begin two above it
rest_above : (a : ℕ) (x : ReadRange) (rest : List ReadRange) → RiseFrom a (x ∷ rest) → (m : ℕ) → m ≤ x.last →
    holds_in rest m ≡ false
rest_above a x rest rise m le = holds_below (x.last + 2) rest m rise.3 (omega arith)

take_nothing : (n : ℕ) → Takes [] [] n
take_nothing n = record { rises = λ a rise. rise; held = λ a rise m. grind (arith, nat_tests) }

take_absent : (n : ℕ) (x : ReadRange) (rest : List ReadRange) → n < x.first → Takes (x ∷ rest) (x ∷ rest) n
take_absent n x rest apart = record {
  rises = λ a rise. rise;
  held = λ a rise m. let none = rest_above a x rest rise n (omega arith) in grind (arith, nat_tests, none);
}

take_whole : (n : ℕ) (x : ReadRange) (rest : List ReadRange) → x.first ≡ n → x.last ≡ n → Takes (x ∷ rest) rest n
take_whole n x rest from to = record {
  rises = λ a rise. rise_lower a (x.last + 2) rest (omega arith) rise.3;
  held = λ a rise m. let none = rest_above a x rest rise n (omega arith) in grind (arith, nat_tests, none);
}

take_first : (n : ℕ) (x : ReadRange) (rest : List ReadRange) → x.first ≡ n → n < x.last →
    Takes (x ∷ rest) ((range (n + 1) x.last) ∷ rest) n
take_first n x rest from to = record {
  rises = λ a rise. (omega arith, omega arith, rise.2, rise.3);
  held = λ a rise m. let none = rest_above a x rest rise n (omega arith) in grind (arith, nat_tests, none);
}

take_last : (n : ℕ) (x : ReadRange) (rest : List ReadRange) → x.first < n → x.last ≡ n →
    Takes (x ∷ rest) ((range x.first (n - 1)) ∷ rest) n
take_last n x rest from to = record {
  rises = λ a rise. (rise.0, omega arith, omega arith, rise_lower (n - 1 + 2) (x.last + 2) rest (omega arith) rise.3);
  held = λ a rise m. let none = rest_above a x rest rise n (omega arith) in grind (arith, nat_tests, none);
}

take_middle : (n : ℕ) (x : ReadRange) (rest : List ReadRange) → x.first < n → n < x.last →
    Takes (x ∷ rest) ((range x.first (n - 1)) ∷ (range (n + 1) x.last) ∷ rest) n
take_middle n x rest from to = record {
  rises = λ a rise. (rise.0, omega arith, omega arith, (omega arith, omega arith, rise.2, rise.3));
  held = λ a rise m. let none = rest_above a x rest rise n (omega arith) in grind (arith, nat_tests, none);
}

-- a list written, or written and shortened, at a place
set_form : (xs : List ReadRange) (at : ℕ) (v : ReadRange) → at < length xs →
    set xs at v ≡ take at xs ++ v ∷ drop (at + 1) xs
set_form xs at v within = let next : suc at ≡ at + 1 = omega arith in
    set_split xs at v within ∙ ap (λ k. take at xs ++ v ∷ drop k xs) next

join_form : (xs : List ReadRange) (at : ℕ) (v : ReadRange) → at < length xs →
    remove (set xs at v) (at + 1) ≡ take at xs ++ v ∷ drop (at + 1 + 1) xs
join_form xs at v within =
    let next : suc (at + 1) ≡ at + 1 + 1 = omega arith in
    ap (λ k. take (at + 1) (set xs at v) ++ drop k (set xs at v)) next
    ∙ ap (λ before. before ++ drop (at + 1 + 1) (set xs at v)) (take_more_set xs at v within)
    ∙ ap (λ back. (take at xs ++ v ∷ []) ++ back) (drop-set-lt (at + 1 + 1) xs at v (omega arith))
    ∙ append_assoc (take at xs) (v ∷ []) (drop (at + 1 + 1) xs)

split_form : (xs : List ReadRange) (at : ℕ) (v q : ReadRange) → at < length xs →
    set (insert xs (at + 1) q) at v ≡ take at xs ++ v ∷ q ∷ drop (at + 1) xs
split_form xs at v q within =
    let before : length (take (at + 1) xs) ≡ at + 1 = length-take-le (at + 1) xs (omega arith) in
    set_form (insert xs (at + 1) q) at v (omega (arith, length-insert xs (at + 1) q (omega arith)))
    ∙ ap (λ begin. begin ++ v ∷ drop (at + 1) (insert xs (at + 1) q))
    (take-append-le at (take (at + 1) xs) (q ∷ drop (at + 1) xs) (omega arith) ∙ take-take at (at + 1) xs (omega arith))
    ∙ ap (λ others. take at xs ++ v ∷ others) (drop_at (take (at + 1) xs) (q ∷ drop (at + 1) xs) (at + 1) before)

module _ (xs : List ReadRange) (rise : AreRanges xs) where
  rise_split : (at : ℕ) → RiseFrom 1 (take at xs) × RiseFrom (after 1 (take at xs)) (drop at xs)
  rise_split at =
      let both : RiseFrom 1 (take at xs ++ drop at xs) = rw take-append-drop rise in
      (rise_front 1 (take at xs) (drop at xs) both, rise_back 1 (take at xs) (drop at xs) both)

  holds_split : (at m : ℕ) → holds_in xs m ≡ (holds_in (take at xs) m || holds_in (drop at xs) m)
  holds_split at m = ap (λ ys. holds_in ys m) (sym (take-append-drop at xs))
      ∙ list_any-append (is_in_range m) (take at xs) (drop at xs)

  -- adding to what stands from a place on adds to the whole
  marks_behind : (n at : ℕ) (ys others : List ReadRange) → after 1 (take at xs) ≤ n → Adds (drop at xs) others n →
      ys ≡ take at xs ++ others → Marks xs ys n
  marks_behind n at ys others reach adds is = record {
    ranges = rw is (rise_join 1 (take at xs) others (rise_split at).0 (adds.rises _ reach (rise_split at).1));
    numbers = union_of-marked xs ys n (λ m.
        ap (λ zs. holds_in zs m) is ∙ list_any-append (is_in_range m) (take at xs) others
        ∙ rw (adds.held _ (rise_split at).1 m, holds_split at m) (grind (arith, nat_tests)));
  }

  -- how far the ranges before a place reach
  reach_before : (n at : ℕ) → n ≢ 0 → IsPlaceOf xs (n - 1) at → after 1 (take at xs) ≤ n
  reach_before n at pos place = after_below 1 n (take at xs) (omega arith) (ends_short n (take at xs) place.below)
    where
      ends_short : (n : ℕ) (ys : List ReadRange) → EndBelow (n - 1) ys → AllByRecursion (λ r. r.last + 1 < n) ys
      ends_short n [] below = tt
      ends_short n (y ∷ ys) below = (omega arith, ends_short n ys below.1)

  -- taking from what stands from a place on takes from the whole
  unmarks_behind : (n at : ℕ) (ys others : List ReadRange) → IsPlaceOf xs n at → Takes (drop at xs) others n →
      ys ≡ take at xs ++ others → Unmarks xs ys n
  unmarks_behind n at ys others place takes is = record {
    ranges = rw is (rise_join 1 (take at xs) others (rise_split at).0 (takes.rises _ (rise_split at).1));
    numbers = union_of-unmarked xs ys n (λ m.
        let free = held_behind n n (take at xs) place.below (omega arith) in
        ap (λ zs. holds_in zs m) is ∙ list_any-append (is_in_range m) (take at xs) others
        ∙ rw (takes.held _ (rise_split at).1 m, holds_split at m) (grind (arith, nat_tests, free)));
  }

  -- n is past all ranges
  pub unmark_end : (n at : ℕ) → IsPlaceOf xs n at → length xs ≤ at → Unmarks xs xs n
  unmark_end n at place past =
      let none : drop at xs ≡ [] = drop_all at xs past in
      unmarks_behind n at xs (drop at xs) place (rw none (take_nothing n)) (sym (take-append-drop at xs))

  -- n alone, past all ranges or before the range at the place
  pub mark_end : (n at : ℕ) → n ≢ 0 → n ≤ greatest → IsPlaceOf xs (n - 1) at → length xs ≤ at →
      Marks xs (insert xs at (range n n)) n
  mark_end n at pos fits place past =
      marks_behind n at _ ((range n n) ∷ drop at xs) (reach_before n at pos place)
      (rw (drop_all at xs past) (add_alone_end n fits)) refl

  module _ (at : ℕ) (x : ReadRange) (within : at < length xs) (read : x ≡ get_or xs at x) where
    back : drop at xs ≡ x ∷ drop (at + 1) xs
    back = from_place xs at x within read

    rise_at : RiseFrom (after 1 (take at xs)) (x ∷ drop (at + 1) xs)
    rise_at = rw back at (rise_split at).1

    pub mark_alone : (n : ℕ) → n ≢ 0 → IsPlaceOf xs (n - 1) at → n + 1 < x.first → Marks xs (insert xs at (range n n)) n
    mark_alone n pos place apart =
        marks_behind n at _ ((range n n) ∷ x ∷ drop (at + 1) xs) (reach_before n at pos place)
        (rw back (add_alone n x (drop (at + 1) xs) apart)) (ap (λ ys. take at xs ++ (range n n) ∷ ys) back)

    -- the range there begins right after n
    pub mark_before : (n : ℕ) → n ≢ 0 → IsPlaceOf xs (n - 1) at → n + 1 ≡ x.first →
        Marks xs (set xs at (range n x.last)) n
    mark_before n pos place touches =
        marks_behind n at _ ((range n x.last) ∷ drop (at + 1) xs) (reach_before n at pos place)
        (rw back (add_before n x (drop (at + 1) xs) touches)) (set_form xs at (range n x.last) within)

    -- n is in the range there
    pub mark_held : (n : ℕ) → x.first ≤ n → n ≤ x.last → Marks xs xs n
    mark_held n from to =
        marks_behind n at xs (x ∷ drop (at + 1) xs) (omega (arith, rise_at.0))
        (rw back (add_held n x (drop (at + 1) xs) from to)) (sym (take-append-drop at xs)
        ∙ ap (λ ys. take at xs ++ ys) back)

    -- the range there ends right before n, and none begins right after n
    pub mark_last : (n : ℕ) → n ≤ greatest → x.last + 1 ≡ n → length xs ≤ at + 1 →
        Marks xs (set xs at (range x.first n)) n
    mark_last n fits touches last =
        let none : drop (at + 1) xs ≡ [] = drop_all (at + 1) xs last in
        marks_behind n at _ ((range x.first n) ∷ drop (at + 1) xs) (omega (arith, rise_at.0, rise_at.1))
        (rw (back, none) (add_last n x touches fits)) (set_form xs at (range x.first n) within)

    module _ (n : ℕ) (place : IsPlaceOf xs n at) where
      pub ends_from : n ≤ x.last
      ends_from = let from : EndFrom n (x ∷ drop (at + 1) xs) = subst (EndFrom n) back place.from in from.0

      pub ends_within : x.last ≤ greatest
      ends_within = rise_at.2

      pub unmark_absent : n < x.first → Unmarks xs xs n
      unmark_absent apart = unmarks_behind n at xs (drop at xs) place
          (rw back (take_absent n x (drop (at + 1) xs) apart)) (sym (take-append-drop at xs))

      pub unmark_whole : x.first ≡ n → x.last ≡ n → Unmarks xs (remove xs at) n
      unmark_whole from to =
          let next : suc at ≡ at + 1 = omega arith in
          unmarks_behind n at _ (drop (at + 1) xs) place (rw back (take_whole n x (drop (at + 1) xs) from to))
          (ap (λ k. take at xs ++ drop k xs) next)

      pub unmark_first : x.first ≡ n → n < x.last → Unmarks xs (set xs at (range (n + 1) x.last)) n
      unmark_first from to = unmarks_behind n at _ ((range (n + 1) x.last) ∷ drop (at + 1) xs) place
          (rw back (take_first n x (drop (at + 1) xs) from to)) (set_form xs at (range (n + 1) x.last) within)

      pub unmark_last : x.first < n → x.last ≡ n → Unmarks xs (set xs at (range x.first (n - 1))) n
      unmark_last from to = unmarks_behind n at _ ((range x.first (n - 1)) ∷ drop (at + 1) xs) place
          (rw back (take_last n x (drop (at + 1) xs) from to)) (set_form xs at (range x.first (n - 1)) within)

      pub unmark_middle : x.first < n → n < x.last →
          Unmarks xs (set (insert xs (at + 1) (range (n + 1) x.last)) at (range x.first (n - 1))) n
      unmark_middle from to =
          unmarks_behind n at _ ((range x.first (n - 1)) ∷ (range (n + 1) x.last) ∷ drop (at + 1) xs) place
          (rw back (take_middle n x (drop (at + 1) xs) from to))
          (split_form xs at (range x.first (n - 1)) (range (n + 1) x.last) within)

    module _ (y : ReadRange) (within_next : at + 1 < length xs) (read_next : y ≡ get_or xs (at + 1) y) where
      next : drop (at + 1) xs ≡ y ∷ drop (at + 1 + 1) xs
      next = from_place xs (at + 1) y within_next read_next

      pub next_begins : 1 ≤ y.first
      next_begins = let rest : RiseFrom (x.last + 2) (y ∷ drop (at + 1 + 1) xs) = rw next at rise_at.3 in
          omega (arith, rest.0)

      pub mark_after : (n : ℕ) → x.last + 1 ≡ n → y.first ≢ n + 1 → Marks xs (set xs at (range x.first n)) n
      mark_after n touches apart =
          marks_behind n at _ ((range x.first n) ∷ y ∷ drop (at + 1 + 1) xs) (omega (arith, rise_at.0, rise_at.1))
          (rw (back, next) (add_after n x y (drop (at + 1 + 1) xs) touches apart))
          (set_form xs at (range x.first n) within ∙ ap (λ ys. take at xs ++ (range x.first n) ∷ ys) next)

      -- and one begins right after n
      pub mark_join : (n : ℕ) → x.last + 1 ≡ n → y.first ≡ n + 1 →
          Marks xs (remove (set xs at (range x.first y.last)) (at + 1)) n
      mark_join n touches meets =
          marks_behind n at _ ((range x.first y.last) ∷ drop (at + 1 + 1) xs) (omega (arith, rise_at.0, rise_at.1))
          (rw (back, next) (add_join n x y (drop (at + 1 + 1) xs) touches meets))
          (join_form xs at (range x.first y.last) within)

-- an insert makes one more range of the set that it leaves
pub one_more : (xs : List ReadRange) (at : ℕ) (v : ReadRange) (s : finite.FinSet nat_cmp) → at ≤ length xs →
    AreRanges (insert xs at v) → union_of (insert xs at v) ≡ s → length (ranges_of s) ≡ length xs + 1
one_more xs at v s within rise is = rw (← is, ranges_of-union_of (insert xs at v) rise) (length-insert xs at v within)

-- what an insert that may fail leaves is ranges
pub rise_inserted : {T E : Type 0} (r : Result T E) (xs ys zs : List ReadRange) → AreRanges xs → AreRanges ys →
    OnOk r (zs ≡ ys) → OnErr r (zs ≡ xs) → AreRanges zs
rise_inserted (Ok x) xs ys zs before now ok err = rw ok now
rise_inserted (Err e) xs ys zs before now ok err = rw err before

-- and the set that an edit should leave
pub set_inserted : {T E : Type 0} (r : Result T E) (zs ys : List ReadRange) (s : finite.FinSet nat_cmp) →
    union_of ys ≡ s → OnOk r (zs ≡ ys) → OnOk r (union_of zs ≡ s)
set_inserted (Ok x) zs ys s is ok = rw ok is
set_inserted (Err e) zs ys s is ok = tt

-- an insert fails only where its ranges would be more than there is room for
pub full_inserted : {T E : Type 0} (r : Result T E) (spare count more : ℕ) → more ≡ count + 1 →
    OnErr r (spare ≤ count) → OnErr r (spare < more)
full_inserted (Ok x) spare count more is full = tt
full_inserted (Err e) spare count more is full = omega arith

-- and so does one that splits a range
pub one_more_split : (xs : List ReadRange) (at place : ℕ) (v q : ReadRange) (s : finite.FinSet nat_cmp) →
    at ≤ length xs → AreRanges (set (insert xs at q) place v) → union_of (set (insert xs at q) place v) ≡ s →
    length (ranges_of s) ≡ length xs + 1
one_more_split xs at place v q s within rise is =
    rw (← is, ranges_of-union_of (set (insert xs at q) place v) rise) (length-set (insert xs at q) place v
    ∙ length-insert xs at q within)
