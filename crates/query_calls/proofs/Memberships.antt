-- What is told of memberships, and how much was read in them.
use Rattle.std.proofs.Common.{◌≡◌, ℕ, zero, suc, ◌+◌, ◌-◌, ◌<◌, ◌≤◌, Bool, true, false, cond, not, leb, ltb}
use Rattle.std.proofs.Common.{List, [], ◌∷◌, ◌++◌, length, map, filter, take, drop, get_or, Option, Some, None, is_some}
use Rattle.std.proofs.Common.{option_map, refl, sym, ap, ◌∙◌, inl, inr, add-one, arith}
use Rattle.std.specs.List.{list_any, slice_get}
use Rattle.std.specs.Ordering.{nat_cmp}
use Rattle.std.specs.FinSet.{FinSet}
use Rattle.std.proofs.lemmas.Bool.{cases_lt, lt-ltb, le-ltb}
use Rattle.std.proofs.lemmas.Bool.Decides.{nat_tests}
use Rattle.std.proofs.lemmas.List.{append_assoc, append-nil, drop_more, drop_all, take_more, drop-map, take-map}
use Rattle.std.proofs.lemmas.List.{length-map, length_push}
use Rattle.std.proofs.lemmas.List.Elements.{filter-append}
use Rattle.std.proofs.lemmas.Option.{slice_get_cases, slice_get_within, get_or_from_slice_get}
use Rattle.kom_types.specs.declared.memberships.Membership.{Membership}
use Rattle.kom_types.specs.declared.memberships.MembershipRow.{MembershipRow}
use Rattle.kom_types.specs.declared.memberships.ReadRange.{ReadRange}
use Rattle.read_ranges.specs.Numbers.{RiseFrom, greatest, numbers_from, ranges_of}
use Rattle.read_ranges.specs.Changed.{is_in, has_unread}
use Rattle.read_ranges.proofs.Rises.{holds_below}
use Rattle.read_ranges.proofs.Sets.{rise_ranges_of}
use Rattle.kom_model.specs.calls.Call.{Asked}
use Rattle.kom_model.specs.calls.Memberships.{part, membership_told, all_told}

-- ---- parts of lists
-- a test of what is made of each element
pub filter-map : {X Y : Type 0} (make : X → Y) (test : Y → Bool) (xs : List X) →
    filter test (map make xs) ≡ map make (filter (λ x. test (make x)) xs)
filter-map make test [] = refl
filter-map make test (x ∷ xs) =
    elim (test (make x)) as (λ b. cond b (make x ∷ filter test (map make xs)) (filter test (map make xs))
    ≡ map make (cond b (x ∷ filter (λ one. test (make one)) xs) (filter (λ one. test (make one)) xs))) [
      | true ↦ ap (λ rest. make x ∷ rest) (filter-map make test xs)
      | false ↦ filter-map make test xs
    ]

pub length-filter-map : {X Y : Type 0} (make : X → Y) (test : Y → Bool) (xs : List X) →
    length (filter test (map make xs)) ≡ length (filter (λ x. test (make x)) xs)
length-filter-map make test xs =
    ap length (filter-map make test xs) ∙ length-map (filter (λ x. test (make x)) xs) make

pub part-map : {X Y : Type 0} (make : X → Y) (test : Y → Bool) (first count : ℕ) (xs : List X) →
    take count (drop first (filter test (map make xs)))
    ≡ map make (part first count (filter (λ x. test (make x)) xs))
part-map make test first count xs =
    let kept = filter (λ x. test (make x)) xs in
    ap (λ l. take count (drop first l)) (filter-map make test xs)
    ∙ ap (take count) (drop-map make first kept) ∙ take-map make count (drop first kept)

is_some-map : {X Y : Type 0} (make : X → Y) (found : Option X) → is_some (option_map make found) ≡ is_some found
is_some-map make None = refl
is_some-map make (Some x) = refl

is_some-slice_get : {X : Type 0} (xs : List X) (place : ℕ) → is_some (slice_get xs place) ≡ ltb place (length xs)
is_some-slice_get xs place =
    elim (slice_get_cases xs place).1 [
      | inl found ↦ ap is_some found.2 ∙ sym (lt-ltb place (length xs) found.1)
      | inr past ↦ ap is_some past.1 ∙ sym (le-ltb place (length xs) past.0)
    ]

-- there is an element at a place if that is below how many there are
pub found_at : {X : Type 0} (found : Option X) (xs : List X) (place : ℕ) →
    option_map (λ x. x) found ≡ slice_get xs place → is_some found ≡ ltb place (length xs)
found_at found xs place is =
    sym (is_some-map (λ x. x) found) ∙ ap is_some is ∙ is_some-slice_get xs place

module _ {X : Type 0} (test : X → Bool) (xs : List X) where
  -- how many of the first elements pass the test
  abbrev pub count_to : ℕ → ℕ
  count_to place = length (filter test (take place xs))

  module _ (place : ℕ) (x : X) (here : slice_get xs place ≡ Some x) where
    more : filter test (take (place + 1) xs) ≡ filter test (take place xs) ++ filter test (x ∷ [])
    more =
        ap (filter test) (take_more xs place x (slice_get_within xs place x here)
        ∙ ap (λ one. take place xs ++ one ∷ []) (get_or_from_slice_get xs place x x here))
        ∙ filter-append test (take place xs) (x ∷ [])

    -- one more of them passes
    pub counted-kept : test x ≡ true → (now : ℕ) → now ≡ count_to place → now + 1 ≡ count_to (place + 1)
    counted-kept kept now was =
        let last : filter test (x ∷ []) ≡ x ∷ [] = ap (λ b. cond b (x ∷ []) []) kept in
        ap (λ n. n + 1) was
        ∙ sym (ap length (more ∙ ap (λ l. filter test (take place xs) ++ l) last)
        ∙ length_push (filter test (take place xs)) x)

    -- one more does not
    pub counted-left : test x ≡ false → (now : ℕ) → now ≡ count_to place → now ≡ count_to (place + 1)
    counted-left left now was =
        let last : filter test (x ∷ []) ≡ [] = ap (λ b. cond b (x ∷ []) []) left in
        was ∙ sym (ap length (more ∙ ap (λ l. filter test (take place xs) ++ l) last
        ∙ append-nil (filter test (take place xs))))

-- ---- memberships that are told
module _ (asked : Asked) (want_ranges : Bool) (most first : ℕ) (rows : List MembershipRow) where
  -- the first rows were told
  abbrev pub AreTold : ℕ → List Membership → Type 0
  AreTold count told =
      (length told ≡ count)
      × (told ++ all_told asked want_ranges most (first + count) (drop count rows)
      ≡ all_told asked want_ranges most first rows)

  pub told-none : (told : List Membership) → told ≡ [] → AreTold 0 told
  told-none told none =
      let here : first + 0 ≡ first = omega arith in
      let whole : told ++ all_told asked want_ranges most (first + 0) rows
      ≡ all_told asked want_ranges most first rows =
      ap (λ l. l ++ all_told asked want_ranges most (first + 0) rows) none
      ∙ ap (λ place. all_told asked want_ranges most place rows) here in
      (ap length none, whole)

  -- one more
  pub told-more : (count : ℕ) (row : MembershipRow) (told new : List Membership) → AreTold count told →
      (count < length rows) × (row ≡ get_or rows count row) →
      new ≡ told ++ membership_told asked want_ranges most (first + length told) row ∷ [] → AreTold (count + 1) new
  told-more count row told new were at push =
      let next = membership_told asked want_ranges most (first + length told) row in
      let after : first + count + 1 ≡ first + (count + 1) = omega arith in
      let split : drop count rows ≡ row ∷ drop (count + 1) rows =
      drop_more rows count row at.0 ∙ ap (λ one. one ∷ drop (count + 1) rows) (sym at.1) in
      let whole : new ++ all_told asked want_ranges most (first + (count + 1)) (drop (count + 1) rows)
      ≡ all_told asked want_ranges most first rows =
      ap (λ l. l ++ all_told asked want_ranges most (first + (count + 1)) (drop (count + 1) rows)) push
      ∙ append_assoc told (next ∷ []) _
      ∙ ap (λ place. told ++ next ∷ all_told asked want_ranges most place (drop (count + 1) rows)) (sym after)
      ∙ ap (λ place. told ++ membership_told asked want_ranges most (first + place) row
      ∷ all_told asked want_ranges most (first + count + 1) (drop (count + 1) rows)) were.0
      ∙ ap (λ l. told ++ all_told asked want_ranges most (first + count) l) (sym split) ∙ were.1 in
      (ap length push ∙ length_push told next ∙ ap (λ n. n + 1) were.0, whole)

  -- all of them
  pub told-all : (count : ℕ) (told : List Membership) → AreTold count told → length rows ≤ count →
      told ≡ all_told asked want_ranges most first rows
  told-all count told were past =
      sym (append-nil told)
      ∙ ap (λ l. told ++ all_told asked want_ranges most (first + count) l) (sym (drop_all count rows past)) ∙ were.1

-- ---- how much was read
-- ranges that rise are few
pub ranges_few : (least : ℕ) (ranges : List ReadRange) → RiseFrom least ranges →
    length ranges ≤ greatest + 1 - least
ranges_few least [] rise = omega arith
ranges_few least (one ∷ ranges) rise =
    let others = ranges_few (one.last + 2) ranges rise.3 in
    let from = rise.0 in
    let own = rise.1 in
    let to = rise.2 in
    omega (arith, others, from, own, to)

-- with nothing read some number is not, if there is one at all
unread_in_run : (first count : ℕ) → list_any (λ n. not (is_in n [])) (numbers_from first count) ≡ ltb 0 count
unfolding numbers_from
unread_in_run first zero = refl
unread_in_run first (suc count) = sym (lt-ltb 0 (suc count) (omega arith))

ltb-leb : (first last : ℕ) → ltb 0 (last + 1 - first) ≡ leb first last
ltb-leb first last = elim (cases_lt last first) [
  | inl past ↦ grind (arith, nat_tests)
  | inr within ↦ grind (arith, nat_tests)
]

pub unread_of_none : (first last : ℕ) → has_unread first last [] ≡ leb first last
unread_of_none first last = unread_in_run first (last + 1 - first) ∙ ltb-leb first last

-- no set has 0
unread_at_zero : (ranges : List ReadRange) (count : ℕ) → is_in 0 ranges ≡ false →
    list_any (λ n. not (is_in n ranges)) (numbers_from 0 (count + 1)) ≡ true
unfolding numbers_from
unread_at_zero ranges count none = rw (add-one, none) refl

pub unread_from_zero : (set : FinSet nat_cmp) (last : ℕ) → has_unread 0 last (ranges_of set) ≡ true
unread_from_zero set last =
    let many : last + 1 - 0 ≡ last + 1 = omega arith in
    ap (λ count. list_any (λ n. not (is_in n (ranges_of set))) (numbers_from 0 count)) many
    ∙ unread_at_zero (ranges_of set) last (holds_below 1 (ranges_of set) 0 (rise_ranges_of set) (omega arith))
