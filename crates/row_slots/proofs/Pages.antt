-- The lists in pages: after a page without lists is added, and after one is let go that has no number.
use Rattle.std.proofs.Common.{◌≡◌, ℕ, zero, suc, ◌/◌, ◌%◌, ◌==◌, ◌||◌, Bool, true, false, not, List, [], ◌∷◌, ◌++◌}
use Rattle.std.proofs.Common.{length, slice_get, Option, Some, refl, sym, ap, ◌∙◌, nat_eq, arith}
use Rattle.std.specs.List.{list_any}
use Rattle.std.specs.Map.{lookup}
use Rattle.std.specs.Option.{option_and_then, option_map_or}
use Rattle.std.specs.declared.alloc.Global.{Global}
use Rattle.std.specs.declared.vec.Vec.{Vec}
use Rattle.std.proofs.Math.ListN.{set}
use Rattle.std.proofs.lemmas.Bool.{false≢true, eqb-true}
use Rattle.std.proofs.lemmas.Option.{same_Some}
use Rattle.smallvec.specs.SmallVec.{SmallVec}
use Rattle.row_slots.specs.declared.lists.Lists.{Lists}
use Rattle.row_slots.specs.DenseLists.{near_list}
use Rattle.row_slots.specs.Lists.{list_of}

abbrev Page : Type 0
Page = Vec (SmallVec ℕ) Global

-- the list at a place of a page that may be there, and its numbers
abbrev in_page : ℕ → Option Page → Option (SmallVec ℕ)
in_page place page = option_and_then (λ p. slice_get p.items place) page

abbrev numbers : Option (SmallVec ℕ) → List ℕ
numbers list = option_map_or (λ l. l.items) list []

pub empty_list : {X : Type 0} (xs : List X) → length xs ≡ 0 → xs ≡ []
empty_list [] none = refl
empty_list (x ∷ xs) none = absurd (omega (arith, none))

-- ---- a page without lists is added

near_at : (pages : List Page) (page : Page) (which place : ℕ) → page.items ≡ [] →
    in_page place (slice_get (pages ++ page ∷ []) which) ≡ in_page place (slice_get pages which)
near_at [] page zero place none = ap (λ xs. slice_get xs place) none
near_at [] page (suc which) place none = refl
near_at (first ∷ pages) page zero place none = refl
near_at (first ∷ pages) page (suc which) place none = near_at pages page which place none

pub near-push : (pages : List Page) (page : Page) (key : ℕ) → page.items ≡ [] →
    near_list (pages ++ page ∷ []) key ≡ near_list pages key
near-push pages page key none = near_at pages page (key / 64) (key % 64) none

pub page-push : (pages : List Page) (page : Page) (which : ℕ) → page.items ≡ [] →
    option_map_or (λ p. p.items) (slice_get (pages ++ page ∷ []) which) []
    ≡ option_map_or (λ p. p.items) (slice_get pages which) []
page-push [] page zero none = none
page-push [] page (suc which) none = refl
page-push (first ∷ pages) page zero none = refl
page-push (first ∷ pages) page (suc which) none = page-push pages page which none

-- ---- a page without a number is let go

none_in : (lists : List (SmallVec ℕ)) (place : ℕ) → list_any (λ list. not (length list.items == 0)) lists ≡ false →
    numbers (slice_get lists place) ≡ []
none_in [] place unused = refl
none_in (list ∷ lists) zero unused =
    empty_list list.items (eqb-true (length list.items) 0 (of_first (length list.items == 0) _ unused))
  where
    of_first : (first others : Bool) → (not first || others) ≡ false → first ≡ true
    of_first true others none = refl
    of_first false others none = absurd (false≢true (sym none))
none_in (list ∷ lists) (suc place) unused = none_in lists place (of_rest (not (length list.items == 0)) _ unused)
  where
    of_rest : (first others : Bool) → (first || others) ≡ false → others ≡ false
    of_rest true others none = absurd (false≢true (sym none))
    of_rest false others none = none

cleared_at : (pages : List Page) (hand : ℕ) (page other : Page) (which place : ℕ) → slice_get pages hand ≡ Some page →
    list_any (λ list. not (length list.items == 0)) page.items ≡ false → other.items ≡ [] →
    numbers (in_page place (slice_get (set pages hand other) which)) ≡ numbers (in_page place (slice_get pages which))
cleared_at [] hand page other which place there unused none = refl
cleared_at (first ∷ pages) zero page other zero place there unused none =
    ap (λ xs. numbers (slice_get xs place)) none
    ∙ sym (ap (λ p. numbers (slice_get p.items place)) (same_Some first page there) ∙ none_in page.items place unused)
cleared_at (first ∷ pages) zero page other (suc which) place there unused none = refl
cleared_at (first ∷ pages) (suc hand) page other zero place there unused none = refl
cleared_at (first ∷ pages) (suc hand) page other (suc which) place there unused none =
    cleared_at pages hand page other which place there unused none

pub none_far : (lists : Lists) (key : ℕ) → lists.map.entries ≡ [] → list_of lists key ≡ []
none_far lists key none = ap (λ entries. option_map_or (λ list. list.items) (lookup (nat_eq key) entries) []) none

pub near-cleared : (pages : List Page) (hand : ℕ) (page other : Page) (far : Lists) (key : ℕ) →
    far.map.entries ≡ [] → slice_get pages hand ≡ Some page →
    list_any (λ list. not (length list.items == 0)) page.items ≡ false → other.items ≡ [] →
    option_map_or (λ list. list.items) (near_list (set pages hand other) key) (list_of far key)
    ≡ option_map_or (λ list. list.items) (near_list pages key) (list_of far key)
near-cleared pages hand page other far key none there unused empty =
    ap (option_map_or (λ list. list.items) (near_list (set pages hand other) key)) (none_far far key none)
    ∙ cleared_at pages hand page other (key / 64) (key % 64) there unused empty
    ∙ ap (option_map_or (λ list. list.items) (near_list pages key)) (sym (none_far far key none))
