-- Tests of the items that stand on an object when one more is added.
use Rattle.std.proofs.Common.{◌≡◌, ℕ, Bool, true, false, not, cond, ◌==◌, ◌&&◌, ◌||◌}
use Rattle.std.proofs.Common.{List, [], ◌∷◌, ◌++◌, map, filter, refl, sym, ap, ◌∙◌}
use Rattle.std.specs.List.{list_any}
use Rattle.std.proofs.lemmas.List.Folds.{list_any-append}
use Rattle.kom_types.specs.declared.aux_items.AuxInput.{AuxInput}
use Rattle.kom_types.specs.declared.aux_items.AuxRow.{AuxRow}
use Rattle.kom_types.specs.AuxItems.{is_among, item_of, left_after}

module _ {X : Type 0} (p q : X → Bool) where
  kept : (a b : Bool) (x : X) (rest : List X) → p x ≡ a → q x ≡ b →
      list_any p (cond (q x) (x ∷ rest) rest) ≡ ((p x && q x) || list_any p rest)
  kept true true x rest e f = rw (e, f) (simp e)
  kept true false x rest e f = rw (e, f)
  kept false true x rest e f = rw (e, f) (simp e)
  kept false false x rest e f = rw (e, f)

  any_filter : (xs : List X) → list_any p (filter q xs) ≡ list_any (λ x. p x && q x) xs
  any_filter [] = refl
  any_filter (x ∷ xs) =
      kept (p x) (q x) x (filter q xs) refl refl ∙ ap (λ b. (p x && q x) || b) (any_filter xs)

any-map : {X Y : Type 0} (p : Y → Bool) (make : X → Y) (xs : List X) →
    list_any p (map make xs) ≡ list_any (λ x. p (make x)) xs
any-map p make [] = refl
any-map p make (x ∷ xs) = ap (λ b. p (make x) || b) (any-map p make xs)

both : (a b some : Bool) {all : Bool} → all ≡ (b && some) → ((a && b) || all) ≡ (b && (a || some))
both true true some e = refl
both true false some e = e
both false true some e = e
both false false some e = e

any-both : {X : Type 0} (p : X → Bool) (b : Bool) (xs : List X) →
    list_any (λ x. p x && b) xs ≡ (b && list_any p xs)
any-both p true [] = refl
any-both p false [] = refl
any-both p b (x ∷ xs) = both (p x) b (list_any p xs) (any-both p b xs)

-- where no number is deleted, all are left
pub left-all : (rows : List AuxRow) → left_after [] rows ≡ rows
left-all [] = refl
left-all (row ∷ rows) = ap (λ l. row ∷ l) (left-all rows)

module _ (rows : List AuxRow) (deleted : List ℕ) (added : List AuxInput) (person tag : ℕ) where
  -- what is left of the rows, and then what is added
  abbrev standing : List AuxRow
  standing = left_after deleted rows ++ map (item_of 0 person 0) added

  any_standing : (test : AuxRow → Bool) → list_any test standing
      ≡ (list_any (λ item. test item && not (is_among deleted item.number)) rows
      || list_any (λ given. test (item_of 0 person 0 given)) added)
  any_standing test =
      list_any-append test (left_after deleted rows) (map (item_of 0 person 0) added)
      ∙ ap (λ b. b || list_any test (map (item_of 0 person 0) added))
      (any_filter test (λ item. not (is_among deleted item.number)) rows)
      ∙ ap (λ b. list_any (λ item. test item && not (is_among deleted item.number)) rows || b)
      (any-map test (item_of 0 person 0) added)

  abbrev of_tag : AuxRow → Bool
  of_tag item = item.tag == tag

  abbrev has_left : Bool
  has_left = list_any (λ item. of_tag item && not (is_among deleted item.number)) rows

  abbrev has_added : Bool
  has_added = list_any (λ given. given.tag == tag) added

  pub has-left : has_left ≡ true → true ≡ list_any of_tag standing
  has-left left = sym (any_standing of_tag ∙ ap (λ b. b || has_added) left)

  pub has-added : has_left ≡ false → has_added ≡ list_any of_tag standing
  has-added left = sym (any_standing of_tag ∙ ap (λ b. b || has_added) left)

  module _ (creator : ℕ) where
    abbrev of_creator : AuxRow → Bool
    of_creator item = item.tag == tag && item.creator == creator

    abbrev has_left_by : Bool
    has_left_by = list_any (λ item. of_creator item && not (is_among deleted item.number)) rows

    has_by : list_any of_creator standing ≡ (has_left_by || (person == creator && has_added))
    has_by =
        any_standing of_creator
        ∙ ap (λ b. has_left_by || b) (any-both (λ given. given.tag == tag) (person == creator) added)

    pub has-left_by : has_left_by ≡ true → true ≡ list_any of_creator standing
    has-left_by left = sym (has_by ∙ ap (λ b. b || (person == creator && has_added)) left)

    pub has-added_by : has_left_by ≡ false → (own : Bool) → (person == creator) ≡ own →
        (own && has_added) ≡ list_any of_creator standing
    has-added_by left own is =
        sym (has_by ∙ ap (λ b. b || (person == creator && has_added)) left ∙ ap (λ b. b && has_added) is)
