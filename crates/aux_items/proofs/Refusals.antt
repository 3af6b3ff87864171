-- The first entry that is refused, one entry after another.
use Rattle.std.proofs.Common.{◌≡◌, ℕ, ◌+◌, ◌<◌, ◌≤◌, List, [], ◌∷◌, ◌++◌}
use Rattle.std.proofs.Common.{length, map, take, drop, get_or, Option, Some, None}
use Rattle.std.proofs.Common.{sym, ap, ◌∙◌}
use Rattle.std.proofs.lemmas.List.{take_more, drop_more, drop_all, map-append, append_assoc, append-nil}
use Rattle.kom_types.specs.declared.aux_items.Adder.{Adder}
use Rattle.kom_types.specs.declared.aux_items.AuxInput.{AuxInput}
use Rattle.kom_types.specs.declared.aux_items.AuxRow.{AuxRow}
use Rattle.kom_types.specs.declared.aux_items.Object.{Object}
use Rattle.kom_types.specs.AuxItems.{AuxRefusal, code_added, code_deleted, item_of, refused_added, refused_deleted}

abbrev refusal : ℕ → ℕ → AuxRefusal
refusal code index = record { code = code; index = index }

abbrev or_later : Option ℕ → ℕ → Option AuxRefusal → Option AuxRefusal
or_later code index later = elim code [ Some code ↦ Some (refusal code index) | None ↦ later ]

module _ (by : Adder) (rows : List AuxRow) (deleted : List ℕ) where
  -- what is refused of the deletions from a place on
  abbrev pub deletions_from : ℕ → Option AuxRefusal
  deletions_from place = refused_deleted by rows (take place deleted) place (drop place deleted)

  module _ (place number : ℕ) (inside : place < length deleted) (is : number ≡ get_or deleted place 0) where
    split_deletions : deletions_from place
        ≡ or_later (code_deleted by rows (take place deleted) number) place (deletions_from (place + 1))
    split_deletions =
        ap (refused_deleted by rows (take place deleted) place)
        (drop_more deleted place 0 inside ∙ ap (λ one. one ∷ drop (place + 1) deleted) (sym is))
        ∙ ap
        (λ before. or_later (code_deleted by rows (take place deleted) number) place
        (refused_deleted by rows before (place + 1) (drop (place + 1) deleted)))
        (sym (take_more deleted place 0 inside ∙ ap (λ one. take place deleted ++ one ∷ []) (sym is)))

    pub deletion-passes : code_deleted by rows (take place deleted) number ≡ None →
        deletions_from place ≡ deletions_from (place + 1)
    deletion-passes none = split_deletions ∙ ap (λ c. or_later c place (deletions_from (place + 1))) none

    pub deletion-refused : (code : ℕ) → code_deleted by rows (take place deleted) number ≡ Some code →
        deletions_from place ≡ Some (record { code = code; index = place })
    deletion-refused code some = split_deletions ∙ ap (λ c. or_later c place (deletions_from (place + 1))) some

  pub deletions-end : (place : ℕ) → length deleted ≤ place → deletions_from place ≡ None
  deletions-end place past =
      ap (refused_deleted by rows (take place deleted) place) (drop_all place deleted past)

module _ (on : Object) (by : Adder) (left : List AuxRow) (added : List AuxInput) where
  abbrev pub standing_at : ℕ → List AuxRow
  standing_at place = left ++ map (item_of 0 by.person 0) (take place added)

  -- what is refused of the additions from a place on
  abbrev pub additions_from : ℕ → Option AuxRefusal
  additions_from place = refused_added on by (standing_at place) place (drop place added)

  pub additions-all : refused_added on by left 0 added ≡ additions_from 0
  additions-all = ap (λ items. refused_added on by items 0 added) (sym (append-nil left))

  module _ (place : ℕ) (given : AuxInput) (inside : place < length added) (is : given ≡ get_or added place given) where
    one_more : standing_at place ++ item_of 0 by.person 0 given ∷ [] ≡ standing_at (place + 1)
    one_more =
        append_assoc left (map (item_of 0 by.person 0) (take place added)) (item_of 0 by.person 0 given ∷ [])
        ∙ ap (λ l. left ++ l)
        (sym (map-append (item_of 0 by.person 0) (take place added) (given ∷ []))
        ∙ ap (map (item_of 0 by.person 0))
        (sym (take_more added place given inside ∙ ap (λ one. take place added ++ one ∷ []) (sym is))))

    split_additions : additions_from place
        ≡ or_later (code_added on by (standing_at place) given) place (additions_from (place + 1))
    split_additions =
        ap (refused_added on by (standing_at place) place)
        (drop_more added place given inside ∙ ap (λ one. one ∷ drop (place + 1) added) (sym is))
        ∙ ap
        (λ items. or_later (code_added on by (standing_at place) given) place
        (refused_added on by items (place + 1) (drop (place + 1) added)))
        one_more

    pub addition-passes : code_added on by (standing_at place) given ≡ None →
        additions_from place ≡ additions_from (place + 1)
    addition-passes none = split_additions ∙ ap (λ c. or_later c place (additions_from (place + 1))) none

    pub addition-refused : (code : ℕ) → code_added on by (standing_at place) given ≡ Some code →
        additions_from place ≡ Some (record { code = code; index = place })
    addition-refused code some = split_additions ∙ ap (λ c. or_later c place (additions_from (place + 1))) some

  pub additions-end : (place : ℕ) → length added ≤ place → additions_from place ≡ None
  additions-end place past = ap (refused_added on by (standing_at place) place) (drop_all place added past)
