-- The links and the lists of places after a link is added, and after one is taken out.
use Rattle.std.proofs.Common.{◌≡◌, ℕ, Bool, true, cond, not, ◌&&◌, eqb, nat_eq, List, [], ◌∷◌, ◌++◌, length, filter}
use Rattle.std.proofs.Common.{Option, Some, None, sym, ◌∙◌, ap, arith}
use Rattle.std.specs.Set.{remove_key, is_member}
use Rattle.std.proofs.lemmas.Bool.{and_parts, and_from}
use Rattle.kom_types.specs.Bits.{alike}
use Rattle.kom_types.specs.declared.texts.TextLink.{TextLink}
use Rattle.kom_types.specs.tables.Texts.{is_link, link_of, without_link}
use Rattle.row_slots.specs.Slots.{rows_in, empty_slot}
use Rattle.row_slots.proofs.Places.{row_at, places_of-push, places_of-emptied, is_member-places_of, rows_in-emptied}
use Rattle.row_slots.proofs.Rows.{rows_in-push}
use Rattle.misc_links.specs.Keeping.{is_from, is_into, IsKept}
use Rattle.misc_links.specs.Kinds.{is_same}
use Rattle.misc_links.proofs.Finding.{link_parts}
use Rattle.row_slots.proofs.Passing.{none_pass, all_stay, fewer_pass, one_passes}

-- without a link that is not there
pub without_none : (child parent : ℕ) (footnote : Bool) (rows : List TextLink) →
    link_of child parent footnote rows ≡ None →
    without_link child parent footnote rows ≡ rows
without_none child parent footnote rows none = all_stay (is_link child parent footnote) rows none

module _ (slots : List (Option TextLink)) (from into : ℕ → Bool → List ℕ) (kept : IsKept slots from into)
    (new_from new_into : ℕ → Bool → List ℕ) where
  -- ---- a link is added

  module _ (link : TextLink) (absent : link_of link.child link.parent link.footnote (rows_in slots) ≡ None)
      (adds_from : (text : ℕ) (kind : Bool) → new_from text kind
      ≡ cond (is_same link.child link.footnote text kind) (from text kind ++ length slots ∷ []) (from text kind))
      (adds_into : (text : ℕ) (kind : Bool) → new_into text kind
      ≡ cond (is_same link.parent link.footnote text kind) (into text kind ++ length slots ∷ []) (into text kind)) where
    none_like_it : (child parent : ℕ) (footnote : Bool) → is_link child parent footnote link ≡ true →
        length (filter (is_link child parent footnote) (rows_in slots)) ≡ 0
    none_like_it child parent footnote is =
        let parts = link_parts child parent footnote link is in
        none_pass (is_link child parent footnote) (rows_in slots)
        (sym (λ i. link_of (parts.0 i) (parts.1 i) (parts.2 i) (rows_in slots)) ∙ absent)

    pub IsKept-added : IsKept (slots ++ Some link ∷ []) new_from new_into
    IsKept-added = record {
      listed_from = λ text kind. adds_from text kind
          ∙ ap (λ places. cond (is_same link.child link.footnote text kind) (places ++ length slots ∷ []) places)
          (kept.listed_from text kind)
          ∙ sym (places_of-push (is_from text kind) slots link);
      listed_into = λ text kind. adds_into text kind
          ∙ ap (λ places. cond (is_same link.parent link.footnote text kind) (places ++ length slots ∷ []) places)
          (kept.listed_into text kind)
          ∙ sym (places_of-push (is_into text kind) slots link);
      once = λ child parent footnote. rw (rows_in-push slots link)
          (one_passes (is_link child parent footnote) (rows_in slots) link (kept.once child parent footnote)
          (none_like_it child parent footnote));
    }

module _ (slots : List (Option TextLink)) (from into : ℕ → Bool → List ℕ) (kept : IsKept slots from into)
    (child parent : ℕ) (footnote : Bool) (place : ℕ) (row : TextLink) (there : row_at slots place ≡ Some row)
    (is : is_link child parent footnote row ≡ true) where
  -- ---- a link is taken out

  pub from_has : is_member nat_eq (from child footnote) place ≡ true
  from_has =
      let kind = and_parts (eqb row.child child && eqb row.parent parent) (alike row.footnote footnote) is in
      let ends = and_parts (eqb row.child child) (eqb row.parent parent) kind.0 in
      ap (λ places. is_member nat_eq places place) (kept.listed_from child footnote)
      ∙ is_member-places_of (is_from child footnote) place slots row there
      (and_from (eqb row.child child) (alike row.footnote footnote) ends.0 kind.1)

  pub into_has : is_member nat_eq (into parent footnote) place ≡ true
  into_has =
      let kind = and_parts (eqb row.child child && eqb row.parent parent) (alike row.footnote footnote) is in
      let ends = and_parts (eqb row.child child) (eqb row.parent parent) kind.0 in
      ap (λ places. is_member nat_eq places place) (kept.listed_into parent footnote)
      ∙ is_member-places_of (is_into parent footnote) place slots row there
      (and_from (eqb row.parent parent) (alike row.footnote footnote) ends.1 kind.1)

  pub rows_left : rows_in (empty_slot place slots) ≡ without_link child parent footnote (rows_in slots)
  rows_left = rows_in-emptied (is_link child parent footnote) place slots row there is (kept.once child parent footnote)

  module _ (new_from new_into : ℕ → Bool → List ℕ)
      (takes_from : (text : ℕ) (kind : Bool) → new_from text kind
      ≡ cond (is_same child footnote text kind) (remove_key (nat_eq place) (from text kind)) (from text kind))
      (takes_into : (text : ℕ) (kind : Bool) → new_into text kind
      ≡ cond (is_same parent footnote text kind) (remove_key (nat_eq place) (into text kind)) (into text kind)) where
    pub IsKept-left : IsKept (empty_slot place slots) new_from new_into
    IsKept-left =
        let parts = link_parts child parent footnote row is in
        let same_child = sym parts.0 in
        let same_parent = sym parts.1 in
        let same_kind = sym parts.2 in
        record {
          listed_from = λ text kind. takes_from text kind
              ∙ (λ i. cond (eqb (same_child i) text && alike (same_kind i) kind)
              (remove_key (nat_eq place) (kept.listed_from text kind i)) (kept.listed_from text kind i))
              ∙ sym (places_of-emptied (is_from text kind) place slots row there);
          listed_into = λ text kind. takes_into text kind
              ∙ (λ i. cond (eqb (same_parent i) text && alike (same_kind i) kind)
              (remove_key (nat_eq place) (kept.listed_into text kind i)) (kept.listed_into text kind i))
              ∙ sym (places_of-emptied (is_into text kind) place slots row there);
          once = λ other_child other_parent kind. rw rows_left
              (omega (
                arith,
                kept.once other_child other_parent kind,
                fewer_pass (is_link other_child other_parent kind) (λ r. not (is_link child parent footnote r))
                    (rows_in slots),
              ));
        }
