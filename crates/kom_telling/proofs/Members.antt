-- The memberships that are told are those of the snapshot.
use Rattle.std.proofs.Common.{◌≡◌, ℕ, ◌≤◌, Bool, true, List, [], ◌∷◌, ◌++◌, length, map, filter}
use Rattle.std.proofs.Common.{Option, Some, None, find, refl, sym, ap, subst, ◌∙◌, append_assoc, inl, inr}
use Rattle.std.specs.List.{AllByRecursion, flat_map}
use Rattle.std.proofs.lemmas.Bool.{cases_Bool, and_from, eq-eqb}
use Rattle.std.proofs.lemmas.List.{map-append}
use Rattle.kom_types.specs.Parts.{Part, Makes}
use Rattle.kom_types.specs.declared.effects.Effect.TheVariants as effect
use Rattle.kom_types.specs.declared.memberships.MembershipRow.{MembershipRow}
use Rattle.kom_types.specs.declared.memberships.Placed.{Placed}
use Rattle.kom_types.specs.tables.Memberships.{is_membership, placed_of}
use Rattle.kom_model.specs.Db.{Db, membership_of, read_of}
use Rattle.kom_model.specs.Whole.{IsWhole}
use Rattle.kom_snapshot.specs.Snap.{membership_list, membership_effects, is_before, rank}
use Rattle.kom_snapshot.proofs.replay.Tables.{find-first, none-before}
use Rattle.kom_telling.specs.Sections.{rank_among, joined_after, all_joined, member_parts}

module _ (db : Db) (whole : IsWhole db) where
  abbrev IsOwn : MembershipRow → Type 0
  IsOwn row = membership_of db row.person row.conference ≡ Some row

  -- each membership is found by its person and its conference
  own : (front rest : List MembershipRow) → front ++ rest ≡ db.memberships → AllByRecursion IsOwn rest
  unfolding membership_of
  own front [] same = tt
  own front (row ∷ rest) same =
      let test : MembershipRow → Bool = is_membership row.person row.conference in
      let passes : test row ≡ true =
      and_from _ _ (eq-eqb row.person row.person refl) (eq-eqb row.conference row.conference refl) in
      let none : find test front ≡ None =
      none-before test front row rest
      (subst (λ l. length (filter test l) ≤ 1) (sym same) (whole.memberships.once row.person row.conference))
      passes in (
        subst (λ l. find test l ≡ Some row) same (find-first test front row rest none passes),
        own (front ++ row ∷ []) rest (append_assoc front (row ∷ []) rest ∙ same),
      )

  ranks : (row : MembershipRow) (front : List MembershipRow) →
      rank_among (map placed_of front) (placed_of row) ≡ rank row front
  ranks row [] = refl
  ranks row (other ∷ front) =
      let rest : rank_among (map placed_of front) (placed_of row) ≡ rank row front = ranks row front in
      elim (cases_Bool (is_before row other)) [
        | inl before ↦ rw (before, rest) refl
        | inr after ↦ rw after rest
      ]

  -- one membership
  one : (row : MembershipRow) (front : List MembershipRow) → IsOwn row →
      member_parts db (record {
        person = row.person;
        conference = row.conference;
        rank = rank_among (map placed_of front) (placed_of row);
      }) ≡ map Makes (membership_effects db.reads front row)
  unfolding read_of
  one row front is =
      let parts : ℕ → MembershipRow → List Part = λ at found.
      Makes (effect.MemberSet row.person row.conference at found.priority found.added_by found.added_at found.kind)
      ∷ Makes (effect.ReadSet row.person row.conference found.last_time_read (read_of db row.person row.conference))
      ∷ [] in
      ap (λ (o : Option MembershipRow). elim o [
        | None ↦ []
        | Some found ↦ parts (rank_among (map placed_of front) (placed_of row)) found
      ]) is
      ∙ ap (λ (n : ℕ). parts n row) (ranks row front)

  members : (front rest : List MembershipRow) → AllByRecursion IsOwn rest →
      flat_map (member_parts db) (joined_after (map placed_of front) (map placed_of rest))
      ≡ map Makes (membership_list db.reads front rest)
  members front [] all = refl
  members front (row ∷ rest) all =
      let further : map placed_of front ++ placed_of row ∷ [] ≡ map placed_of (front ++ row ∷ []) =
      sym (map-append placed_of front (row ∷ [])) in
      let others = ap (λ (placed : List Placed). flat_map (member_parts db) (joined_after placed (map placed_of rest)))
      further
      ∙ members (front ++ row ∷ []) rest all.1 in
      let here = one row front all.0 in
      (λ i. here i ++ others i)
      ∙ sym (map-append Makes (membership_effects db.reads front row)
      (membership_list db.reads (front ++ row ∷ []) rest))

  pub members-told : flat_map (member_parts db) (all_joined db) ≡ map Makes (membership_list db.reads [] db.memberships)
  members-told = members [] db.memberships (own [] db.memberships refl)
