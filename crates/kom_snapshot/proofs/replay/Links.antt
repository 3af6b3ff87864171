-- The links of a snapshot come again.
use Rattle.std.proofs.Common.{◌≡◌, ℕ, ◌≤◌, Bool, true, false, ◌==◌, ◌&&◌, List, [], ◌∷◌, ◌++◌, length}
use Rattle.std.proofs.Common.{refl, sym, ◌∙◌, ap, subst, append_assoc}
use Rattle.std.specs.Prelude.{map, is_none, is_some}
use Rattle.std.specs.List.{AllByRecursion, filter}
use Rattle.std.proofs.lemmas.Bool.{and_from, lt-ltb, eq-eqb}
use Rattle.std.proofs.lemmas.List.{append-nil}
use Rattle.row_table.specs.Tables.{row_of}
use Rattle.kom_types.specs.Bits.{alike}
use Rattle.kom_types.specs.declared.effects.Effect.TheVariants as effect
use Rattle.kom_types.specs.declared.texts.TextLink.{TextLink}
use Rattle.kom_types.specs.declared.texts.TextRow.{TextRow}
use Rattle.kom_types.specs.tables.Texts.{number_of_text, is_link}
use Rattle.kom_model.specs.Db.{Db, text_of, link_of, links_from, links_into}
use Rattle.kom_model.specs.Effects.{fits, after_effect, most_links}
use Rattle.kom_model.specs.Whole.{AreLinks, has_text}
use Rattle.kom_snapshot.proofs.replay.Replaying.{Replays, replays-none, replays-one, replays-append}
use Rattle.kom_snapshot.proofs.replay.Tables.{all-at, none-before, room-before}

pub alike-itself : (b : Bool) → alike b b ≡ true
alike-itself true = refl
alike-itself false = refl

module _ (all : List TextLink) (texts : List TextRow) (whole : AreLinks all texts) (db : Db)
    (written : (text : ℕ) → has_text texts text ≡ true → is_some (row_of number_of_text text db.texts) ≡ true) where
  abbrev state : List TextLink → Db
  state front = record db { links = front }

  one : (front : List TextLink) (row : TextLink) (rest : List TextLink) → front ++ row ∷ rest ≡ all →
      Replays (effect.LinkAdded row ∷ []) (state front) (state (front ++ row ∷ []))
  unfolding fits after_effect text_of link_of links_from links_into
  one front row rest same =
      let at : (P : TextLink → Type 0) → AllByRecursion P all → P row =
      λ P holds. all-at P front row rest (subst (AllByRecursion P) (sym same) holds) in
      let own = alike-itself row.footnote in
      replays-one _ _ _
      (and_from _ _ (and_from _ _ (and_from _ _ (and_from _ _
      (written row.child (at (λ row. has_text texts row.child ≡ true) whole.child_there))
      (written row.parent (at (λ row. has_text texts row.parent ≡ true) whole.parent_there)))
      (ap is_none (none-before (is_link row.child row.parent row.footnote) front row rest
      (subst (λ l. length (filter (is_link row.child row.parent row.footnote) l) ≤ 1) (sym same)
      (whole.once row.child row.parent row.footnote))
      (and_from _ _ (and_from _ _ (eq-eqb row.child row.child refl) (eq-eqb row.parent row.parent refl)) own))))
      (lt-ltb (length (filter (λ one. one.child == row.child && alike one.footnote row.footnote) front))
      (most_links row.footnote)
      (room-before (λ one. one.child == row.child && alike one.footnote row.footnote) (most_links row.footnote) front
      row rest (subst (λ l. length (filter (λ (one : TextLink).
      one.child == row.child && alike one.footnote row.footnote) l) ≤ most_links row.footnote) (sym same)
      (whole.limited_from row.child row.footnote)) (and_from _ _ (eq-eqb row.child row.child refl) own))))
      (lt-ltb (length (filter (λ one. one.parent == row.parent && alike one.footnote row.footnote) front))
      (most_links row.footnote)
      (room-before (λ one. one.parent == row.parent && alike one.footnote row.footnote) (most_links row.footnote) front
      row rest (subst (λ l. length (filter (λ (one : TextLink).
      one.parent == row.parent && alike one.footnote row.footnote) l) ≤ most_links row.footnote) (sym same)
      (whole.limited_into row.parent row.footnote)) (and_from _ _ (eq-eqb row.parent row.parent refl) own))))
      refl

  pub links-again : (front rest : List TextLink) → front ++ rest ≡ all →
      Replays (map effect.LinkAdded rest) (state front) (state all)
  links-again front [] same =
      subst (λ rows. Replays [] (state front) (state rows)) (sym (append-nil front) ∙ same) (replays-none (state front))
  links-again front (row ∷ rest) same =
      replays-append (effect.LinkAdded row ∷ []) (map effect.LinkAdded rest) _ _ _ (one front row rest same)
      (links-again (front ++ row ∷ []) rest (append_assoc front (row ∷ []) rest ∙ same))
