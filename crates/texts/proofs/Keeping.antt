-- The local numbers that are kept stay those of the rows.
use Rattle.std.proofs.Common.{◌≡◌, ℕ, ◌<◌, ◌≤◌, ◌++◌, List, [], ◌∷◌, Option, Some, None, refl, sym, ap, subst, ◌∙◌}
use Rattle.std.proofs.Common.{inl, inr}
use Rattle.std.proofs.lemmas.Bool.{cases_eq, and_left, and_right, ne_eqb, le-ltb}
use Rattle.kom_types.specs.declared.texts.LocalText.{LocalText}
use Rattle.kom_types.specs.declared.texts.Recipient.{Recipient}
use Rattle.kom_types.specs.declared.texts.TextRow.{TextRow}
use Rattle.kom_types.specs.tables.Texts.{number_of_text, fresh_text, with_created_local, created_by}
use Rattle.kom_types.specs.tables.Texts.{locals_of, recipient_of, without_recipient}
use Rattle.row_table.specs.Tables.{row_of, with_row, without_row, changed_row, IsByNumber}
use Rattle.row_table.proofs.Rows.{IsByNumber-with_row, IsByNumber-without_row, IsByNumber-changed_row}
use Rattle.local_maps.specs.Maps.{Owned, pairs_of, HasOnlyChanged}
use Rattle.local_maps.specs.Pairs.{AllBelow, AllAbove, IsRising, without}
use Rattle.local_maps.proofs.Parts.{rising-filter}
use Rattle.misc_links.specs.Received.{AreOnce}
use Rattle.texts.specs.Keeping.{IsKept, IsUnnumbered, with_next_item}
use Rattle.texts.proofs.Created.{created_by-added, created_by-numbered, created_by-numbered_other, created_by-left}
use Rattle.texts.proofs.Created.{created_by-left_other, created_by-forgotten, created_by-item}
use Rattle.texts.proofs.Locals.{locals_of-push, locals_of-push_other, locals_of-without, locals_of-without_other}

above-push : (local : ℕ) (pairs : List LocalText) (last : LocalText) → AllAbove local pairs → local < last.local →
    AllAbove local (pairs ++ last ∷ [])
above-push local [] last above here = (here, tt)
above-push local (pair ∷ pairs) last above here = (above.0, above-push local pairs last above.1 here)

rising-push : (pairs : List LocalText) (last : LocalText) → IsRising pairs → AllBelow last.local pairs →
    IsRising (pairs ++ last ∷ [])
rising-push [] last rising below = (tt, tt)
rising-push (pair ∷ pairs) last rising below =
    (above-push pair.local pairs last rising.0 below.0, rising-push pairs last rising.1 below.1)

rising-without : (local : ℕ) (pairs : List LocalText) → IsRising pairs → IsRising (without local pairs)
rising-without local pairs rising = rising-filter _ pairs rising

-- maps of which each has the pairs that are wanted, which rise
abbrev AreKept : Owned → (ℕ → List LocalText) → Type 0
AreKept maps pairs = (owner : ℕ) → (pairs_of maps owner ≡ pairs owner) × IsRising (pairs owner)

-- of one owner the pairs have changed
one_changed : (maps new : Owned) (pairs changed : ℕ → List LocalText) (owner : ℕ) (own : List LocalText) →
    AreKept maps pairs → HasOnlyChanged maps new owner → pairs_of new owner ≡ own → changed owner ≡ own →
    IsRising own → ((other : ℕ) → (other ≡ owner → ⊥) → changed other ≡ pairs other) → AreKept new changed
one_changed maps new pairs changed owner own kept others is also rising stay other = elim (cases_eq other owner) [
  | inl same ↦
      subst (λ o. (pairs_of new o ≡ changed o) × IsRising (changed o)) (sym same)
      (is ∙ sym also, subst IsRising (sym also) rising)
  | inr ne ↦
      let stays = stay other ne in
      (others.pairs other ne ∙ (kept other).0 ∙ sym stays, subst IsRising (sym stays) (kept other).1)
]

none_changed : (maps : Owned) (pairs changed : ℕ → List LocalText) → AreKept maps pairs →
    ((owner : ℕ) → changed owner ≡ pairs owner) → AreKept maps changed
none_changed maps pairs changed kept stay owner =
    ((kept owner).0 ∙ sym (stay owner), subst IsRising (sym (stay owner)) (kept owner).1)

as_kept : (texts : List TextRow) (recipients : List Recipient) (locals created : Owned) →
    IsByNumber number_of_text texts → AreKept locals (λ c. locals_of c recipients) →
    AreKept created (λ p. created_by p texts) →
    IsKept texts recipients locals created
as_kept texts recipients locals created by_number of_conferences of_persons = record {
  by_number = by_number;
  by_conference = λ c. (of_conferences c).0;
  by_author = λ p. (of_persons p).0;
  conferences_rise = λ c. (of_conferences c).1;
  authors_rise = λ p. (of_persons p).1;
}

module _ (texts : List TextRow) (recipients : List Recipient) (locals created : Owned)
    (kept : IsKept texts recipients locals created) where
  locals_kept : AreKept locals (λ c. locals_of c recipients)
  locals_kept c = (kept.by_conference c, kept.conferences_rise c)

  created_kept : AreKept created (λ p. created_by p texts)
  created_kept p = (kept.by_author p, kept.authors_rise p)

  -- ---- texts

  pub kept-added : (number author at : ℕ) (body : List ℕ) → row_of number_of_text number texts ≡ None →
      IsKept (with_row number_of_text (fresh_text number author at body) texts) recipients locals created
  kept-added number author at body absent =
      as_kept _ recipients locals created
      (IsByNumber-with_row number_of_text (fresh_text number author at body) texts kept.by_number) locals_kept
      (none_changed created (λ p. created_by p texts) _ created_kept
      (λ p. created_by-added p number author at body texts absent))

  module _ (number : ℕ) (row : TextRow) (found : row_of number_of_text number texts ≡ Some row)
    where
      pub kept-left : (new : Owned) → 0 < row.created_local →
          pairs_of new row.author ≡ without row.created_local (pairs_of created row.author) →
          HasOnlyChanged created new row.author → IsKept (without_row number_of_text number texts) recipients locals new
      kept-left new numbered left others =
          as_kept _ recipients locals new (IsByNumber-without_row number_of_text number texts kept.by_number)
          locals_kept
          (one_changed created new (λ p. created_by p texts) _ row.author
          (without row.created_local (created_by row.author texts)) created_kept others
          (left ∙ ap (without row.created_local) (kept.by_author row.author))
          (created_by-left number texts row found kept.by_number numbered (kept.authors_rise row.author))
          (rising-without row.created_local (created_by row.author texts) (kept.authors_rise row.author))
          (λ other ne. created_by-left_other other number texts row found kept.by_number
          (and_left _ _ (ne_eqb row.author other (λ e. ne (sym e))))))

      pub kept-left_unnumbered : row.created_local ≤ 0 →
          IsKept (without_row number_of_text number texts) recipients locals created
      kept-left_unnumbered unnumbered =
          as_kept _ recipients locals created (IsByNumber-without_row number_of_text number texts kept.by_number)
          locals_kept
          (none_changed created (λ p. created_by p texts) _ created_kept
          (λ p. created_by-left_other p number texts row found kept.by_number
          (and_right _ _ (le-ltb 0 row.created_local unnumbered))))

      pub kept-forgotten_row : (new : Owned) → 0 < row.created_local →
          pairs_of new row.author ≡ without row.created_local (pairs_of created row.author) →
          HasOnlyChanged created new row.author →
          IsKept (changed_row number_of_text number (with_created_local 0) texts) recipients locals new
      kept-forgotten_row new numbered left others =
          let gone = kept-left new numbered left others in
          as_kept _ recipients locals new
          (IsByNumber-changed_row number_of_text (with_created_local 0) (λ row. refl) number texts kept.by_number)
          locals_kept
          (none_changed new (λ p. created_by p (without_row number_of_text number texts)) _
          (λ p. (gone.by_author p, gone.authors_rise p)) (λ p. created_by-forgotten p number texts))

      pub kept-numbered : (new : Owned) (person local : ℕ) → row.author ≡ person → row.created_local ≡ 0 → 0 < local →
          AllBelow local (created_by person texts) →
          pairs_of new person ≡ pairs_of created person ++ record { local = local; text = number } ∷ [] →
          HasOnlyChanged created new person →
          IsKept (changed_row number_of_text number (with_created_local local) texts) recipients locals new
      kept-numbered new person local by unnumbered positive above given others =
          as_kept _ recipients locals new
          (IsByNumber-changed_row number_of_text (with_created_local local) (λ row. refl) number texts kept.by_number)
          locals_kept
          (one_changed created new (λ p. created_by p texts) _ person
          (created_by person texts ++ record { local = local; text = number } ∷ []) created_kept others
          (given ∙ ap (λ l. l ++ record { local = local; text = number } ∷ []) (kept.by_author person))
          (created_by-numbered person local number row by unnumbered positive texts found kept.by_number above)
          (rising-push (created_by person texts) (record { local = local; text = number }) (kept.authors_rise person)
          above)
          (λ other ne. created_by-numbered_other person local number row by unnumbered positive other texts ne found
          kept.by_number))

  pub kept-numbered_if : (new : Owned) (person local number : ℕ) → IsUnnumbered person number texts → 0 < local →
      AllBelow local (created_by person texts) →
      pairs_of new person ≡ pairs_of created person ++ record { local = local; text = number } ∷ [] →
      HasOnlyChanged created new person →
      IsKept (changed_row number_of_text number (with_created_local local) texts) recipients locals new
  kept-numbered_if new person local number unnumbered positive above given others =
      by (row_of number_of_text number texts) refl unnumbered
    where
      by : (found : Option TextRow) → row_of number_of_text number texts ≡ found →
          elim found as (λ _. Type 0) [ None ↦ ⊥ | Some row ↦ (row.author ≡ person) × (row.created_local ≡ 0) ] →
          IsKept (changed_row number_of_text number (with_created_local local) texts) recipients locals new
      by None is facts = elim facts [ ]
      by (Some row) is facts = kept-numbered number row is new person local facts.0 facts.1 positive above given others

  pub kept-item : (number next : ℕ) →
      IsKept (changed_row number_of_text number (with_next_item next) texts) recipients locals created
  kept-item number next =
      as_kept _ recipients locals created
      (IsByNumber-changed_row number_of_text (with_next_item next) (λ row. refl) number texts kept.by_number)
      locals_kept
      (none_changed created (λ p. created_by p texts) _ created_kept
      (λ p. created_by-item p number next texts))

  -- ---- recipients

  pub kept-received : (new : Owned) (given : Recipient) → AllBelow given.local (locals_of given.conference recipients) →
      pairs_of new given.conference
      ≡ pairs_of locals given.conference ++ record { local = given.local; text = given.text } ∷ [] →
      HasOnlyChanged locals new given.conference → IsKept texts (recipients ++ given ∷ []) new created
  kept-received new given above added others =
      as_kept texts _ new created kept.by_number
      (one_changed locals new (λ c. locals_of c recipients) _ given.conference
      (locals_of given.conference recipients ++ record { local = given.local; text = given.text } ∷ []) locals_kept
      others
      (added
      ∙ ap (λ l. l ++ record { local = given.local; text = given.text } ∷ []) (kept.by_conference given.conference))
      (locals_of-push given.conference recipients given refl)
      (rising-push (locals_of given.conference recipients) (record { local = given.local; text = given.text })
      (kept.conferences_rise given.conference) above)
      (λ other ne. locals_of-push_other other recipients given (λ e. ne (sym e))))
      created_kept

  pub kept-without : (new : Owned) (text conference : ℕ) (row : Recipient) →
      recipient_of text conference recipients ≡ Some row → AreOnce recipients →
      pairs_of new conference ≡ without row.local (pairs_of locals conference) →
      HasOnlyChanged locals new conference → IsKept texts (without_recipient text conference recipients) new created
  kept-without new text conference row found once left others =
      as_kept texts _ new created kept.by_number
      (one_changed locals new (λ c. locals_of c recipients) _ conference
      (without row.local (locals_of conference recipients)) locals_kept others
      (left ∙ ap (without row.local) (kept.by_conference conference))
      (locals_of-without text conference recipients row found (kept.conferences_rise conference) once)
      (rising-without row.local (locals_of conference recipients) (kept.conferences_rise conference))
      (λ other ne. locals_of-without_other text conference other recipients ne))
      created_kept
