-- The local numbers of a conference, as recipients are added and taken out.
use Rattle.std.proofs.Common.{◌≡◌, ℕ, ◌<◌, ◌++◌, true, false, cond, eqb, List, [], ◌∷◌, map, filter, Some, None}
use Rattle.std.proofs.Common.{refl, sym, ap, ◌∙◌, inl, inr, arith}
use Rattle.std.proofs.lemmas.Bool.{cases_eq, cases_Bool, and_parts, and_right, eq-eqb, eqb-true, ne_eqb}
use Rattle.std.proofs.lemmas.List.{map-append, append-nil}
use Rattle.std.proofs.lemmas.List.Elements.{filter-append}
use Rattle.std.proofs.lemmas.Map.Keys.{IsDistinct-head, IsDistinct-tail}
use Rattle.std.specs.List.{AllByRecursion}
use Rattle.kom_types.specs.declared.texts.LocalText.{LocalText}
use Rattle.kom_types.specs.declared.texts.Recipient.{Recipient}
use Rattle.kom_types.specs.tables.Texts.{is_recipient, recipient_of, without_recipient, locals_of}
use Rattle.local_maps.specs.Pairs.{AllAbove, IsRising, without}
use Rattle.misc_links.specs.Received.{AreOnce}
use Rattle.texts.proofs.Filters.{all_stay}

abbrev pair_of : Recipient → LocalText
pair_of row = record { local = row.local; text = row.text }

-- ---- a recipient is added

pub locals_of-push : (conference : ℕ) (rows : List Recipient) (row : Recipient) → row.conference ≡ conference →
    locals_of conference (rows ++ row ∷ [])
    ≡ locals_of conference rows ++ record { local = row.local; text = row.text } ∷ []
locals_of-push conference rows row is =
    let here : eqb row.conference conference ≡ true = eq-eqb _ _ is in
    ap (map pair_of) (filter-append (λ row. eqb row.conference conference) rows (row ∷ []))
    ∙ map-append pair_of (filter (λ row. eqb row.conference conference) rows)
    (cond (eqb row.conference conference) (row ∷ []) [])
    ∙ ap (λ b. locals_of conference rows ++ map pair_of (cond b (row ∷ []) [])) here

pub locals_of-push_other : (conference : ℕ) (rows : List Recipient) (row : Recipient) →
    (row.conference ≡ conference → ⊥) →
    locals_of conference (rows ++ row ∷ []) ≡ locals_of conference rows
locals_of-push_other conference rows row ne =
    let other : eqb row.conference conference ≡ false = ne_eqb _ _ ne in
    ap (map pair_of) (filter-append (λ row. eqb row.conference conference) rows (row ∷ []))
    ∙ map-append pair_of (filter (λ row. eqb row.conference conference) rows)
    (cond (eqb row.conference conference) (row ∷ []) [])
    ∙ ap (λ b. locals_of conference rows ++ map pair_of (cond b (row ∷ []) [])) other
    ∙ append-nil (locals_of conference rows)

-- ---- a recipient is taken out

pub without_none : (text conference : ℕ) (rows : List Recipient) → recipient_of text conference rows ≡ None →
    without_recipient text conference rows ≡ rows
without_none text conference rows none = all_stay (is_recipient text conference) rows none

pub without_above : (local : ℕ) (pairs : List LocalText) → AllAbove local pairs → without local pairs ≡ pairs
without_above local [] above = refl
without_above local (pair ∷ pairs) above =
    let other : eqb pair.local local ≡ false = ne_eqb _ _ (λ e. absurd (omega (arith, e, above.0))) in
    rw other (ap (λ l. pair ∷ l) (without_above local pairs above.1))

-- none that follows is of the same conference and text
none_later : (text conference : ℕ) (first : Recipient) (rows : List Recipient) →
    first.text ≡ text → first.conference ≡ conference → AreOnce (first ∷ rows) →
    recipient_of text conference rows ≡ None
none_later text conference first rows is_text is_conference once =
    none rows (IsDistinct-head (λ one. is_recipient one.text one.conference) first rows once)
  where
    none : (rows : List Recipient) →
        AllByRecursion (λ row. is_recipient first.text first.conference row ≡ false) rows →
        recipient_of text conference rows ≡ None
    none [] all = refl
    none (row ∷ rows) all =
        let other : is_recipient text conference row ≡ false =
        (λ i. is_recipient (sym is_text i) (sym is_conference i) row) ∙ all.0 in
        rw other (none rows all.1)

-- a recipient that is found has a local number among those of its conference
local_above : (local text conference : ℕ) (rows : List Recipient) (row : Recipient) →
    recipient_of text conference rows ≡ Some row → AllAbove local (locals_of conference rows) → local < row.local
local_above local text conference [] row found above = cc
local_above local text conference (first ∷ rows) row found above = elim (cases_eq first.conference conference) [
  | inl is ↦
      let here : eqb first.conference conference ≡ true = eq-eqb _ _ is in
      let above : AllAbove local (pair_of first ∷ locals_of conference rows) = rw here at above in
      elim (cases_eq first.text text) [
        | inl is_text ↦
            let here_text : eqb first.text text ≡ true = eq-eqb _ _ is_text in
            let found : Some first ≡ Some row = rw (here_text, here) at found in
            let same : first ≡ row = cc in
            omega (arith, above.0, ap (λ r. r.local) same)
        | inr ne ↦
            let other : eqb first.text text ≡ false = ne_eqb _ _ ne in
            local_above local text conference rows row (rw other at found) above.1
      ]
  | inr ne ↦
      let other : eqb first.conference conference ≡ false = ne_eqb _ _ ne in
      let no : is_recipient text conference first ≡ false = and_right (eqb first.text text) _ other in
      local_above local text conference rows row (rw no at found) (rw other at above)
]

-- a recipient is taken out of those of its conference, with its local number
pub locals_of-without : (text conference : ℕ) (rows : List Recipient) (row : Recipient) →
    recipient_of text conference rows ≡ Some row → IsRising (locals_of conference rows) → AreOnce rows →
    locals_of conference (without_recipient text conference rows) ≡ without row.local (locals_of conference rows)
locals_of-without text conference [] row found rising once = cc
locals_of-without text conference (first ∷ rows) row found rising once = elim (cases_eq first.conference conference) [
  | inl is ↦
      let here : eqb first.conference conference ≡ true = eq-eqb _ _ is in
      let rising : IsRising (pair_of first ∷ locals_of conference rows) = rw here at rising in
      elim (cases_eq first.text text) [
        | inl is_text ↦
            let here_text : eqb first.text text ≡ true = eq-eqb _ _ is_text in
            let found : Some first ≡ Some row = rw (here_text, here) at found in
            let same : first ≡ row = cc in
            let same_local : eqb first.local row.local ≡ true = eq-eqb _ _ (ap (λ r. r.local) same) in
            let none = none_later text conference first rows is_text is once in
            let others = without_above first.local (locals_of conference rows) rising.0 in
            rw (here_text, here, same_local)
            (ap (locals_of conference) (without_none text conference rows none)
            ∙ sym others ∙ ap (λ r. without r.local (locals_of conference rows)) same)
        | inr ne ↦
            let other : eqb first.text text ≡ false = ne_eqb _ _ ne in
            let found : recipient_of text conference rows ≡ Some row = rw other at found in
            let below = local_above first.local text conference rows row found rising.0 in
            let other_local : eqb first.local row.local ≡ false =
            ne_eqb _ _ (λ e. absurd (omega (arith, e, below))) in
            let rest = locals_of-without text conference rows row found rising.1
            (IsDistinct-tail (λ one. is_recipient one.text one.conference) first rows once) in
            rw (other, here, other_local) (ap (λ l. pair_of first ∷ l) rest)
      ]
  | inr ne ↦
      let other : eqb first.conference conference ≡ false = ne_eqb _ _ ne in
      let no : is_recipient text conference first ≡ false = and_right (eqb first.text text) _ other in
      let rest = locals_of-without text conference rows row (rw no at found) (rw other at rising)
      (IsDistinct-tail (λ one. is_recipient one.text one.conference) first rows once) in
      rw (no, other) rest
]

-- the local numbers of another conference stay
pub locals_of-without_other : (text conference other : ℕ) (rows : List Recipient) → (other ≡ conference → ⊥) →
    locals_of other (without_recipient text conference rows) ≡ locals_of other rows
locals_of-without_other text conference other [] ne = refl
locals_of-without_other text conference other (first ∷ rows) ne =
    let rest = locals_of-without_other text conference other rows ne in
    elim (cases_Bool (is_recipient text conference first)) [
      | inl is ↦
          let of_it = eqb-true _ _ (and_parts (eqb first.text text) (eqb first.conference conference) is).1 in
          let apart : eqb first.conference other ≡ false = ne_eqb _ _ (λ e. ne (sym e ∙ of_it)) in
          rw (is, apart) rest
      | inr not_it ↦ elim (cases_Bool (eqb first.conference other)) [
        | inl here ↦ rw (not_it, here) (ap (λ l. pair_of first ∷ l) rest)
        | inr apart ↦ rw (not_it, apart) rest
      ]
    ]
