-- What was read in memberships is the same but for what is masked, whether that was masked before or not.
use Rattle.std.proofs.Common.{◌≡◌, ℕ, not, List, refl, inl, inr}
use Rattle.std.specs.Prelude.{map}
use Rattle.std.specs.List.{filter, list_any}
use Rattle.std.proofs.lemmas.Bool.{cases_Bool}
use Rattle.kom_types.specs.declared.memberships.ReadRange.{ReadRange}
use Rattle.read_ranges.specs.Reads.{ReadRow, is_read_of, with_reader, with_read}
use Rattle.kom_laws.specs.masking.Masks.{Mask, masked_read, blank_read}
use Rattle.kom_laws.proofs.masking.Rows.{same-changed}
use Rattle.kom_laws.proofs.masking.Listed.{map-twice, map-filtered, map-appended, any-masked}
use Rattle.kom_laws.proofs.masking.Numbered.{picked-masked}

module _ (mask : Mask) where
  pub read-twice : (row : ReadRow) → masked_read mask (masked_read mask row) ≡ masked_read mask row
  read-twice row = elim (cases_Bool (mask.conference row.conference)) [
    | inl hidden ↦ rw hidden (rw hidden refl)
    | inr shown ↦ rw shown (rw shown refl)
  ]

  pub readers-gone : (person conference : ℕ) (rows : List ReadRow) →
      map (masked_read mask) (filter (λ row. not (is_read_of person conference row)) (map (masked_read mask) rows))
      ≡ map (masked_read mask) (filter (λ row. not (is_read_of person conference row)) rows)
  readers-gone person conference rows = map-filtered (masked_read mask)
      (λ row. not (is_read_of person conference row))
      (λ row. same-changed (λ (row : ReadRow). not (is_read_of person conference row))
      (mask.conference row.conference) _ row refl) read-twice rows

  pub reader-set : (person conference : ℕ) (rows : List ReadRow) →
      map (masked_read mask) (with_reader person conference (map (masked_read mask) rows))
      ≡ map (masked_read mask) (with_reader person conference rows)
  reader-set person conference rows =
      let any = any-masked (is_read_of person conference) (masked_read mask)
      (λ row. same-changed (is_read_of person conference) (mask.conference row.conference) _ row refl) rows in
      elim (cases_Bool (list_any (is_read_of person conference) rows)) [
        | inl here ↦ rw any (rw here (map-twice (masked_read mask) read-twice rows))
        | inr there ↦ rw any (rw there (map-appended (masked_read mask) read-twice rows _))
      ]

  pub ranges-set : (person conference : ℕ) (ranges : List ReadRange) (rows : List ReadRow) →
      map (masked_read mask) (with_read person conference ranges (map (masked_read mask) rows))
      ≡ map (masked_read mask) (with_read person conference ranges rows)
  ranges-set person conference ranges rows = picked-masked (λ row. row.conference) mask.conference blank_read
      (λ row. refl) (λ row. refl) (is_read_of person conference) (λ row. record row { ranges = ranges })
      (λ row. refl) (λ row. refl) (λ row. refl) rows
