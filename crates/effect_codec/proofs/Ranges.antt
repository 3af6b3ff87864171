-- Ranges that are read one after the other.
use Rattle.std.proofs.Common.{◌≡◌, ℕ, zero, suc, ◌+◌, ◌*◌, List, [], ◌∷◌, ◌++◌, drop}
use Rattle.std.proofs.Common.{refl, sym, ap, ◌∙◌, arith}
use Rattle.std.specs.Int.{w32, from_le_bytes}
use Rattle.std.proofs.lemmas.List.{drop-drop}
use Rattle.kom_types.specs.declared.memberships.ReadRange.{ReadRange}
use Rattle.effect_codec.specs.Fields.{ranges_of}

abbrev range_at : List ℕ → ReadRange
range_at bytes = record { first = from_le_bytes w32 bytes; last = from_le_bytes w32 (drop 4 bytes) }

ranges_of-suc : (many : ℕ) (bytes : List ℕ)
    → ranges_of (suc many) bytes ≡ ranges_of many bytes ++ range_at (drop (8 * many) bytes) ∷ []
ranges_of-suc zero bytes = refl
ranges_of-suc (suc many) bytes =
    let places : 8 + 8 * many ≡ 8 * suc many = omega arith in
    ap (λ (l : List ReadRange). range_at bytes ∷ l) (ranges_of-suc many (drop 8 bytes))
    ∙ ap (λ (l : List ℕ). range_at bytes ∷ (ranges_of many (drop 8 bytes) ++ range_at l ∷ []))
    (drop-drop (8 * many) 8 bytes ∙ ap (λ (n : ℕ). drop n bytes) places)

-- one range more is the one after those
pub ranges_pushed : (bytes : List ℕ) (place first last : ℕ) (before after : List ReadRange)
    → after ≡ before ++ (record { first = first; last = last }) ∷ [] → before ≡ ranges_of place bytes
    → first ≡ from_le_bytes w32 (drop (8 * place) bytes) → last ≡ from_le_bytes w32 (drop 4 (drop (8 * place) bytes))
    → after ≡ ranges_of (place + 1) bytes
ranges_pushed bytes place first last before after pushed is first_is last_is =
    let next : suc place ≡ place + 1 = omega arith in
    let pair : ℕ → ℕ → ReadRange = λ first last. record { first = first; last = last } in
    pushed ∙ ap (λ (l : List ReadRange). l ++ pair first last ∷ []) is
    ∙ ap (λ (n : ℕ). ranges_of place bytes ++ pair n last ∷ []) first_is
    ∙ ap (λ (n : ℕ). ranges_of place bytes ++ pair (from_le_bytes w32 (drop (8 * place) bytes)) n ∷ []) last_is
    ∙ sym (ranges_of-suc place bytes) ∙ ap (λ (n : ℕ). ranges_of n bytes) next
