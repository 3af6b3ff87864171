-- Rows whose positions open or close.
use Rattle.std.proofs.Common.{◌≡◌, ℕ, ◌+◌, ◌-◌, Bool, true, false, cond, ◌&&◌, eqb, ltb, leb, refl, sym, ◌∙◌, ap}
use Rattle.kom_types.specs.declared.memberships.MembershipRow.{MembershipRow}
use Rattle.memberships.specs.declared.kept.Kept.{Kept}
use Rattle.memberships.specs.Entries.{Key, same_key, kept_row}
use Rattle.memberships.proofs.Places.{flip_eqb, opened_place, closed_place}

-- a row whose position is a choice
shown-choice : (t : Bool) (person conference m n : ℕ) (v : Kept) →
    kept_row person conference (cond t m n) v
    ≡ cond t (record (kept_row person conference n v) { position = m }) (kept_row person conference n v)
shown-choice true person conference m n v = refl
shown-choice false person conference m n v = refl

-- the places of a person's memberships open and close as the rows do
abbrev pub open_row : ℕ → ℕ → MembershipRow → MembershipRow
open_row person place row =
    cond (eqb row.person person && leb place row.position) (record row { position = row.position + 1 }) row

abbrev pub close_row : ℕ → ℕ → MembershipRow → MembershipRow
close_row person place row =
    cond (eqb row.person person && ltb place row.position) (record row { position = row.position - 1 }) row

pub open-own : (person conference at n p : ℕ) (v : Kept) → eqb person p ≡ true →
    open_row p at (kept_row person conference n v) ≡ kept_row person conference (opened_place at n) v
open-own person conference at n p v own =
    ap (λ b. cond (b && leb at n) (record (kept_row person conference n v) { position = n + 1 })
    (kept_row person conference n v)) own
    ∙ sym (shown-choice (leb at n) person conference (n + 1) n v)

pub open-other : (at p : ℕ) (row : MembershipRow) → eqb row.person p ≡ false → open_row p at row ≡ row
open-other at p row other =
    ap (λ b. cond (b && leb at row.position) (record row { position = row.position + 1 }) row) other

pub close-own : (person conference at n p : ℕ) (v : Kept) → eqb person p ≡ true →
    close_row p at (kept_row person conference n v) ≡ kept_row person conference (closed_place at n) v
close-own person conference at n p v own =
    ap (λ b. cond (b && ltb at n) (record (kept_row person conference n v) { position = n - 1 })
    (kept_row person conference n v)) own
    ∙ sym (shown-choice (ltb at n) person conference (n - 1) n v)

pub close-other : (at p : ℕ) (row : MembershipRow) → eqb row.person p ≡ false → close_row p at row ≡ row
close-other at p row other =
    ap (λ b. cond (b && ltb at row.position) (record row { position = row.position - 1 }) row) other

-- a row of another person, or of another conference
pub other_conference : (key : Key) (p c : ℕ) → same_key (p, c) key ≡ false → eqb key.0 p ≡ true → eqb key.1 c ≡ false
other_conference key p c other own =
    flip_eqb key.1 c ∙ sym (ap (λ b. b && eqb c key.1) (flip_eqb p key.0 ∙ own)) ∙ other
