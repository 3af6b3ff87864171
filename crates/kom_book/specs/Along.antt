-- What waits, and which rows stand, along a history that gets one record longer.
use Rattle.std.proofs.Common.{◌≡◌, ◌≤◌, ◌<◌, ℕ, ◌+◌, Bool, true, false, cond, List, [], ◌∷◌, ◌++◌}
use Rattle.std.proofs.Common.{length, take, drop, refl, sym, ap, ◌∙◌, arith, append_assoc}
use Rattle.std.proofs.Math.Seq.{take-append_seam, drop-append_seam, take-length}
use Rattle.std.proofs.lemmas.List.{append-nil, take-append-le, drop-append-le, take-append-drop}
use Rattle.kom_types.specs.declared.acts.Record.{Record}
use Rattle.kom_types.specs.declared.effects.Effect.{Effect}
use Rattle.kom_model.specs.Db.{Db}
use Rattle.kom_model.specs.State.{State}
use Rattle.kom_model.specs.After.{after}
use Rattle.kom_model.specs.Kept.{kept_of}
use Rattle.kom_model.specs.Legal.{state_after}
use Rattle.hall_desk.proofs.Histories.{state_after-append, entries-state_after}
use Rattle.kom_book.specs.Stores.{is_taken, pending_after, base_after}
use Rattle.kom_book.specs.Stops.{rows_after, kept_along, pending_along}
use Rattle.kom_book.specs.Records.{stable_after, taken_is, flush_keeps}

-- what is stable is in the history
stable_step : (b : Bool) (entries stable now : ℕ) → stable ≤ entries → now ≡ cond b entries stable →
    now ≤ entries + 1
stable_step true entries stable now low is = omega (arith, is)
stable_step false entries stable now low is = omega (arith, is, low)

pub stable_within : (start : State) (records : List Record) → start.stable ≤ start.entries →
    (state_after start records).stable ≤ (state_after start records).entries
stable_within start [] low = low
stable_within start (made ∷ records) low =
    stable_within (after start made) records
    (stable_step (is_taken made) start.entries start.stable (after start made).stable low
    (stable_after start made))

-- of a history from the first entry on
pub stable_of : (start : State) (records : List Record) → start.entries ≡ 0 → start.stable ≡ 0 →
    (state_after start records).stable ≤ length records
stable_of start records none nothing =
    omega (
      arith,
      none,
      nothing,
      entries-state_after start records,
      stable_within start records (omega (arith, none, nothing)),
    )

pub entries_of : (start : State) (records : List Record) → start.entries ≡ 0 →
    (state_after start records).entries ≡ length records
entries_of start records none = omega (arith, none, entries-state_after start records)

-- ---- the rows

-- after fewer records than there are, one more changes nothing
pub rows_more : (start : State) (records : List Record) (made : Record) (count : ℕ) →
    count ≤ length records →
    rows_after start (records ++ made ∷ []) count ≡ rows_after start records count
rows_more start records made count few =
    ap (λ (some : List Record). (state_after start some).db)
    (take-append-le count records (made ∷ []) few)

-- after all but the last one
pub rows_before : (start : State) (records : List Record) (made : Record) →
    rows_after start (records ++ made ∷ []) (length records) ≡ (state_after start records).db
rows_before start records made =
    ap (λ (some : List Record). (state_after start some).db) (take-append_seam records (made ∷ []))

-- after all
pub rows_all : (start : State) (records : List Record) →
    rows_after start records (length records) ≡ (state_after start records).db
rows_all start records = ap (λ (some : List Record). (state_after start some).db)
    (take-length records)

-- the base after a record is the rows after as many as are stable then
pub base_more : (start : State) (records : List Record) (made : Record) → start.entries ≡ 0 →
    start.stable ≡ 0 →
    let state : State = state_after start records in
    base_after state (rows_after start records state.stable) made
    ≡ rows_after start (records ++ made ∷ []) (after state made).stable
base_more start records made none nothing =
    let state : State = state_after start records in
    let rows : ℕ → Db = rows_after start (records ++ made ∷ []) in
    let first : Db = rows_after start records state.stable in
    let now : (after state made).stable ≡ cond (is_taken made) state.entries state.stable =
    stable_after state made in
    let chosen : (b : Bool) → is_taken made ≡ b →
    cond b state.db first ≡ rows (cond b state.entries state.stable) = λ b.
    elim b as (λ c. is_taken made ≡ c →
    cond c state.db first ≡ rows (cond c state.entries state.stable)) [
      | true ↦ λ is. sym (rows_before start records made)
          ∙ ap (λ (n : ℕ). rows n) (sym (entries_of start records none))
      | false ↦ λ is. sym (rows_more start records made state.stable
          (stable_of start records none nothing))
    ] in
    chosen (is_taken made) refl ∙ ap (λ (n : ℕ). rows n) (sym now)

-- ---- what waits

pub kept_along-append : (state : State) (some more : List Record) →
    kept_along state (some ++ more) ≡ kept_along state some
    ++ kept_along (state_after state some) more
kept_along-append state [] more = refl
kept_along-append state (made ∷ some) more =
    ap (λ (rest : List Effect). kept_of state made ++ rest)
    (kept_along-append (after state made) some more)
    ∙ sym (append_assoc (kept_of state made) (kept_along (after state made) some)
    (kept_along (state_after (after state made) some) more))

kept_last : (state : State) (made : Record) → kept_along state (made ∷ []) ≡ kept_of state made
kept_last state made = append-nil (kept_of state made)

-- what is kept of the records from a number on
abbrev kept_from : State → List Record → ℕ → List Effect
kept_from start records count =
    kept_along (state_after start (take count records)) (drop count records)

kept_more : (start : State) (records : List Record) (made : Record) (count : ℕ) →
    count ≤ length records →
    kept_from start (records ++ made ∷ []) count
    ≡ kept_from start records count ++ kept_of (state_after start records) made
kept_more start records made count few =
    let first : State = state_after start (take count records) in
    let rest : List Record = drop count records in
    let there : state_after first rest ≡ state_after start records =
    sym (state_after-append start (take count records) rest)
    ∙ ap (λ (all : List Record). state_after start all) (take-append-drop count records) in
    ap (λ (some : List Record). kept_along (state_after start some)
    (drop count (records ++ made ∷ [])))
    (take-append-le count records (made ∷ []) few)
    ∙ ap (λ (more : List Record). kept_along first more)
    (drop-append-le count records (made ∷ []) few)
    ∙ kept_along-append first rest (made ∷ [])
    ∙ ap (λ (state : State). kept_along first rest ++ kept_along state (made ∷ [])) there
    ∙ ap (λ (more : List Effect). kept_along first rest ++ more)
    (kept_last (state_after start records) made)

-- of the last record alone
kept_of_last : (start : State) (records : List Record) (made : Record) →
    kept_from start (records ++ made ∷ []) (length records)
    ≡ kept_of (state_after start records) made
kept_of_last start records made =
    ap (λ (some : List Record).
    kept_along (state_after start some) (drop (length records) (records ++ made ∷ [])))
    (take-append_seam records (made ∷ []))
    ∙ ap (λ (more : List Record). kept_along (state_after start records) more)
    (drop-append_seam records (made ∷ []))
    ∙ kept_last (state_after start records) made

-- What waits after a record is what is kept of those from the stable number on.
pub pending_more : (start : State) (records : List Record) (made : Record) → start.entries ≡ 0 →
    start.stable ≡ 0 → let state : State = state_after start records in
    pending_after state (pending_along start records) made
    ≡ pending_along start (records ++ made ∷ [])
pending_more start records made none nothing =
    let state : State = state_after start records in
    let from : ℕ → List Effect = kept_from start (records ++ made ∷ []) in
    let first : List Effect = pending_along start records in
    let kept : List Effect = kept_of state made in
    let now : (after state made).stable ≡ cond (is_taken made) state.entries state.stable =
    stable_after state made in
    let chosen : (b : Bool) → is_taken made ≡ b →
    cond b [] (first ++ kept) ≡ from (cond b state.entries state.stable) = λ b.
    elim b as (λ c. is_taken made ≡ c →
    cond c [] (first ++ kept) ≡ from (cond c state.entries state.stable)) [
      | true ↦ λ is. sym (flush_keeps state made (taken_is made is).0).0
          ∙ sym (kept_of_last start records made)
          ∙ ap (λ (n : ℕ). from n) (sym (entries_of start records none))
      | false ↦ λ is. sym (kept_more start records made state.stable
          (stable_of start records none nothing))
    ] in
    let whole : state_after start (records ++ made ∷ []) ≡ after state made =
    state_after-append start records (made ∷ []) in
    chosen (is_taken made) refl ∙ ap (λ (n : ℕ). from n) (sym now)
    ∙ ap (λ (s : State). from s.stable) (sym whole)
