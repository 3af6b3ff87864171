-- A legal history, and what it gives to a session and leaves waiting for it.
use Rattle.std.proofs.Common.{◌≡◌, ℕ, ◌==◌, ◌⊎◌, Bool, true, false, cond, List, [], ◌∷◌, ◌++◌, refl}
use Rattle.std.proofs.Common.{sym, ap, ◌∙◌, inl, inr, append_assoc}
use Rattle.std.specs.List.{flat_map}
use Rattle.std.proofs.lemmas.Bool.{cases_eq}
use Rattle.std.proofs.lemmas.Grind.{flat_map-append}
use Rattle.std.proofs.lemmas.List.{append-nil, map-append}
use Rattle.kom_types.specs.declared.acts.Act.{Act}
use Rattle.kom_types.specs.declared.acts.Act.TheVariants as act
use Rattle.kom_types.specs.declared.acts.Record.{Record}
use Rattle.kom_types.specs.declared.items.Item.{Item}
use Rattle.kom_types.specs.Sessions.{Waiting}
use Rattle.kom_model.specs.State.{State, IsSound}
use Rattle.kom_model.specs.After.{after}
use Rattle.kom_model.specs.Legal.{IsLegal, state_after}
use Rattle.kom_model.specs.Out.{items_of, waiting_for, given_from, drained_from, given_by}
use Rattle.kom_model.specs.Out.{given_along, queued_for, queued_along, out_of}
use Rattle.kom_model.specs.Laws.{all_given}
use Rattle.kom_model.proofs.Soundness.{IsSound-after}
use Rattle.kom_model.proofs.Moving.{taken_by, added_by, Closes, record_moves}
use Rattle.kom_model.proofs.Closing.{IsOver, IsOver-after, IsOver-state_after, taken-over}
use Rattle.kom_model.proofs.Closing.{closed-over}

-- what the records of a history take of what waits for the session
abbrev pub taken_along : ℕ → State → List Record → List Waiting
taken_along n state [] = []
taken_along n state (made ∷ history) = taken_by n state made ++ taken_along n (after state made) history

-- what they queue for it
abbrev pub added_along : ℕ → State → List Record → List Waiting
added_along n state [] = []
added_along n state (made ∷ history) = added_by n state made ++ added_along n (after state made) history

abbrev joined : List (List Item) → List Item
joined lists = flat_map (λ items. items) lists

given_step : (n : ℕ) (state : State) (pass moment : ℕ) (what : Act) (session : ℕ) (short : Bool) →
    let made : Record = record {
      entry = record { pass = pass; moment = moment; act = what };
      session = session;
      short = short;
    } in
    joined (given_by state n made) ≡ items_of (taken_by n state made)
given_step n state pass moment (act.Connect user host) session short = refl
given_step n state pass moment (act.Call number reference call) session short = refl
given_step n state pass moment (act.Broken number) session short = refl
given_step n state pass moment (act.Drain number) session short =
    elim (number == n) as (λ b.
    joined (cond b (given_from number state ∷ []) []) ≡ items_of (cond b (drained_from number state) [])) [
      | true ↦ append-nil (given_from number state)
      | false ↦ refl
    ]
given_step n state pass moment act.Flush session short = refl
given_step n state pass moment (act.Close number) session short = refl

-- all that the drains give is what the records take
pub given-taken : (n : ℕ) (state : State) (history : List Record) →
    all_given state n history ≡ items_of (taken_along n state history)
given-taken n state [] = refl
given-taken n state (made ∷ history) =
    let next : State = after state made in
    let first : joined (given_by state n made) ≡ items_of (taken_by n state made) =
    given_step n state made.entry.pass made.entry.moment made.entry.act made.session made.short in
    flat_map-append (λ items. items) (given_by state n made) (given_along next n history)
    ∙ ap (λ items. items ++ joined (given_along next n history)) first
    ∙ ap (λ items. items_of (taken_by n state made) ++ items) (given-taken n next history)
    ∙ sym (map-append (λ one. one.item) (taken_by n state made) (taken_along n next history))

queued-added : (n : ℕ) (state : State) (history : List Record) →
    queued_along state n history ≡ items_of (added_along n state history)
queued-added n state [] = refl
queued-added n state (made ∷ history) =
    let next : State = after state made in
    ap (λ items. queued_for n state made ++ items) (queued-added n next history)
    ∙ sym (map-append (λ one. one.item) (added_by n state made) (added_along n next history))

-- what is to be sent is what waits and what the records queue
pub out-added : (n : ℕ) (state : State) (history : List Record) →
    out_of state n history ≡ items_of (waiting_for n state ++ added_along n state history)
out-added n state history =
    ap (λ items. items_of (waiting_for n state) ++ items) (queued-added n state history)
    ∙ sym (map-append (λ one. one.item) (waiting_for n state) (added_along n state history))

closes_or_not : (n : ℕ) (what : Act) → Closes n what ⊎ (Closes n what → ⊥)
closes_or_not n (act.Connect user host) = inr (λ none. none)
closes_or_not n (act.Call session reference call) = inr (λ none. none)
closes_or_not n (act.Broken session) = inr (λ none. none)
closes_or_not n (act.Drain session) = inr (λ none. none)
closes_or_not n act.Flush = inr (λ none. none)
closes_or_not n (act.Close session) = cases_eq n session

taken_along-over : (n : ℕ) (state : State) (history : List Record) → IsOver n state → taken_along n state history ≡ []
taken_along-over n state [] over = refl
taken_along-over n state (made ∷ history) over =
    rw (taken-over n state made over) (taken_along-over n (after state made) history (IsOver-after n state made over))

-- What a history takes is a prefix of what waited and what it queues; the rest is what waits in the
-- end, unless the session was closed.
pub record MovesAlong (n : ℕ) (state : State) (history : List Record) : Type 0 where
  pub rest : List Waiting
  pub moves : waiting_for n state ++ added_along n state history ≡ taken_along n state history ++ rest
  pub waits : (IsOver n (state_after state history) → ⊥) → rest ≡ waiting_for n (state_after state history)

moves_then : (taken taken' rest waiting added added' waiting' : List Waiting) → waiting ++ added ≡ taken ++ waiting' →
    waiting' ++ added' ≡ taken' ++ rest → waiting ++ (added ++ added') ≡ (taken ++ taken') ++ rest
moves_then taken taken' rest waiting added added' waiting' first second =
    sym (append_assoc waiting added added') ∙ ap (λ w. w ++ added') first ∙ append_assoc taken waiting' added'
    ∙ ap (λ w. taken ++ w) second ∙ sym (append_assoc taken taken' rest)

pub history_moves : (n : ℕ) (state : State) (history : List Record) → IsSound state → IsLegal state history →
    MovesAlong n state history
history_moves n state [] sound legal = record {
  rest = waiting_for n state;
  moves = append-nil (waiting_for n state);
  waits = λ stays. refl;
}
history_moves n state (made ∷ history) sound legal =
    let next : State = after state made in
    elim (closes_or_not n made.entry.act) [
      | inl closes ↦
          let closed = closed-over n state made sound legal.0 closes in
          record {
            rest = waiting_for n state ++ added_along n state (made ∷ history);
            moves = rw (closed.1, taken_along-over n next history closed.0) refl;
            waits = λ stays. absurd (stays (IsOver-state_after n next history closed.0));
          }
      | inr stays ↦
          let along : MovesAlong n next history =
          history_moves n next history (IsSound-after state made legal.0.user sound) legal.1 in
          record {
            rest = along.rest;
            moves = moves_then (taken_by n state made) (taken_along n next history) along.rest (waiting_for n state)
                (added_by n state made) (added_along n next history) (waiting_for n next)
                (record_moves n state made sound stays) along.moves;
            waits = along.waits;
          }
    ]
