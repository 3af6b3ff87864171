-- What the drains of a session give is, in the end, all that it is to be sent.
use Rattle.std.proofs.Common.{◌≡◌, ℕ, ◌≤◌, Bool, true, false, cond, ◌&&◌, List, [], ◌∷◌, ◌++◌}
use Rattle.std.proofs.Common.{Option, Some, None, refl, sym, ap, ◌∙◌, subst, append_assoc, arith}
use Rattle.std.proofs.lemmas.List.{append-nil, map-append}
use Rattle.kom_types.specs.declared.acts.Act.TheVariants as act
use Rattle.kom_types.specs.declared.acts.Record.{Record}
use Rattle.kom_types.specs.declared.answers.NotMade.TheVariants.{Gone}
use Rattle.kom_types.specs.declared.answers.Why.TheVariants.{Dropped, Overrun}
use Rattle.kom_types.specs.declared.seats.Seat.{Seat}
use Rattle.kom_types.specs.Sessions.{Waiting, Session}
use Rattle.kom_model.specs.State.{State, IsSound, session_of}
use Rattle.kom_model.specs.After.{MayFollow, after}
use Rattle.kom_model.specs.Legal.{IsLegal, state_after}
use Rattle.kom_model.specs.Out.{items_of, waiting_in, waiting_for, given_from, out_of}
use Rattle.kom_model.specs.Refusal.{refusal_of, drain_refused, unless_store_refused, is_drained}
use Rattle.kom_model.specs.Laws.{IsPrefix, all_given, GivesNothing}
use Rattle.kom_model.proofs.Order.{AllBelow, AllFrom}
use Rattle.kom_model.proofs.Keeping.{ordered-found}
use Rattle.kom_model.proofs.Soundness.{IsSound-after, IsSound-state_after}
use Rattle.kom_model.proofs.Draining.{AllFrom-nothing_drained}
use Rattle.kom_model.proofs.Flushing.{flushed-stable, stable-state_after}
use Rattle.kom_model.proofs.Moving.{taken_by}
use Rattle.kom_model.proofs.Closing.{IsOver, IsOver-state_after}
use Rattle.kom_model.proofs.Along.{taken_along, added_along, given-taken, out-added, MovesAlong}
use Rattle.kom_model.proofs.Along.{history_moves}

state_after-append : (state : State) (one two : List Record) →
    state_after state (one ++ two) ≡ state_after (state_after state one) two
state_after-append state [] two = refl
state_after-append state (made ∷ one) two = state_after-append (after state made) one two

legal_parts : (state : State) (one two : List Record) → IsLegal state (one ++ two) →
    IsLegal state one × IsLegal (state_after state one) two
legal_parts state [] two legal = (tt, legal)
legal_parts state (made ∷ one) two legal =
    let parts = legal_parts (after state made) one two legal.1 in
    ((legal.0, parts.0), parts.1)

taken_along-append : (n : ℕ) (state : State) (one two : List Record) →
    taken_along n state (one ++ two) ≡ taken_along n state one ++ taken_along n (state_after state one) two
taken_along-append n state [] two = refl
taken_along-append n state (made ∷ one) two =
    let next : State = after state made in
    ap (λ w. taken_by n state made ++ w) (taken_along-append n next one two)
    ∙ sym (append_assoc (taken_by n state made) (taken_along n next one)
    (taken_along n (state_after next one) two))

-- where there is no session, a drain is refused
absent_refused : (store_refused : Bool) (row : Option Session) → row ≡ None →
    unless_store_refused store_refused (drain_refused row) ≡ None → ⊥
absent_refused true row none possible = cc
absent_refused false None none possible = cc
absent_refused false (Some row) none possible = cc

-- a session that may be drained is there
drained-there : (n : ℕ) (state : State) (drain : Record) → drain.entry.act ≡ act.Drain n → MayFollow state drain →
    IsOver n state → ⊥
drained-there n state drain drains may over =
    absent_refused state.store_refused (session_of n state) over.absent
    (subst (λ what. refusal_of state what ≡ None) drains may.possible)

-- what waited early is given before what is queued late, and so before what waits at last
given_before : (bound : ℕ) (early queued given late : List Waiting) → AllBelow bound early → AllFrom bound late →
    early ++ queued ≡ given ++ late → (more : List Waiting) × (early ++ more ≡ given)
given_before bound [] queued given late below from moves = (given, refl)
given_before bound (one ∷ early) queued [] late below from moves =
    let first : AllFrom bound (one ∷ (early ++ queued)) = subst (AllFrom bound) (sym moves) from in
    absurd (omega (arith, first.0, below.0))
given_before bound (one ∷ early) queued (other ∷ given) late below from moves =
    let same : one ≡ other = cc in
    let tails : early ++ queued ≡ given ++ late = cc in
    let rest : (more : List Waiting) × (early ++ more ≡ given) =
    given_before bound early queued given late below.1 from tails in
    let joins : early ++ rest.0 ≡ given = rest.1 in
    (rest.0, cc)

taken_before : (n : ℕ) (state : State) (flush drain : Record) (between : List Record) → IsSound state →
    IsLegal state (flush ∷ between) → flush.entry.act ≡ act.Flush → flush.short ≡ false →
    GivesNothing state n (flush ∷ between) drain →
    (more : List Waiting) × (waiting_for n state ++ more ≡ taken_along n state (flush ∷ between))
taken_before n state flush drain between sound legal flushes whole nothing =
    let history : List Record = flush ∷ between in
    let next : State = after state flush in
    let end : State = state_after next between in
    let sound' : IsSound end = IsSound-state_after state history legal sound in
    let stable : state.entries ≤ end.stable =
    omega (
      arith,
      flushed-stable state flush flushes whole,
      stable-state_after next between legal.1 (IsSound-after state flush legal.0.user sound),
    ) in
    let early = ordered-found n state.entries state.sessions sound.ordered in
    let late : AllFrom state.entries (waiting_for n end) =
    AllFrom-nothing_drained state.entries end.stable (waiting_for n end) stable
    (ordered-found n end.entries end.sessions sound'.ordered).0 nothing.2 in
    let along : MovesAlong n state history = history_moves n state history sound legal in
    let waits : along.rest ≡ waiting_for n end = along.waits (drained-there n end drain nothing.0 nothing.1) in
    given_before state.entries (waiting_for n state) (added_along n state history) (taken_along n state history)
    (waiting_for n end) early.1 late (along.moves ∙ ap (λ w. taken_along n state history ++ w) waits)

pub gives_all_before : (state : State) (n : ℕ) (before between : List Record) (flush drain : Record) →
    IsSound state → IsLegal state (before ++ flush ∷ between) → flush.entry.act ≡ act.Flush → flush.short ≡ false →
    GivesNothing state n (before ++ flush ∷ between) drain →
    IsPrefix (out_of state n before) (all_given state n (before ++ flush ∷ between))
gives_all_before state n before between flush drain sound legal flushes whole nothing =
    let history : List Record = flush ∷ between in
    let middle : State = state_after state before in
    let end : State = state_after middle history in
    let parts = legal_parts state before history legal in
    let nothing' : GivesNothing middle n history drain = subst
    (λ last. (drain.entry.act ≡ act.Drain n) × MayFollow last drain × (given_from n last ≡ []))
    (state_after-append state before history) nothing in
    let later : (more : List Waiting) × (waiting_for n middle ++ more ≡ taken_along n middle history) =
    taken_before n middle flush drain between (IsSound-state_after state before parts.0 sound) parts.1 flushes whole
    nothing' in
    let along : MovesAlong n state before = history_moves n state before sound parts.0 in
    let waits : along.rest ≡ waiting_for n middle = along.waits (λ over.
    drained-there n end drain nothing'.0 nothing'.1 (IsOver-state_after n middle history over)) in
    let taken : List Waiting = taken_along n state before in (
      items_of later.0,
      ap (λ items. items ++ items_of later.0)
          (out-added n state before ∙ ap items_of (along.moves ∙ ap (λ w. taken ++ w) waits))
          ∙ sym (map-append (λ one. one.item) (taken ++ waiting_for n middle) later.0)
          ∙ ap items_of (append_assoc taken (waiting_for n middle) later.0 ∙ ap (λ w. taken ++ w) later.1
          ∙ sym (taken_along-append n state before history))
          ∙ sym (given-taken n state (before ++ history)),
    )

drained_waiting : (seat : Seat) (waiting : List Waiting) (overrun : Bool) →
    is_drained (record { seat = seat; waiting = waiting; overrun = overrun }) ≡ true → waiting ≡ []
drained_waiting seat [] overrun drained = refl
drained_waiting seat (one ∷ waiting) overrun drained = cc

dropped_step : (ended drained overrun : Bool) →
    cond (ended && drained) (Some (Gone Dropped)) (cond overrun (Some (Gone Overrun)) None) ≡ Some (Gone Dropped) →
    drained ≡ true
dropped_step ended true overrun dropped = refl
dropped_step true false true dropped = cc
dropped_step true false false dropped = cc
dropped_step false false true dropped = cc
dropped_step false false false dropped = cc

-- for a session that is refused as dropped nothing waits
dropped_drained : (store_refused : Bool) (row : Option Session) →
    unless_store_refused store_refused (drain_refused row) ≡ Some (Gone Dropped) →
    (row ≡ None → ⊥) × (waiting_in row ≡ [])
dropped_drained true row dropped = cc
dropped_drained false None dropped = cc
dropped_drained false (Some row) dropped = (
  λ none. cc,
  drained_waiting row.seat row.waiting row.overrun
      (dropped_step row.seat.ended (is_drained row) row.overrun dropped),
)

pub gives_all_to_dropped : (state : State) (n : ℕ) (history : List Record) → IsSound state →
    IsLegal state history → refusal_of (state_after state history) (act.Drain n) ≡ Some (Gone Dropped) →
    all_given state n history ≡ out_of state n history
gives_all_to_dropped state n history sound legal dropped =
    let end : State = state_after state history in
    let drained = dropped_drained end.store_refused (session_of n end) dropped in
    let along : MovesAlong n state history = history_moves n state history sound legal in
    let none : along.rest ≡ [] = along.waits (λ over. drained.0 over.absent) ∙ drained.1 in
    given-taken n state history
    ∙ ap items_of (sym (append-nil (taken_along n state history))
    ∙ ap (λ w. taken_along n state history ++ w) (sym none)
    ∙ sym along.moves)
    ∙ sym (out-added n state history)
