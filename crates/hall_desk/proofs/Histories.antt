-- What holds of legal histories.
use Rattle.std.proofs.Common.{◌≡◌, ℕ, ◌+◌, ◌<◌, ◌≤◌, ◌⊎◌, inl, inr, Bool, true, false, not, ◌||◌, ◌&&◌, eqb, ◌==◌, List}
use Rattle.std.proofs.Common.{[], ◌∷◌, ◌++◌, length, refl, sym, ap, subst, ◌∙◌, arith, append_assoc, if◌then◌else◌}
use Rattle.std.specs.Option.{IsSome}
use Rattle.std.proofs.lemmas.Bool.{cases_Bool, ne_eqb, eqb-true, eq-eqb}
use Rattle.std.proofs.lemmas.List.Elements.{filter-append}
use Rattle.kom_types.specs.declared.limits.TheConstants.{MOST_SESSIONS}
use Rattle.kom_types.specs.declared.acts.Act.{Act}
use Rattle.kom_types.specs.declared.acts.Act.TheVariants as act
use Rattle.kom_types.specs.declared.acts.Record.{Record}
use Rattle.kom_types.specs.declared.items.Item.{Item}
use Rattle.kom_links.specs.DeskCalls.{record_of}
use Rattle.kom_links.specs.Records.{is_connect, is_close, has_connect, has_close, has_session, IsOpen}
use Rattle.kom_model.specs.State.{State, session_of}
use Rattle.kom_model.specs.After.{MayFollow, after}
use Rattle.kom_model.specs.Legal.{IsLegal, AreByOwners, state_after}
use Rattle.kom_model.specs.Out.{given_by, given_by_pass}
use Rattle.hall_desk.specs.Passes.{of_pass, connects_in}
use Rattle.hall_desk.proofs.Stepping.{connects-after, connects_in-append, within_step, AreDrawn, drawn-after, Has}
use Rattle.hall_desk.proofs.Stepping.{HasOr, has_before, connects_now, has_step, acting_stands, stands_drawn}
use Rattle.hall_desk.proofs.Stepping.{drawn_step}

-- ---- tests

pub or_cases : (a b : Bool) → (a || b) ≡ true → (a ≡ true) ⊎ (b ≡ true)
or_cases true b e = inl refl
or_cases false b e = inr e

pub or_none : (a b : Bool) → (a || b) ≡ false → (a ≡ false) × (b ≡ false)
or_none true b e = cc
or_none false b e = (refl, e)

pub and_both : (a b : Bool) → (a && b) ≡ true → (a ≡ true) × (b ≡ true)
and_both true b e = (refl, e)
and_both false b e = cc

not_true : (a : Bool) → not a ≡ true → a ≡ false
not_true true e = cc
not_true false e = refl

pub or_second : (a b : Bool) → b ≡ true → (a || b) ≡ true
or_second true b there = refl
or_second false b there = there

-- ---- histories one after the other

pub legal-append : (state : State) (a b : List Record) → IsLegal state a → IsLegal (state_after state a) b →
    IsLegal state (a ++ b)
legal-append state [] b prefix rear = rear
legal-append state (made ∷ a) b prefix rear = (prefix.0, legal-append (after state made) a b prefix.1 rear)

pub owners-append : (state : State) (a b : List Record) → AreByOwners state a → AreByOwners (state_after state a) b →
    AreByOwners state (a ++ b)
owners-append state [] b prefix rear = rear
owners-append state (made ∷ a) b prefix rear = (prefix.0, owners-append (after state made) a b prefix.1 rear)

pub state_after-append : (state : State) (a b : List Record) →
    state_after state (a ++ b) ≡ state_after (state_after state a) b
state_after-append state [] b = refl
state_after-append state (made ∷ a) b = state_after-append (after state made) a b

pub entries-state_after : (state : State) (history : List Record) →
    (state_after state history).entries ≡ state.entries + length history
entries-state_after state [] = omega arith
entries-state_after state (made ∷ history) =
    let rest : (state_after (after state made) history).entries ≡ (state.entries + 1) + length history =
    entries-state_after (after state made) history in omega arith

-- ---- how many sessions were connected

pub connects-state_after : (state : State) (history : List Record) →
    (state_after state history).connects ≡ state.connects + connects_in history
connects-state_after state [] = omega arith
connects-state_after state (made ∷ history) =
    let one = connects-after state made in
    let rest : (state_after (after state made) history).connects ≡ (after state made).connects + connects_in history =
    connects-state_after (after state made) history in
    let parts : connects_in (made ∷ history) ≡ connects_in (made ∷ []) + connects_in history =
    connects_in-append (made ∷ []) history in
    omega (arith, one, rest, parts)

connects_grow : (state : State) (history : List Record) → state.connects ≤ (state_after state history).connects
connects_grow state history = omega (arith, connects-state_after state history)

pub connects_within : (state : State) (history : List Record) → IsLegal state history → state.connects ≤ MOST_SESSIONS →
    (state_after state history).connects ≤ MOST_SESSIONS
connects_within state [] legal within = within
connects_within state (made ∷ history) legal within =
    connects_within (after state made) history legal.1
    (within_step state made.entry.pass made.entry.moment made.entry.act made.session made.short legal.0 within)

-- ---- a session that a pass has open is its own

-- the first record of a history is the pass's own, or another's
of_first : (pass : ℕ) (made : Record) (history : List Record) →
    ((made.entry.pass ≡ pass) × (of_pass pass (made ∷ history) ≡ made ∷ of_pass pass history))
    ⊎ ((made.entry.pass ≡ pass → ⊥) × (of_pass pass (made ∷ history) ≡ of_pass pass history))
of_first pass made history =
    elim (cases_Bool (eqb made.entry.pass pass)) [
      | inl here ↦ inl (eqb-true _ _ here, rw here refl)
      | inr there ↦ inr (λ e. let here : eqb made.entry.pass pass ≡ true = eq-eqb _ _ e in cc, rw there refl)
    ]

-- a Connect of the pass and session
connect_has : (n pass : ℕ) (state : State) (made : Record) → AreDrawn state → MayFollow state made →
    made.entry.pass ≡ pass → (is_connect made.entry.act && (made.session == n)) ≡ true → Has n pass (after state made)
connect_has n pass state made drawn may own here =
    go made.entry.pass made.entry.moment made.entry.act made.session made.short may own here
  where
    go : (by moment : ℕ) (what : Act) (session : ℕ) (short : Bool) →
        MayFollow state (record_of by moment what session short) → by ≡ pass →
        (is_connect what && (session == n)) ≡ true → Has n pass (after state (record_of by moment what session short))
    go by moment (act.Connect user host) session short may own here =
        let at : session ≡ n = eqb-true _ _ here in
        let has : Has session by (after state (record_of by moment (act.Connect user host) session short)) =
        connects_now by state moment user host session short drawn may in
        subst (λ (k : ℕ). Has k pass (after state (record_of by moment (act.Connect user host) session short))) at
        (subst (λ (k : ℕ).
        Has session k (after state (record_of by moment (act.Connect user host) session short))) own has)
    go by moment (act.Call number reference call) session short may own here = cc
    go by moment (act.Broken number) session short may own here = cc
    go by moment (act.Drain number) session short may own here = cc
    go by moment act.Flush session short may own here = cc
    go by moment (act.Close number) session short may own here = cc

has_after : (n pass : ℕ) (state : State) (history : List Record) → AreDrawn state → IsLegal state history →
    AreByOwners state history → HasOr n pass state (has_connect n (of_pass pass history)) →
    has_close n (of_pass pass history) ≡ false → Has n pass (state_after state history)
has_after n pass state [] drawn legal owned has open' = has_before n pass state has
has_after n pass state (made ∷ history) drawn legal owned has open' =
    has_after n pass (after state made) history (drawn-after state made drawn) legal.1 owned.1
    (step (of_first pass made history) has) (rest (of_first pass made history))
  where
    keeps : (made.entry.pass ≡ pass → (is_close made.entry.act && (made.session == n)) ≡ false) → Has n pass state →
        Has n pass (after state made)
    keeps apart has =
        has_step n pass state made.entry.pass made.entry.moment made.entry.act made.session made.short drawn legal.0
        owned.0 has apart

    rest : ((made.entry.pass ≡ pass) × (of_pass pass (made ∷ history) ≡ made ∷ of_pass pass history))
        ⊎ ((made.entry.pass ≡ pass → ⊥) × (of_pass pass (made ∷ history) ≡ of_pass pass history)) →
        has_close n (of_pass pass history) ≡ false
    rest (inl own) =
        let all : has_close n (made ∷ of_pass pass history) ≡ false = rw own.1 at open' in (or_none _ _ all).1
    rest (inr other) = rw other.1 at open'

    step : ((made.entry.pass ≡ pass) × (of_pass pass (made ∷ history) ≡ made ∷ of_pass pass history))
        ⊎ ((made.entry.pass ≡ pass → ⊥) × (of_pass pass (made ∷ history) ≡ of_pass pass history)) →
        HasOr n pass state (has_connect n (of_pass pass (made ∷ history))) →
        HasOr n pass (after state made) (has_connect n (of_pass pass history))
    step (inl own) (inl has) =
        let all : has_close n (made ∷ of_pass pass history) ≡ false = rw own.1 at open' in
        inl (keeps (λ e. (or_none _ _ all).0) has)
    step (inr other) (inl has) = inl (keeps (λ e. absurd (other.0 e)) has)
    step (inr other) (inr later) = inr (rw other.1 at later)
    step (inl own) (inr later) =
        let all : has_connect n (made ∷ of_pass pass history) ≡ true = rw own.1 at later in
        elim (or_cases (is_connect made.entry.act && (made.session == n)) (has_connect n (of_pass pass history)) all) [
          | inl here ↦ inl (connect_has n pass state made drawn legal.0 own.0 here)
          | inr rest ↦ inr rest
        ]

-- a session that the pass connected and did not close has a row that is its own
pub open_has : (start : State) → AreDrawn start → (n pass : ℕ) (history : List Record) → IsLegal start history →
    AreByOwners start history → IsOpen n (of_pass pass history) → Has n pass (state_after start history)
open_has start drawn n pass history legal owned open' =
    let both : (has_connect n (of_pass pass history) ≡ true) × (not (has_close n (of_pass pass history)) ≡ true) =
    and_both _ _ open' in
    has_after n pass start history drawn legal owned (inr both.0) (not_true _ both.1)

-- ---- numbers are drawn in order

pub undrawn_absent : (n : ℕ) (state : State) (history : List Record) → AreDrawn state → IsLegal state history →
    (state_after state history).connects < n → has_session n history ≡ false
undrawn_absent n state [] drawn legal above = refl
undrawn_absent n state (made ∷ history) drawn legal above =
    let grown : (after state made).connects ≤ (state_after (after state made) history).connects =
    connects_grow (after state made) history in
    let below : made.session ≤ (after state made).connects =
    drawn_step state made.entry.pass made.entry.moment made.entry.act made.session made.short drawn legal.0 in
    let no : eqb made.session n ≡ false = ne_eqb _ _ (λ e. omega (arith, e)) in
    rw no (undrawn_absent n (after state made) history (drawn-after state made drawn) legal.1 above)

-- a session that no record has is in none of a pass
pub absent_of : (n pass : ℕ) (history : List Record) → has_session n history ≡ false →
    has_session n (of_pass pass history) ≡ false
absent_of n pass [] absent = refl
absent_of n pass (made ∷ history) absent =
    let none : (eqb made.session n ≡ false) × (has_session n history ≡ false) = or_none _ _ absent in
    elim (cases_Bool (eqb made.entry.pass pass)) [
      | inl here ↦ rw (here, none.0) (absent_of n pass history none.1)
      | inr there ↦ rw there (absent_of n pass history none.1)
    ]

-- ---- the records of a pass

pub of_pass-append : (pass : ℕ) (a b : List Record) → of_pass pass (a ++ b) ≡ of_pass pass a ++ of_pass pass b
of_pass-append pass a b = filter-append (λ made. made.entry.pass == pass) a b

pub of_own : (pass : ℕ) (made : Record) → made.entry.pass ≡ pass → of_pass pass (made ∷ []) ≡ made ∷ []
of_own pass made own = let here : eqb made.entry.pass pass ≡ true = eq-eqb _ _ own in rw here refl

-- ---- what drains of a pass gave

pub given-append : (state : State) (pass n : ℕ) (a b : List Record) →
    given_by_pass state pass n (a ++ b) ≡ given_by_pass state pass n a ++ given_by_pass (state_after state a) pass n b
given-append state pass n [] b = refl
given-append state pass n (made ∷ a) b =
    let first : List (List Item) = if made.entry.pass == pass then given_by state n made else [] in
    ap (λ rest. first ++ rest) (given-append (after state made) pass n a b)
    ∙ sym (append_assoc first (given_by_pass (after state made) pass n a)
    (given_by_pass (state_after (after state made) a) pass n b))

-- records of other passes give nothing
pub given_others : (state : State) (pass n : ℕ) (history : List Record) → of_pass pass history ≡ [] →
    given_by_pass state pass n history ≡ []
given_others state pass n [] none = refl
given_others state pass n (made ∷ history) none =
    elim (cases_Bool (eqb made.entry.pass pass)) [
      | inl here ↦ let wrong : made ∷ of_pass pass history ≡ [] = rw here at none in cc
      | inr there ↦ rw there (given_others (after state made) pass n history (rw there at none))
    ]

-- an act that is no drain of a session gives it nothing
pub gives_none : (n : ℕ) (state : State) (pass moment : ℕ) (what : Act) (session : ℕ) (short : Bool) →
    (what ≡ act.Drain n → ⊥) → given_by state n (record_of pass moment what session short) ≡ []
gives_none n state pass moment (act.Connect user host) session short other = refl
gives_none n state pass moment (act.Call number reference call) session short other = refl
gives_none n state pass moment (act.Broken number) session short other = refl
gives_none n state pass moment (act.Drain number) session short other =
    let no : eqb number n ≡ false = ne_eqb _ _ (λ e. other (ap (λ k. act.Drain k) e)) in rw no refl
gives_none n state pass moment act.Flush session short other = refl
gives_none n state pass moment (act.Close number) session short other = refl

none_before : (n : ℕ) (state : State) (made : Record) → AreDrawn state → MayFollow state made → state.connects < n →
    given_by state n made ≡ []
none_before n state made drawn may above =
    gives_none n state made.entry.pass made.entry.moment made.entry.act made.session made.short (λ drain.
    let named : made.session ≡ n =
    drain_named n state made.entry.pass made.entry.moment made.entry.act made.session made.short may drain in
    let stands : IsSome (session_of made.session state) =
    acting_stands state made.entry.pass made.entry.moment made.entry.act made.session made.short may
    (rw drain refl) (λ flush. let wrong : act.Drain n ≡ act.Flush = sym drain ∙ flush in cc) in
    omega (arith, stands_drawn made.session state drawn stands, named))
  where
    drain_named : (n : ℕ) (state : State) (pass moment : ℕ) (what : Act) (session : ℕ) (short : Bool) →
        MayFollow state (record_of pass moment what session short) → what ≡ act.Drain n → session ≡ n
    drain_named n state pass moment (act.Drain number) session short may drain =
        let same : number ≡ n = cc in may.session ∙ same
    drain_named n state pass moment (act.Connect user host) session short may drain = cc
    drain_named n state pass moment (act.Call number reference call) session short may drain = cc
    drain_named n state pass moment (act.Broken number) session short may drain = cc
    drain_named n state pass moment act.Flush session short may drain = cc
    drain_named n state pass moment (act.Close number) session short may drain = cc

-- before its Connect a session is given nothing
pub given_before : (n pass : ℕ) (state : State) (history : List Record) → AreDrawn state → IsLegal state history →
    (state_after state history).connects < n → given_by_pass state pass n history ≡ []
given_before n pass state [] drawn legal above = refl
given_before n pass state (made ∷ history) drawn legal above =
    let grown : state.connects ≤ (state_after state (made ∷ history)).connects = connects_grow state (made ∷ history) in
    let above' : state.connects < n = omega arith in
    let none : given_by state n made ≡ [] = none_before n state made drawn legal.0 above' in
    let rest : given_by_pass (after state made) pass n history ≡ [] =
    given_before n pass (after state made) history (drawn-after state made drawn) legal.1 above in
    if_none (eqb made.entry.pass pass) (given_by state n made) (given_by_pass (after state made) pass n history) none
    rest
  where
    if_none : (b : Bool) (one rest : List (List Item)) → one ≡ [] → rest ≡ [] →
        (if b then one else []) ++ rest ≡ []
    if_none true one rest none none' = rw (none, none') refl
    if_none false one rest none none' = none'
