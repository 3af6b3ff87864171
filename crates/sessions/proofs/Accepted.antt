-- What becomes of the numbers of the sessions that accept a message.
use Rattle.std.proofs.Common.{◌≡◌, ℕ, ◌+◌, ◌^◌, ◌<◌, ◌≤◌, Bool, true, false, cond, not, ◌||◌, List, [], ◌∷◌, ◌++◌}
use Rattle.std.proofs.Common.{length, map, Some, refl, sym, ap, ap₂, ◌∙◌, suc, zero, inl, inr, arith}
use Rattle.std.specs.Prelude.{nat_eq, nat_lt}
use Rattle.std.specs.List.{find, filter, slice_get, AllByRecursion}
use Rattle.std.specs.Set.{remove_key, is_member}
use Rattle.std.proofs.lemmas.Bool.{cases_Bool, ne_eqb, eq-eqb, eqb-true, lt-ltb}
use Rattle.kom_types.specs.Bits.{is_on}
use Rattle.kom_types.specs.Sessions.{Session, is_session}
use Rattle.std.proofs.lemmas.List.{length-map}
use Rattle.row_slots.specs.declared.lists.Lists.{Lists}
use Rattle.row_slots.specs.Lists.{list_of, room_of}
use Rattle.sessions.specs.Accepting.{accepts, acceptors, insert_number, after_move, IsAccepting, MayMove}
use Rattle.sessions.specs.Rows.{IsRising, with_row}
use Rattle.sessions.proofs.Moved.{moved-after}
use Rattle.sessions.proofs.Rising.{number_of, AllAbove, NoneIs, none_above, with_row-none, filter-none, KeepsNumbers}

-- the numbers of the rows that a test passes
abbrev numbers : (Session → Bool) → List Session → List ℕ
numbers test rows = map number_of (filter test rows)

-- all are above a number
abbrev Above : ℕ → List ℕ → Type 0
Above number list = AllByRecursion (λ other. number < other) list

above-numbers : (test : Session → Bool) (number : ℕ) (rows : List Session) → AllAbove number rows →
    Above number (numbers test rows)
above-numbers test number [] above = tt
above-numbers test number (row ∷ rows) above =
    let rest : Above number (numbers test rows) = above-numbers test number rows above.1 in
    elim (test row) as (λ b. Above number (map number_of (cond b (row ∷ filter test rows) (filter test rows)))) [
      | true ↦ (above.0, rest)
      | false ↦ rest
    ]

placed-first : (number : ℕ) (list : List ℕ) → Above number list → insert_number number list ≡ number ∷ list
placed-first number [] above = refl
placed-first number (other ∷ others) above =
    let below : nat_lt number other ≡ true = lt-ltb _ _ above.0 in rw below refl

removed-absent : (number : ℕ) (list : List ℕ) → Above number list → remove_key (nat_eq number) list ≡ list
removed-absent number [] above = refl
removed-absent number (other ∷ others) above =
    let apart : nat_eq number other ≡ false = ne_eqb _ _ (λ e. let below : number < other = above.0 in omega arith) in
    rw apart (ap (λ rest. other ∷ rest) (removed-absent number others above.1))

-- the row that is found has the number
found-number : (number : ℕ) (rows : List Session) (old : Session) → find (is_session number) rows ≡ Some old →
    number_of old ≡ number
found-number number [] old found = cc
found-number number (row ∷ rows) old found =
    elim (cases_Bool (is_session number row)) [
      | inl here ↦
          let same : Some row ≡ Some old = rw here at found in
          let number_is : number_of row ≡ number = eqb-true _ _ here in
          cc
      | inr there ↦ found-number number rows old (rw there at found)
    ]

-- a row before that of the session has a smaller number
above-found : (bound number : ℕ) (rows : List Session) (old : Session) → AllAbove bound rows →
    find (is_session number) rows ≡ Some old → bound < number
above-found bound number [] old above found = cc
above-found bound number (row ∷ rows) old above found =
    elim (cases_Bool (is_session number row)) [
      | inl here ↦
          let number_is : number_of row ≡ number = eqb-true _ _ here in
          let below : bound < number_of row = above.0 in
          omega arith
      | inr there ↦ above-found bound number rows old above.1 (rw there at found)
    ]

module _ (message number : ℕ) (change : Session → Session) (keeps : KeepsNumbers change) where
  abbrev after : List Session → List Session
  after rows = with_row number change rows

  changed-here : (row : Session) (rows : List Session) (old : Session) (was is : Bool) → IsRising (row ∷ rows) →
      is_session number row ≡ true → find (is_session number) (row ∷ rows) ≡ Some old → accepts message old ≡ was →
      accepts message (change old) ≡ is →
      acceptors message (after (row ∷ rows)) ≡ after_move number was is (acceptors message (row ∷ rows))
  changed-here row rows old was is rising here found was_is is_is =
      let same : Some row ≡ Some old = rw here at found in
      let old_is : old ≡ row = cc in
      let number_is : number_of row ≡ number = eqb-true _ _ here in
      let above : AllAbove number rows = rw number_is at rising.0 in
      let rest : after rows ≡ rows = with_row-none number change rows (none_above number rows above) in
      let was' : accepts message row ≡ was = rw (← old_is) was_is in
      let is' : accepts message (change row) ≡ is = rw (← old_is) is_is in
      let kept : number_of (change row) ≡ number = keeps row ∙ number_is in
      let list : List ℕ = acceptors message rows in
      let above' : Above number list = above-numbers (accepts message) number rows above in
      rw (here, rest, was', is')
      (elim was as (λ b. map number_of (cond is (change row ∷ filter (accepts message) rows)
      (filter (accepts message) rows)) ≡ after_move number b is (map number_of (cond b
      (row ∷ filter (accepts message) rows) (filter (accepts message) rows)))) [
        | true ↦ elim is as (λ b. map number_of (cond b (change row ∷ filter (accepts message) rows)
            (filter (accepts message) rows)) ≡ after_move number true b (number_of row ∷ list)) [
              | true ↦ ap (λ n. n ∷ list) (keeps row)
              | false ↦
                  let first : nat_eq number (number_of row) ≡ true = eq-eqb _ _ (sym number_is) in rw first refl
            ]
        | false ↦ elim is as (λ b. map number_of (cond b (change row ∷ filter (accepts message) rows)
            (filter (accepts message) rows)) ≡ after_move number false b list) [
              | true ↦ ap (λ n. n ∷ list) kept ∙ sym (placed-first number list above')
              | false ↦ refl
            ]
      ])

  changed-there : (row : Session) (rows : List Session) (old : Session) (was is : Bool) → IsRising (row ∷ rows) →
      is_session number row ≡ false → find (is_session number) rows ≡ Some old →
      acceptors message (after rows) ≡ after_move number was is (acceptors message rows) →
      acceptors message (after (row ∷ rows)) ≡ after_move number was is (acceptors message (row ∷ rows))
  changed-there row rows old was is rising there found rest =
      let below : number_of row < number = above-found (number_of row) number rows old rising.0 found in
      rw there
      (elim (accepts message row) as (λ b. map number_of (cond b (row ∷ filter (accepts message) (after rows))
      (filter (accepts message) (after rows))) ≡ after_move number was is (map number_of (cond b
      (row ∷ filter (accepts message) rows) (filter (accepts message) rows)))) [
        | true ↦ ap (λ list. number_of row ∷ list) rest ∙ sym (moved-after number (number_of row) was is _ below)
        | false ↦ rest
      ])

  -- the session is among those that accept the message, or is not, as its row says
  pub accepting-changed : (rows : List Session) (old : Session) (was is : Bool) → IsRising rows →
      find (is_session number) rows ≡ Some old → accepts message old ≡ was → accepts message (change old) ≡ is →
      acceptors message (after rows) ≡ after_move number was is (acceptors message rows)
  accepting-changed [] old was is rising found was_is is_is = cc
  accepting-changed (row ∷ rows) old was is rising found was_is is_is =
      elim (cases_Bool (is_session number row)) [
        | inl here ↦ changed-here row rows old was is rising here found was_is is_is
        | inr there ↦ changed-there row rows old was is rising there (rw there at found)
            (accepting-changed rows old was is rising.1 (rw there at found) was_is is_is)
      ]

or-true : (b : Bool) → (b || true) ≡ true
or-true true = refl
or-true false = refl

absent-at : (place number : ℕ) → slice_get {X = ℕ} [] place ≡ Some number → ⊥
absent-at zero number at = cc
absent-at (suc place) number at = cc

-- all numbers at places of a list that are above a bound
above-at : (bound : ℕ) (list : List ℕ) (place number : ℕ) → Above bound list → slice_get list place ≡ Some number →
    bound < number
above-at bound [] place number above at = absurd (absent-at place number at)
above-at bound (first ∷ list) zero number above at =
    let first_is : first ≡ number = cc in rw (← first_is) above.0
above-at bound (first ∷ list) (suc place) number above at = above-at bound list place number above.1 at

-- of the first row, and the others
found-first : (message : ℕ) (row : Session) (rows : List Session) (place number : ℕ) → IsRising (row ∷ rows) →
    slice_get (number_of row ∷ acceptors message rows) place ≡ Some number → accepts message row ≡ true →
    ((later : ℕ) → slice_get (acceptors message rows) later ≡ Some number →
    find (is_session number) rows ≡ slice_get (filter (accepts message) rows) later) →
    find (is_session number) (row ∷ rows) ≡ slice_get (filter (accepts message) (row ∷ rows)) place
found-first message row rows zero number rising at accepted rest =
    let number_is : number_of row ≡ number = cc in
    let here : is_session number row ≡ true = eq-eqb _ _ number_is in
    rw (accepted, here) refl
found-first message row rows (suc place) number rising at accepted rest =
    let below : number_of row < number =
    above-at (number_of row) (acceptors message rows) place number
    (above-numbers (accepts message) (number_of row) rows rising.0) at in
    let apart : is_session number row ≡ false = ne_eqb _ _ (λ e. omega arith) in
    rw (accepted, apart) (rest place at)

-- the same where the session is closed
pub accepting-closed : (message number : ℕ) (rows : List Session) (old : Session) (was : Bool) → IsRising rows →
    find (is_session number) rows ≡ Some old → accepts message old ≡ was →
    acceptors message (filter (λ row. not (is_session number row)) rows) ≡ after_move number was false
    (acceptors message rows)
accepting-closed message number [] old was rising found was_is = cc
accepting-closed message number (row ∷ rows) old was rising found was_is =
    elim (cases_Bool (is_session number row)) [
      | inl here ↦
          let same : Some row ≡ Some old = rw here at found in
          let old_is : old ≡ row = cc in
          let number_is : number_of row ≡ number = eqb-true _ _ here in
          let above : AllAbove number rows = rw number_is at rising.0 in
          let none : NoneIs number rows = none_above number rows above in
          let was' : accepts message row ≡ was = rw (← old_is) was_is in
          let rest : filter (λ row. not (is_session number row)) rows ≡ rows = filter-none number rows none in
          let first : nat_eq number (number_of row) ≡ true = eq-eqb _ _ (sym number_is) in
          rw (here, rest, was')
          (elim was as (λ b. acceptors message rows ≡ after_move number b false (map number_of (cond b
          (row ∷ filter (accepts message) rows) (filter (accepts message) rows)))) [
            | true ↦ rw first refl
            | false ↦ refl
          ])
      | inr there ↦
          let found' : find (is_session number) rows ≡ Some old = rw there at found in
          let below : number_of row < number = above-found (number_of row) number rows old rising.0 found' in
          let kept : List Session = filter (λ row. not (is_session number row)) rows in
          let rest : acceptors message kept ≡ after_move number was false (acceptors message rows) =
          accepting-closed message number rows old was rising.1 found' was_is in
          rw there
          (elim (accepts message row) as (λ b. map number_of (cond b (row ∷ filter (accepts message) kept)
          (filter (accepts message) kept)) ≡ after_move number was false (map number_of (cond b
          (row ∷ filter (accepts message) rows) (filter (accepts message) rows)))) [
            | true ↦ ap (λ list. number_of row ∷ list) rest ∙ sym (moved-after number (number_of row) was false _ below)
            | false ↦ rest
          ])
    ]

-- a session that accepts the message is among those that do
pub accepting-member : (message number : ℕ) (rows : List Session) (old : Session) →
    find (is_session number) rows ≡ Some old → accepts message old ≡ true →
    is_member nat_eq (acceptors message rows) number ≡ true
accepting-member message number [] old found accepted = cc
accepting-member message number (row ∷ rows) old found accepted =
    elim (cases_Bool (is_session number row)) [
      | inl here ↦
          let same : Some row ≡ Some old = rw here at found in
          let old_is : old ≡ row = cc in
          let accepted' : accepts message row ≡ true = rw (← old_is) accepted in
          let number_is : number_of row ≡ number = eqb-true _ _ here in
          let first : nat_eq number (number_of row) ≡ true = eq-eqb _ _ (sym number_is) in
          rw (accepted', first) refl
      | inr there ↦
          let rest : is_member nat_eq (acceptors message rows) number ≡ true =
          accepting-member message number rows old (rw there at found) accepted in
          elim (accepts message row) as (λ b. is_member nat_eq (map number_of (cond b
          (row ∷ filter (accepts message) rows) (filter (accepts message) rows))) number ≡ true) [
            | true ↦ rw rest (or-true (nat_eq number (number_of row)))
            | false ↦ rest
          ]
    ]

accepting-within : (message : ℕ) (rows : List Session) → length (acceptors message rows) ≤ length rows
accepting-within message [] = omega arith
accepting-within message (row ∷ rows) =
    let rest : length (acceptors message rows) ≤ length rows = accepting-within message rows in
    elim (accepts message row) as (λ b. length (map number_of (cond b (row ∷ filter (accepts message) rows)
    (filter (accepts message) rows))) ≤ length (row ∷ rows)) [
      | true ↦ omega arith
      | false ↦ omega arith
    ]

-- if a session does not accept the message, fewer do than there are
pub accepting-fewer : (message number : ℕ) (rows : List Session) (old : Session) →
    find (is_session number) rows ≡ Some old → accepts message old ≡ false →
    length (acceptors message rows) < length rows
accepting-fewer message number [] old found silent = cc
accepting-fewer message number (row ∷ rows) old found silent =
    elim (cases_Bool (is_session number row)) [
      | inl here ↦
          let same : Some row ≡ Some old = rw here at found in
          let old_is : old ≡ row = cc in
          let silent' : accepts message row ≡ false = rw (← old_is) silent in
          let within : length (acceptors message rows) ≤ length rows = accepting-within message rows in
          rw silent' (omega arith)
      | inr there ↦
          let rest : length (acceptors message rows) < length rows =
          accepting-fewer message number rows old (rw there at found) silent in
          elim (accepts message row) as (λ b. length (map number_of (cond b (row ∷ filter (accepts message) rows)
          (filter (accepts message) rows))) < length (row ∷ rows)) [
            | true ↦ omega arith
            | false ↦ omega arith
          ]
    ]

-- one session more, that does not accept the message
pub accepting-push : (message : ℕ) (rows : List Session) (row : Session) → accepts message row ≡ false →
    acceptors message (rows ++ row ∷ []) ≡ acceptors message rows
accepting-push message [] row silent = rw silent refl
accepting-push message (first ∷ rows) row silent =
    let rest : acceptors message (rows ++ row ∷ []) ≡ acceptors message rows = accepting-push message rows row silent in
    elim (accepts message first) as (λ b. map number_of (cond b (first ∷ filter (accepts message) (rows ++ row ∷ []))
    (filter (accepts message) (rows ++ row ∷ []))) ≡ map number_of (cond b (first ∷ filter (accepts message) rows)
    (filter (accepts message) rows))) [
      | true ↦ ap (λ list. number_of first ∷ list) rest
      | false ↦ rest
    ]

-- the session that stands at a place among those that accept the message is found by its number
pub accepting-found : (message : ℕ) (rows : List Session) (place number : ℕ) → IsRising rows →
    slice_get (acceptors message rows) place ≡ Some number →
    find (is_session number) rows ≡ slice_get (filter (accepts message) rows) place
accepting-found message [] place number rising at = absurd (absent-at place number at)
accepting-found message (row ∷ rows) place number rising at =
    elim (cases_Bool (accepts message row)) [
      | inl accepted ↦ found-first message row rows place number rising (rw accepted at at) accepted
          (λ later. accepting-found message rows later number rising.1)
      | inr silent ↦
          let at' : slice_get (acceptors message rows) place ≡ Some number = rw silent at at in
          let later : find (is_session number) rows ≡ slice_get (filter (accepts message) rows) place =
          accepting-found message rows place number rising.1 at' in
          let below : number_of row < number =
          above-at (number_of row) (acceptors message rows) place number
          (above-numbers (accepts message) (number_of row) rows rising.0) at' in
          let apart : is_session number row ≡ false = ne_eqb _ _ (λ e. omega arith) in
          rw (silent, apart) later
    ]

-- a change that keeps what a session accepts
abbrev pub KeepsAccepted : (Session → Session) → Type 0
KeepsAccepted change = (row : Session) → (change row).seat.accepted ≡ row.seat.accepted

accepting-kept : (message number : ℕ) (change : Session → Session) → KeepsNumbers change → KeepsAccepted change →
    (rows : List Session) → acceptors message (with_row number change rows) ≡ acceptors message rows
accepting-kept message number change numbers accepted [] = refl
accepting-kept message number change numbers accepted (row ∷ rows) =
    let rest : acceptors message (with_row number change rows) ≡ acceptors message rows =
    accepting-kept message number change numbers accepted rows in
    let same : accepts message (change row) ≡ accepts message row =
    ap (λ bits. is_on (2 ^ message) bits) (accepted row) in
    let shorter : List Session → List ℕ = λ list. map number_of list in
    let kept : List Session = filter (accepts message) (with_row number change rows) in
    let others : List Session = filter (accepts message) rows in
    elim (is_session number row) as (λ b. shorter (cond (accepts message (cond b (change row) row))
    (cond b (change row) row ∷ kept) kept) ≡ shorter (cond (accepts message row) (row ∷ others) others)) [
      | true ↦ rw same (elim (accepts message row) as (λ b. shorter (cond b (change row ∷ kept) kept)
          ≡ shorter (cond b (row ∷ others) others)) [
            | true ↦ ap₂ (λ n list. n ∷ list) (numbers row) rest
            | false ↦ rest
          ])
      | false ↦ elim (accepts message row) as (λ b. shorter (cond b (row ∷ kept) kept)
          ≡ shorter (cond b (row ∷ others) others)) [
            | true ↦ ap (λ list. number_of row ∷ list) rest
            | false ↦ rest
          ]
    ]

-- the lists stay those of the rows
pub still-accepting : (lists : Lists) (number : ℕ) (change : Session → Session) (rows : List Session) →
    KeepsNumbers change → KeepsAccepted change → IsAccepting lists rows →
    IsAccepting lists (with_row number change rows)
still-accepting lists number change rows numbers accepted are = record {
  numbers = λ message below. are.numbers message below
      ∙ sym (accepting-kept message number change numbers accepted rows);
  room = λ message below.
      rw (length-map rows (λ row. cond (is_session number row) (change row) row)) (are.room message below);
}

-- what may move in the list of a message
pub may-move : (lists : Lists) (rows : List Session) (number message : ℕ) (old : Session) (was is : Bool) →
    IsAccepting lists rows → message < 32 → find (is_session number) rows ≡ Some old → accepts message old ≡ was →
    MayMove lists number message was is
may-move lists rows number message old true true are below found was_is = tt
may-move lists rows number message old true false are below found was_is =
    rw (are.numbers message below) (accepting-member message number rows old found was_is)
may-move lists rows number message old false true are below found was_is =
    let fewer : length (acceptors message rows) < length rows = accepting-fewer message number rows old found was_is in
    let list : list_of lists message ≡ acceptors message rows = are.numbers message below in
    let room : length rows ≤ length (list_of lists message) + room_of lists message = are.room message below in
    let counted : length (list_of lists message) ≡ length (acceptors message rows) = ap length list in
    omega arith
may-move lists rows number message old false false are below found was_is = tt
