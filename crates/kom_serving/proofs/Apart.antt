-- Different passes connect different sessions.
use Rattle.std.proofs.Common.{◌≡◌, ℕ, ◌+◌, ◌<◌, ◌≤◌, inl, inr, nat_eq, Bool, true, false, ◌&&◌, eqb, ◌==◌, List, []}
use Rattle.std.proofs.Common.{◌∷◌, ◌++◌, Option, Some, None, sym, subst, ◌∙◌, arith}
use Rattle.std.specs.Option.{IfSome}
use Rattle.std.specs.List.{flat_map, AllByRecursion, IsDistinct}
use Rattle.std.proofs.lemmas.Bool.{cases_Bool, eqb-true, ne_eqb}
use Rattle.kom_types.specs.declared.acts.Act.{Act}
use Rattle.kom_types.specs.declared.acts.Act.TheVariants as act
use Rattle.kom_types.specs.declared.acts.Record.{Record}
use Rattle.kom_links.specs.declared.served.Served.{Served}
use Rattle.kom_links.specs.DeskCalls.{record_of}
use Rattle.kom_links.specs.Doors.{GateView}
use Rattle.kom_links.specs.Outside.{LinkView}
use Rattle.kom_links.specs.Records.{is_connect, has_connect}
use Rattle.kom_model.specs.State.{State}
use Rattle.kom_model.specs.After.{MayFollow, after}
use Rattle.kom_model.specs.Legal.{IsLegal}
use Rattle.hall_desk.specs.Passes.{of_pass, connects_in}
use Rattle.hall_desk.proofs.Stepping.{connects-after}
use Rattle.hall_desk.proofs.Histories.{or_cases}
use Rattle.kom_serving.specs.Runs.{Talks, sessions_of, told_sessions}
use Rattle.kom_serving.proofs.Histories.{not_both, connect_above, connect_of}
use Rattle.kom_serving.proofs.Links.{all_append, not_zero}

drawn_now : (n : ℕ) (state : State) (pass moment : ℕ) (what : Act) (session : ℕ) (short : Bool) →
    MayFollow state (record_of pass moment what session short) → (is_connect what && (session == n)) ≡ true →
    n ≤ state.connects + connects_in (record_of pass moment what session short ∷ [])
drawn_now n state pass moment (act.Connect user host) session short may here =
    let at : session ≡ n = eqb-true _ _ here in omega (arith, may.session)
drawn_now n state pass moment (act.Call number reference call) session short may here = cc
drawn_now n state pass moment (act.Broken number) session short may here = cc
drawn_now n state pass moment (act.Drain number) session short may here = cc
drawn_now n state pass moment act.Flush session short may here = cc
drawn_now n state pass moment (act.Close number) session short may here = cc

-- after its Connect no session is connected again
never_again : (n : ℕ) (state : State) (made : Record) (history : List Record) → IsLegal state (made ∷ history) →
    (is_connect made.entry.act && (made.session == n)) ≡ true → has_connect n history ≡ true → ⊥
never_again n state made history legal here later =
    let low : n ≤ state.connects + connects_in (made ∷ []) =
    drawn_now n state made.entry.pass made.entry.moment made.entry.act made.session made.short legal.0 here in
    let grown : (after state made).connects ≡ state.connects + connects_in (made ∷ []) = connects-after state made in
    let above : (after state made).connects < n = connect_above n (after state made) history legal.1 later in
    omega arith

-- the pass of the Connect
connected_by : (n pass : ℕ) (state : State) (made : Record) (history : List Record) →
    IsLegal state (made ∷ history) → (is_connect made.entry.act && (made.session == n)) ≡ true →
    has_connect n (of_pass pass (made ∷ history)) ≡ true → made.entry.pass ≡ pass
connected_by n pass state made history legal here connected =
    elim (cases_Bool (eqb made.entry.pass pass)) [
      | inl own ↦ eqb-true _ _ own
      | inr other ↦
          let later : has_connect n (of_pass pass history) ≡ true = rw other at connected in
          absurd (never_again n state made history legal here (connect_of n pass history later))
    ]

-- a Connect that is not the first record's
connected_later : (n pass : ℕ) (made : Record) (history : List Record) →
    (is_connect made.entry.act && (made.session == n)) ≡ false →
    has_connect n (of_pass pass (made ∷ history)) ≡ true → has_connect n (of_pass pass history) ≡ true
connected_later n pass made history there connected =
    elim (cases_Bool (eqb made.entry.pass pass)) [
      | inl own ↦
          let all : has_connect n (made ∷ of_pass pass history) ≡ true = rw own at connected in
          elim (or_cases (is_connect made.entry.act && (made.session == n)) (has_connect n (of_pass pass history))
          all) [
            | inl here ↦ absurd (not_both _ here there)
            | inr later ↦ later
          ]
      | inr other ↦ rw other at connected
    ]

pub one_connect : (n i j : ℕ) (state : State) (history : List Record) → IsLegal state history →
    has_connect n (of_pass i history) ≡ true → has_connect n (of_pass j history) ≡ true → i ≡ j
one_connect n i j state [] legal one other = cc
one_connect n i j state (made ∷ history) legal one other =
    elim (cases_Bool (is_connect made.entry.act && (made.session == n))) [
      | inl here ↦
          sym (connected_by n i state made history legal here one)
          ∙ connected_by n j state made history legal here other
      | inr there ↦
          one_connect n i j (after state made) history legal.1 (connected_later n i made history there one)
          (connected_later n j made history there other)
    ]

-- all of these sessions were connected by the pass of this number
abbrev pub AreOf : List Record → ℕ → List ℕ → Type 0
AreOf history number sessions =
    AllByRecursion (λ session. has_connect session (of_pass number history) ≡ true) sessions

-- the sessions of links that a pass served are its own
sessions_own : {L : Type 0} (view : L → LinkView) (start : State) (history : List Record) (number drawn : ℕ)
    (links : List (L × Served)) →
    AllByRecursion (λ back. Talks start history (of_pass number history) drawn (view back.0) back.1) links →
    AreOf history number (sessions_of links)
sessions_own view start history number drawn [] talks = tt
sessions_own view start history number drawn (back ∷ links) talks =
    elim (cases_Bool (eqb back.1.session 0)) [
      | inl zero ↦ rw zero (sessions_own view start history number drawn links talks.1)
      | inr some ↦ rw some (
        talks.0.connected (not_zero back.1.session some),
        sessions_own view start history number drawn links talks.1,
      )
    ]

pub told_own : {L : Type 0} (view : L → LinkView) (start : State) (history : List Record) (number drawn : ℕ)
    (gate : GateView L) (returned : Option (List (L × Served))) → gate.returned ≡ returned →
    IfSome returned (λ links.
    AllByRecursion (λ back. Talks start history (of_pass number history) drawn (view back.0) back.1) links) →
    AreOf history number (told_sessions gate)
told_own view start history number drawn gate None is talks = rw is tt
told_own view start history number drawn gate (Some links) is talks =
    rw is (sessions_own view start history number drawn links talks)

pub told_apart : {L : Type 0} (gate : GateView L) (returned : Option (List (L × Served))) → gate.returned ≡ returned →
    IfSome returned (λ links. IsDistinct nat_eq (sessions_of links)) → IsDistinct nat_eq (told_sessions gate)
unfolding IsDistinct
told_apart gate None is distinct = rw is tt
told_apart gate (Some links) is distinct = rw is distinct

-- ---- of several passes

-- a session of another pass is none of these
apart_from : (history : List Record) (state : State) → IsLegal state history → (session i j : ℕ) →
    has_connect session (of_pass i history) ≡ true → (i ≡ j → ⊥) → (others : List ℕ) → AreOf history j others →
    AllByRecursion (λ other. nat_eq session other ≡ false) others
apart_from history state legal session i j one differs [] own = tt
apart_from history state legal session i j one differs (other ∷ others) own = (
  ne_eqb session other (λ same.
      differs (one_connect session i j state history legal one
      (subst (λ (n : ℕ). has_connect n (of_pass j history) ≡ true) (sym same) own.0))),
  apart_from history state legal session i j one differs others own.1,
)

pub distinct_append : (xs ys : List ℕ) → IsDistinct nat_eq xs → IsDistinct nat_eq ys →
    AllByRecursion (λ x. AllByRecursion (λ y. nat_eq x y ≡ false) ys) xs → IsDistinct nat_eq (xs ++ ys)
unfolding IsDistinct
distinct_append [] ys one other apart = other
distinct_append (x ∷ xs) ys one other apart =
    (all_append (λ later. nat_eq x later ≡ false) xs ys one.0 apart.0, distinct_append xs ys one.1 other apart.1)

-- the sessions of passes from this number on, each told by one gate
abbrev pub AreOfAll : {L : Type 0} → List Record → ℕ → List (GateView L) → Type 0
AreOfAll history number [] = Unit {0}
AreOfAll history number (gate ∷ gates) =
    (AreOf history number (told_sessions gate) × IsDistinct nat_eq (told_sessions gate))
    × AreOfAll history (number + 1) gates

apart_later : {L : Type 0} (history : List Record) (state : State) → IsLegal state history → (session i number : ℕ) →
    has_connect session (of_pass i history) ≡ true → i < number → (gates : List (GateView L)) →
    AreOfAll history number gates →
    AllByRecursion (λ other. nat_eq session other ≡ false) (flat_map told_sessions gates)
apart_later history state legal session i number one low [] all = tt
apart_later history state legal session i number one low (gate ∷ gates) all =
    all_append (λ other. nat_eq session other ≡ false) (told_sessions gate) (flat_map told_sessions gates)
    (apart_from history state legal session i number one (λ same. omega arith) (told_sessions gate) all.0.0)
    (apart_later history state legal session i (number + 1) one (omega arith) gates all.1)

each_apart : {L : Type 0} (history : List Record) (state : State) → IsLegal state history → (number : ℕ)
    (sessions : List ℕ) → AreOf history number sessions → (gates : List (GateView L)) →
    AreOfAll history (number + 1) gates →
    AllByRecursion (λ x. AllByRecursion (λ y. nat_eq x y ≡ false) (flat_map told_sessions gates)) sessions
each_apart history state legal number [] own gates all = tt
each_apart history state legal number (session ∷ sessions) own gates all = (
  apart_later history state legal session number (number + 1) own.0 (omega arith) gates all,
  each_apart history state legal number sessions own.1 gates all,
)

pub all_apart : {L : Type 0} (history : List Record) (state : State) → IsLegal state history → (number : ℕ)
    (gates : List (GateView L)) → AreOfAll history number gates →
    IsDistinct nat_eq (flat_map told_sessions gates)
unfolding IsDistinct
all_apart history state legal number [] all = tt
all_apart history state legal number (gate ∷ gates) all =
    distinct_append (told_sessions gate) (flat_map told_sessions gates) all.0.1
    (all_apart history state legal (number + 1) gates all.1)
    (each_apart history state legal number (told_sessions gate) all.0.0 gates all.1)
