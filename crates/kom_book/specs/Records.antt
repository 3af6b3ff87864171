-- What a record does to what a store keeps of a server.
use Rattle.std.proofs.Common.{◌≡◌, ◌≤◌, ◌⊎◌, inl, inr, ℕ, ◌+◌, Bool, true, false, cond, []}
use Rattle.std.proofs.Common.{refl, ap, ◌∙◌}
use Rattle.std.specs.Prelude.{Some, None}
use Rattle.kom_types.specs.declared.acts.Act.{Act}
use Rattle.kom_types.specs.declared.acts.Act.TheVariants as act
use Rattle.kom_types.specs.declared.acts.Record.{Record}
use Rattle.kom_types.specs.declared.answers.NotMade.TheVariants.{Gone}
use Rattle.kom_types.specs.declared.answers.Why.TheVariants.{Stopped}
use Rattle.kom_types.specs.Sessions.{waiting_limits}
use Rattle.kom_model.specs.Effects.{apply_all}
use Rattle.kom_model.specs.State.{State}
use Rattle.kom_model.specs.After.{moment_of, deliveries, decision_at, after_act, after}
use Rattle.kom_model.specs.Kept.{kept_of}
use Rattle.kom_model.specs.Refusal.{refusal_of}
use Rattle.kom_model.proofs.Queueing.{queue_all-rows}
use Rattle.kom_model.proofs.Changing.{make_changes-rows}
use Rattle.kom_book.specs.Stores.{IsFlush, IsNotRefused, is_taken}

-- a record of these
abbrev pub record_with : ℕ → ℕ → Act → ℕ → Bool → Record
record_with pass moment what session short = record {
  entry = record { pass = pass; moment = moment; act = what };
  session = session;
  short = short;
}

-- whether a record is that of a flush that the store refused
abbrev pub is_refused : Record → Bool
is_refused made = elim made.entry.act [
  | act.Connect user host ↦ false
  | act.Call session reference call ↦ false
  | act.Broken session ↦ false
  | act.Drain session ↦ false
  | act.Flush ↦ made.short
  | act.Close session ↦ false
]

-- what an act changes, beside what it sends, of the mark and of the stable number
marked_acted : (state : State) (pass moment : ℕ) (what : Act) (session : ℕ) (short : Bool) →
    let made : Record = record_with pass moment what session short in
    (after_act state made).store_refused ≡ cond (is_refused made) true state.store_refused
marked_acted state pass moment (act.Connect user host) session short = refl
marked_acted state pass moment (act.Call number reference call) session true = refl
marked_acted state pass moment (act.Call number reference call) session false =
    let decision = decision_at state moment number reference call in
    ap (λ (s : State). s.store_refused) (make_changes-rows (moment_of state moment) decision.changes
    (record state { db = apply_all decision.effects state.db }))
marked_acted state pass moment (act.Broken number) session short = refl
marked_acted state pass moment (act.Drain number) session short = refl
marked_acted state pass moment act.Flush session true = refl
marked_acted state pass moment act.Flush session false = refl
marked_acted state pass moment (act.Close number) session short = refl

stable_acted : (state : State) (pass moment : ℕ) (what : Act) (session : ℕ) (short : Bool) →
    let made : Record = record_with pass moment what session short in
    (after_act state made).stable ≡ cond (is_taken made) state.entries state.stable
stable_acted state pass moment (act.Connect user host) session short = refl
stable_acted state pass moment (act.Call number reference call) session true = refl
stable_acted state pass moment (act.Call number reference call) session false =
    let decision = decision_at state moment number reference call in
    ap (λ (s : State). s.stable) (make_changes-rows (moment_of state moment) decision.changes
    (record state { db = apply_all decision.effects state.db }))
stable_acted state pass moment (act.Broken number) session short = refl
stable_acted state pass moment (act.Drain number) session short = refl
stable_acted state pass moment act.Flush session true = refl
stable_acted state pass moment act.Flush session false = refl
stable_acted state pass moment (act.Close number) session short = refl

-- the mark after a record
pub marked_after : (state : State) (made : Record) →
    (after state made).store_refused ≡ cond (is_refused made) true state.store_refused
marked_after state made =
    ap (λ (s : State). s.store_refused)
    (queue_all-rows waiting_limits (deliveries state made) (after_act state made))
    ∙ marked_acted state made.entry.pass made.entry.moment made.entry.act made.session made.short

-- the stable number after it
pub stable_after : (state : State) (made : Record) →
    (after state made).stable ≡ cond (is_taken made) state.entries state.stable
stable_after state made =
    ap (λ (s : State). s.stable)
    (queue_all-rows waiting_limits (deliveries state made) (after_act state made))
    ∙ stable_acted state made.entry.pass made.entry.moment made.entry.act made.session made.short

-- ---- what a record is

taken_acts : (pass moment : ℕ) (what : Act) (session : ℕ) (short : Bool) →
    let made : Record = record_with pass moment what session short in
    is_taken made ≡ true → IsFlush made × (made.short ≡ false)
taken_acts pass moment (act.Connect user host) session short is = cc
taken_acts pass moment (act.Call number reference call) session short is = cc
taken_acts pass moment (act.Broken number) session short is = cc
taken_acts pass moment (act.Drain number) session short is = cc
taken_acts pass moment act.Flush session true is = cc
taken_acts pass moment act.Flush session false is = (refl, refl)
taken_acts pass moment (act.Close number) session short is = cc

-- one that the store took
pub taken_is : (made : Record) → is_taken made ≡ true → IsFlush made × (made.short ≡ false)
taken_is made is =
    taken_acts made.entry.pass made.entry.moment made.entry.act made.session made.short is

flush_taken : (pass moment : ℕ) (what : Act) (session : ℕ) (short : Bool) →
    let made : Record = record_with pass moment what session short in
    IsFlush made → made.short ≡ false → is_taken made ≡ true
flush_taken pass moment (act.Connect user host) session short is long = cc
flush_taken pass moment (act.Call number reference call) session short is long = cc
flush_taken pass moment (act.Broken number) session short is long = cc
flush_taken pass moment (act.Drain number) session short is long = cc
flush_taken pass moment act.Flush session true is long = cc
flush_taken pass moment act.Flush session false is long = refl
flush_taken pass moment (act.Close number) session short is long = cc

pub is_of_taken : (made : Record) → IsFlush made → made.short ≡ false → is_taken made ≡ true
is_of_taken made is long =
    flush_taken made.entry.pass made.entry.moment made.entry.act made.session made.short is long

-- one that it did not take: no flush, or a short one
pub not_taken : (made : Record) → (IsFlush made → ⊥) → is_taken made ≡ false
not_taken made other = elim (is_taken made) as (λ b. is_taken made ≡ b → b ≡ false) [
  | true ↦ λ is. absurd (other (taken_is made is).0)
  | false ↦ λ is. refl
] refl

pub short_taken : (made : Record) → made.short ≡ true → is_taken made ≡ false
short_taken made short = elim (is_taken made) as (λ b. is_taken made ≡ b → b ≡ false) [
  | true ↦ λ is. let long : made.short ≡ false = (taken_is made is).1 in cc
  | false ↦ λ is. refl
] refl

refused_acts : (pass moment : ℕ) (what : Act) (session : ℕ) (short : Bool) →
    let made : Record = record_with pass moment what session short in
    ((is_refused made ≡ true) × IsFlush made × (made.short ≡ true))
    ⊎ ((is_refused made ≡ false) × IsNotRefused made)
refused_acts pass moment (act.Connect user host) session short = inr (refl, λ is. cc)
refused_acts pass moment (act.Call number reference call) session short = inr (refl, λ is. cc)
refused_acts pass moment (act.Broken number) session short = inr (refl, λ is. cc)
refused_acts pass moment (act.Drain number) session short = inr (refl, λ is. cc)
refused_acts pass moment act.Flush session true = inl (refl, refl, refl)
refused_acts pass moment act.Flush session false = inr (refl, λ is. refl)
refused_acts pass moment (act.Close number) session short = inr (refl, λ is. cc)

-- a flush that the store refused; or not
pub refused_or_not : (made : Record) →
    ((is_refused made ≡ true) × IsFlush made × (made.short ≡ true))
    ⊎ ((is_refused made ≡ false) × IsNotRefused made)
refused_or_not made =
    refused_acts made.entry.pass made.entry.moment made.entry.act made.session made.short

-- the mark after a record that no store refused
pub marked_same : (state : State) (made : Record) → IsNotRefused made →
    (after state made).store_refused ≡ state.store_refused
marked_same state made not = elim (refused_or_not made) [
  | inl is ↦ absurd (let long : made.short ≡ false = not is.1 in let short = is.2 in cc)
  | inr is ↦ marked_after state made ∙ ap (λ (b : Bool). cond b true state.store_refused) is.0
]

-- and after one that it refused
pub marked_refused : (state : State) (made : Record) → is_refused made ≡ true →
    (after state made).store_refused ≡ true
marked_refused state made is =
    marked_after state made ∙ ap (λ (b : Bool). cond b true state.store_refused) is

-- ---- flushes, and acts after one was refused

flush_acts : (state : State) (pass moment : ℕ) (what : Act) (session : ℕ) (short : Bool) →
    let made : Record = record_with pass moment what session short in
    IsFlush made → (kept_of state made ≡ []) × ((after state made).db ≡ state.db)
flush_acts state pass moment (act.Connect user host) session short is = cc
flush_acts state pass moment (act.Call number reference call) session short is = cc
flush_acts state pass moment (act.Broken number) session short is = cc
flush_acts state pass moment (act.Drain number) session short is = cc
flush_acts state pass moment act.Flush session true is = (refl, refl)
flush_acts state pass moment act.Flush session false is = (refl, refl)
flush_acts state pass moment (act.Close number) session short is = cc

-- a flush changes no row
pub flush_keeps : (state : State) (made : Record) → IsFlush made →
    (kept_of state made ≡ []) × ((after state made).db ≡ state.db)
flush_keeps state made is =
    flush_acts state made.entry.pass made.entry.moment made.entry.act made.session made.short is

-- one is possible only where none was refused
pub flush_unmarked : (state : State) → refusal_of state act.Flush ≡ None →
    state.store_refused ≡ false
flush_unmarked state possible =
    elim state.store_refused as (λ b. state.store_refused ≡ b → b ≡ false) [
      | true ↦ λ is. absurd (let wrong : refusal_of state act.Flush ≡ Some (Gone Stopped) =
          rw is refl in cc)
      | false ↦ λ is. refl
    ] refl

-- Once one was refused only a Close is possible, which changes no row.
pub record OnlyCloses (state : State) (made : Record) : Type 0 where
  pub unflushed : IsFlush made → ⊥
  pub none : kept_of state made ≡ []
  pub rows : (after state made).db ≡ state.db

closing_acts : (state : State) (pass moment : ℕ) (what : Act) (session : ℕ) (short : Bool) →
    state.store_refused ≡ true → refusal_of state what ≡ None →
    OnlyCloses state (record_with pass moment what session short)
closing_acts state pass moment (act.Close number) session true marked possible =
    record { unflushed = λ is. cc; none = refl; rows = refl }
closing_acts state pass moment (act.Close number) session false marked possible =
    record { unflushed = λ is. cc; none = refl; rows = refl }
closing_acts state pass moment other session short marked possible =
    absurd (let wrong : refusal_of state other ≡ Some (Gone Stopped) = rw marked refl in cc)

pub only_closes : (state : State) (made : Record) → state.store_refused ≡ true →
    refusal_of state made.entry.act ≡ None → OnlyCloses state made
only_closes state made marked possible =
    closing_acts state made.entry.pass made.entry.moment made.entry.act made.session made.short
    marked possible
