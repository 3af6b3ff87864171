-- What is stable stays so.
use Rattle.std.proofs.Common.{◌≡◌, ℕ, ◌≤◌, Bool, true, false, List, [], ◌∷◌, ap, arith}
use Rattle.kom_types.specs.declared.acts.Act.{Act}
use Rattle.kom_types.specs.declared.acts.Act.TheVariants as act
use Rattle.kom_types.specs.declared.acts.Record.{Record}
use Rattle.kom_types.specs.Sessions.{waiting_limits}
use Rattle.kom_model.specs.State.{State, IsSound}
use Rattle.kom_model.specs.After.{moment_of, decision_at, deliveries, after_act, after}
use Rattle.kom_model.specs.Effects.{apply_all}
use Rattle.kom_model.specs.Legal.{IsLegal, state_after}
use Rattle.kom_model.proofs.Queueing.{queue_all-rows}
use Rattle.kom_model.proofs.Changing.{make_changes-rows}
use Rattle.kom_model.proofs.Soundness.{IsSound-after}

stable_step : (state : State) (pass moment : ℕ) (what : Act) (session : ℕ) (short : Bool) → IsSound state →
    state.stable ≤ (after_act state (record {
      entry = record { pass = pass; moment = moment; act = what };
      session = session;
      short = short;
    })).stable
stable_step state pass moment (act.Connect user host) session short sound = omega arith
stable_step state pass moment (act.Call number reference call) session true sound = omega arith
stable_step state pass moment (act.Call number reference call) session false sound =
    let decision = decision_at state moment number reference call in
    let start : State = record state { db = apply_all decision.effects state.db } in
    let rows = make_changes-rows (moment_of state moment) decision.changes start in
    omega (arith, ap (λ s. s.stable) rows)
stable_step state pass moment (act.Broken number) session short sound = omega arith
stable_step state pass moment (act.Drain number) session short sound = omega arith
stable_step state pass moment act.Flush session true sound = omega arith
stable_step state pass moment act.Flush session false sound = sound.stable
stable_step state pass moment (act.Close number) session short sound = omega arith

-- the stable number never falls
stable-after : (state : State) (made : Record) → IsSound state → state.stable ≤ (after state made).stable
stable-after state made sound =
    let rows = queue_all-rows waiting_limits (deliveries state made) (after_act state made) in
    let same : (after state made).stable ≡ (after_act state made).stable = ap (λ s. s.stable) rows in
    let step =
    stable_step state made.entry.pass made.entry.moment made.entry.act made.session made.short sound in
    omega (arith, same, step)

pub stable-state_after : (state : State) (history : List Record) → IsLegal state history → IsSound state →
    state.stable ≤ (state_after state history).stable
stable-state_after state [] legal sound = omega arith
stable-state_after state (made ∷ history) legal sound =
    let next : State = after state made in
    omega (
      arith,
      stable-after state made sound,
      stable-state_after next history legal.1 (IsSound-after state made legal.0.user sound),
    )

flushed_step : (state : State) (pass moment : ℕ) (what : Act) (session : ℕ) (short : Bool) → what ≡ act.Flush →
    short ≡ false → state.entries ≤ (after state (record {
      entry = record { pass = pass; moment = moment; act = what };
      session = session;
      short = short;
    })).stable
flushed_step state pass moment (act.Connect user host) session short flushes whole = cc
flushed_step state pass moment (act.Call number reference call) session short flushes whole = cc
flushed_step state pass moment (act.Broken number) session short flushes whole = cc
flushed_step state pass moment (act.Drain number) session short flushes whole = cc
flushed_step state pass moment act.Flush session true flushes whole = cc
flushed_step state pass moment act.Flush session false flushes whole = omega arith
flushed_step state pass moment (act.Close number) session short flushes whole = cc

-- a flush that the store took makes all entries before it stable
pub flushed-stable : (state : State) (flush : Record) → flush.entry.act ≡ act.Flush → flush.short ≡ false →
    state.entries ≤ (after state flush).stable
flushed-stable state flush flushes whole =
    flushed_step state flush.entry.pass flush.entry.moment flush.entry.act flush.session flush.short flushes whole
