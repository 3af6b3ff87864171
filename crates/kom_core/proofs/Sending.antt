-- What an act changes and sends leaves the length of the history and its moment alone.
use Rattle.std.proofs.Common.{◌≡◌, ℕ, ◌+◌, Bool, true, false, refl, ap, ◌∙◌, arith}
use Rattle.kom_types.specs.declared.acts.Act.{Act}
use Rattle.kom_types.specs.declared.acts.Act.TheVariants as act
use Rattle.kom_types.specs.declared.acts.Record.{Record}
use Rattle.kom_types.specs.declared.decisions.Decision.{Decision}
use Rattle.kom_types.specs.Sessions.{waiting_limits}
use Rattle.kom_model.specs.State.{State}
use Rattle.kom_model.specs.After.{after_act, after_sending, after, deliveries, moment_of, decision_at}
use Rattle.kom_model.specs.Effects.{apply_all}
use Rattle.kom_model.proofs.Changing.{make_changes-rows}
use Rattle.kom_model.proofs.Queueing.{queue_all-rows}
use Rattle.kom_model.proofs.Soundness.{entries-acted}

moment_step : (state : State) (pass moment : ℕ) (what : Act) (session : ℕ) (short : Bool) →
    (after_act state (record {
      entry = record { pass = pass; moment = moment; act = what };
      session = session;
      short = short;
    })).moment ≡ state.moment
moment_step state pass moment (act.Connect user host) session short = refl
moment_step state pass moment (act.Call number reference call) session true = refl
moment_step state pass moment (act.Call number reference call) session false =
    let decision : Decision = decision_at state moment number reference call in
    ap (λ s. s.moment) (make_changes-rows (moment_of state moment) decision.changes
    (record state { db = apply_all decision.effects state.db }))
moment_step state pass moment (act.Broken number) session short = refl
moment_step state pass moment (act.Drain number) session short = refl
moment_step state pass moment act.Flush session true = refl
moment_step state pass moment act.Flush session false = refl
moment_step state pass moment (act.Close number) session short = refl

moment-acted : (state : State) (made : Record) → (after_act state made).moment ≡ state.moment
moment-acted state made = moment_step state made.entry.pass made.entry.moment made.entry.act made.session made.short

pub entries-sent : (state : State) (made : Record) → (after_sending state made).entries ≡ state.entries
entries-sent state made =
    ap (λ s. s.entries) (queue_all-rows waiting_limits (deliveries state made) (after_act state made))
    ∙ entries-acted state made

moment-sent : (state : State) (made : Record) → (after_sending state made).moment ≡ state.moment
moment-sent state made =
    ap (λ s. s.moment) (queue_all-rows waiting_limits (deliveries state made) (after_act state made))
    ∙ moment-acted state made

-- the entry is counted after what the act changes
pub after-counted : (state new : State) (made : Record) → new ≡ after_sending state made →
    record new { entries = new.entries + 1; moment = moment_of new made.entry.moment } ≡ after state made
after-counted state new made is =
    let entries : new.entries ≡ state.entries = ap (λ s. s.entries) is ∙ entries-sent state made in
    let moment : new.moment ≡ state.moment = ap (λ s. s.moment) is ∙ moment-sent state made in
    let next : new.entries + 1 ≡ state.entries + 1 = omega arith in
    rw (next, moment, is) refl
