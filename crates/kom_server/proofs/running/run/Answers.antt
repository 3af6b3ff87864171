use Rattle.std.proofs.Common.{◌≡◌, ◌≢◌, ◌↔◌, ℕ, false, not, eqb, inl, inr, refl, sym, ap, subst}
use Rattle.std.proofs.Common.{◌∙◌, arith}
use Rattle.std.specs.Prelude.{is_some}
use Rattle.std.proofs.lemmas.Bool.{false≢true, true≢false}
use Rattle.kom_commands.specs.declared.words.Command.{Command}
use Rattle.kom_commands.specs.declared.words.Command.TheVariants as command
use Rattle.kom_commands.specs.Words.{serves, names_store}
use Rattle.kom_commands.proofs.Spelling.{same_command, once_is, check_is, init_is, load_is, sweep_is}
use Rattle.kom_links.specs.declared.world_counts.WorldCounts.{WorldCounts}
use Rattle.kom_links.specs.Doors.{SinkView}
use Rattle.kom_links.specs.Outside.{Rose}
use Rattle.store_check.specs.Stores.{IsWrong}
use Rattle.kom_server.specs.Comes.{Comes, EndsSweep, IsHidingRun, WasOpened}
use Rattle.kom_server.specs.Sweeps.{IsMetBy, IsEndAt}
use Rattle.kom_server.specs.Statuses.{Asks, Sweeps, IsWell, IsWellAt, serve_over, opens_store}
use Rattle.kom_server.proofs.Carried.{some_status, no_refusal, store_status, unfit_status, gate_status, sink_status}
use Rattle.kom_server.proofs.Carried.{memory_status, all_well, is_well, some_wrong, fails_served, unserved_end}
use Rattle.kom_server.proofs.Carried.{zero_failed, has_failed, sink_apart, sweep_status, not_gate, not_well, was_sweep}
use Rattle.kom_server.proofs.Carried.{swept_end, which_status, failed_gate}
use Rattle.kom_server.proofs.Comings.{hiding_when, new_when, ends_when, finds_when, over_when, makes_when, comes_over}
use Rattle.kom_server.proofs.SweepEnds.{end_at}
use Rattle.kom_server.proofs.Spelling.{second, third, fourth, word_at, says_so}
use Rattle.kom_server.proofs.StoreRuns.{some_then, not_true}
use Rattle.kom_server.proofs.running.run.Goals as goal

-- ---- the words are no command

pub returns-in_default-clause-refused : goal.returns-in_default-clause-refused
returns-in_default-clause-refused g c = (λ two. c.in_default.ensures, λ refused. refl)

pub returns-in_default-clause-usage : goal.returns-in_default-clause-usage
returns-in_default-clause-usage g c refused = (c.put_text.ensures, refl, refl)

pub returns-in_default-clause-asks : goal.returns-in_default-clause-asks
returns-in_default-clause-asks g c =
    (λ refused. c.out-sink.ensures.counts, λ command spelled. absurd (c.in_default.ensures command spelled))

pub returns-in_default-clause-statuses : goal.returns-in_default-clause-statuses
returns-in_default-clause-statuses g c = record {
  known = inl refl;
  named = λ four. absurd (omega (arith, four));
  swept = λ ended. elim ended [ inl eight ↦ absurd (omega (arith, eight)) | inr ten ↦ absurd (omega (arith, ten)) ];
  unserved = λ six. inl refl;
  serves = λ serving zero. absurd (c.in_default.ensures serving.0 serving.1);
  sweeps = λ sweeps. absurd (c.in_default.ensures (command.Sweep sweeps.0) sweeps.1);
}

pub returns-in_default-clause-store : goal.returns-in_default-clause-store
returns-in_default-clause-store g c = (
  λ three. absurd (omega (arith, three)),
  λ fails. elim fails [
    | inl named ↦ absurd (c.in_default.ensures named.0.0 named.0.1)
    | inr refused ↦ absurd refused
  ],
)

pub returns-in_default-clause-gates : goal.returns-in_default-clause-gates
returns-in_default-clause-gates g c =
    (λ five. absurd (omega (arith, five)), λ all. absurd (c.in_default.ensures all.0.0 all.0.1))

pub returns-in_default-clause-sink : goal.returns-in_default-clause-sink
returns-in_default-clause-sink g c =
    (λ seven. absurd (omega (arith, seven)), λ all. absurd (all.0 c.in_default.ensures))

pub returns-in_default-clause-silent : goal.returns-in_default-clause-silent
returns-in_default-clause-silent g c (inl serving) = absurd (c.in_default.ensures serving.0 serving.1)
returns-in_default-clause-silent g c (inr both) = absurd (both.0 c.in_default.ensures)

pub returns-in_default-clause-over : goal.returns-in_default-clause-over
returns-in_default-clause-over g c store port spelled = absurd (c.in_default.ensures (serve_over port) spelled)

pub returns-in_default-clause-no_store : goal.returns-in_default-clause-no_store
returns-in_default-clause-no_store g c store opens = absurd (c.in_default.ensures opens.0 opens.1)

pub returns-in_default-clause-check : goal.returns-in_default-clause-check
returns-in_default-clause-check g c store is well = absurd (not_well well)

pub returns-in_default-clause-init : goal.returns-in_default-clause-init
returns-in_default-clause-init g c store password is = record {
  empty = λ well. absurd (not_well well);
  full = λ four. absurd (omega (arith, four));
  put = λ well. absurd (not_well well);
  rows = λ well. absurd (not_well well);
}

pub returns-in_default-clause-load : goal.returns-in_default-clause-load
returns-in_default-clause-load g c count says well = absurd (not_well well)

pub returns-in_default-clause-sweep : goal.returns-in_default-clause-sweep
returns-in_default-clause-sweep g c store person password by =
    absurd (c.in_default.ensures (command.Sweep person) (store, password, by))

-- ---- they are one

-- the sink has not failed where nothing was put to it
unfailed : (g : _) (c : goal.After-status-status g) →
    g.W.Sink.Sink.view c.carry_out-ran.new.sink ≡ g.W.Sink.Sink.view c.out-sink.result →
    not (eqb c.faults.result 0) ≡ false
unfailed g c same =
    zero_failed c.faults.result
    (c.faults.ensures ∙ ap (λ (sink : SinkView). sink.faults) same ∙ c.out-sink.ensures.fresh.no_fault)

quiet : (g : _) (c : goal.After-status-status g) → IsWrong c.carry_out-ran.result.cases →
    not (eqb c.faults.result 0) ≡ false
quiet g c wrong = unfailed g c (c.carry_out-ran.ensures.silent (inr wrong))

well : (g : _) (c : goal.After-status-status g) → IsWellAt c.status-status.result →
    IsWell c.carry_out-ran.result.cases
well g c = is_well c.carry_out-ran.result.cases _ _ c.status-status.ensures (quiet g c)

-- the faults of the world were counted from the first on
before : (g : _) (c : goal.After-status-status g) (now : ℕ) →
    (Rose c.faults-before.result now ↔ Rose (g.W.World.view c.args.world.now).faults now)
before g c now = rw c.faults-before.ensures (λ rose. rose, λ rose. rose)

-- what the command comes to that the words are
come : (g : _) (c : goal.After-status-status g) (said : Command) → c.in-Some.command ≡ said →
    Comes g.W.Disk.Disk g.W.Gate.Link.Link.view g.W.Clock.Clock.gave c.args.words.now
    (g.W.World.view c.out-sink.new.self) (g.W.World.view c.carry_out-ran.new.world) c.carry_out-ran.result.cases
    c.carry_out-ran.result.disk c.carry_out-ran.result.end (g.W.Sink.Sink.view c.carry_out-ran.new.sink) said
come g c said is =
    subst (λ (command : Command). Comes g.W.Disk.Disk g.W.Gate.Link.Link.view g.W.Clock.Clock.gave c.args.words.now
    (g.W.World.view c.out-sink.new.self) (g.W.World.view c.carry_out-ran.new.world) c.carry_out-ran.result.cases
    c.carry_out-ran.result.disk c.carry_out-ran.result.end (g.W.Sink.Sink.view c.carry_out-ran.new.sink) command)
    is c.carry_out-ran.ensures.comes

-- a store that was opened was so since the sink was given
begins : (g : _) (c : goal.After-status-status g) →
    WasOpened (g.W.World.view c.args.world.now) (g.W.World.view c.carry_out-ran.new.world) c.carry_out-ran.result.disk
    c.carry_out-ran.result.end →
    WasOpened (g.W.World.view c.out-sink.new.self) (g.W.World.view c.carry_out-ran.new.world)
    c.carry_out-ran.result.disk c.carry_out-ran.result.end
begins g c (inl begun) = inl begun
begins g c (inr (there, more)) =
    inr (there, λ same. more (same ∙ ap (λ (counts : WorldCounts). counts.clocks) c.out-sink.ensures.counts))

pub returns-clause-refused : goal.returns-clause-refused
returns-clause-refused g c = (
  λ two. absurd (no_refusal c.carry_out-ran.result.cases _ _ c.status-status.ensures two),
  λ refused. absurd (refused c.in-Some.command c.in-Some.ensures),
)

pub returns-clause-usage : goal.returns-clause-usage
returns-clause-usage g c refused = absurd (refused c.in-Some.command c.in-Some.ensures)

pub returns-clause-asks : goal.returns-clause-asks
returns-clause-asks g c = (
  λ refused. absurd (refused c.in-Some.command c.in-Some.ensures),
  λ command spelled.
      rw (same_command c.args.words.now command c.in-Some.command spelled c.in-Some.ensures)
      (subst (λ (counts : WorldCounts). Asks c.in-Some.command (is_some c.carry_out-ran.result.disk)
      (is_some c.carry_out-ran.result.end) counts (g.W.World.view c.carry_out-ran.new.world).counts)
      c.out-sink.ensures.counts c.carry_out-ran.ensures.asks),
)

-- the command of words that have a store swept
sweeps_by : (g : _) (c : goal.After-status-status g) (sweeps : Sweeps c.args.words.now) →
    c.in-Some.command ≡ command.Sweep sweeps.0
sweeps_by g c sweeps =
    same_command c.args.words.now c.in-Some.command (command.Sweep sweeps.0) c.in-Some.ensures sweeps.1

pub returns-clause-statuses : goal.returns-clause-statuses
returns-clause-statuses g c =
    let cases = c.carry_out-ran.ensures.cases in
    record {
      known = some_status c.carry_out-ran.result.cases _ _ c.status-status.ensures;
      named = λ four.
          (says_so c.args.words.now c.in-Some.command names_store c.in-Some.ensures).1
          (cases.named (unfit_status c.carry_out-ran.result.cases _ _ c.status-status.ensures four)).0;
      swept = λ ended.
          was_sweep c.args.words.now c.in-Some.command c.carry_out-ran.result.cases
          (is_some c.carry_out-ran.result.end) c.in-Some.ensures cases.swept
          (λ unswept. sweep_status c.carry_out-ran.result.cases _ _ c.status-status.ensures unswept ended);
      unserved = λ six.
          unserved_end c.args.words.now c.in-Some.command _ (is_some c.carry_out-ran.result.end) _ _
          c.in-Some.ensures c.carry_out-ran.ensures.asks
          (λ is. cases.unserved is
          (memory_status c.carry_out-ran.result.cases _ _ c.status-status.ensures six));
      serves = λ serving zero.
          all_well c.carry_out-ran.result.cases _ _ c.status-status.ensures _ (quiet g c)
          (cases.serves ((says_so c.args.words.now c.in-Some.command serves c.in-Some.ensures).0 serving)) (inl zero);
      sweeps = λ sweeps.
          let is = sweeps_by g c sweeps in
          swept_end c.status-status.result (is_some c.carry_out-ran.result.end)
          (which_status c.carry_out-ran.result.cases _ _ c.status-status.ensures)
          (all_well c.carry_out-ran.result.cases _ _ c.status-status.ensures _ (quiet g c)
          (cases.sweeps sweeps.0 is))
          (λ ended. elim cases.swept [
            | inl unswept ↦
                absurd (sweep_status c.carry_out-ran.result.cases _ _ c.status-status.ensures unswept ended)
            | inr both ↦ both.0
          ])
          (λ five. false≢true (sym
          (not_gate c.in-Some.command c.carry_out-ran.result.cases.gate_failed (ap serves is) cases.gate)
          ∙ failed_gate c.carry_out-ran.result.cases _ _ c.status-status.ensures five));
    }

pub returns-clause-store : goal.returns-clause-store
returns-clause-store g c =
    let names = says_so c.args.words.now c.in-Some.command names_store c.in-Some.ensures in
    let rose = before g c (g.W.World.view c.carry_out-ran.new.world).faults in
    store_status c.carry_out-ran.result.cases _ _ c.status-status.ensures _
    (fails_served g.W.Disk.Disk.faults _ _ _ c.carry_out-ran.result.disk c.carry_out-ran.result.end
    (λ both. (names.1 both.0, rose.0 both.1), λ both. (names.0 both.0, rose.1 both.1))
    c.carry_out-ran.ensures.cases.store)

pub returns-clause-gates : goal.returns-clause-gates
returns-clause-gates g c =
    let serving = says_so c.args.words.now c.in-Some.command serves c.in-Some.ensures in
    let rose = before g c (g.W.World.view c.carry_out-ran.new.world).faults in
    gate_status c.carry_out-ran.result.cases _ _ c.status-status.ensures _ _ (
      λ is.
          let both = c.carry_out-ran.ensures.cases.gate.0 is in
          (serving.1 both.0, elim both.1 [ inl up ↦ inl (rose.0 up) | inr failed ↦ inr failed ]),
      λ both. c.carry_out-ran.ensures.cases.gate.1
          (serving.0 both.0, elim both.1 [ inl up ↦ inl (rose.1 up) | inr failed ↦ inr failed ]),
    )

pub returns-clause-sink : goal.returns-clause-sink
returns-clause-sink g c =
    sink_status c.carry_out-ran.result.cases _ _ c.status-status.ensures _ _
    (sink_apart c.carry_out-ran.result.cases _ (quiet g c))
    (has_failed c.faults.result (g.W.Sink.Sink.view c.carry_out-ran.new.sink).faults c.faults.ensures)
    (λ refused. refused c.in-Some.command c.in-Some.ensures)

pub returns-clause-silent : goal.returns-clause-silent
returns-clause-silent g c (inl serving) =
    rw (c.carry_out-ran.ensures.silent
    (inl ((says_so c.args.words.now c.in-Some.command serves c.in-Some.ensures).0 serving)))
    c.out-sink.ensures.fresh.nothing_put
returns-clause-silent g c (inr both) =
    rw (c.carry_out-ran.ensures.silent
    (inr (some_wrong c.carry_out-ran.result.cases _ _ c.status-status.ensures (λ zero. both.1 (inl zero))
    (λ seven. both.1 (inr seven)))))
    c.out-sink.ensures.fresh.nothing_put

pub returns-clause-once : goal.returns-clause-once
returns-clause-once g c is =
    some_then _ _ c.carry_out-ran.result.end
    (come g c command.Once (once_is c.args.words.now c.in-Some.command c.in-Some.ensures is))
    (λ service serves. new_when g.W.Gate.Link.Link.view _ _ service (λ zero. well g c (inl zero)) serves)

pub returns-clause-over : goal.returns-clause-over
returns-clause-over g c store port spelled at begun =
    let comes = comes_over g.W.Disk.Disk g.W.Gate.Link.Link.view g.W.Clock.Clock.gave c.args.words.now
    (g.W.World.view c.out-sink.new.self) (g.W.World.view c.carry_out-ran.new.world)
    c.carry_out-ran.result.cases c.carry_out-ran.result.disk c.carry_out-ran.result.end
    (g.W.Sink.Sink.view c.carry_out-ran.new.sink) port
    (come g c _ (same_command c.args.words.now c.in-Some.command (serve_over port) c.in-Some.ensures spelled)) in
    over_when g.W.Disk.Disk _ _ _ store
    (λ start. IsHidingRun g.W.Gate.Link.Link.view port start (IsWell c.carry_out-ran.result.cases))
    (λ start. IsHidingRun g.W.Gate.Link.Link.view port start (c.status-status.result ≡ 0))
    c.carry_out-ran.result.disk c.carry_out-ran.result.end c.out-sink.ensures.told
    (word_at c.args.words.now 1 store at)
    (λ start service there run. hiding_when g.W.Gate.Link.Link.view port start _ _ service
    (λ zero. well g c (inl zero)) run)
    (comes (begins g c begun))

pub returns-clause-no_store : goal.returns-clause-no_store
returns-clause-no_store g c store opens at =
    finds_when g.W.Disk.Disk.tells _ _ _ store _ _ _ _ _ _ _ _ _ c.out-sink.ensures.told
    (word_at c.args.words.now 1 store at) c.out-sink.ensures.counts
    (unfit_status c.carry_out-ran.result.cases _ _ c.status-status.ensures) (well g c)
    (c.carry_out-ran.ensures.finds ((says_so c.args.words.now c.in-Some.command opens_store c.in-Some.ensures).0 opens))

pub returns-clause-check : goal.returns-clause-check
returns-clause-check g c store is ended =
    rw (sym c.out-sink.ensures.told.files, sym (second c.args.words.now _ store _ is))
    (come g c command.Check (check_is c.args.words.now c.in-Some.command store c.in-Some.ensures is) (well g c ended))

pub returns-clause-init : goal.returns-clause-init
returns-clause-init g c store password is =
    makes_when g.W.Disk.Disk g.W.Clock.Clock.gave _ _ _ store _ password _ _ _ _ c.carry_out-ran.result.disk
    (g.W.Sink.Sink.view c.carry_out-ran.new.sink) c.out-sink.ensures.told (second c.args.words.now _ store _ is)
    (third c.args.words.now _ _ password _ is) (well g c)
    (unfit_status c.carry_out-ran.result.cases _ _ c.status-status.ensures)
    (come g c command.Init (init_is c.args.words.now c.in-Some.command store password c.in-Some.ensures is))

pub returns-clause-load : goal.returns-clause-load
returns-clause-load g c count says ended =
    come g c (command.Load count) (load_is c.args.words.now c.in-Some.command count c.in-Some.ensures says)
    (well g c ended)

pub returns-clause-sweep : goal.returns-clause-sweep
returns-clause-sweep g c store person password by begun =
    let is : c.in-Some.command ≡ command.Sweep person =
    sweep_is c.args.words.now c.in-Some.command store person password c.in-Some.ensures by in
    let sink = g.W.Sink.Sink.view c.carry_out-ran.new.sink in
    let cases = c.carry_out-ran.result.cases in
    over_when g.W.Disk.Disk _ _ _ store
    (EndsSweep person _ (g.W.World.view c.out-sink.new.self).moment (λ ending. IsMetBy ending cases sink))
    (EndsSweep person password (g.W.World.view c.args.world.now).moment
    (λ ending. c.status-status.result ≢ 3 → IsEndAt ending c.status-status.result sink))
    c.carry_out-ran.result.disk c.carry_out-ran.result.end c.out-sink.ensures.told
    (second c.args.words.now _ store _ by.1)
    (λ start service there ends.
    let fit = not_true cases.is_unfit (λ unfit. true≢false
    (sym (ap (λ end. is_some end) there) ∙ (c.carry_out-ran.ensures.cases.named unfit).1)) in
    ends_when person _ password _ _ (λ ending. IsMetBy ending cases sink)
    (λ ending. c.status-status.result ≢ 3 → IsEndAt ending c.status-status.result sink) start service
    (fourth c.args.words.now _ _ _ password _ by.1) c.out-sink.ensures.told.moment
    (λ ending met. end_at ending cases _ _ _ c.status-status.ensures fit
    (not_gate c.in-Some.command cases.gate_failed (ap serves is) c.carry_out-ran.ensures.cases.gate) (quiet g c) met)
    ends)
    (come g c (command.Sweep person) is (begins g c begun))
