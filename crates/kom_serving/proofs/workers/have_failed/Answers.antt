use Rattle.std.proofs.Common.{refl, sym, ap, ◌∙◌, arith}
use Rattle.std.proofs.lemmas.Bool.{false≢true}
use Rattle.kom_serving.proofs.Overs.{none_more, none_at_all, failed_at}
use Rattle.kom_serving.proofs.workers.have_failed.Goals as goal

pub returns-then-faults-ne0 : goal.returns-then-faults-ne0
returns-then-faults-ne0 g c = (
  λ _. failed_at g.G.Gate.view c.args.gates.now c.loop-gate.gate-index c.gate-item.result c.loop-gate-test.true
      (λ none. c.if-faults-ne0.true
      (c.faults.ensures ∙ ap (λ (gate : g.row.G.Denot). (g.G.Gate.view gate).faults) c.gate-item.is ∙ none)),
  λ _. refl,
)

pub loop-gate-preserved : goal.loop-gate-preserved
loop-gate-preserved g c =
    none_more g.G.Gate.view c.args.gates.now c.loop-gate.gate-index c.gate-item.result c.loop-gate-test.true
    c.loop-gate.invariant
    (sym (c.faults.ensures ∙ ap (λ (gate : g.row.G.Denot). (g.G.Gate.view gate).faults) c.gate-item.is)
    ∙ c.if-faults-ne0.false)

pub returns : goal.returns
returns g c = (
  λ wrong. absurd (false≢true wrong),
  λ failed. absurd (none_at_all g.G.Gate.view c.args.gates.now c.loop-gate.gate-index
      (omega (arith, c.loop-gate-test.false)) c.loop-gate.invariant failed),
)
