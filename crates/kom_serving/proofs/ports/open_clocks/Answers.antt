use Rattle.std.proofs.Common.{◌≡◌, ℕ, ◌+◌, ◌≤◌, Result, Ok, Err, sym, ap, ◌∙◌, arith}
use Rattle.std.specs.Prelude.{OnErr}
use Rattle.kom_links.specs.declared.world_counts.WorldCounts.{WorldCounts}
use Rattle.kom_links.specs.WorldCounts.{with_clock}
use Rattle.kom_serving.specs.Runs.{with_clocks}
use Rattle.kom_serving.proofs.Clocks.{clocks_more}
use Rattle.kom_serving.proofs.ports.open_clocks.Goals as goal

on_error : {T E : Type 0} (result : Result T E) (P : Type 0) → P → OnErr result P
on_error (Ok value) P p = tt
on_error (Err fault) P p = p

pub returns-in_err-clock-clause-some : goal.returns-in_err-clock-clause-some
returns-in_err-clock-clause-some g c =
    let asked : (asked : ℕ) × (asked ≤ c.args.number)
    × ((g.W.World.view c.clock.new.self).counts ≡ with_clocks asked (g.W.World.view c.args.world.now).counts) = (
      c.loop.counter + 1,
      omega (arith, c.loop-test.true),
      c.clock.ensures.counts ∙ ap (λ (counts : WorldCounts). with_clock counts) c.loop.invariant.asked
          ∙ sym (clocks_more c.loop.counter (g.W.World.view c.args.world.now).counts),
    ) in on_error _ _ asked
