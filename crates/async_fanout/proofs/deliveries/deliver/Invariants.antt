use Rattle.std.proofs.Common.{◌≡◌}
use Rattle.std.specs.List.{filter}
use Rattle.async_fanout.proofs.Pushing.{pushed_to}
use Rattle.kom_model.specs.Sending.{accepts}
use Rattle.async_fanout.specs.Delivered.{brings}
use Rattle.async_fanout.proofs.deliveries.deliver.Given as goal

-- the sessions before the place have their messages
abbrev pub invariant-loop-place : goal.invariant-loop-place
invariant-loop-place g l =
    l.into.items
    ≡ pushed_to (brings l.asked.db (g.M.Tells.sending l.message)) l.fn.into.items
    (filter (accepts (g.M.Tells.sending l.message).number) l.asked.seats) l.place
