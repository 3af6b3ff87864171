use Rattle.std.proofs.Common.{◌≡◌, ◌≤◌, ◌-◌, length, take}
use Rattle.kom_framing.specs.Hearing.{Going, onward}
use Rattle.kom_framing.specs.BegunGreetings.{opening_kept, IsGreeting, Lengthens}
use Rattle.kom_framing.proofs.greeting.hear_window.Given as goal

-- what is kept is that of the greeting with the bytes of the window so far
abbrev pub invariant-loop-at : goal.invariant-loop-at
invariant-loop-at l = record {
  within : l.at ≤ length l.window;
  heard : onward (Going (opening_kept l.fn.phase l.fn.name.items)) (take l.at l.window)
      ≡ Going (opening_kept l.phase l.name.items);
  kept : IsGreeting l.phase l.name.items;
  lengthens : Lengthens l.fn.name.items l.name.items;
}

abbrev pub decreases-loop-at : goal.decreases-loop-at
decreases-loop-at l = length l.initial.window - l.at
