use Rattle.std.proofs.Common.{◌≡◌, ◌≤◌, take, drop, length}
use Rattle.name_lookup.specs.Letters.{letters_of, letters_left}
use Rattle.name_lookup.proofs.Skips.{skip, wrap}
use Rattle.name_lookup.proofs.steps.look_at.Given as goal

-- what is left of the two tells what they do, past the letters that are the target
abbrev pub invariant-loop-asked : goal.invariant-loop-asked
invariant-loop-asked l = record {
  within : l.start ≤ length l.target.items;
  told : skip l.fn.pattern (letters_of l.fn.name)
      ≡ wrap (take l.start l.target.items) (drop l.start l.target.items) (skip l.rest (letters_left l.letters));
}

abbrev pub decreases-loop-asked : goal.decreases-loop-asked
decreases-loop-asked l = length l.rest
