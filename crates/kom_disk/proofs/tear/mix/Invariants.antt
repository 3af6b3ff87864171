use Rattle.std.proofs.Common.{◌≡◌, ℕ, List, take, drop}
use Rattle.kom_disk.specs.declared.tear.Tear.{Tear}
use Rattle.kom_disk.specs.declared.tear.Tear.TheVariants.{Nothing}
use Rattle.kom_disk.proofs.tear.mix.Given as goal

-- outside the range the bytes are as they were
pub record SameOutside (tear : Tear) (at end : ℕ) (was now : List ℕ) : Type 0 where
  pub prefix : take at now ≡ take at was
  pub suffix : drop end now ≡ drop end was
  pub nothing : tear ≡ Nothing → now ≡ was

abbrev pub invariant-loop-i : goal.invariant-loop-i
invariant-loop-i l = SameOutside l.tear l.at l.end l.initial.bytes l.bytes
