use Rattle.std.proofs.Common.{◌≡◌, ℕ, zero, suc, Bool, true, false, cond, List, [], ◌∷◌, length, Some, None, IfSome}
use Rattle.std.proofs.Common.{refl, arith, length-append}
use Rattle.memory_links.specs.Script.{readings, moment_at}
use Rattle.memory_links.proofs.memory_clock.MemoryClock.made.Goals as goal

-- there are as many readings as were made
length-readings : (script : List ℕ) (count : ℕ) → count ≡ length (readings script count)
length-readings script zero = refl
length-readings script (suc count) =
    omega (arith, length-readings script count, length-append (readings script count) (moment_at script count ∷ []))

-- where they are told
told : (silent : Bool) (script : List ℕ) (count : ℕ) →
    IfSome (cond silent None (Some (readings script count))) (λ moments. count ≡ length moments)
told true script count = tt
told false script count = length-readings script count

pub returns : goal.returns
returns c = told _ c.args.self.now.script.items c.args.self.now.made
