-- What opening clocks asks a world for.
use Rattle.std.proofs.Common.{◌≡◌, ℕ, suc, ◌+◌, refl, subst, arith}
use Rattle.kom_links.specs.declared.world_counts.WorldCounts.{WorldCounts}
use Rattle.kom_links.specs.WorldCounts.{with_clock}
use Rattle.kom_serving.specs.Runs.{with_clocks}

-- one clock more
pub clocks_more : (number : ℕ) (counts : WorldCounts) →
    with_clocks (number + 1) counts ≡ with_clock (with_clocks number counts)
clocks_more number counts =
    let more : suc number ≡ number + 1 = omega arith in
    subst (λ (n : ℕ). with_clocks n counts ≡ with_clock (with_clocks number counts)) more refl
