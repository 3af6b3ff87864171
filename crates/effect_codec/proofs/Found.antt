-- What the reader answers, from what it read before.
use Rattle.std.proofs.Common.{◌≡◌, ℕ, ◌+◌, ◌-◌, ◌≤◌, List, ◌++◌, length, drop, Err, refl, sym, ap, ◌∙◌}
use Rattle.std.proofs.Common.{arith, length-append}
use Rattle.std.proofs.lemmas.List.{drop_at}
use Rattle.kom_types.specs.declared.effects.Effect.{Effect}
use Rattle.effect_codec.specs.declared.stop.Stop.{Stop}
use Rattle.effect_codec.specs.declared.stop.Stop.TheVariants as stop
use Rattle.effect_codec.specs.Fields.{Read, Whole, and_then}
use Rattle.effect_codec.specs.Coding.{coded_effect, effect_at, IsInRange}
use Rattle.effect_codec.specs.Giving.{Gives}
use Rattle.effect_codec.specs.Laws.{AreBytes}
use Rattle.effect_codec.proofs.Spellings.{is_spelled}

-- what stops a rule stops what would be made of its value
pub stopped : {X Y Z : Type 0} (view : Z → X) (first : Read X) (next : X → List ℕ → Read Y) (why : Stop) (rest : List ℕ)
    → Gives view first (Err why) rest → Gives {X = Y} (λ x. x) (and_then first next) (Err why) rest
stopped {X} view first next stop.Short rest is = ap (λ (r : Read X). and_then r next) is
stopped {X} view first next stop.Wrong rest is = ap (λ (r : Read X). and_then r next) is
stopped view first next stop.Memory rest is = tt

-- how many bytes are left after an effect
pub length-left : (effect : Effect) (bytes rest : List ℕ) → AreBytes bytes → effect_at bytes ≡ Whole effect rest
    → length bytes ≡ length (coded_effect effect) + length rest
length-left effect bytes rest are is =
    ap length (is_spelled effect bytes rest are is).0 ∙ length-append (coded_effect effect) rest

drop-left : (effect : Effect) (bytes rest : List ℕ) (left : ℕ) → AreBytes bytes → effect_at bytes ≡ Whole effect rest
    → left ≡ length rest → drop (length bytes - left) bytes ≡ rest
drop-left effect bytes rest left are is left_is =
    let size : ℕ = length (coded_effect effect) in
    let many : length bytes - left ≡ size = omega (arith, length-left effect bytes rest are is, left_is) in
    ap (λ (n : ℕ). drop n bytes) many ∙ ap (λ (l : List ℕ). drop size l) (is_spelled effect bytes rest are is).0
    ∙ drop_at (coded_effect effect) rest size refl

pub effect_found : (effect : Effect) (bytes rest : List ℕ) (left : ℕ) → AreBytes bytes
    → effect_at bytes ≡ Whole effect rest → left ≡ length rest
    → (effect_at bytes ≡ Whole effect (drop (length bytes - left) bytes)) × (length bytes - left ≤ length bytes)
effect_found effect bytes rest left are is left_is = (
  is ∙ ap (λ (l : List ℕ). Whole effect l) (sym (drop-left effect bytes rest left are is left_is)),
  omega arith,
)

pub effect_spelled : (effect : Effect) (bytes rest : List ℕ) (left : ℕ) → AreBytes bytes
    → effect_at bytes ≡ Whole effect rest → left ≡ length rest
    → (bytes ≡ coded_effect effect ++ drop (length bytes - left) bytes) × IsInRange effect
effect_spelled effect bytes rest left are is left_is =
    let spelled = is_spelled effect bytes rest are is in (
      spelled.0 ∙ ap (λ (l : List ℕ). coded_effect effect ++ l) (sym (drop-left effect bytes rest left are is left_is)),
      spelled.1,
    )
