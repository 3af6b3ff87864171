use Rattle.std.proofs.Common.{ℕ, List, Err, sym, ap, subst, ◌∙◌}
use Rattle.std.proofs.lemmas.Result.{err_from_is_err_and}
use Rattle.kom_types.specs.declared.effects.ConfField.{ConfField}
use Rattle.kom_types.specs.declared.effects.Effect.{Effect}
use Rattle.kom_types.specs.declared.effects.Effect.TheVariants as effect
use Rattle.effect_codec.specs.Fields.{OneOf, Read, Whole, Setting, and_then, value_at}
use Rattle.effect_codec.specs.Giving.{Gives}
use Rattle.effect_codec.specs.Table.{conf_parts, conf_field, set_part}
use Rattle.effect_codec.proofs.Found.{stopped}
use Rattle.effect_codec.proofs.rows.conf_set.Goals as goal

abbrev setting_of : ℕ × ℕ → Setting
setting_of pair = set_part pair.0 pair.1

abbrev made : ℕ → Setting → List ℕ → Read Effect
made number set rest = Whole (effect.ConfField number (conf_field set)) rest

abbrev after_number : ℕ → List ℕ → Read Effect
after_number number rest = and_then (value_at (OneOf conf_parts) rest) (made number)

pub returns-in_err-part : goal.returns-in_err-part
returns-in_err-part c =
    let p = err_from_is_err_and c.from_residual-in_err-part.result c.from_residual-in_err-part.ensures.1 in
    rw (p.1, p.2)
    (subst (λ (r : Read ℕ). Gives {X = Effect} (λ x. x) (and_then r after_number) (Err c.in_err-part.field-0.0)
    c.setting.new.self)
    (sym c.in_ok-number.ensures)
    (stopped setting_of (value_at (OneOf conf_parts) c.number.new.self) (made c.in_ok-number.number)
    c.in_err-part.field-0.0 c.setting.new.self c.in_err-part.ensures.gives))

pub returns : goal.returns
returns c =
    ap (λ (r : Read ℕ). and_then r after_number) c.in_ok-number.ensures
    ∙ ap (λ (r : Read Setting). and_then r (made c.in_ok-number.number)) c.in_ok-part.ensures.gives
    ∙ ap (λ (f : ConfField). Whole (effect.ConfField c.in_ok-number.number f) c.setting.new.self)
    (sym c.conf_field.ensures)
