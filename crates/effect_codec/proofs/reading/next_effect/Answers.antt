use Rattle.std.proofs.Common.{ℕ, List, sym, subst}
use Rattle.std.proofs.lemmas.Result.{err_from_is_err_and}
use Rattle.kom_types.specs.declared.effects.Effect.{Effect}
use Rattle.effect_codec.specs.Coding.{kind_at}
use Rattle.effect_codec.specs.Fields.{Read, and_then, byte_at, value_at}
use Rattle.effect_codec.specs.Giving.{Gives}
use Rattle.effect_codec.specs.Table.{row_of}
use Rattle.effect_codec.proofs.Found.{stopped}
use Rattle.effect_codec.proofs.reading.next_effect.Goals as goal

abbrev after_kind : ℕ → List ℕ → Read Effect
after_kind kind rest = kind_at (row_of kind) rest

pub returns-in_err-kind : goal.returns-in_err-kind
unfolding value_at
returns-in_err-kind c =
    let p = err_from_is_err_and c.from_residual.result c.from_residual.ensures.1 in
    rw (p.1, p.2) (stopped (λ (n : ℕ). n) (byte_at c.args.from.now) after_kind _ _ c.in_err-kind.ensures)

pub returns : goal.returns
unfolding value_at
returns c =
    subst (λ (r : Read ℕ). Gives (λ x. x) (and_then r after_kind) c.effect_of.result c.effect_of.new.from)
    (sym c.in_ok-kind.ensures) c.effect_of.ensures
