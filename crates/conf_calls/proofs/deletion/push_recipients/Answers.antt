use Rattle.std.proofs.Common.{◌≡◌, [], ◌++◌, map, sym, ap, ◌∙◌}
use Rattle.std.proofs.lemmas.List.{append-nil}
use Rattle.kom_types.specs.declared.effects.Effect.{Effect}
use Rattle.kom_types.specs.declared.effects.Effect.TheVariants as effect
use Rattle.kom_types.specs.declared.texts.LocalText.{LocalText}
use Rattle.kom_model.specs.Db.{locals_of}
use Rattle.local_maps.proofs.Parts.{from_on-zero}
use Rattle.conf_calls.proofs.deletion.push_recipients.Goals as goal

pub returns-in_default : goal.returns-in_default
returns-in_default c =
    let locals = locals_of c.args.rows.now.db c.args.conference in
    let gone : LocalText → Effect = λ pair. effect.RecipientGone pair.text c.args.conference in
    let none : locals ≡ [] = sym (from_on-zero locals) ∙ c.in_default.ensures.pairs in
    sym (append-nil c.args.effects.now) ∙ ap (λ pairs. c.args.effects.now ++ map gone pairs) (sym none)

pub loop-pair-init : goal.loop-pair-init
loop-pair-init c =
    let locals = locals_of c.args.rows.now.db c.args.conference in
    let gone : LocalText → Effect = λ pair. effect.RecipientGone pair.text c.args.conference in
    ap (λ pairs. c.args.effects.now ++ map gone pairs)
    (c.into_iter-pair-iterator.ensures.into_iter_gives ∙ c.in-Some.ensures.pairs ∙ from_on-zero locals)
