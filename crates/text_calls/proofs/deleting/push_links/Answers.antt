use Rattle.std.proofs.Common.{◌++◌, ◌∙◌, map, ap}
use Rattle.kom_types.specs.declared.effects.Effect.{Effect}
use Rattle.kom_types.specs.declared.effects.Effect.TheVariants as effect
use Rattle.kom_types.specs.declared.texts.TextLink.{TextLink}
use Rattle.kom_state.proofs.Pushing.{pushed-item, pushed-none, pushed-all}
use Rattle.text_calls.proofs.deleting.push_links.Goals as goal

abbrev make : TextLink → Effect
make = λ link. effect.LinkGone link.child link.parent link.footnote

pub loop-link-init : goal.loop-link-init
loop-link-init c = pushed-none make c.args.effects.now c.as_slice-link-items.result.now

pub loop-link-preserved : goal.loop-link-preserved
loop-link-preserved c =
    pushed-item make c.args.effects.now c.as_slice-link-items.result.now c.loop-link.link-index c.link-item.result
    c.loop-link.effects _ c.loop-link-test.true c.link-item.is c.loop-link.invariant c.in_ok-push.ensures.ok

pub returns : goal.returns
returns c =
    pushed-all make c.args.effects.now c.as_slice-link-items.result.now c.loop-link.link-index c.loop-link.effects
    c.loop-link-test.false c.loop-link.invariant
    ∙ ap (λ l. c.args.effects.now ++ map make l) (c.as_slice-link-items.ensures.value ∙ c.in_ok-links.ensures)
