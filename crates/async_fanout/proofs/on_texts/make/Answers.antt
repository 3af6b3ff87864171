use Rattle.std.proofs.Common.{◌++◌, ◌∙◌, ap, arith}
use Rattle.kom_model.specs.Messages.{new_text}
use Rattle.kom_model.specs.Shown.{text_head_of}
use Rattle.kom_model.specs.ToWhom.{only_added, text_added}
use Rattle.async_fanout.specs.Added.{made_by}
use Rattle.async_fanout.specs.Delivered.{all_brought, as_list}
use Rattle.async_fanout.proofs.Brought.{brought-each, filter_map-map}
use Rattle.async_fanout.proofs.Pushing.{pushed_all}
use Rattle.async_fanout.proofs.on_texts.make.Goals as goal

pub returns : goal.returns
returns c =
    let effects = c.args.effects.now in
    let db = c.args.asked.now.db in
    pushed_all (λ one. all_brought c.args.asked.now (as_list (made_by effects db one))) c.args.sent.now.items
    effects c.loop-effect.effect-index c.loop-effect.sent.items (omega arith) c.loop-effect.invariant
    ∙ ap (λ list. c.args.sent.now.items ++ list) (brought-each c.args.asked.now (made_by effects db) effects
    ∙ ap (all_brought c.args.asked.now)
    (filter_map-map text_added (λ row. new_text (only_added effects db) (text_head_of row)) effects))
