use Rattle.std.proofs.Common.{ap, refl, ◌∙◌}
use Rattle.kom_sweep.specs.Names.{names_number}
use Rattle.kom_sweep.proofs.Learning.{learns_no_item, learns_item}
use Rattle.kom_sweep.proofs.names.Names.note_faq.Goals as goal

pub returns-in_default : goal.returns-in_default
returns-in_default c =
    learns_no_item c.args.item.now c.args.self.now c.args.self.now refl refl refl
    (λ text small. c.faq_in.ensures text small ∙ ap (λ o. names_number o text) c.in_default.is)

pub returns : goal.returns
returns c =
    learns_item c.args.item.now c.in-Some.text c.args.self.now c.note_text.new.self c.in_ok-note_text.ensures
    (λ text small. c.faq_in.ensures text small ∙ ap (λ o. names_number o text) c.in-Some.is)
