use Rattle.std.proofs.Common.{None, refl, subst}
use Rattle.kom_types.specs.declared.aux_items.AuxRow.{AuxRow}
use Rattle.kom_sweep.specs.Due.{is_faq}
use Rattle.kom_sweep.specs.Names.{Learns}
use Rattle.kom_sweep.proofs.Learning.{learns_none, learns_items}
use Rattle.kom_sweep.proofs.names.Names.note_faqs.Goals as goal

pub loop-item-init : goal.loop-item-init
loop-item-init c = learns_none c.args.self.now.whole c.args.self.now c.args.self.now refl refl refl

pub loop-item-preserved : goal.loop-item-preserved
loop-item-preserved c =
    learns_items c.args.items.now c.loop-item.item-index c.item-item.result c.args.self.now c.loop-item.self
    c.note_faq.new.self c.loop-item-test.true c.loop-item.invariant
    (subst (λ (item : AuxRow). Learns (λ one. None) (λ text. is_faq text item) c.loop-item.self.whole c.loop-item.self
    c.note_faq.new.self) c.item-item.is c.in_ok-note_faq.ensures)
