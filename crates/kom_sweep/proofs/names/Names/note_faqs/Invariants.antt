use Rattle.std.proofs.Common.{None, take}
use Rattle.std.specs.List.{list_any}
use Rattle.kom_sweep.specs.Due.{is_faq}
use Rattle.kom_sweep.specs.Names.{Learns}
use Rattle.kom_sweep.proofs.names.Names.note_faqs.Given as goal

-- the first ones were noted
abbrev pub invariant-loop-item : goal.invariant-loop-item
invariant-loop-item l =
    Learns (λ one. None) (λ text. list_any (is_faq text) (take l.item-index l.items)) l.fn.self.whole l.fn.self l.self
