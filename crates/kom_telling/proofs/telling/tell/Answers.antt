use Rattle.std.proofs.Common.{List, subst}
use Rattle.kom_types.specs.Parts.{Part}
use Rattle.kom_telling.specs.Takes.{Takes}
use Rattle.kom_telling.proofs.Whole.{all-told}
use Rattle.kom_telling.proofs.telling.tell.Goals as goal

pub returns-in-Ok-tell_sections-clause-told : goal.returns-in-Ok-tell_sections-clause-told
returns-in-Ok-tell_sections-clause-told g c =
    subst (λ (l : List Part). Takes g.S.PartSink.took c.args.sink.now c.tell_sections.new.sink l)
    (all-told c.args.rows.now.db c.requires.whole) c.in-Ok-tell_sections.ensures.told
