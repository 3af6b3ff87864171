use Rattle.std.proofs.Common.{List, subst}
use Rattle.std.specs.Prelude.{OnOk}
use Rattle.kom_types.specs.Parts.{Part}
use Rattle.kom_types.specs.declared.effects.Counter.TheVariants as counted
use Rattle.kom_snapshot.specs.Snap.{count_effect}
use Rattle.kom_telling.specs.Takes.{Takes}
use Rattle.kom_telling.proofs.PersonParts.{count-parts}
use Rattle.kom_telling.proofs.on_persons.tell_counts.Goals as goal

pub returns-clause-told : goal.returns-clause-told
returns-clause-told g c =
    let row = c.args.row.now in
    subst (λ (l : List Part). OnOk c.tell_each_count.result
    (Takes g.S.PartSink.took c.args.sink.now c.tell_each_count.new.sink l))
    (count-parts (count_effect row.number counted.TimePresent row.time_present)
    (count_effect row.number counted.CreatedLines row.created_lines)
    (count_effect row.number counted.CreatedBytes row.created_bytes)
    (count_effect row.number counted.ReadTexts row.read_texts)
    (count_effect row.number counted.TextFetches row.text_fetches)
    (count_effect row.number counted.CreatedPersons row.created_persons)
    (count_effect row.number counted.CreatedConferences row.created_conferences)) c.tell_each_count.ensures.told
