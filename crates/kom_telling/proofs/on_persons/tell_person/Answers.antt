use Rattle.std.proofs.Common.{List, subst}
use Rattle.std.specs.Prelude.{OnOk}
use Rattle.kom_types.specs.Parts.{Part}
use Rattle.kom_types.specs.declared.effects.Effect.TheVariants as effect
use Rattle.kom_types.specs.declared.effects.PersonField.TheVariants as field
use Rattle.kom_snapshot.specs.Snap.{unless_zero, count_effects}
use Rattle.kom_telling.specs.Takes.{Takes}
use Rattle.kom_telling.proofs.Going.{takes-then}
use Rattle.kom_telling.proofs.PersonParts.{person-parts}
use Rattle.kom_telling.proofs.on_persons.tell_person.Goals as goal

pub returns-clause-told : goal.returns-clause-told
returns-clause-told g c =
    let row = c.args.row.now in
    subst (λ (l : List Part). OnOk c.tell_counts.result (Takes g.S.PartSink.took c.args.sink.now
    c.tell_counts.new.sink l))
    (person-parts (effect.PersonAdded row.number row.privileges row.flags row.last_login)
    (unless_zero row.user_area (effect.PersonField row.number (field.UserArea row.user_area)))
    (effect.Password row.number row.hash)
    (unless_zero row.sessions (effect.LoggedIn row.number row.last_login row.user)) (count_effects row))
    (takes-then g.S.PartSink.took _ _ _ _ _ c.tell_counts.result c.in_ok-put_plain.ensures.told
    (takes-then g.S.PartSink.took _ _ _ _ _ c.tell_counts.result c.in_ok-tell_area.ensures.told
    (takes-then g.S.PartSink.took _ _ _ _ _ c.tell_counts.result c.in_ok-put_plain-2.ensures.told
    (takes-then g.S.PartSink.took _ _ _ _ _ c.tell_counts.result c.in_ok-tell_login.ensures.told
    c.tell_counts.ensures.told))))
