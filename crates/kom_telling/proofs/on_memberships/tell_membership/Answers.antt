use Rattle.std.proofs.Common.{List, option_map, subst}
use Rattle.std.specs.Prelude.{OnOk}
use Rattle.kom_types.specs.Parts.{Part}
use Rattle.kom_types.specs.tables.Memberships.{at_place}
use Rattle.kom_model.specs.Db.{membership_of}
use Rattle.kom_telling.specs.Sections.{row_parts}
use Rattle.kom_telling.specs.Takes.{Takes}
use Rattle.kom_telling.proofs.Found.{unplaced-parts}
use Rattle.kom_telling.proofs.Going.{found-none, found-some, takes-then}
use Rattle.kom_telling.proofs.on_memberships.tell_membership.Goals as goal

pub put-requires : goal.put-requires
put-requires g c = (tt, (tt, (tt, ((λ all. c.ranges_of.ensures.few), tt))))

pub returns-in_default-clause-told : goal.returns-in_default-clause-told
returns-in_default-clause-told g c =
    let db = c.args.rows.now.db in
    let one = c.args.one.now in
    let found = membership_of db one.person one.conference in
    subst (λ (l : List Part). Takes g.S.PartSink.took c.args.sink.now c.args.sink.now l) (unplaced-parts db one found)
    (found-none g.S.PartSink.took (row_parts db one) (option_map (at_place 0) found) c.args.sink.now
    c.in_default.ensures)

pub returns-clause-told : goal.returns-clause-told
returns-clause-told g c =
    let db = c.args.rows.now.db in
    let one = c.args.one.now in
    let found = membership_of db one.person one.conference in
    subst (λ (l : List Part). OnOk c.put.result (Takes g.S.PartSink.took c.args.sink.now c.put.new.self l))
    (unplaced-parts db one found)
    (found-some g.S.PartSink.took (row_parts db one) (option_map (at_place 0) found) c.in-Some.row _ _ _
    c.in-Some.ensures
    (takes-then g.S.PartSink.took _ _ _ _ _ _ c.in_ok-put_plain.ensures.told
    (rw c.ranges_of.ensures.ranges at c.put.ensures.told)))
