use Rattle.std.proofs.Common.{◌≡◌, ◌==◌, false}
use Rattle.std.proofs.lemmas.Bool.{ne_eqb}
use Rattle.kom_telling.proofs.Going.{takes-none}
use Rattle.kom_telling.proofs.on_persons.tell_login.Goals as goal

pub returns-then-row-eq0-clause-told : goal.returns-then-row-eq0-clause-told
returns-then-row-eq0-clause-told g c =
    rw c.if-row-eq0.true (takes-none g.S.PartSink.took c.args.sink.now)

pub returns-clause-told : goal.returns-clause-told
returns-clause-told g c =
    let other : (c.args.row.now.sessions == 0) ≡ false = ne_eqb _ _ c.if-row-eq0.false in
    rw other (rw c.as_slice.ensures at c.put.ensures.told)
