use Rattle.std.proofs.Common.{◌≡◌, ◌==◌, false}
use Rattle.std.proofs.lemmas.Bool.{ne_eqb}
use Rattle.kom_telling.proofs.Going.{takes-none}
use Rattle.kom_telling.proofs.on_persons.tell_count.Goals as goal

pub returns-then-count-eq0-clause-told : goal.returns-then-count-eq0-clause-told
returns-then-count-eq0-clause-told g c =
    rw c.if-count-eq0.true (takes-none g.S.PartSink.took c.args.sink.now)

pub returns-clause-told : goal.returns-clause-told
returns-clause-told g c =
    let other : (c.args.count == 0) ≡ false = ne_eqb _ _ c.if-count-eq0.false in
    rw other (rw c.from.ensures at c.put_plain.ensures.told)
