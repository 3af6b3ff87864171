use Rattle.kom_journal.proofs.Reading.{found_comes, effect_refused}
use Rattle.kom_journal.proofs.making.MadeRowsBodyMaker.make_next.Goals as goal

pub returns-clause-made : goal.returns-clause-made
returns-clause-made c =
    found_comes c.make_effect.result c.args.bytes.now c.args.self.now c.make_effect.new.rows c.make_effect.ensures.made

pub returns-clause-unfit : goal.returns-clause-unfit
returns-clause-unfit c same more =
    effect_refused c.args.bytes.now c.args.self.now.db (c.make_effect.ensures.some same)
    (c.make_effect.ensures.unfit same) more
