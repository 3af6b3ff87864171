use Rattle.std.proofs.Common.{refl}
use Rattle.kom_links.specs.declared.link.Took.TheVariants as took
use Rattle.kom_session.specs.Known.{sight}
use Rattle.kom_session.proofs.Going.{goes_trans}
use Rattle.kom_session.proofs.serving.wait_to_write.Goals as goal

pub returns-then-session-eq0-clause-goes : goal.returns-then-session-eq0-clause-goes
returns-then-session-eq0-clause-goes g c = λ before after gave writes.
    c.wrote.ensures took.NotYet refl (sight (g.K.Desk.view c.args.desk.now) before gave) after writes

pub returns-then-eq-clause-goes : goal.returns-then-eq-clause-goes
returns-then-eq-clause-goes g c = λ before after gave writes.
    c.wrote.ensures took.NotYet refl (sight (g.K.Desk.view c.args.desk.now) before gave) after writes

pub returns-clause-goes : goal.returns-clause-goes
returns-clause-goes g c = λ before after gave writes. goes_trans
    (c.wrote.ensures took.NotYet refl (sight (g.K.Desk.view c.args.desk.now) before gave) after writes)
    (c.ask.ensures.goes after gave)
