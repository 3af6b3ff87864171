use Rattle.kom_hub.proofs.Hearing.{heard_new}
use Rattle.kom_hub.proofs.Passing.{blank}
use Rattle.kom_hub.proofs.guest.Guest.new.Goals as goal

pub returns-clause-kept : goal.returns-clause-kept
returns-clause-kept g c = λ desk.
    c.begin-talk.ensures _ (blank c.new.result.session c.new.result.answers.items desk c.new.ensures.session
    c.new.ensures.answers) c.requires

pub returns-clause-heard : goal.returns-clause-heard
returns-clause-heard g c = λ desk. heard_new c.new.result desk c.new.ensures.answers c.new.ensures.spent
