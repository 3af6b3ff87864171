use Rattle.std.proofs.Common.{subst}
use Rattle.kom_screen.specs.Screens.{Seen, Grows}
use Rattle.kom_screen.proofs.Showing.{grows_trans}
use Rattle.kom_screen.proofs.screen.Screen.prompt.Goals as goal

pub returns-in_err-put-clause-grows : goal.returns-in_err-put-clause-grows
returns-in_err-put-clause-grows g c =
    grows_trans c.args.self.now.sink.put c.begin.new.self.sink.put c.put.new.self.sink.put c.begin.ensures.grows
    (subst (λ (s : Seen). Grows s.sink.put c.put.new.self.sink.put) c.self.view_is c.put.ensures.grows)

pub returns-clause-grows : goal.returns-clause-grows
returns-clause-grows g c =
    grows_trans c.args.self.now.sink.put c.begin.new.self.sink.put c.put.new.self.sink.put c.begin.ensures.grows
    (subst (λ (s : Seen). Grows s.sink.put c.put.new.self.sink.put) c.self.view_is c.put.ensures.grows)
