use Rattle.std.proofs.Common.{subst}
use Rattle.kom_screen.specs.Screens.{Seen, Grows}
use Rattle.kom_screen.proofs.Showing.{grows_trans}
use Rattle.kom_screen.proofs.screen.Screen.take.Goals as goal

pub returns-in_err-put-clause-grows : goal.returns-in_err-put-clause-grows
returns-in_err-put-clause-grows g c =
    grows_trans c.args.self.now.sink.put c.begin.new.self.sink.put c.put.new.self.sink.put c.begin.ensures.grows
    (subst (λ (s : Seen). Grows s.sink.put c.put.new.self.sink.put) c.self.view_is c.put.ensures.grows)

pub returns-in_err-put-2-clause-grows : goal.returns-in_err-put-2-clause-grows
returns-in_err-put-2-clause-grows g c =
    grows_trans c.args.self.now.sink.put c.put.new.self.sink.put c.put-2.new.self.sink.put
    (grows_trans c.args.self.now.sink.put c.begin.new.self.sink.put c.put.new.self.sink.put c.begin.ensures.grows
    (subst (λ (s : Seen). Grows s.sink.put c.put.new.self.sink.put) c.self.view_is c.put.ensures.grows))
    c.put-2.ensures.grows

pub returns-clause-grows : goal.returns-clause-grows
returns-clause-grows g c =
    grows_trans c.args.self.now.sink.put c.put.new.self.sink.put c.put-2.new.self.sink.put
    (grows_trans c.args.self.now.sink.put c.begin.new.self.sink.put c.put.new.self.sink.put c.begin.ensures.grows
    (subst (λ (s : Seen). Grows s.sink.put c.put.new.self.sink.put) c.self.view_is c.put.ensures.grows))
    c.put-2.ensures.grows
