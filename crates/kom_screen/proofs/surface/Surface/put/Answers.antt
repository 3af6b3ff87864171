use Rattle.std.proofs.Common.{subst, take}
use Rattle.kom_screen.specs.Screens.{Shown, Grows}
use Rattle.kom_screen.proofs.surface.Surface.put.Goals as goal

pub returns-in-Ok-clause-grows : goal.returns-in-Ok-clause-grows
returns-in-Ok-clause-grows g c =
    subst (λ (s : Shown). Grows s.sink.put (g.S.Sink.view c.write.new.self).put) c.self.view_is
    (c.args.bytes.now, c.in-Ok.ensures.all)

pub returns-in-Err-clause-grows : goal.returns-in-Err-clause-grows
returns-in-Err-clause-grows g c =
    subst (λ (s : Shown). Grows s.sink.put (g.S.Sink.view c.write.new.self).put) c.self.view_is
    (take c.in-Err.ensures.some.0 c.args.bytes.now, c.in-Err.ensures.some.2)
