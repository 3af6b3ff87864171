use Rattle.std.proofs.Common.{rules}
use Rattle.kom_serving.proofs.Lifting.{served_by}
use Rattle.kom_serving.proofs.workers.work.Goals as goal

pub returns-clause-served : goal.returns-clause-served
returns-clause-served g c =
    served_by g.B.Acts.made g.G.Link.Link.view (g.B.Acts.server c.args.hall.now.opening) c.args.hall.now c.args.number
    c.unwrap-pass.result c.into_pass.result c.new-desk.result c.attend_new.new.desk
    (g.G.Gate.view c.attend_new.new.gate) (g.C.Clock.gave c.attend_new.new.clock) (search rules)
    c.new-desk.ensures.table c.new-desk.ensures.start c.new-desk.ensures.pass c.attend_new.ensures.on
    c.into_pass.ensures.pass c.into_pass.ensures.table
    c.into_pass.ensures.free c.attend_new.ensures.serves c.attend_new.ensures.all_back c.attend_new.ensures.done
