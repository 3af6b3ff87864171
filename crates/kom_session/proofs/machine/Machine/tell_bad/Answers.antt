use Rattle.std.proofs.Common.{refl, ap}
use Rattle.kom_links.specs.declared.served.SessionEnd.TheVariants as end
use Rattle.kom_session.specs.declared.phase.Stage.TheVariants as stage
use Rattle.kom_session.specs.Known.{Known, known_by}
use Rattle.kom_session.proofs.Acted.{bad_faulty, bad_silent}
use Rattle.kom_session.proofs.Leading.{leads_same, leads_known, goes_from}
use Rattle.kom_session.proofs.machine.Machine.tell_bad.Goals as goal

pub returns-then-self-ne0-clause-made : goal.returns-then-self-ne0-clause-made
returns-then-self-ne0-clause-made g c = λ host link here.
    let r = c.requires in
    goes_from (known_by c.args.self.now) refl
    (λ start kept. bad_faulty c.in-Some.place r.serving r.none_left c.in-Some.is
    c.if-self-ne0.true kept)
    (c.break_at.ensures.faulty link)

pub returns-clause-made : goal.returns-clause-made
returns-clause-made g c = λ host link here.
    let r = c.requires in
    goes_from (known_by c.args.self.now) refl
    (λ start kept. bad_silent c.in-Some.place r.serving r.none_left c.in-Some.is
    c.if-self-ne0.false kept)
    (leads_known
    (ap (λ (known : Known). record known { stage = stage.Last (end.Broken c.in-Some.place) })
    c.tell_fault.ensures)
    (leads_same {known = known_by c.args.self.now} (λ some. refl) (λ start kept. kept)))
