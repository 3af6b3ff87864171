use Rattle.std.proofs.Common.{false, refl, Ok, Err}
use Rattle.kom_types.specs.declared.acts.Act.TheVariants as act
use Rattle.kom_links.specs.declared.deeds.Deed.TheVariants as deed
use Rattle.kom_links.specs.DeskCalls.{record_of}
use Rattle.kom_session.proofs.Acted.{told_broken, untold_broken}
use Rattle.kom_session.proofs.Leading.{leads_known, leads_record, leads_refused}
use Rattle.kom_session.proofs.machine.Machine.break_at.Goals as goal

pub returns-in-Err-clause-faulty : goal.returns-in-Err-clause-faulty
returns-in-Err-clause-faulty g c = λ link.
    let acts = c.in-Err.ensures.acts in
    leads_known c.note.ensures
    (leads_refused (deed.Broken c.args.self.now.session) (Err c.in-Err.fault) c.now.result
    c.now.ensures.gains (λ some. refl) acts.rest.none_added acts.rest.tells
    (λ start f. untold_broken f c.now.result _ _ _ acts))

pub returns-in_default-clause-faulty : goal.returns-in_default-clause-faulty
returns-in_default-clause-faulty g c = λ link.
    let acts = c.in_default.ensures.acts in
    leads_record (deed.Broken c.args.self.now.session) (Ok tt)
    (record_of (g.K.Desk.view c.args.desk.now).pass c.now.result
    (act.Broken c.args.self.now.session) c.args.self.now.session false)
    c.now.ensures.gains (λ some. refl) acts.added acts.rest.tells
    (λ start f. told_broken f c.now.result _ _ _ acts)
