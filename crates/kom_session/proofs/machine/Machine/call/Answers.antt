use Rattle.std.proofs.Common.{refl, ap, ◌∙◌, Ok, Err}
use Rattle.kom_types.specs.declared.acts.Act.TheVariants as act
use Rattle.kom_links.specs.declared.deeds.Deed.TheVariants as deed
use Rattle.kom_links.specs.declared.served.SessionEnd.TheVariants as end
use Rattle.kom_links.specs.DeskCalls.{record_of}
use Rattle.kom_session.specs.declared.phase.Stage.TheVariants as stage
use Rattle.kom_session.specs.Known.{Known, known_by, note_fault}
use Rattle.kom_session.proofs.Acted.{call_made, call_last}
use Rattle.kom_session.proofs.Leading.{leads_known, leads_record, leads_refused}
use Rattle.kom_session.proofs.machine.Machine.call.Goals as goal

pub returns-in-Ok-clause-taken : goal.returns-in-Ok-clause-taken
returns-in-Ok-clause-taken g c = λ line reading link.
    let old = g.K.Desk.view c.args.desk.now in
    let calls = c.in-Ok.ensures.calls in
    let session = c.args.self.now.session in
    leads_known
    (ap (λ phase. record (known_by c.args.self.now) { phase = phase }) c.with_line-self.ensures)
    (leads_record (deed.Call session) (Ok tt)
    (record_of old.pass c.now.result (act.Call session c.args.reference c.args.call) session
    calls.added.0) c.now.ensures.gains (λ some. refl) calls.added.1 calls.rest.tells
    (λ start t. call_made line _ _ t reading c.now.result _ _ _ calls))

pub returns-in-Err-clause-taken : goal.returns-in-Err-clause-taken
returns-in-Err-clause-taken g c = λ line reading link.
    let calls = c.in-Err.ensures.calls in
    let session = c.args.self.now.session in
    leads_known
    (ap (λ (known : Known). record known {
      phase = c.phase_after-self.result;
      stage = stage.Last end.End;
    }) c.note.ensures
    ∙ ap (λ phase. record (known_by c.args.self.now) {
      cause = note_fault c.args.self.now.cause c.in-Err.fault;
      phase = phase;
      stage = stage.Last end.End;
    }) c.phase_after-self.ensures)
    (leads_refused (deed.Call session) (Err c.in-Err.fault) c.now.result c.now.ensures.gains
    (λ some. refl) calls.rest.none_added calls.rest.tells
    (λ start t. call_last line _ _ t c.now.result _ _ _ calls))
