use Rattle.std.proofs.Common.{[], ◌∷◌, None, Some, refl, sym, subst, ◌∙◌}
use Rattle.std.proofs.lemmas.Result.{err_from_is_err_and}
use Rattle.kom_types.specs.declared.calls.Call.TheVariants as call
use Rattle.kom_types.specs.declared.persons.Person.{Person}
use Rattle.kom_sweep.specs.Told.{tell}
use Rattle.kom_sweep.specs.Acting.{Seen, sight}
use Rattle.kom_sweep.specs.Due.{person_names}
use Rattle.kom_sweep.specs.Names.{Learns}
use Rattle.kom_sweep.proofs.Going.{stops_at}
use Rattle.kom_sweep.proofs.Learning.{learns_no_owner, learns_owner}
use Rattle.kom_sweep.proofs.Walking.{breaks_about}
use Rattle.kom_sweep.proofs.visiting.ask_owner.Goals as goal

pub returns-in_err-ask-clause-err : goal.returns-in_err-ask-clause-err
returns-in_err-ask-clause-err g c =
    let x : Seen = sight (g.K.Desk.view c.args.desk.now) (g.C.Clock.gave c.args.clock.now) c.args.talk.now.next in
    let y : Seen = sight (g.K.Desk.view c.ask.new.desk) (g.C.Clock.gave c.ask.new.clock) c.ask.new.self.next in
    let p = err_from_is_err_and c.from_residual.result c.from_residual.ensures.1 in
    rw (p.1, p.2) (breaks_about (call.GetPersonStat c.args.person) x y refl c.in_err-ask.ensures.err)

pub returns-in_default-clause-ok : goal.returns-in_default-clause-ok
returns-in_default-clause-ok g c = (
  c.in_ok-ask.field-0,
  c.in_ok-ask.ensures.ok,
  learns_no_owner c.in_ok-ask.field-0 c.args.names.now _ (sym c.person_in.ensures ∙ c.in_default.is) refl refl refl,
)

pub returns-in_err-note_person-clause-err : goal.returns-in_err-note_person-clause-err
returns-in_err-note_person-clause-err g c =
    let x : Seen = sight (g.K.Desk.view c.args.desk.now) (g.C.Clock.gave c.args.clock.now) c.args.talk.now.next in
    let y : Seen = sight (g.K.Desk.view c.ask.new.desk) (g.C.Clock.gave c.ask.new.clock) c.ask.new.self.next in
    let p = err_from_is_err_and c.from_residual-in_err-note_person.result
    c.from_residual-in_err-note_person.ensures.1 in
    rw (p.1, p.2)
    (tell (call.GetPersonStat c.args.person) c.in_ok-ask.field-0 ∷ [], refl, stops_at x y c.in_ok-ask.ensures.ok)

pub returns-clause-ok : goal.returns-clause-ok
returns-clause-ok g c = (
  c.in_ok-ask.field-0,
  c.in_ok-ask.ensures.ok,
  learns_owner c.in_ok-ask.field-0 c.in-Some.owner c.args.names.now c.note_person.new.self
      (sym c.person_in.ensures ∙ c.in-Some.is)
      (subst (λ (owner : Person). Learns (λ one. None) (λ text. person_names text (Some owner)) c.args.names.now.whole
      c.args.names.now c.note_person.new.self) c.get.ensures c.in_ok-note_person.ensures),
)

-- ---- the session stays open, and the desk is the same

pub returns-in_err-ask-clause-ok : goal.returns-in_err-ask-clause-ok
returns-in_err-ask-clause-ok g c =
    let p = err_from_is_err_and c.from_residual.result c.from_residual.ensures.1 in rw (p.1) tt

pub returns-in_err-ask-clause-open : goal.returns-in_err-ask-clause-open
returns-in_err-ask-clause-open g c = c.ask.ensures.open

pub returns-in_err-ask-clause-on : goal.returns-in_err-ask-clause-on
returns-in_err-ask-clause-on g c = c.ask.ensures.on

pub returns-in_default-clause-err : goal.returns-in_default-clause-err
returns-in_default-clause-err g c = tt

pub returns-in_default-clause-open : goal.returns-in_default-clause-open
returns-in_default-clause-open g c = c.ask.ensures.open

pub returns-in_default-clause-on : goal.returns-in_default-clause-on
returns-in_default-clause-on g c = c.ask.ensures.on

pub returns-in_err-note_person-clause-ok : goal.returns-in_err-note_person-clause-ok
returns-in_err-note_person-clause-ok g c =
    let p = err_from_is_err_and c.from_residual-in_err-note_person.result
    c.from_residual-in_err-note_person.ensures.1 in
    rw (p.1) tt

pub returns-in_err-note_person-clause-open : goal.returns-in_err-note_person-clause-open
returns-in_err-note_person-clause-open g c = c.ask.ensures.open

pub returns-in_err-note_person-clause-on : goal.returns-in_err-note_person-clause-on
returns-in_err-note_person-clause-on g c = c.ask.ensures.on

pub returns-clause-err : goal.returns-clause-err
returns-clause-err g c = tt

pub returns-clause-open : goal.returns-clause-open
returns-clause-open g c = c.ask.ensures.open

pub returns-clause-on : goal.returns-clause-on
returns-clause-on g c = c.ask.ensures.on
