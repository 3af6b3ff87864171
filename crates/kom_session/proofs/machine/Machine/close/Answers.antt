use Rattle.std.proofs.Common.{Result, Ok, Err, None, refl, ap, subst}
use Rattle.std.specs.Prelude.{⊤}
use Rattle.kom_types.specs.declared.answers.NotMade.{NotMade}
use Rattle.kom_links.specs.DeskCalls.{Closes as ClosesOf}
use Rattle.kom_session.specs.Known.{Known, known_by}
use Rattle.kom_session.proofs.Closing.{closed_none, closed_some, adds_close, adds_none}
use Rattle.kom_session.proofs.machine.Machine.close.Goals.{then-self-ne0+in-Err, then-self-ne0+in_default-close}
use Rattle.kom_session.proofs.machine.Machine.close.Goals.{else-self-ne0}
use Rattle.kom_session.proofs.machine.Machine.close.Goals as goal

pub returns-clause-closed : goal.returns-clause-closed
returns-clause-closed g c = elim c.if-self-ne0.branch [
  | then-self-ne0+in-Err w ↦
      rw (
        c.end_of.ensures,
        w.self-is,
        w.desk-is,
        w.clock-is,
        ap (λ (known : Known). known.session) w.note.ensures,
        ap (λ (known : Known). known.cause) w.note.ensures,
      )
      (closed_some c.args.risen c.in-Over.planned (known_by c.args.self.now)
      (g.K.Desk.view c.args.desk.now) (g.K.Desk.view w.close.new.self)
      (g.C.Clock.gave c.args.clock.now) (g.C.Clock.gave w.now.new.self) c.in-Over.is
      w.if-self-ne0.true w.now.result (Err w.in-Err.fault)
      (subst (λ (answer : Result ⊤ NotMade). ClosesOf (g.K.Desk.view c.args.desk.now) w.now.result
      c.args.self.now.session answer (g.K.Desk.view w.close.new.self)) w.in-Err.is
      w.close.ensures.closes) w.now.ensures.gains)
  | then-self-ne0+in_default-close w ↦
      rw (c.end_of.ensures, w.self-is, w.desk-is, w.clock-is)
      (closed_some c.args.risen c.in-Over.planned (known_by c.args.self.now)
      (g.K.Desk.view c.args.desk.now) (g.K.Desk.view w.close.new.self)
      (g.C.Clock.gave c.args.clock.now) (g.C.Clock.gave w.now.new.self) c.in-Over.is
      w.if-self-ne0.true w.now.result (Ok w.in_default-close.field-0)
      (subst (λ (answer : Result ⊤ NotMade). ClosesOf (g.K.Desk.view c.args.desk.now) w.now.result
      c.args.self.now.session answer (g.K.Desk.view w.close.new.self)) w.in_default-close.is
      w.close.ensures.closes) w.now.ensures.gains)
  | else-self-ne0 w ↦
      rw (c.end_of.ensures, w.self-is, w.desk-is, w.clock-is)
      (closed_none c.args.risen c.in-Over.planned (known_by c.args.self.now)
      (g.K.Desk.view c.args.desk.now) (g.C.Clock.gave c.args.clock.now) c.in-Over.is
      w.if-self-ne0.false)
]

pub returns-clause-untimed : goal.returns-clause-untimed
returns-clause-untimed g c = elim c.if-self-ne0.branch [
  | then-self-ne0+in-Err w ↦
      rw (
        c.end_of.ensures,
        w.self-is,
        w.desk-is,
        ap (λ (known : Known). known.session) w.note.ensures,
        ap (λ (known : Known). known.cause) w.note.ensures,
      )
      (closed_some c.args.risen c.in-Over.planned (known_by c.args.self.now)
      (g.K.Desk.view c.args.desk.now) (g.K.Desk.view w.close.new.self)
      None None c.in-Over.is
      w.if-self-ne0.true w.now.result (Err w.in-Err.fault)
      (subst (λ (answer : Result ⊤ NotMade). ClosesOf (g.K.Desk.view c.args.desk.now) w.now.result
      c.args.self.now.session answer (g.K.Desk.view w.close.new.self)) w.in-Err.is
      w.close.ensures.closes) tt)
  | then-self-ne0+in_default-close w ↦
      rw (c.end_of.ensures, w.self-is, w.desk-is)
      (closed_some c.args.risen c.in-Over.planned (known_by c.args.self.now)
      (g.K.Desk.view c.args.desk.now) (g.K.Desk.view w.close.new.self)
      None None c.in-Over.is
      w.if-self-ne0.true w.now.result (Ok w.in_default-close.field-0)
      (subst (λ (answer : Result ⊤ NotMade). ClosesOf (g.K.Desk.view c.args.desk.now) w.now.result
      c.args.self.now.session answer (g.K.Desk.view w.close.new.self)) w.in_default-close.is
      w.close.ensures.closes) tt)
  | else-self-ne0 w ↦
      rw (c.end_of.ensures, w.self-is, w.desk-is)
      (closed_none c.args.risen c.in-Over.planned (known_by c.args.self.now)
      (g.K.Desk.view c.args.desk.now) None c.in-Over.is
      w.if-self-ne0.false)
]

pub returns-clause-adds : goal.returns-clause-adds
returns-clause-adds g c = elim c.if-self-ne0.branch [
  | then-self-ne0+in-Err w ↦
      rw (w.desk-is, w.clock-is)
      (adds_close (g.K.Desk.view c.args.desk.now) (g.K.Desk.view w.close.new.self)
      (g.C.Clock.gave c.args.clock.now) (g.C.Clock.gave w.now.new.self) w.now.result
      c.args.self.now.session _ w.if-self-ne0.true w.close.ensures.closes w.now.ensures.gains)
  | then-self-ne0+in_default-close w ↦
      rw (w.desk-is, w.clock-is)
      (adds_close (g.K.Desk.view c.args.desk.now) (g.K.Desk.view w.close.new.self)
      (g.C.Clock.gave c.args.clock.now) (g.C.Clock.gave w.now.new.self) w.now.result
      c.args.self.now.session _ w.if-self-ne0.true w.close.ensures.closes w.now.ensures.gains)
  | else-self-ne0 w ↦
      rw (w.desk-is, w.clock-is)
      (adds_none c.args.self.now.session (g.K.Desk.view c.args.desk.now) (g.C.Clock.gave c.args.clock.now))
]

pub returns-clause-session : goal.returns-clause-session
returns-clause-session g c = elim c.if-self-ne0.branch [
  | then-self-ne0+in-Err w ↦ rw w.self-is (ap (λ (known : Known). known.session) w.note.ensures)
  | then-self-ne0+in_default-close w ↦ rw w.self-is refl
  | else-self-ne0 w ↦ rw w.self-is refl
]
