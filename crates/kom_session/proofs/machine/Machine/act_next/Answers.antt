use Rattle.std.proofs.Common.{◌∷◌, ◌++◌, [], List, ℕ, refl, subst}
use Rattle.kom_types.specs.declared.side.Side.TheVariants as side
use Rattle.kom_framing.specs.declared.units.Unit.{Unit as StreamUnit}
use Rattle.kom_framing.specs.declared.units.Unit.TheVariants as unit
use Rattle.kom_framing.specs.Splitting.{Splitting, IsAt}
use Rattle.kom_session.specs.Kept.{Goes}
use Rattle.kom_session.specs.Known.{known_by, state, sight}
use Rattle.kom_session.proofs.Acted.{taking, name_short, greeting_none, line_session}
use Rattle.kom_session.proofs.Leading.{goes_from}
use Rattle.kom_session.proofs.Served.{served_open}
use Rattle.kom_session.proofs.machine.Machine.act_next.Goals as goal

pub greet-requires-clause-short : goal.greet-requires-clause-short
greet-requires-clause-short g c =
    let r = c.requires.can in
    let taken : (fed : List ℕ) (units : List StreamUnit) → IsAt c.args.self.now.splitter fed units
    → IsAt c.next_unit.new.self fed (units ++ unit.Hello c.in-Some-Hello.user ∷ []) =
    λ fed units at. rw c.in-Some-Hello.field-0-is at (c.in-Some-Hello.ensures.at side.Client fed units at) in
    name_short c.in-Some-Hello.user
    (taking {known = known_by c.args.self.now} (unit.Hello c.in-Some-Hello.user) c.next_unit.new.self
    c.requires.may.serving c.requires.may.room taken r.2)

pub greet-requires-clause-none : goal.greet-requires-clause-none
greet-requires-clause-none g c =
    let r = c.requires.can in
    let taken : (fed : List ℕ) (units : List StreamUnit) → IsAt c.args.self.now.splitter fed units
    → IsAt c.next_unit.new.self fed (units ++ unit.Hello c.in-Some-Hello.user ∷ []) =
    λ fed units at. rw c.in-Some-Hello.field-0-is at (c.in-Some-Hello.ensures.at side.Client fed units at) in
    greeting_none c.in-Some-Hello.user
    (taking {known = known_by c.args.self.now} (unit.Hello c.in-Some-Hello.user) c.next_unit.new.self
    c.requires.may.serving c.requires.may.room taken r.2)

pub call_line-requires-clause-session : goal.call_line-requires-clause-session
call_line-requires-clause-session g c =
    let r = c.requires.can in
    let taken : (fed : List ℕ) (units : List StreamUnit) → IsAt c.args.self.now.splitter fed units
    → IsAt c.next_unit.new.self fed (units ++ unit.Line c.in-Some-Line.line ∷ []) =
    λ fed units at. rw c.in-Some-Line.field-0-is at (c.in-Some-Line.ensures.at side.Client fed units at) in
    let t =
    taking {known = known_by c.args.self.now} (unit.Line c.in-Some-Line.line) c.next_unit.new.self
    c.requires.may.serving c.requires.may.room taken r.2 in
    served_open t.served (line_session c.in-Some-Line.line t)

pub returns-in-Some-Hello-clause-made : goal.returns-in-Some-Hello-clause-made
returns-in-Some-Hello-clause-made g c = λ link here.
    let taken : (fed : List ℕ) (units : List StreamUnit) → IsAt c.args.self.now.splitter fed units
    → IsAt c.next_unit.new.self fed (units ++ unit.Hello c.in-Some-Hello.user ∷ []) =
    λ fed units at. rw c.in-Some-Hello.field-0-is at (c.in-Some-Hello.ensures.at side.Client fed units at) in
    goes_from (known_by c.args.self.now) refl
    (λ start kept. (
      here,
      taking (unit.Hello c.in-Some-Hello.user) c.next_unit.new.self
          c.requires.may.serving c.requires.may.room taken kept,
    ))
    (c.greet.ensures.taken link)

pub returns-in-Some-Line-clause-made : goal.returns-in-Some-Line-clause-made
returns-in-Some-Line-clause-made g c = λ link here.
    let taken : (fed : List ℕ) (units : List StreamUnit) → IsAt c.args.self.now.splitter fed units
    → IsAt c.next_unit.new.self fed (units ++ unit.Line c.in-Some-Line.line ∷ []) =
    λ fed units at. rw c.in-Some-Line.field-0-is at (c.in-Some-Line.ensures.at side.Client fed units at) in
    goes_from (known_by c.args.self.now) refl
    (λ start kept. taking (unit.Line c.in-Some-Line.line) c.next_unit.new.self
    c.requires.may.serving c.requires.may.room taken kept)
    (c.call_line.ensures.taken link)

pub returns-in-None-clause-made : goal.returns-in-None-clause-made
returns-in-None-clause-made g c = λ link here.
    let desk = g.K.Desk.view c.args.desk.now in
    let gave = g.C.Clock.gave c.args.clock.now in
    subst (λ (splitting : Splitting). Goes
    (state (record (known_by c.args.self.now) { splitting = splitting }) (sight desk link gave))
    (state (known_by c.tell_bad.new.self)
    (sight (g.K.Desk.view c.tell_bad.new.desk) link (g.C.Clock.gave c.tell_bad.new.clock))))
    c.in-None.ensures.unchanged (c.tell_bad.ensures.made c.args.host.now link here)
