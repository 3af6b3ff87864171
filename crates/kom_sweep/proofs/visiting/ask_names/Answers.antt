use Rattle.std.proofs.Common.{[], refl, sym, ap, ◌∙◌}
use Rattle.std.proofs.lemmas.Result.{err_from_is_err_and}
use Rattle.kom_types.specs.declared.calls.Call.TheVariants as call
use Rattle.kom_sweep.specs.Acting.{Seen, sight}
use Rattle.kom_sweep.proofs.Going.{goes_none, goes_on}
use Rattle.kom_sweep.proofs.Stepping.{rooms_step, rooms_end}
use Rattle.kom_sweep.proofs.Walking.{breaks_on, breaks_about, none_rooms, none_on}
use Rattle.kom_sweep.specs.Told.{tell}
use Rattle.std.proofs.Common.{◌∷◌, flat_map, ◌&&◌}
use Rattle.kom_sweep.specs.Walks.{told_at_room}
use Rattle.kom_sweep.proofs.visiting.ask_names.Goals as goal

pub rooms-init : goal.rooms-init
rooms-init g c =
    let x : Seen = sight (g.K.Desk.view c.args.desk.now) (g.C.Clock.gave c.args.clock.now) c.args.talk.now.next in
    record {
      asked = ([], refl, goes_none c.args.session x, c.new-names.ensures);
      opened = c.requires;
      on = g.met.K.Desk.goes_on_itself _;
    }

pub returns-in_err-ask-clause-err : goal.returns-in_err-ask-clause-err
returns-in_err-ask-clause-err g c =
    let x : Seen = sight (g.K.Desk.view c.args.desk.now) (g.C.Clock.gave c.args.clock.now) c.args.talk.now.next in
    let m : Seen = sight (g.K.Desk.view c.rooms.desk) (g.C.Clock.gave c.rooms.clock) c.rooms.talk.next in
    let y : Seen = sight (g.K.Desk.view c.ask.new.desk) (g.C.Clock.gave c.ask.new.clock) c.ask.new.self.next in
    let asked = c.rooms.invariant.asked in
    let p = err_from_is_err_and c.from_residual.result c.from_residual.ensures.1 in
    rw (p.1, p.2)
    (breaks_on x m y asked.2 (none_rooms asked.0)
    (breaks_about (call.FindNextConfNo c.rooms.at) m y refl c.in_err-ask.ensures.err))

pub returns-in_default-clause-ok : goal.returns-in_default-clause-ok
returns-in_default-clause-ok g c =
    let x : Seen = sight (g.K.Desk.view c.args.desk.now) (g.C.Clock.gave c.args.clock.now) c.args.talk.now.next in
    let m : Seen = sight (g.K.Desk.view c.rooms.desk) (g.C.Clock.gave c.rooms.clock) c.rooms.talk.next in
    let y : Seen = sight (g.K.Desk.view c.ask.new.desk) (g.C.Clock.gave c.ask.new.clock) c.ask.new.self.next in
    rooms_end c.args.session c.rooms.at c.in_ok-ask.field-0 x m y c.rooms.names _ c.rooms.invariant.asked
    c.in_ok-ask.ensures.ok (sym c.next_in-next.ensures.number ∙ c.in_default.is) refl refl
    (c.both.ensures ∙ ap (λ b. c.rooms.names.whole && b) c.next_in-next.ensures.is_last)

pub returns-in_err-ask_room-clause-err : goal.returns-in_err-ask_room-clause-err
returns-in_err-ask_room-clause-err g c =
    let x : Seen = sight (g.K.Desk.view c.args.desk.now) (g.C.Clock.gave c.args.clock.now) c.args.talk.now.next in
    let m : Seen = sight (g.K.Desk.view c.rooms.desk) (g.C.Clock.gave c.rooms.clock) c.rooms.talk.next in
    let n : Seen = sight (g.K.Desk.view c.ask.new.desk) (g.C.Clock.gave c.ask.new.clock) c.ask.new.self.next in
    let y : Seen =
    sight (g.K.Desk.view c.ask_room.new.desk) (g.C.Clock.gave c.ask_room.new.clock) c.ask_room.new.talk.next in
    let asked = c.rooms.invariant.asked in
    let p = err_from_is_err_and c.from_residual-in_err-ask_room.result c.from_residual-in_err-ask_room.ensures.1 in
    rw (p.1, p.2)
    (breaks_on x n y (goes_on x m n asked.2 c.in_ok-ask.ensures.ok)
    (none_on (flat_map told_at_room asked.0) (tell (call.FindNextConfNo c.rooms.at) c.in_ok-ask.field-0 ∷ [])
    (none_rooms asked.0) refl) c.in_err-ask_room.ensures.err)

pub rooms-preserved : goal.rooms-preserved
rooms-preserved g c =
    let x : Seen = sight (g.K.Desk.view c.args.desk.now) (g.C.Clock.gave c.args.clock.now) c.args.talk.now.next in
    let m : Seen = sight (g.K.Desk.view c.rooms.desk) (g.C.Clock.gave c.rooms.clock) c.rooms.talk.next in
    let n : Seen = sight (g.K.Desk.view c.ask.new.desk) (g.C.Clock.gave c.ask.new.clock) c.ask.new.self.next in
    let y : Seen =
    sight (g.K.Desk.view c.ask_room.new.desk) (g.C.Clock.gave c.ask_room.new.clock) c.ask_room.new.talk.next in
    record {
      asked = rooms_step c.args.session c.rooms.at c.in-Some.number c.in_ok-ask.field-0 x m n y c.rooms.names
          c.ask_room.new.names c.rooms.invariant.asked c.in_ok-ask.ensures.ok
          (sym c.next_in-next.ensures.number ∙ c.in-Some.is) c.in_ok-ask_room.ensures.ok;
      opened = c.ask_room.ensures.open;
      on = g.met.K.Desk.goes_on_further _ _ _ (g.met.K.Desk.goes_on_further _ _ _ c.rooms.invariant.on c.ask.ensures.on)
          c.ask_room.ensures.on;
    }

-- ---- the session stays open, and the desk is the same

pub returns-in_err-ask-clause-ok : goal.returns-in_err-ask-clause-ok
returns-in_err-ask-clause-ok g c =
    let p = err_from_is_err_and c.from_residual.result c.from_residual.ensures.1 in rw (p.1) tt

pub returns-in_err-ask-clause-open : goal.returns-in_err-ask-clause-open
returns-in_err-ask-clause-open g c = c.ask.ensures.open

pub returns-in_err-ask-clause-on : goal.returns-in_err-ask-clause-on
returns-in_err-ask-clause-on g c = g.met.K.Desk.goes_on_further _ _ _ c.rooms.invariant.on c.ask.ensures.on

pub returns-in_default-clause-err : goal.returns-in_default-clause-err
returns-in_default-clause-err g c = tt

pub returns-in_default-clause-open : goal.returns-in_default-clause-open
returns-in_default-clause-open g c = c.ask.ensures.open

pub returns-in_default-clause-on : goal.returns-in_default-clause-on
returns-in_default-clause-on g c = g.met.K.Desk.goes_on_further _ _ _ c.rooms.invariant.on c.ask.ensures.on

pub returns-in_err-ask_room-clause-ok : goal.returns-in_err-ask_room-clause-ok
returns-in_err-ask_room-clause-ok g c =
    let p = err_from_is_err_and c.from_residual-in_err-ask_room.result c.from_residual-in_err-ask_room.ensures.1 in
    rw (p.1) tt

pub returns-in_err-ask_room-clause-open : goal.returns-in_err-ask_room-clause-open
returns-in_err-ask_room-clause-open g c = c.ask_room.ensures.open

pub returns-in_err-ask_room-clause-on : goal.returns-in_err-ask_room-clause-on
returns-in_err-ask_room-clause-on g c =
    g.met.K.Desk.goes_on_further _ _ _ (g.met.K.Desk.goes_on_further _ _ _ c.rooms.invariant.on c.ask.ensures.on)
    c.ask_room.ensures.on
