use Rattle.std.proofs.Common.{[], ◌∷◌, None, inl, inr, refl}
use Rattle.kom_sweep.specs.Told.{tell}
use Rattle.kom_sweep.specs.Acting.{Seen, sight}
use Rattle.kom_sweep.proofs.Asking.{called, flushed, drained, not_called, not_flushed, not_drained, stops_uncalled}
use Rattle.kom_sweep.proofs.Asking.{stops_unflushed, stops_undrained, asked_ok, asked_err}
use Rattle.kom_sweep.proofs.talk.Talk.ask.Goals as goal

pub returns-in-Err-clause-err : goal.returns-in-Err-clause-err
returns-in-Err-clause-err g c =
    let next = c.args.self.now.next in
    let x : Seen = sight (g.K.Desk.view c.args.desk.now) (g.C.Clock.gave c.args.clock.now) next in
    let y : Seen = sight (g.K.Desk.view c.call.new.self) (g.C.Clock.gave c.now.new.self) c.following-self.result in (
      [],
      inl refl,
      stops_uncalled c.args.session x y c.in-Err.fault
          (not_called c.args.session next c.args.call c.now.result x y c.in-Err.fault c.now.ensures.gains
          c.in-Err.ensures.calls),
    )

pub returns-in-Err-flush-clause-err : goal.returns-in-Err-flush-clause-err
returns-in-Err-flush-clause-err g c =
    let next = c.args.self.now.next in
    let x : Seen = sight (g.K.Desk.view c.args.desk.now) (g.C.Clock.gave c.args.clock.now) next in
    let m : Seen = sight (g.K.Desk.view c.call.new.self) (g.C.Clock.gave c.now.new.self) c.following-self.result in
    let y : Seen = sight (g.K.Desk.view c.flush.new.self) (g.C.Clock.gave c.now-2.new.self) c.following-self.result in (
      tell c.args.call None ∷ [],
      inr (None, refl),
      stops_unflushed c.args.session c.args.call x m y c.in-Err-flush.fault
          (called c.args.session next c.args.call c.now.result x m c.in_default.field-0 c.now.ensures.gains
          c.in_default.ensures.calls)
          (not_flushed c.args.session c.now-2.result m y c.in-Err-flush.fault c.now-2.ensures.gains
          c.in-Err-flush.ensures.flushes),
    )

pub returns-in-Err-drain_into-clause-err : goal.returns-in-Err-drain_into-clause-err
returns-in-Err-drain_into-clause-err g c =
    let next = c.args.self.now.next in
    let x : Seen = sight (g.K.Desk.view c.args.desk.now) (g.C.Clock.gave c.args.clock.now) next in
    let m : Seen = sight (g.K.Desk.view c.call.new.self) (g.C.Clock.gave c.now.new.self) c.following-self.result in
    let n : Seen = sight (g.K.Desk.view c.flush.new.self) (g.C.Clock.gave c.now-2.new.self) c.following-self.result in
    let y : Seen =
    sight (g.K.Desk.view c.drain_into.new.self) (g.C.Clock.gave c.now-3.new.self) c.following-self.result in (
      tell c.args.call None ∷ [],
      inr (None, refl),
      stops_undrained c.args.session c.args.call x m n y c.in-Err-drain_into.fault
          (called c.args.session next c.args.call c.now.result x m c.in_default.field-0 c.now.ensures.gains
          c.in_default.ensures.calls)
          (flushed c.args.session c.now-2.result m n c.in_default-flush.field-0 c.now-2.ensures.gains
          c.in_default-flush.ensures.flushes)
          (not_drained c.args.session c.now-3.result n y c.drain_into.new.into.items c.in-Err-drain_into.fault
          c.now-3.ensures.gains c.in-Err-drain_into.ensures.drains),
    )

pub returns-clause-ok : goal.returns-clause-ok
returns-clause-ok g c =
    let next = c.args.self.now.next in
    let x : Seen = sight (g.K.Desk.view c.args.desk.now) (g.C.Clock.gave c.args.clock.now) next in
    let m : Seen = sight (g.K.Desk.view c.call.new.self) (g.C.Clock.gave c.now.new.self) c.following-self.result in
    let n : Seen = sight (g.K.Desk.view c.flush.new.self) (g.C.Clock.gave c.now-2.new.self) c.following-self.result in
    let y : Seen =
    sight (g.K.Desk.view c.drain_into.new.self) (g.C.Clock.gave c.now-3.new.self) c.following-self.result in
    asked_ok c.args.session c.args.call x m n y c.drain_into.new.into.items c.take_reply.result c.unless_short.result
    (called c.args.session next c.args.call c.now.result x m c.in_default.field-0 c.now.ensures.gains
    c.in_default.ensures.calls)
    (flushed c.args.session c.now-2.result m n c.in_default-flush.field-0 c.now-2.ensures.gains
    c.in_default-flush.ensures.flushes)
    (drained c.args.session c.now-3.result n y c.drain_into.new.into.items c.in_default-drain_into.field-0
    c.now-3.ensures.gains c.in_default-drain_into.ensures.drains)
    c.following-self.ensures c.take_reply.ensures c.unless_short.ensures.ok

pub returns-clause-err : goal.returns-clause-err
returns-clause-err g c =
    let next = c.args.self.now.next in
    let x : Seen = sight (g.K.Desk.view c.args.desk.now) (g.C.Clock.gave c.args.clock.now) next in
    let m : Seen = sight (g.K.Desk.view c.call.new.self) (g.C.Clock.gave c.now.new.self) c.following-self.result in
    let n : Seen = sight (g.K.Desk.view c.flush.new.self) (g.C.Clock.gave c.now-2.new.self) c.following-self.result in
    let y : Seen =
    sight (g.K.Desk.view c.drain_into.new.self) (g.C.Clock.gave c.now-3.new.self) c.following-self.result in
    asked_err c.args.session c.args.call x m n y c.drain_into.new.into.items c.take_reply.result c.unless_short.result
    (called c.args.session next c.args.call c.now.result x m c.in_default.field-0 c.now.ensures.gains
    c.in_default.ensures.calls)
    (flushed c.args.session c.now-2.result m n c.in_default-flush.field-0 c.now-2.ensures.gains
    c.in_default-flush.ensures.flushes)
    (drained c.args.session c.now-3.result n y c.drain_into.new.into.items c.in_default-drain_into.field-0
    c.now-3.ensures.gains c.in_default-drain_into.ensures.drains)
    c.following-self.ensures c.take_reply.ensures c.unless_short.ensures.err
