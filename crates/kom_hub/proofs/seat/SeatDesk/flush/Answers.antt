use Rattle.std.proofs.Common.{◌≡◌, ◌≢◌, arith, refl}
use Rattle.kom_hub.proofs.Seated.{no_flush, flushed}
use Rattle.kom_hub.proofs.Hearing.{told_now, hears_no_flush}
use Rattle.kom_hub.proofs.Leaving.{leaves_flushed, leaves_alone}
use Rattle.kom_hub.proofs.seat.SeatDesk.flush.Goals as goal

pub returns-then-self-eq0-clause-flushes : goal.returns-then-self-eq0-clause-flushes
returns-then-self-eq0-clause-flushes g c = rw c.tell.ensures (no_flush _ _ (g.K.Desk.view c.args.self.now.desk.now) _)

pub returns-then-self-eq0-clause-on : goal.returns-then-self-eq0-clause-on
returns-then-self-eq0-clause-on g c =
    let zero : c.args.self.now.place.now.session ≡ 0 = omega arith in (
      refl,
      refl,
      g.met.K.Desk.goes_on_itself _,
      rw c.tell.ensures (leaves_alone _ _ _ refl (hears_no_flush _ _ _ zero refl refl)),
    )

pub returns-clause-flushes : goal.returns-clause-flushes
returns-clause-flushes g c =
    let some : c.args.self.now.place.now.session ≢ 0 = λ e. omega arith in
    rw c.tell-2.ensures (flushed _ _ _ _ _ _ some c.flush-answer.ensures.flushes)

pub returns-clause-on : goal.returns-clause-on
returns-clause-on g c =
    let some : c.args.self.now.place.now.session ≢ 0 = λ e. omega arith in (
      refl,
      refl,
      c.flush-answer.ensures.on,
      rw c.tell-2.ensures
          (leaves_flushed _ _ _ _ _ _ some (told_now _ _) c.flush-answer.ensures.flushes),
    )
