use Rattle.std.proofs.Common.{◌≡◌, arith, refl}
use Rattle.kom_hub.proofs.Seated.{connected, refused, no_connect}
use Rattle.kom_hub.proofs.Hearing.{told_now, hears_no_connect}
use Rattle.kom_hub.proofs.Leaving.{leaves_connected, leaves_refused, leaves_alone}
use Rattle.kom_hub.proofs.seat.SeatDesk.connect.Goals as goal

pub returns-then-self-ne0-clause-connects : goal.returns-then-self-ne0-clause-connects
returns-then-self-ne0-clause-connects g c =
    rw c.tell.ensures (no_connect _ _ (g.K.Desk.view c.args.self.now.desk.now) _ _ _)

pub returns-then-self-ne0-clause-on : goal.returns-then-self-ne0-clause-on
returns-then-self-ne0-clause-on g c = (
  refl,
  refl,
  g.met.K.Desk.goes_on_itself _,
  rw c.tell.ensures (leaves_alone _ _ _ refl (hears_no_connect _ _ _ (told_now _ _))),
)

pub returns-then-self-clause-connects : goal.returns-then-self-clause-connects
returns-then-self-clause-connects g c =
    rw c.tell-then-self.ensures (no_connect _ _ (g.K.Desk.view c.args.self.now.desk.now) _ _ _)

pub returns-then-self-clause-on : goal.returns-then-self-clause-on
returns-then-self-clause-on g c = (
  refl,
  refl,
  g.met.K.Desk.goes_on_itself _,
  rw c.tell-then-self.ensures (leaves_alone _ _ _ refl (hears_no_connect _ _ _ (told_now _ _))),
)

pub returns-in-Ok-clause-connects : goal.returns-in-Ok-clause-connects
returns-in-Ok-clause-connects g c =
    let zero : c.args.self.now.place.now.session ≡ 0 = omega arith in
    rw c.tell-in-Ok.ensures
    (connected c.args.self.now.place.now.session zero _ _ _ _ _ _ _ c.in-Ok.ensures.connects)

pub returns-in-Ok-clause-on : goal.returns-in-Ok-clause-on
returns-in-Ok-clause-on g c =
    let zero : c.args.self.now.place.now.session ≡ 0 = omega arith in (
      refl,
      refl,
      c.in-Ok.ensures.on,
      rw c.tell-in-Ok.ensures
          (leaves_connected _ _ _ _ _ _ _ _ zero refl c.if-self.false refl refl c.in-Ok.ensures.connects),
    )

pub returns-in-Err-clause-connects : goal.returns-in-Err-clause-connects
returns-in-Err-clause-connects g c = rw c.tell-in-Err.ensures (refused _ _ _ _ _ _ _ _ c.in-Err.ensures.connects)

pub returns-in-Err-clause-on : goal.returns-in-Err-clause-on
returns-in-Err-clause-on g c = (
  refl,
  refl,
  c.in-Err.ensures.on,
  rw c.tell-in-Err.ensures (leaves_refused _ _ _ _ _ _ _ _ (told_now _ _) c.in-Err.ensures.connects),
)
