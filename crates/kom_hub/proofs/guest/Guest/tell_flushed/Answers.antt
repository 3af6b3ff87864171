use Rattle.std.proofs.Common.{◌≢◌, ◌∙◌, refl, arith}
use Rattle.kom_hub.specs.Seats.{seat_view}
use Rattle.kom_links.specs.declared.deeds.Deed.TheVariants as deed
use Rattle.kom_hub.proofs.Hearing.{heard_told, said_is}
use Rattle.kom_hub.proofs.Seated.{flushed}
use Rattle.kom_hub.proofs.guest.Guest.tell_flushed.Goals as goal

pub returns-then-self-eq0 : goal.returns-then-self-eq0
returns-then-self-eq0 g c = λ before after moment f. record {
  session = refl;
  served = λ was now. now;
  rest = λ was. was;
}

pub returns : goal.returns
returns g c = λ before after moment f.
    let some : c.args.self.now.place.session ≢ 0 = λ e. omega arith in
    rw c.tell.ensures (record {
      session = refl;
      served = λ was now. record {
        served = c.flushed.ensures (seat_view c.args.self.now.place before) _
            (g.L.Link.view c.args.self.now.link) moment
            (flushed c.args.self.now.place.session c.args.self.now.place.answers.items before moment c.args.answer after
            some f) (was c.requires).served;
        heard = heard_told c.args.self.now.place _ after before.answers (deed.Flush, c.args.answer)
            (record { session = refl; spent = refl; items = refl })
            (f.tells ∙ said_is before.answers deed.Flush c.args.answer) now.heard;
        known = now.known;
      };
      rest = λ was differs. absurd (differs refl);
    })
