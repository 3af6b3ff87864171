use Rattle.std.proofs.Common.{refl}
use Rattle.kom_hub.specs.Seats.{seat_view}
use Rattle.kom_links.specs.declared.deeds.Deed.TheVariants as deed
use Rattle.kom_links.specs.Answers.{said_stopped}
use Rattle.kom_hub.proofs.Hearing.{heard_told}
use Rattle.kom_hub.proofs.Seated.{asked}
use Rattle.kom_hub.proofs.guest.Guest.tell_stopped.Goals as goal

pub returns-then-not-may_ask : goal.returns-then-not-may_ask
returns-then-not-may_ask g c = λ before after f. record {
  session = refl;
  served = λ was now. now;
  rest = λ was. was;
}

pub returns : goal.returns
returns g c = λ before after f. rw c.asked.ensures (record {
  session = refl;
  served = λ was now. record {
    served = c.asked-2.ensures (seat_view c.args.self.now.place before) _ (g.L.Link.view c.args.self.now.link)
        (asked c.args.self.now.place.session c.args.self.now.place.answers.items before c.args.answer after f)
        (was c.requires).served;
    heard = heard_told c.args.self.now.place _ after before.answers (deed.Ask, said_stopped c.args.answer)
        (record { session = refl; spent = refl; items = refl }) f.answers now.heard;
    known = now.known;
  };
  rest = λ was differs. absurd (differs refl);
})
