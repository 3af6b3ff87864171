use Rattle.std.proofs.Common.{sym, ap}
use Rattle.kom_hub.specs.declared.place.Place.{Place}
use Rattle.kom_hub.proofs.Standing.{stands_same}
use Rattle.kom_hub.proofs.crowd.give_up_at.Goals as goal

pub returns-in_default : goal.returns-in_default
returns-in_default g c = λ desk gave begun gate stands. stands

pub returns : goal.returns
returns g c = λ desk gave begun gate stands.
    stands_same g.T.Converse.kept g.T.Converse.talks g.L.Link.view g.met.T.Converse.kept_on
    g.met.T.Converse.talks_on begun desk gave c.args.crowd.now c.args.key c.in-Some.guest.now c.give_up.new.self gate
    stands (sym c.in-Some.ensures.value) (ap (λ (place : Place). place.session) c.give_up.ensures.place)
    (c.give_up.ensures.kept desk)
