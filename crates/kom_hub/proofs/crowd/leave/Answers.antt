use Rattle.std.proofs.Common.{sym, ◌∙◌, ap, subst, ◌≡◌, Some}
use Rattle.std.specs.Option.{is_some}
use Rattle.kom_hub.specs.declared.guest.Guest.{Guest}
use Rattle.kom_hub.proofs.Standing.{stands_left}
use Rattle.kom_hub.proofs.crowd.leave.Goals as goal

pub remove-guest-requires : goal.remove-guest-requires
remove-guest-requires g c = ap is_some c.requires.over.1

pub close-link-requires-clause-guest : goal.close-link-requires-clause-guest
close-link-requires-clause-guest g c =
    c.requires.can.2.is.each c.args.key c.remove-guest.result c.remove-guest.ensures.value

pub close-link-requires-clause-done : goal.close-link-requires-clause-done
close-link-requires-clause-done g c =
    let e : Some c.requires.over.0 ≡ Some c.remove-guest.result =
    sym c.requires.over.1 ∙ c.remove-guest.ensures.value in
    let same : c.requires.over.0 ≡ c.remove-guest.result = cc in
    subst (λ (one : Guest g.row.T.Denot g.row.G-Link.Denot). g.T.Converse.done one.talk) same c.requires.over.2

pub returns-clause-stands : goal.returns-clause-stands
returns-clause-stands g c = λ begun stands.
    stands_left g.T.Converse.kept g.T.Converse.talks g.G.Link.Link.view g.met.T.Converse.kept_on
    g.met.T.Converse.talks_on begun _ _ _ _ c.args.crowd.now c.remove-guest.new.self c.args.key c.remove-guest.result _
    _ _ stands c.remove-guest.ensures.value c.remove-guest.ensures.updates c.remove-guest.ensures.len
    c.remove-guest.ensures.capacity c.close-link.ensures.closed c.give_back.ensures
