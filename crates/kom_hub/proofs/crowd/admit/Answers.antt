use Rattle.kom_hub.proofs.Standing.{stands_joined}
use Rattle.kom_hub.proofs.crowd.admit.Goals as goal

pub returns-clause-stands : goal.returns-clause-stands
returns-clause-stands g c = λ begun desk gave before after link served admits stands.
    stands_joined g.T.Converse.kept g.T.Converse.talks g.L.Link.view g.met.T.Converse.kept_on
    g.met.T.Converse.talks_on begun desk gave c.args.crowd.now c.insert_reserved.new.self c.insert_reserved.result
    c.args.guest before after stands c.insert_reserved.ensures.was_vacant c.insert_reserved.ensures.updates
    c.insert_reserved.ensures.len c.insert_reserved.ensures.capacity admits.given admits.returned c.requires.nobody
    (c.requires.heard desk) served
