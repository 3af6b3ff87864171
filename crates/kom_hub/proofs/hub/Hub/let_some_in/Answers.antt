use Rattle.kom_hub.proofs.hub.Hub.let_some_in.Goals as goal

pub loop-init : goal.loop-init
loop-init g c = λ desk gave begun serves.
    record { room = serves.room; ended = serves.ended; stands = serves.stands }

pub let_one_in-requires : goal.let_one_in-requires
let_one_in-requires g c = record {
  can = (
    c.requires.can.0,
    c.requires.can.1,
    (c.requires.can.2.0, c.loop.invariant c.requires.can.0 c.requires.can.1 c.requires.can.2.0 c.requires.can.2.1),
  );
}

pub loop-preserved : goal.loop-preserved
loop-preserved g c = λ desk gave begun serves.
    c.let_one_in.ensures desk gave begun (c.loop.invariant desk gave begun serves)

pub returns : goal.returns
returns g c = λ desk gave begun serves.
    let served = c.loop.invariant desk gave begun serves in
    record { room = served.room; ended = served.ended; stands = served.stands }
