use Rattle.std.proofs.Common.{length, drop, sym, subst, arith}
use Rattle.kom_state_lock.specs.Passes.{AreReady, AreReadyButLast, IsReadyLast}
use Rattle.kom_state_lock.proofs.Ready.{ready_table, ready_every, ready_free, ready_popped, ready_pushed}
use Rattle.lock_tests.proofs.turn_tests.count_beside.Goals as goal

-- the others' passes, and the last one
parts : (g : _) (c : goal.After-as_mut_slice g)
    → AreReadyButLast c.in-Ok.hall c.pop.new.self.items × IsReadyLast c.in-Ok.hall c.unwrap-own.result
parts g c =
    ready_popped c.in-Ok.hall c.in-Ok.row.items c.pop.new.self.items c.pop.result c.unwrap-own.result
    c.in-Ok.ensures.ready c.pop.ensures.items c.unwrap-own.ensures

pub add_beside-requires-clause-ready : goal.add_beside-requires-clause-ready
add_beside-requires-clause-ready g c κs within =
    subst (AreReadyButLast c.in-Ok.hall) (sym c.as_mut_slice.ensures.value) (parts g c).0

pub add_often-requires : goal.add_often-requires
add_often-requires g c =
    let own =
    (ready_popped c.in-Ok.hall c.in-Ok.row.items c.pop.new.self.items c.pop.result c.unwrap-own.result
    c.in-Ok.ensures.ready c.pop.ensures.items c.unwrap-own.ensures).1 in
    (own.table, own.free)

-- the row is whole again
all : (g : _) (c : goal.After-push_reserved g) → AreReady c.in-Ok.hall c.push_reserved.new.self.items
all g c =
    let hall = c.in-Ok.hall in
    let own =
    (ready_popped hall c.in-Ok.row.items c.pop.new.self.items c.pop.result c.unwrap-own.result
    c.in-Ok.ensures.ready c.pop.ensures.items c.unwrap-own.ensures).1 in
    let others = c.add_beside.new.passes in
    let rest = drop (length others) c.pop.new.self.items in
    let then = c.add_often.ensures in
    ready_pushed hall c.push_reserved.new.self.items others rest c.pop.new.self.len c.unwrap-own.result
    c.add_often.new.pass c.push_reserved.ensures.items
    (omega (arith, c.as_mut_slice.ensures.len, c.add_beside.auto.passes))
    c.add_beside.ensures own then.0 then.1 then.2

pub close-counter-requires-clause-hall : goal.close-counter-requires-clause-hall
close-counter-requires-clause-hall g c =
    ready_table c.in-Ok.hall c.push_reserved.new.self.items (all g c)

pub close-counter-requires-clause-every : goal.close-counter-requires-clause-every
close-counter-requires-clause-every g c =
    ready_every c.in-Ok.hall c.push_reserved.new.self.items (all g c)

pub close-counter-requires-clause-free : goal.close-counter-requires-clause-free
close-counter-requires-clause-free g c =
    ready_free c.in-Ok.hall c.push_reserved.new.self.items (all g c)
