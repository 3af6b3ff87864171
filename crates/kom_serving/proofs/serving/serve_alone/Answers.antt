use Rattle.std.proofs.Common.{◌≡◌, [], ◌∷◌, refl}
use Rattle.kom_state_lock.specs.Passes.{AreReady}
use Rattle.kom_state_lock.proofs.Ready.{ready_table, ready_every, ready_free}
use Rattle.kom_serving.proofs.WholeRuns.{dealt, both_ready, run_closed}
use Rattle.kom_serving.proofs.serving.serve_alone.Goals as goal

pub new-desk-requires-clause-pass : goal.new-desk-requires-clause-pass
new-desk-requires-clause-pass g c =
    let dealt = dealt c.args.hall c.args.passes.items c.pop.new.self.items c.pop-2.new.self.items c.pop.result
    c.pop-2.result c.unwrap-own.result c.unwrap-first.result c.requires.new c.pop.ensures.items c.unwrap-own.ensures
    c.pop-2.ensures.items c.unwrap-first.ensures in
    rw dealt.1 refl

pub new-desk-requires-clause-resting : goal.new-desk-requires-clause-resting
new-desk-requires-clause-resting g c =
    let dealt = dealt c.args.hall c.args.passes.items c.pop.new.self.items c.pop-2.new.self.items c.pop.result
    c.pop-2.result c.unwrap-own.result c.unwrap-first.result c.requires.new c.pop.ensures.items c.unwrap-own.ensures
    c.pop-2.ensures.items c.unwrap-first.ensures in
    rw dealt.1 refl

pub new-desk-requires-clause-unseen : goal.new-desk-requires-clause-unseen
new-desk-requires-clause-unseen g c =
    let dealt = dealt c.args.hall c.args.passes.items c.pop.new.self.items c.pop-2.new.self.items c.pop.result
    c.pop-2.result c.unwrap-own.result c.unwrap-first.result c.requires.new c.pop.ensures.items c.unwrap-own.ensures
    c.pop-2.ensures.items c.unwrap-first.ensures in
    rw dealt.1 refl

pub new-desk-requires-clause-unused : goal.new-desk-requires-clause-unused
new-desk-requires-clause-unused g c =
    let dealt = dealt c.args.hall c.args.passes.items c.pop.new.self.items c.pop-2.new.self.items c.pop.result
    c.pop-2.result c.unwrap-own.result c.unwrap-first.result c.requires.new c.pop.ensures.items c.unwrap-own.ensures
    c.pop-2.ensures.items c.unwrap-first.ensures in
    rw dealt.1 refl

pub serve_new-failed-requires-clause-unseen : goal.serve_new-failed-requires-clause-unseen
serve_new-failed-requires-clause-unseen g c =
    let dealt = dealt c.args.hall c.args.passes.items c.pop.new.self.items c.pop-2.new.self.items c.pop.result
    c.pop-2.result c.unwrap-own.result c.unwrap-first.result c.requires.new c.pop.ensures.items c.unwrap-own.ensures
    c.pop-2.ensures.items c.unwrap-first.ensures in
    rw (c.new-desk.ensures.pass, dealt.1) refl

pub serve_new-failed-requires-clause-unused : goal.serve_new-failed-requires-clause-unused
serve_new-failed-requires-clause-unused g c =
    let dealt = dealt c.args.hall c.args.passes.items c.pop.new.self.items c.pop-2.new.self.items c.pop.result
    c.pop-2.result c.unwrap-own.result c.unwrap-first.result c.requires.new c.pop.ensures.items c.unwrap-own.ensures
    c.pop-2.ensures.items c.unwrap-first.ensures in
    rw (c.new-desk.ensures.pass, dealt.1) refl

-- the row is whole again
whole : (g : _) (c : goal.After-push_reserved-2 g) →
    (c.push_reserved-2.new.self.items ≡ c.into_pass.result ∷ c.unwrap-own.result ∷ [])
    × AreReady c.args.hall c.push_reserved-2.new.self.items
whole g c =
    let dealt = dealt c.args.hall c.args.passes.items c.pop.new.self.items c.pop-2.new.self.items c.pop.result
    c.pop-2.result c.unwrap-own.result c.unwrap-first.result c.requires.new c.pop.ensures.items c.unwrap-own.ensures
    c.pop-2.ensures.items c.unwrap-first.ensures in
    both_ready g.B.Acts.made c.args.hall c.pop-2.new.self.items c.push_reserved.new.self.items
    c.push_reserved-2.new.self.items c.unwrap-first.result c.into_pass.result c.unwrap-own.result c.new-desk.result
    c.serve_new-failed.new.desk c.requires.two dealt.0 dealt.1 dealt.2 c.new-desk.ensures.table c.new-desk.ensures.pass
    c.serve_new-failed.ensures.on c.into_pass.ensures.pass c.into_pass.ensures.table c.into_pass.ensures.free
    c.push_reserved.ensures.items c.push_reserved-2.ensures.items

pub close-server-requires-clause-hall : goal.close-server-requires-clause-hall
close-server-requires-clause-hall g c = ready_table c.args.hall c.push_reserved-2.new.self.items (whole g c).1

pub close-server-requires-clause-every : goal.close-server-requires-clause-every
close-server-requires-clause-every g c = ready_every c.args.hall c.push_reserved-2.new.self.items (whole g c).1

pub close-server-requires-clause-free : goal.close-server-requires-clause-free
close-server-requires-clause-free g c = ready_free c.args.hall c.push_reserved-2.new.self.items (whole g c).1

pub returns-clause-run : goal.returns-clause-run
returns-clause-run g c =
    let dealt = dealt c.args.hall c.args.passes.items c.pop.new.self.items c.pop-2.new.self.items c.pop.result
    c.pop-2.result c.unwrap-own.result c.unwrap-first.result c.requires.new c.pop.ensures.items c.unwrap-own.ensures
    c.pop-2.ensures.items c.unwrap-first.ensures in
    let whole = both_ready g.B.Acts.made c.args.hall c.pop-2.new.self.items c.push_reserved.new.self.items
    c.push_reserved-2.new.self.items c.unwrap-first.result c.into_pass.result c.unwrap-own.result c.new-desk.result
    c.serve_new-failed.new.desk c.requires.two dealt.0 dealt.1 dealt.2 c.new-desk.ensures.table c.new-desk.ensures.pass
    c.serve_new-failed.ensures.on c.into_pass.ensures.pass c.into_pass.ensures.table c.into_pass.ensures.free
    c.push_reserved.ensures.items c.push_reserved-2.ensures.items in
    run_closed g.B.Acts.made g.B.Acts.server g.B.Booked.pass_of g.B.Booked.led g.met.B.Acts.names g.met.B.Acts.leads
    g.G.Link.Link.view c.args.hall c.push_reserved-2.new.self.items c.close-server.result.0 c.close-server.result.1
    c.unwrap-first.result c.into_pass.result c.unwrap-own.result c.new-desk.result c.serve_new-failed.new.desk
    (g.G.Gate.view c.serve_new-failed.new.gate) (g.C.Clock.gave c.serve_new-failed.new.clock) c.requires.two
    c.requires.opening c.close-server.ensures.leads c.close-server.ensures.closed whole.0 c.close-server.ensures.others
    dealt.1 dealt.2 c.new-desk.ensures.start c.new-desk.ensures.pass c.serve_new-failed.ensures.on
    c.into_pass.ensures.pass c.serve_new-failed.ensures.serves c.serve_new-failed.ensures.all_back

pub returns-clause-free : goal.returns-clause-free
returns-clause-free g c = rw c.close-server.ensures.own.1 refl
