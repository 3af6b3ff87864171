use Rattle.std.proofs.Common.{◌<◌, ◌^◌, sym, subst, ap, refl, ◌∙◌}
use Rattle.kom_types.specs.declared.acts.Record.{Record}
use Rattle.kom_model.specs.Legal.{IsByOwner}
use Rattle.kom_model.specs.Refusal.{refusal_of}
use Rattle.hall_desk.proofs.Starting.{starts}
use Rattle.hall_desk.proofs.Locking.{room_in, owner_in, turn_made, turn_refused, ends_not_made, taken-none}
use Rattle.hall_desk.proofs.turning.turn.Goals as goal

pub make-requires-clause-room : goal.make-requires-clause-room
make-requires-clause-room g c =
    subst (λ value. (g.B.Acts.server value).entries < 2 ^ 62) (sym c.value.ensures.value)
    (room_in g.B.Acts.made g.B.Acts.server g.B.Booked.pass_of g.B.Booked.led g.met.B.Acts.names g.met.B.Acts.leads
    c.args.hall.now c.args.pass.now c.in-Ok.held c.take.new.pass
    (starts (g.B.Acts.server c.args.hall.now.opening) c.requires.opening) c.in-Ok.ensures.turn)

pub make-requires-clause-own : goal.make-requires-clause-own
make-requires-clause-own g c =
    subst (λ value. IsByOwner (g.B.Acts.server value) c.args.entry.now) (sym c.value.ensures.value)
    (owner_in g.B.Acts.made g.B.Acts.server g.B.Booked.pass_of g.B.Booked.led g.met.B.Acts.names g.met.B.Acts.leads
    c.args.hall.now c.args.pass.now c.in-Ok.held c.take.new.pass c.args.entry.now
    (starts (g.B.Acts.server c.args.hall.now.opening) c.requires.opening) c.in-Ok.ensures.turn c.requires.own
    c.requires.open)

pub returns-in-Ok-make-clause-knows : goal.returns-in-Ok-make-clause-knows
returns-in-Ok-make-clause-knows g c =
    (turn_made g.B.Acts.made g.B.Acts.server g.B.Booked.pass_of g.B.Booked.led g.met.B.Acts.names g.met.B.Acts.leads
    c.args.hall.now c.args.pass.now c.in-Ok.held c.make.new.self c.value.result.now c.in-Ok-make.logged c.put.new.pass
    c.args.entry.now c.make.new.items.items c.of-made.result
    c.requires.knows (record {
      taken = c.take.new.pass;
      after_log = c.log.new.pass;
      takes = c.in-Ok.ensures.turn;
      logs = c.log.ensures.logged;
      puts = c.put.ensures;
    }) c.value.ensures.value
    c.in-Ok-make.ensures.comes.1
    (ap (λ (made : Record). made.session) c.of-made.ensures ∙ c.session.ensures)
    (ap (λ (made : Record). made.short) c.of-made.ensures ∙ c.is_short.ensures)
    c.make.ensures.taken c.requires.own
    (subst (λ value. IsByOwner (g.B.Acts.server value) c.args.entry.now) (sym c.value.ensures.value)
    (owner_in g.B.Acts.made g.B.Acts.server g.B.Booked.pass_of g.B.Booked.led g.met.B.Acts.names g.met.B.Acts.leads
    c.args.hall.now c.args.pass.now c.in-Ok.held c.take.new.pass c.args.entry.now
    (starts (g.B.Acts.server c.args.hall.now.opening) c.requires.opening) c.in-Ok.ensures.turn c.requires.own
    c.requires.open))).0

pub returns-in-Ok-make-clause-ends : goal.returns-in-Ok-make-clause-ends
returns-in-Ok-make-clause-ends g c =
    (turn_made g.B.Acts.made g.B.Acts.server g.B.Booked.pass_of g.B.Booked.led g.met.B.Acts.names g.met.B.Acts.leads
    c.args.hall.now c.args.pass.now c.in-Ok.held c.make.new.self c.value.result.now c.in-Ok-make.logged c.put.new.pass
    c.args.entry.now c.make.new.items.items c.of-made.result
    c.requires.knows (record {
      taken = c.take.new.pass;
      after_log = c.log.new.pass;
      takes = c.in-Ok.ensures.turn;
      logs = c.log.ensures.logged;
      puts = c.put.ensures;
    }) c.value.ensures.value
    c.in-Ok-make.ensures.comes.1
    (ap (λ (made : Record). made.session) c.of-made.ensures ∙ c.session.ensures)
    (ap (λ (made : Record). made.short) c.of-made.ensures ∙ c.is_short.ensures)
    c.make.ensures.taken c.requires.own
    (subst (λ value. IsByOwner (g.B.Acts.server value) c.args.entry.now) (sym c.value.ensures.value)
    (owner_in g.B.Acts.made g.B.Acts.server g.B.Booked.pass_of g.B.Booked.led g.met.B.Acts.names g.met.B.Acts.leads
    c.args.hall.now c.args.pass.now c.in-Ok.held c.take.new.pass c.args.entry.now
    (starts (g.B.Acts.server c.args.hall.now.opening) c.requires.opening) c.in-Ok.ensures.turn c.requires.own
    c.requires.open))).1

pub returns-in-Err-make-clause-knows : goal.returns-in-Err-make-clause-knows
returns-in-Err-make-clause-knows g c =
    (turn_refused g.B.Acts.made g.B.Acts.server g.B.Booked.pass_of g.B.Booked.led g.met.B.Acts.names g.met.B.Acts.leads
    c.args.hall.now c.args.pass.now c.in-Ok.held c.value.result.now c.put-in-Err-make.new.pass c.args.entry.now.act
    (refusal_of (g.B.Acts.server c.value.result.now) c.args.entry.now.act) c.requires.knows (record {
      taken = c.take.new.pass;
      takes = c.in-Ok.ensures.turn;
      puts = c.put-in-Err-make.ensures;
    }) c.value.ensures.value refl).0

pub returns-in-Err-make-clause-ends : goal.returns-in-Err-make-clause-ends
returns-in-Err-make-clause-ends g c =
    ends_not_made (g.B.Acts.server c.value.result.now) _ _ _ c.args.entry.now c.make.new.items.items c.in-Err-make.why
    c.in-Err-make.ensures.comes.2
    (turn_refused g.B.Acts.made g.B.Acts.server g.B.Booked.pass_of g.B.Booked.led g.met.B.Acts.names g.met.B.Acts.leads
    c.args.hall.now c.args.pass.now c.in-Ok.held c.value.result.now c.put-in-Err-make.new.pass c.args.entry.now.act
    (refusal_of (g.B.Acts.server c.value.result.now) c.args.entry.now.act) c.requires.knows (record {
      taken = c.take.new.pass;
      takes = c.in-Ok.ensures.turn;
      puts = c.put-in-Err-make.ensures;
    }) c.value.ensures.value refl).1

pub returns-in-Err-make-clause-none_taken : goal.returns-in-Err-make-clause-none_taken
returns-in-Err-make-clause-none_taken g c =
    c.make.ensures.taken
    ∙ taken-none (g.B.Acts.server c.value.result.now) c.args.entry.now.act c.in-Err-make.why
    c.in-Err-make.ensures.comes.2
