use Rattle.std.proofs.Common.{refl, ◌∙◌, []}
use Rattle.kom_client.specs.Talking.{Counts}
use Rattle.kom_client.specs.Talkers.{typing_of, world}
use Rattle.kom_client.proofs.Talks.{talk_unsaid, talk_greeted, greeted_cause, talk_finished, finished_by}
use Rattle.kom_client.proofs.Talks.{finished_cause}
use Rattle.kom_client.proofs.talking.talk.Goals as goal

pub returns-in_default-new-clause-talk : goal.returns-in_default-new-clause-talk
returns-in_default-new-clause-talk g c =
    talk_unsaid c.args.user.now (g.K.Link.view c.args.keys.now) (g.L.Link.view c.args.link.now)
    (g.S.Sink.view c.args.out.now) c.requires.keys_untouched c.requires.link_untouched c.requires.nothing_shown

pub returns-in-Ok-greet-clause-talk : goal.returns-in-Ok-greet-clause-talk
returns-in-Ok-greet-clause-talk g c =
    let link = g.L.Link.view c.args.link.now in
    let sink = g.S.Sink.view c.args.out.now in
    let start : Counts = record { link = link.faults; sink = sink.faults } in
    talk_finished c.args.user.now c.take_keys.result start (g.K.Link.view c.args.keys.now)
    (g.K.Link.view c.take_keys.new.keys)
    (typing_of c.greet.new.self [] (g.L.Link.view c.greet.new.link) sink)
    (world c.take_keys.new.talker (g.L.Link.view c.take_keys.new.link) (g.S.Sink.view c.take_keys.new.out))
    (c.in-Ok-greet.ensures.turn ∙ c.in-Ok.ensures.turn)
    (c.in-Ok-greet.ensures.greets sink c.requires.nothing_shown) c.take_keys.ensures

pub returns-in-Ok-greet-clause-cause : goal.returns-in-Ok-greet-clause-cause
returns-in-Ok-greet-clause-cause g c =
    let link = g.L.Link.view c.args.link.now in
    let sink = g.S.Sink.view c.args.out.now in
    let start : Counts = record { link = link.faults; sink = sink.faults } in
    let at = world c.take_keys.new.talker (g.L.Link.view c.take_keys.new.link) (g.S.Sink.view c.take_keys.new.out) in
    finished_cause c.take_keys.result start (g.K.Link.view c.args.keys.now) (g.K.Link.view c.take_keys.new.keys)
    link sink at refl refl
    (finished_by c.args.user.now c.take_keys.result start (g.K.Link.view c.args.keys.now)
    (g.K.Link.view c.take_keys.new.keys)
    (typing_of c.greet.new.self [] (g.L.Link.view c.greet.new.link) sink) at
    (c.in-Ok-greet.ensures.greets sink c.requires.nothing_shown) c.take_keys.ensures)

pub returns-clause-talk : goal.returns-clause-talk
returns-clause-talk g c =
    let link = g.L.Link.view c.args.link.now in
    let sink = g.S.Sink.view c.args.out.now in
    let start : Counts = record { link = link.faults; sink = sink.faults } in
    talk_greeted c.args.user.now c.in-Err.end start (g.K.Link.view c.args.keys.now)
    (world c.greet.new.self (g.L.Link.view c.greet.new.link) sink) c.requires.keys_untouched
    (c.in-Err.ensures.greets sink c.requires.nothing_shown)

pub returns-clause-cause : goal.returns-clause-cause
returns-clause-cause g c =
    let link = g.L.Link.view c.args.link.now in
    let sink = g.S.Sink.view c.args.out.now in
    let start : Counts = record { link = link.faults; sink = sink.faults } in
    let at = world c.greet.new.self (g.L.Link.view c.greet.new.link) sink in
    greeted_cause c.in-Err.end start (g.K.Link.view c.args.keys.now) (g.K.Link.view c.args.keys.now) link sink at
    refl refl (c.in-Err.ensures.greets sink c.requires.nothing_shown).4
