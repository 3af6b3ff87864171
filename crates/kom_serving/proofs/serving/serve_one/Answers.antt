use Rattle.kom_serving.proofs.Links.{first_more}
use Rattle.kom_serving.proofs.ServedLinks.{first_fact, serves_one, given_back}
use Rattle.kom_serving.proofs.serving.serve_one.Goals as goal

pub serve_link-served-requires : goal.serve_link-served-requires
serve_link-served-requires g c = record {
  untouched = record {
    nothing_taken = c.requires.fresh.nothing_taken;
    nothing_put = c.requires.fresh.nothing_put;
    not_ended = c.requires.fresh.not_ended;
    no_read = c.requires.fresh.no_read;
  };
}

pub returns-clause-serves : goal.returns-clause-serves
returns-clause-serves g c =
    serves_one g.G.Link.Link.view c.args.desk.now c.serve_link-served.new.desk (g.C.Clock.gave c.args.clock.now)
    (g.C.Clock.gave c.serve_link-served.new.clock) c.args.link c.serve_link-served.new.link c.serve_link-served.result
    (g.G.Gate.view c.args.gate.now).returned (g.G.Gate.view c.give_back.new.self).returned
    c.requires.fresh.no_fault
    (record {
      talk = c.serve_link-served.ensures.talk;
      session = c.serve_link-served.ensures.session;
      waits = let waits = c.serve_link-served.ensures.waits in (
        waits.0,
        waits.1,
        waits.2,
        waits.3,
        first_fact _ _ (g.G.Link.Link.view c.serve_link-served.new.link).reads waits.4,
      );
      cause = c.serve_link-served.ensures.cause;
      left = c.serve_link-served.ensures.left;
      others = c.serve_link-served.ensures.others;
    }) c.serve_link-served.ensures.goes_on c.assured.ensures.stands c.give_back.ensures.returned c.requires.serves

pub returns-clause-all_back : goal.returns-clause-all_back
returns-clause-all_back g c =
    given_back (g.G.Gate.view c.args.gate.now) (g.G.Gate.view c.give_back.new.self)
    (c.serve_link-served.new.link, c.serve_link-served.result) c.give_back.ensures.given c.give_back.ensures.returned
    c.requires.one_out

pub returns-clause-first : goal.returns-clause-first
returns-clause-first g c =
    first_more (g.C.Clock.gave c.args.clock.now) (g.C.Clock.gave c.serve_link-served.new.clock)
    c.serve_link-served.ensures.talk.0 c.serve_link-served.ensures.talk.4.1
