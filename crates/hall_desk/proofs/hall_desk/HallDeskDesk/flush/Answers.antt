use Rattle.kom_types.specs.declared.acts.Act.TheVariants as act
use Rattle.kom_links.specs.declared.deeds.Deed.TheVariants as deed
use Rattle.hall_desk.proofs.DeskViews.{flush_answer_known, flush_told, turn_told, goes_turn}
use Rattle.hall_desk.proofs.Answering.{answers_flush}
use Rattle.hall_desk.proofs.hall_desk.HallDeskDesk.flush.Goals as goal

pub tell-requires : goal.tell-requires
tell-requires g c =
    flush_answer_known c.args.self.now c.make_alone.new.self c.args.moment c.make_alone.ensures.turn.0
    c.make_alone.result c.flush_answer-answer.result c.make_alone.ensures.turn.1 c.flush_answer-answer.ensures

pub returns : goal.returns
returns g c =
    let turn = turn_told c.args.self.now c.make_alone.new.self c.tell.new.self c.args.moment act.Flush
    c.make_alone.ensures.turn.0 c.make_alone.result deed.Flush c.flush_answer-answer.result
    c.make_alone.ensures.turn.1 c.tell.ensures in
    record {
      flushes = flush_told c.args.self.now c.make_alone.new.self c.tell.new.self c.args.moment
          c.make_alone.ensures.turn.0 c.make_alone.result c.flush_answer-answer.result c.make_alone.ensures.turn.1
          c.flush_answer-answer.ensures c.make_alone.ensures.answers c.tell.ensures;
      on = goes_turn c.args.self.now c.tell.new.self c.args.moment act.Flush c.make_alone.ensures.turn.0
          c.make_alone.result turn;
      answer = answers_flush c.args.self.now c.tell.new.self c.args.moment c.make_alone.ensures.turn.0
          c.make_alone.result c.flush_answer-answer.result turn c.flush_answer-answer.ensures;
    }
