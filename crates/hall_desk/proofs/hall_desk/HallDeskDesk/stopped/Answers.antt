use Rattle.hall_desk.proofs.DeskViews.{HasAsked, question_answer_known, stopped_told, stopped_on}
use Rattle.hall_desk.proofs.Answering.{answers_stopped}
use Rattle.hall_desk.proofs.hall_desk.HallDeskDesk.stopped.Goals as goal

pub tell-requires : goal.tell-requires
tell-requires g c =
    question_answer_known c.args.self.now c.ask_stopped-stopped.new.self c.ask_stopped-stopped.result
    c.stop_answer.result c.ask_stopped-stopped.ensures.tells c.ask_stopped-stopped.ensures.start c.stop_answer.ensures

pub returns : goal.returns
returns g c =
    let asked : HasAsked c.args.self.now c.ask_stopped-stopped.result c.ask_stopped-stopped.new.self = record {
      tells = c.ask_stopped-stopped.ensures.tells;
      table = c.ask_stopped-stopped.ensures.table;
      start = c.ask_stopped-stopped.ensures.start;
      answers = c.ask_stopped-stopped.ensures.answers;
      stood = c.ask_stopped-stopped.ensures.stood;
    } in
    record {
      asks = stopped_told c.args.self.now c.ask_stopped-stopped.new.self c.tell.new.self c.ask_stopped-stopped.result
          c.stop_answer.result asked c.stop_answer.ensures c.tell.ensures;
      on = stopped_on c.args.self.now c.ask_stopped-stopped.new.self c.tell.new.self c.ask_stopped-stopped.result
          c.stop_answer.result asked c.tell.ensures;
      answer = answers_stopped c.args.self.now c.ask_stopped-stopped.new.self c.tell.new.self
          c.ask_stopped-stopped.result c.stop_answer.result c.ask_stopped-stopped.ensures.tells c.tell.ensures;
    }
