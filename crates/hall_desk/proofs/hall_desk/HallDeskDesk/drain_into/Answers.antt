use Rattle.kom_types.specs.declared.acts.Act.{Act}
use Rattle.kom_types.specs.declared.acts.Act.TheVariants as act
use Rattle.kom_links.specs.declared.deeds.Deed.TheVariants as deed
use Rattle.hall_desk.proofs.DeskViews.{drain_known, drains_told, turn_told, goes_turn}
use Rattle.hall_desk.proofs.Answering.{answers_told}
use Rattle.hall_desk.proofs.hall_desk.HallDeskDesk.drain_into.Goals as goal

pub tell-requires : goal.tell-requires
tell-requires g c =
    drain_known c.args.self.now c.make.new.self c.args.moment c.args.session c.make.new.items.items c.make.result
    c.answer_of-answer.result c.is_empty.result c.requires c.make.ensures.turn c.make.ensures.none_taken
    c.answer_of-answer.ensures c.is_empty.ensures

pub returns : goal.returns
returns g c =
    let what : Act = act.Drain c.args.session in
    let turn = turn_told c.args.self.now c.make.new.self c.tell.new.self c.args.moment what c.make.new.items.items
    c.make.result (deed.Drain c.args.session c.is_empty.result) c.answer_of-answer.result c.make.ensures.turn
    c.tell.ensures in
    record {
      drains = drains_told c.args.self.now c.make.new.self c.tell.new.self c.args.moment c.args.session
          c.make.new.items.items c.make.result c.answer_of-answer.result c.is_empty.result c.requires
          c.make.ensures.turn c.make.ensures.none_taken c.answer_of-answer.ensures c.is_empty.ensures
          c.make.ensures.answers c.tell.ensures;
      on = goes_turn c.args.self.now c.tell.new.self c.args.moment what c.make.new.items.items c.make.result turn;
      answer = answers_told c.args.self.now c.tell.new.self c.args.moment what c.make.new.items.items c.make.result
          c.answer_of-answer.result turn (λ flush. cc) c.answer_of-answer.ensures;
    }
