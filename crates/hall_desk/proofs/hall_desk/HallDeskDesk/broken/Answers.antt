use Rattle.kom_types.specs.declared.acts.Act.{Act}
use Rattle.kom_types.specs.declared.acts.Act.TheVariants as act
use Rattle.hall_desk.proofs.DeskViews.{broken_acted, acted_on}
use Rattle.hall_desk.proofs.Answering.{answers_told}
use Rattle.hall_desk.proofs.hall_desk.HallDeskDesk.broken.Goals as goal

pub returns : goal.returns
returns g c =
    let what : Act = act.Broken c.args.session in
    record {
      acts = broken_acted c.args.self.now c.act.new.self c.args.moment c.args.session c.act.result
          c.answer_of.result c.requires c.act.ensures c.answer_of.ensures;
      on = acted_on c.args.self.now c.act.new.self c.args.moment what c.act.result c.act.ensures;
      answer = answers_told c.args.self.now c.act.new.self c.args.moment what c.act.ensures.items c.act.result
          c.answer_of.result c.act.ensures.turn (λ flush. cc) c.answer_of.ensures;
    }
