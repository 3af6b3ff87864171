use Rattle.std.proofs.Common.{ℕ, refl, subst, sym}
use Rattle.kom_types.specs.declared.acts.Act.{Act}
use Rattle.kom_links.specs.declared.deeds.Deed.TheVariants as deed
use Rattle.kom_links.specs.Answers.{deed_of}
use Rattle.kom_links.specs.DeskCalls.{Connects}
use Rattle.kom_model.specs.Legal.{HasUser}
use Rattle.std.specs.Prelude.{◌≡◌, Ok, Err}
use Rattle.hall_desk.specs.Desks.{desk_view}
use Rattle.hall_desk.specs.Turns.{IsOfOpen}
use Rattle.hall_desk.proofs.DeskViews.{connects_made, connects_refused, acted_on}
use Rattle.hall_desk.proofs.Answering.{answers_connected, answers_unconnected}
use Rattle.hall_desk.proofs.hall_desk.HallDeskDesk.connect.Goals as goal

pub act-requires-clause-open : goal.act-requires-clause-open
act-requires-clause-open g c =
    subst (λ (what : Act). IsOfOpen c.args.self.now.pass.mine what) (sym c.in-Ok.ensures) tt

pub act-requires-clause-user : goal.act-requires-clause-user
act-requires-clause-user g c = subst HasUser (sym c.in-Ok.ensures) c.requires

pub act-requires-clause-deed : goal.act-requires-clause-deed
act-requires-clause-deed g c = subst (λ (what : Act). deed.Connect ≡ deed_of what) (sym c.in-Ok.ensures) refl

pub returns-in-Ok-act : goal.returns-in-Ok-act
returns-in-Ok-act g c = record {
  connects = subst (λ (session : ℕ). Connects (desk_view c.args.self.now) c.args.moment c.args.user.now
      c.args.host.now (Ok session) (desk_view c.act.new.self)) (sym c.session.ensures)
      (connects_made c.args.self.now c.act.new.self c.args.moment c.in-Ok.act c.args.user.now c.args.host.now
      c.in-Ok-act.made c.in-Ok.ensures c.in-Ok-act.ensures);
  on = acted_on c.args.self.now c.act.new.self c.args.moment c.in-Ok.act (Ok c.in-Ok-act.made) c.in-Ok-act.ensures;
  answer = answers_connected c.args.self.now c.act.new.self c.args.moment c.in-Ok.act c.args.user.now
      c.args.host.now c.in-Ok-act.made c.in-Ok.ensures c.in-Ok-act.ensures;
}

pub returns-in-Err : goal.returns-in-Err
returns-in-Err g c = record {
  connects = connects_refused c.args.self.now c.act.new.self c.args.moment c.in-Ok.act c.args.user.now
      c.args.host.now c.in-Err.fault c.in-Ok.ensures c.in-Err.ensures;
  on = acted_on c.args.self.now c.act.new.self c.args.moment c.in-Ok.act (Err c.in-Err.fault) c.in-Err.ensures;
  answer = answers_unconnected c.args.self.now c.act.new.self c.args.moment c.in-Ok.act c.args.user.now
      c.args.host.now c.in-Err.fault c.in-Ok.ensures c.in-Err.ensures;
}
