use Rattle.std.proofs.Common.{None}
use Rattle.kom_session.specs.Known.{sight}
use Rattle.kom_talk.proofs.Turning.{untouched}
use Rattle.kom_talk.proofs.conversation.ConversationConverse.begin.Goals as goal

pub returns : goal.returns
returns g c = λ desk blank fresh.
    let link = g.L.Link.view c.args._link.now in
    record {
      start = sight desk link None;
      blank = blank;
      fresh = fresh;
      kept = c.new.ensures.kept (sight desk link None) (untouched link fresh);
    }
