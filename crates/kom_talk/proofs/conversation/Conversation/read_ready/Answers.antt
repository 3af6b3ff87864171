use Rattle.kom_session.proofs.Going.{goes_same}
use Rattle.kom_talk.proofs.conversation.Conversation.read_ready.Goals as goal

pub returns-then-not-self : goal.returns-then-not-self
returns-then-not-self g c = record { goes = λ desk gave. goes_same _ }

pub returns : goal.returns
returns g c = record { goes = λ desk gave. c.read_once.ensures.goes desk gave }
