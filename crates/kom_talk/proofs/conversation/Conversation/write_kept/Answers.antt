use Rattle.kom_session.proofs.Going.{goes_same}
use Rattle.kom_talk.proofs.conversation.Conversation.write_kept.Goals as goal

pub returns-then-eq : goal.returns-then-eq
returns-then-eq g c = record { goes = λ desk gave. c.write_once.ensures.goes desk gave }

pub returns : goal.returns
returns g c = record { goes = λ desk gave. goes_same _ }
