use Rattle.kom_hub.proofs.Within.{talk_of_seat}
use Rattle.kom_hub.proofs.law.whole_talk.Goals as goal

pub returns : goal.returns
returns c = λ host input output ended records session given ending full made has talk.
    talk_of_seat host input output ended records session given ending full made has talk
