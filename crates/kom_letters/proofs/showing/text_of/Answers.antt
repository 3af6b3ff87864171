use Rattle.kom_letters.proofs.Harmless.{chars_of_encoded}
use Rattle.kom_letters.proofs.showing.text_of.Goals as goal

pub returns : goal.returns
returns c = chars_of_encoded c.in_ok-text.text c.args.letters.now c.in_ok-text.ensures
