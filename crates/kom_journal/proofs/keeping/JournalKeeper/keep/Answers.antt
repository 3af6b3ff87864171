use Rattle.kom_journal.proofs.Short.{short_of_fits}
use Rattle.kom_journal.proofs.keeping.JournalKeeper.keep.Goals as goal

pub add-requires-clause-lengths : goal.add-requires-clause-lengths
add-requires-clause-lengths g c = short_of_fits c.args.effect.now c.requires.fits.0 c.requires.fits.1
