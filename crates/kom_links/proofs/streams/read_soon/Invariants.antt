-- The reads so far found nothing ready, and took nothing.
use Rattle.std.specs.Io.KnownBytes.{Keeps}
use Rattle.kom_links.proofs.streams.read_soon.Given as goal

abbrev pub invariant-loop : goal.invariant-loop
invariant-loop g l = Keeps (g.R.Read.remaining l.fn.reader) (g.R.Read.remaining l.reader)
