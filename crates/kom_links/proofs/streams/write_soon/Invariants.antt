-- The writes so far could not be made, and left the writer as it was.
use Rattle.std.specs.Io.KnownBytes.{Keeps}
use Rattle.kom_links.proofs.streams.write_soon.Given as goal

abbrev pub invariant-loop : goal.invariant-loop
invariant-loop g l = Keeps (g.W.Write.contents l.fn.writer) (g.W.Write.contents l.writer)
