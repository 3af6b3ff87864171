use Rattle.std.proofs.Common.{refl}
use Rattle.kom_book.proofs.inner.Inner.new.Goals as goal

pub invariant_of-result : goal.invariant_of-result
invariant_of-result g c = record { marked = c.requires; whole = λ none. tt; unstored = λ none. refl }
