use Rattle.std.proofs.Common.{◌≡◌, None, Some}
use Rattle.kom_book.proofs.inner.Inner.keep_in.Goals as goal

pub invariant_of-self : goal.invariant_of-self
invariant_of-self g c = record {
  marked = c.self.invariant.marked;
  whole = λ none. c.requires;
  unstored = λ none. absurd (let wrong : Some c.args.store ≡ None = none in cc);
}
