-- What is said of a read and a write of a stream, beside the bytes.
use Rattle.std.specs.Prelude.{ℕ, ◌<◌, ◌≤◌}
use Rattle.kom_links.specs.declared.link.Got.{Got}
use Rattle.kom_links.specs.declared.link.Got.TheVariants as got
use Rattle.kom_links.specs.declared.link.Took.{Took}
use Rattle.kom_links.specs.declared.link.Took.TheVariants as took

-- a read that gives bytes gives at least one, and at most as many as there is room for
abbrev pub GivesWithin : ℕ → Got → Type 0
GivesWithin room (got.Some count) = (0 < count) × (count ≤ room)
GivesWithin room got.NotYet = Unit {0}
GivesWithin room got.End = Unit {0}
GivesWithin room got.Failed = Unit {0}

-- a write that takes bytes takes at least one, and at most as many as there are
abbrev pub TakesWithin : ℕ → Took → Type 0
TakesWithin size (took.Some count) = (0 < count) × (count ≤ size)
TakesWithin size took.NotYet = Unit {0}
TakesWithin size took.Failed = Unit {0}
