use Rattle.std.proofs.Common.{rules}
use Rattle.std.proofs.lemmas.List.FromFn.{fill_by_all}
use Rattle.kom_types.specs.Names.{fold}
use Rattle.query_calls.proofs.on_conferences.folded_bytes.Goals as goal

pub returns : goal.returns
returns c = fill_by_all fold c.loop-byte.table 256 0 c.loop-byte.invariant.0 (search rules)
