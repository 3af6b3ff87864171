use Rattle.std.proofs.Common.{ℕ, get_or, arith}
use Rattle.map_chain.specs.Pairs.{Pair}
use Rattle.map_chain.proofs.Lists.{shown_length, shown_at, rising_at, rising_from}
use Rattle.map_chain.proofs.block.Block.find_near.Goals as goal

pub returns-then-self-guess : goal.returns-then-self-guess
returns-then-self-guess c =
    let s = c.self.inside in let now = c.args.self.now in let v = c.self.invariant in let k : ℕ = c.args.guess in
    let q : Pair = get_or s.pairs k (0, 0) in
    let n = shown_length s.len s.high s.pairs now v c.self.view_is in
    let less = c.if-guess-self.true in let same = c.if-self-guess.true in
    let at = shown_at s.len s.high s.pairs now v c.self.view_is k (omega arith) in (
      omega arith,
      rising_at c.args.local now k q c.requires at (omega arith),
      rising_from c.args.local now k q c.requires at (omega arith),
    )
