use Rattle.std.proofs.Common.{◌≡◌, ℕ, suc, ◌-◌, ◌<◌, List, length, take, get_or, sym, ap, subst, ◌∙◌, arith}
use Rattle.map_chain.specs.Pairs.{Pair, highest}
use Rattle.map_chain.proofs.Lists.{highest-take}
use Rattle.map_chain.proofs.block.Block.remove.Goals as goal
use Rattle.map_chain.proofs.block.Block.remove.Goals.{then-self-eq0, else-self-eq0}

-- the last of n pairs, where the index before n is had by a subtraction
top_of : (ps : List Pair) (n m : ℕ) → suc m ≡ n → m < length ps → highest (take n ps) ≡ (get_or ps m (0, 0)).0
top_of ps n m e h = subst (λ (k : ℕ). highest (take k ps) ≡ (get_or ps m (0, 0)).0) e (highest-take ps m (0, 0) h)

pub invariant_of-self : goal.invariant_of-self
invariant_of-self c =
    let s = c.self.inside in let v = c.self.invariant in let full = v.full in let within = v.within in
    let kept = c.close_gap.auto.pairs in let ps = c.close_gap.new.pairs in
    elim c.if-self-eq0.branch [
      | then-self-eq0 w ↦ record {
        full = kept ∙ full;
        within = omega arith;
        top = w.self-is
            ∙ sym (ap (λ (n : ℕ). highest (take n ps)) w.if-self-eq0.true);
      }
      | else-self-eq0 w ↦ let some = w.if-self-eq0.false in
          record {
            full = kept ∙ full;
            within = omega arith;
            top = w.self-is
                ∙ sym (top_of ps (s.len - 1) (s.len - 1 - 1) (omega arith) (omega arith));
          }
    ]
