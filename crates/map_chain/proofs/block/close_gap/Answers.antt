use Rattle.std.proofs.Common.{◌≡◌, ℕ, suc, ◌+◌, ◌<◌, ◌≤◌, List, length, take, drop, get_or, set, subst, arith}
use Rattle.std.specs.List.{remove}
use Rattle.map_chain.specs.Pairs.{Pair}
use Rattle.map_chain.proofs.Lists.{gap_goes, gap_left}
use Rattle.map_chain.proofs.block.close_gap.Goals as goal

-- the same with the next index as the code writes it
goes : (d ps : List Pair) (k j n : ℕ) → suc j ≡ n → k ≤ j → n < length d → length ps ≡ length d
    → take j ps ≡ remove (take n d) k → drop n ps ≡ drop n d
    → (take n (set ps j (get_or ps n (0, 0))) ≡ remove (take (suc n) d) k) ×
    (drop (suc n) (set ps j (get_or ps n (0, 0))) ≡ drop (suc n) d)
goes d ps k j n next le m same before after =
    subst (λ (i : ℕ). i < length d → take j ps ≡ remove (take i d) k → drop i ps ≡ drop i d
    → (take i (set ps j (get_or ps i (0, 0))) ≡ remove (take (suc i) d) k) ×
    (drop (suc i) (set ps j (get_or ps i (0, 0))) ≡ drop (suc i) d)) next
    (λ w b a. (gap_goes d ps k j (0, 0) le w same b a, gap_left d ps j (get_or ps (suc j) (0, 0)) a)) m before after

pub loop-j-preserved : goal.loop-j-preserved
loop-j-preserved c =
    let i = c.loop-j.invariant in let d = c.args.pairs.now in let ps = c.loop-j.pairs in let j : ℕ = c.loop-j.j in
    let on = goes d ps c.args.k j (j + 1) (omega arith) (omega arith)
    (omega arith) c.loop-j.auto.pairs i.moved i.left in
    let next : suc (j + 1) ≡ j + 1 + 1 = omega arith in
    let x = get_or ps (j + 1) (0, 0) in
    record {
      moved = subst (λ (n : ℕ). take (j + 1) (set ps j x) ≡ remove (take n d) c.args.k) next on.0;
      left = subst (λ (n : ℕ). drop n (set ps j x) ≡ drop n d) next on.1;
    }
