use Rattle.std.proofs.Common.{arith, ◌≡◌, ◌<◌, ◌≤◌, ◌+◌, ◌-◌, ℕ, min, List, take, length, get_or, ap, subst, sym}
use Rattle.std.proofs.lemmas.List.{take_all}
use Rattle.memory_links.proofs.Cuts.{IsMostOf, most_more}
use Rattle.memory_links.proofs.memory_link.MemoryLink.ready.Goals as goal
use Rattle.memory_links.proofs.memory_link.MemoryLink.ready.Goals.{then-self-cut, else-self-cut}

-- the lemma on the next cut, where the cuts are read through another name of theirs
most_more_of : (room left limit : ℕ) (seen cuts : List ℕ) (index place count next : ℕ) → seen ≡ cuts →
    index < length seen → IsMostOf room left limit (take index cuts) place count
    → (place < get_or seen index 0 → next ≡ min count (get_or seen index 0 - place)) →
    (get_or seen index 0 ≤ place → next ≡ count) → IsMostOf room left limit (take (index + 1) cuts) place next
most_more_of room left limit seen cuts index place count next same within most after before =
    subst (λ some. IsMostOf room left limit (take (index + 1) some) place next) same
    (most_more room left limit seen index place count next within
    (subst (λ some. IsMostOf room left limit (take index some) place count) (sym same) most) after before)

pub loop-cut-preserved : goal.loop-cut-preserved
loop-cut-preserved c =
    let cut : ℕ = get_or c.deref-cut-items.result.now c.loop-cut.cut-index 0 in
    let after : c.args.self.now.taken < cut → c.if-self-cut.count ≡ min c.loop-cut.count (cut - c.args.self.now.taken)
    = λ lt. elim c.if-self-cut.branch [ then-self-cut w ↦ omega arith | else-self-cut w ↦ omega arith ] in
    let before : cut ≤ c.args.self.now.taken → c.if-self-cut.count ≡ c.loop-cut.count
    = λ le. elim c.if-self-cut.branch [ then-self-cut w ↦ omega arith | else-self-cut w ↦ omega arith ] in
    let fewer : c.if-self-cut.count ≤ c.loop-cut.count =
    elim c.if-self-cut.branch [ then-self-cut w ↦ omega arith | else-self-cut w ↦ omega arith ] in
    record {
      fits = omega arith;
      there = omega arith;
      some = λ h. elim c.if-self-cut.branch [ then-self-cut w ↦ omega arith | else-self-cut w ↦ omega arith ];
      most = most_more_of c.args.room _ c.args.self.now.plan.most_read c.deref-cut-items.result.now
          c.args.self.now.plan.cuts.items c.loop-cut.cut-index c.args.self.now.taken c.loop-cut.count
          c.if-self-cut.count
          c.deref-cut-items.ensures.value c.loop-cut-test.true c.loop-cut.invariant.most after before;
    }

pub returns-clause-most : goal.returns-clause-most
returns-clause-most c =
    let seen : length c.args.self.now.plan.cuts.items ≤ c.loop-cut.cut-index =
    omega (arith, ap length c.deref-cut-items.ensures.value) in
    let all : take c.loop-cut.cut-index c.args.self.now.plan.cuts.items ≡ c.args.self.now.plan.cuts.items =
    take_all c.loop-cut.cut-index c.args.self.now.plan.cuts.items seen in
    rw all at c.loop-cut.invariant.most
