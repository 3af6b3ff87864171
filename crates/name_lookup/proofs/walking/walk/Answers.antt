use Rattle.std.proofs.Common.{◌≡◌, ℕ, ◌+◌, ◌++◌, List, max, take, sym, ap, ◌∙◌, arith}
use Rattle.name_lookup.specs.declared.order.By.TheVariants.{Letters}
use Rattle.name_lookup.proofs.Orders.{below_first}
use Rattle.name_lookup.proofs.Walks.{walked_all, walked_to, walked_out}
use Rattle.name_lookup.proofs.walking.walk.Goals as goal

pub first_at-sought-requires : goal.first_at-sought-requires
first_at-sought-requires c =
    below_first c.args.kept.now.entries Letters c.as_slice.result.now c.args.order.now.numbers c.requires

pub loop-place-preserved-in-Found : goal.loop-place-preserved-in-Found
loop-place-preserved-in-Found c =
    let passed = c.in_ok-passed.passed in
    let all = walked_all c.args.kept.now.entries c.args.order.now.numbers c.args.pattern.now c.ahead_of-ahead.result.now
    c.loop-place.place passed c.push_found.new.target.items c.requires c.ahead_of-ahead.ensures
    c.in_ok-passed.ensures.passed c.in-Found.is in
    record {
      within = all.1;
      found = c.in_ok-passed.ensures.numbers
          ∙ ap (λ (l : List ℕ). l ++ take passed.len c.ahead_of-ahead.result.now) c.loop-place.invariant.found
          ∙ sym all.2;
    }

pub loop-place-preserved-in-Seek : goal.loop-place-preserved-in-Seek
loop-place-preserved-in-Seek c =
    let passed = c.in_ok-passed.passed in
    let next : c.max-next.result ≡ max c.first_at-sought.result (c.loop-place.place + passed.len + 1) =
    c.max-next.ensures in
    let below = rw c.as_slice.ensures.value at c.first_at-sought.ensures.first.0 in
    let all = walked_to c.args.kept.now.entries c.args.order.now.numbers c.args.pattern.now c.ahead_of-ahead.result.now
    c.loop-place.place passed c.push_found.new.target.items c.requires c.ahead_of-ahead.ensures
    c.in_ok-passed.ensures.passed c.in-Seek.is c.first_at-sought.result c.first_at-sought.ensures.bound below in
    rw next (record {
      within = all.0;
      found = c.in_ok-passed.ensures.numbers
          ∙ ap (λ (l : List ℕ). l ++ take passed.len c.ahead_of-ahead.result.now) c.loop-place.invariant.found
          ∙ sym all.1;
    })

pub loop-place-preserved : goal.loop-place-preserved
loop-place-preserved c =
    let passed = c.in_ok-passed.passed in
    let all = walked_out c.args.kept.now.entries c.args.order.now.numbers c.args.pattern.now c.ahead_of-ahead.result.now
    c.loop-place.place passed c.push_found.new.target.items c.requires c.ahead_of-ahead.ensures
    c.in_ok-passed.ensures.passed c.in-End.is in
    rw c.len-next.ensures (record {
      within = omega arith;
      found = c.in_ok-passed.ensures.numbers
          ∙ ap (λ (l : List ℕ). l ++ take passed.len c.ahead_of-ahead.result.now) c.loop-place.invariant.found
          ∙ sym all;
    })
