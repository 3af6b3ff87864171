use Rattle.std.proofs.Common.{ℕ, suc, ◌+◌, ◌≡◌, List, length, slice_get, get_or, Some, ap, subst, arith}
use Rattle.std.proofs.lemmas.Bool.Decides.{nat_tests}
use denote.RawPtr.{Ptr, null_ptr}
use Rattle.map_chain.specs.Pairs.{Pair}
use Rattle.map_chain.proofs.Linking.{one_block, get-within}
use Rattle.map_chain.proofs.Indexing.{places_length}
use Rattle.map_chain.proofs.joining.fit_together.Goals as goal

pub returns-then-i-places-clause-no : goal.returns-then-i-places-clause-no
returns-then-i-places-clause-no c = λ t.
    let within = get-within c.args.used.now (suc c.args.i) (t.next, t.more) t.second in
    let same = places_length c.args.places.now c.args.used.now c.requires.places in absurd (omega arith)

pub returns-clause-yes : goal.returns-clause-yes
returns-clause-yes c = λ yes.
    let p : Ptr = (get_or c.args.places.now c.args.i (record { ptr = null_ptr })).ptr in
    let q : Ptr = (get_or c.args.places.now (c.args.i + 1) (record { ptr = null_ptr })).ptr in
    let next : c.args.i + 1 ≡ suc c.args.i = omega arith in
    let first = c.len-pairs.ensures.len in let second = c.len-more.ensures.len in
    record {
      here = p;
      next = q;
      pairs = c.block.result.now;
      more = c.block-2.result.now;
      first = c.block.ensures;
      second = subst (λ (j : ℕ). slice_get c.args.used.now j ≡ Some (q, c.block-2.result.now)) next c.block-2.ensures;
      fits = grind (arith, nat_tests, yes, first, second);
    }

pub returns-clause-no : goal.returns-clause-no
returns-clause-no c = λ t.
    let used = c.args.used.now in let i : ℕ = c.args.i in
    let p : Ptr = (get_or c.args.places.now i (record { ptr = null_ptr })).ptr in
    let q : Ptr = (get_or c.args.places.now (i + 1) (record { ptr = null_ptr })).ptr in
    let next : suc i ≡ i + 1 = omega arith in
    let pairs = ap (λ (l : List Pair). length l)
    (one_block used i t.here p t.pairs c.block.result.now t.first c.block.ensures).1 in
    let more = ap (λ (l : List Pair). length l)
    (one_block used (i + 1) t.next q t.more c.block-2.result.now
    (subst (λ (j : ℕ). slice_get used j ≡ Some (t.next, t.more)) next t.second) c.block-2.ensures).1 in
    let first = c.len-pairs.ensures.len in let second = c.len-more.ensures.len in
    let fits = t.fits in grind (arith, nat_tests, pairs, more, first, second, fits)
