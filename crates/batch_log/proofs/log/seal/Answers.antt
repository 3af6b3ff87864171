use Rattle.std.proofs.Common.{rules, ◌≡◌, ◌-◌, ◌++◌, ◌∷◌, [], ℕ, List, length, take, drop, ◌∙◌, ap, arith}
use Rattle.std.specs.Int.{w64, to_le_bytes}
use Rattle.std.proofs.lemmas.List.{length-drop, take-append-le, take_all}
use Rattle.batch_log.specs.Batches.{with_length}
use Rattle.batch_log.proofs.log.seal.Goals as goal

pub returns-clause-items : goal.returns-clause-items
unfolding with_length
returns-clause-items c =
    let old = c.args.chunk.now in
    let body = drop 8 old.items in
    let new = c.overwrite.new.bytes in
    let lent : c.as_mut_slice.result.now ≡ old.items = c.as_mut_slice.ensures.value in
    let counts : c.len.result - 8 ≡ length body = omega (arith, length-drop 8 old.items, c.len.ensures, old.ok.0) in
    let head : c.to_le_bytes.result ≡ to_le_bytes w64 (length body) =
    c.to_le_bytes.ensures ∙ ap (to_le_bytes w64) counts in
    let written : new ≡ with_length body =
    c.overwrite.ensures
    ∙ ap (λ (l : List ℕ). l ++ drop (length l) c.as_mut_slice.result.now) head
    ∙ ap (λ (l : List ℕ). to_le_bytes w64 (length body) ++ drop 8 l) lent in
    let size : length new ≡ old.len = omega (arith, c.overwrite.auto.bytes, ap length lent, old.ok.0) in
    let back : take old.len (new ++ drop (length new) old.items) ≡ new =
    take-append-le old.len new (drop (length new) old.items) (omega (arith, size))
    ∙ take_all old.len new (omega (arith, size)) in
    let pushed : c.push.new.self.items ≡ take old.len (new ++ drop (length new) old.items) ++ 0 ∷ [] = search rules in
    pushed ∙ ap (λ (l : List ℕ). l ++ 0 ∷ []) (back ∙ written)
