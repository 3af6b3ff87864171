use Rattle.std.proofs.Common.{◌≡◌, ℕ, suc, ◌+◌, List, [], ◌∷◌, ◌++◌, length, take, sym, ap, ◌∙◌, arith, append-nil}
use Rattle.std.proofs.Common.{append_assoc}
use Rattle.std.proofs.lemmas.List.{length-append, length-take-le, take_all}
use Rattle.map_chain.specs.Pairs.{Pair}
use Rattle.map_chain.proofs.Lists.{take_get}
use Rattle.map_chain.proofs.block.Block.extend.Goals as goal

pub loop-k-init : goal.loop-k-init
loop-k-init c = sym (append-nil c.args.self.now)

pub push-requires : goal.push-requires
push-requires c =
    let ps : List Pair = c.args.self.now in let more : List Pair = c.args.more.now in let k : ℕ = c.loop-k.k in
    let all = ap (λ (l : List Pair). length l) c.loop-k.invariant ∙ length-append ps (take k more) in
    let some = length-take-le k more (omega arith) in omega arith

pub loop-k-preserved : goal.loop-k-preserved
loop-k-preserved c =
    let ps : List Pair = c.args.self.now in let more : List Pair = c.args.more.now in let k : ℕ = c.loop-k.k in
    let q : Pair = c.pair-local.result in let next : suc k ≡ k + 1 = omega arith in
    c.push.ensures ∙ ap (λ (l : List Pair). l ++ q ∷ []) c.loop-k.invariant ∙ append_assoc ps (take k more) (q ∷ [])
    ∙ ap (λ (l : List Pair). ps ++ l) (sym (take_get more k q c.pair-local.ensures) ∙ ap (λ (j : ℕ). take j more) next)

pub returns : goal.returns
returns c =
    let ps : List Pair = c.args.self.now in let more : List Pair = c.args.more.now in
    c.loop-k.invariant ∙ ap (λ (l : List Pair). ps ++ l) (take_all c.loop-k.k more (omega arith))
