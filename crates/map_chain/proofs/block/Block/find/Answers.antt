use Rattle.std.proofs.Common.{◌≡◌, ℕ, suc, ◌+◌, ◌-◌, ◌/◌, List, take, drop, get_or, sym}
use Rattle.std.proofs.Common.{subst, arith}
use Rattle.std.proofs.lemmas.List.{drop_all}
use Rattle.map_chain.specs.Pairs.{Pair, AllBelow, AllFrom}
use Rattle.map_chain.proofs.Lists.{shown_length, shown_at, rising_below, rising_from}
use Rattle.map_chain.proofs.block.Block.find.Goals as goal
use Rattle.map_chain.proofs.block.Block.find.Goals.{else-middle-self-via-then-middle-self+else-self-middle}
use Rattle.map_chain.proofs.block.Block.find.Goals.{else-middle-self-via-else-middle-self}

pub loop-low-init : goal.loop-low-init
loop-low-init c =
    let s = c.self.inside in let v = c.self.invariant in let most = v.within in
    let n = shown_length s.len s.high s.pairs c.args.self.now v c.self.view_is in
    record {
      ordered = omega arith;
      within = omega arith;
      few = omega arith;
      before = tt;
      after = subst (λ (ps : List Pair). AllFrom c.args.local ps) (sym (drop_all 64 c.args.self.now (omega arith))) tt;
    }

pub bounds-self-inside-middle : goal.bounds-self-inside-middle
bounds-self-inside-middle c =
    let v = c.self.invariant in let within = v.within in let i = c.loop-low.invariant in let a = i.ordered in
    let b = i.within in omega arith

pub loop-low-preserved-then-self-middle : goal.loop-low-preserved-then-self-middle
loop-low-preserved-then-self-middle c =
    let s = c.self.inside in let i = c.loop-low.invariant in let a = i.ordered in let b = i.within in
    let m : ℕ = c.loop-low.low + (c.loop-low.high - c.loop-low.low) / 2 in
    let next : suc m ≡ m + 1 = omega arith in let less = c.if-middle-self.true in
    let at = shown_at s.len s.high s.pairs c.args.self.now c.self.invariant c.self.view_is m (omega arith) in
    record {
      ordered = omega arith;
      within = omega arith;
      few = omega arith;
      before = subst (λ (k : ℕ). AllBelow c.args.local (take k c.args.self.now)) next
          (rising_below c.args.local c.args.self.now m (get_or s.pairs m (0, 0)) c.requires at c.if-self-middle.true);
      after = i.after;
    }

pub loop-low-preserved : goal.loop-low-preserved
loop-low-preserved c =
    let s = c.self.inside in let i = c.loop-low.invariant in let a = i.ordered in let b = i.within in
    let now = c.args.self.now in let n = shown_length s.len s.high s.pairs now c.self.invariant c.self.view_is in
    let m : ℕ = c.loop-low.low + (c.loop-low.high - c.loop-low.low) / 2 in
    let after : AllFrom c.args.local (drop m now) = elim c.else-middle-self.branch [
      | else-middle-self-via-then-middle-self+else-self-middle w ↦
          let less = w.if-middle-self.true in
          let at = shown_at s.len s.high s.pairs now c.self.invariant c.self.view_is m (omega arith) in
          rising_from c.args.local now m (get_or s.pairs m (0, 0)) c.requires at w.if-self-middle.false
      | else-middle-self-via-else-middle-self w ↦
          let more = w.if-middle-self.false in
          subst (λ (ps : List Pair). AllFrom c.args.local ps) (sym (drop_all m now (omega arith))) tt
    ] in
    record { ordered = omega arith; within = omega arith; few = i.few; before = i.before; after = after }

pub returns : goal.returns
returns c =
    let s = c.self.inside in let i = c.loop-low.invariant in let a = i.ordered in let b = i.few in
    let n = shown_length s.len s.high s.pairs c.args.self.now c.self.invariant c.self.view_is in
    let met : c.loop-low.high ≡ c.loop-low.low = omega arith in
    (omega arith, i.before, subst (λ (k : ℕ). AllFrom c.args.local (drop k c.args.self.now)) met i.after)
