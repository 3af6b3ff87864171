use Rattle.std.proofs.Common.{◌+◌, [], List, ℕ, take, refl, ap, sym, subst, arith}
use Rattle.kom_types.specs.ByteKind.{kind_of}
use Rattle.kom_framing.specs.declared.lexer.Lexer.TheVariants as lexer
use Rattle.kom_framing.specs.Scanning.{IsBegun}
use Rattle.kom_framing.specs.BegunLines.{EndsIn}
use Rattle.kom_framing.proofs.WholeTokens.{skips, ends_between, nothing_begun}
use Rattle.kom_framing.proofs.whole.whole_line.Goals as goal

pub loop-at-init : goal.loop-at-init
loop-at-init c = record {
  within = omega arith;
  begun = λ side. subst (λ (s : List ℕ). IsBegun side [] s lexer.Between) (sym c.requires.fresh) (nothing_begun side);
}

pub returns-then-byte-eq10 : goal.returns-then-byte-eq10
returns-then-byte-eq10 c = λ side.
    ends_between side c.args.window.now c.loop-at.at c.loop-at.starts.items c.loop-at-test.true
    (ap kind_of c.if-byte-eq10.true) (c.loop-at.invariant.begun side)

pub loop-at-preserved-then-is_blank : goal.loop-at-preserved-then-is_blank
loop-at-preserved-then-is_blank c = record {
  within = omega arith;
  begun = λ side. skips side c.args.window.now c.loop-at.at c.loop-at.starts.items c.loop-at-test.true
      (c.if-is_blank.ensures.0 refl) (c.loop-at.invariant.begun side);
}

pub returns-then-after-eq10 : goal.returns-then-after-eq10
returns-then-after-eq10 c = λ side.
    subst (λ (s : List ℕ). EndsIn side [] c.args.window.now s (c.in-Some.end + 1)) (sym c.in_ok-push.ensures.ok)
    (c.in-Some.ensures.feed (omega arith) (ap kind_of c.if-after-eq10.true) side c.loop-at.starts.items
    (c.loop-at.invariant.begun side))

pub loop-at-preserved : goal.loop-at-preserved
loop-at-preserved c = record {
  within = omega arith;
  begun = λ side. subst
      (λ (s : List ℕ). IsBegun side (take (c.in-Some.end + 1) c.args.window.now) s lexer.Between)
      (sym c.in_ok-push-2.ensures.ok)
      (c.in-Some.ensures.blank (omega arith) (c.if-not-is_blank.ensures.0 refl) side c.loop-at.starts.items
      (c.loop-at.invariant.begun side));
}
