use Rattle.std.proofs.Common.{arith, rules, ◌≡◌, ◌||◌, nat_lt, Bool, true, false, Some, length, refl, sym, ap}
use Rattle.std.proofs.Common.{append-nil}
use Rattle.std.proofs.lemmas.Bool.{false≢true, lt-ltb, le-ltb}
use Rattle.memory_links.proofs.Told.{some_same, marks_more, looked}
use Rattle.memory_links.proofs.memory_link.MemoryLink.hold_read.Goals as goal

or_false : (b : Bool) → b ≡ b || false
or_false true = refl
or_false false = refl

pub invariant_of-self-then-waits : goal.invariant_of-self-then-waits
invariant_of-self-then-waits c = record {
  within = c.args.self.now.within;
  told = marks_more (length c.args.self.now.output.items) c.args.self.now.log c.add.new.self _ c.args.self.now.told
      (omega (arith, ap length (some_same _ _ c.output.ensures))) c.add.ensures;
}

pub invariant_of-self-2 : goal.invariant_of-self-2
invariant_of-self-2 c = record {
  within = c.args.self.now.within;
  told = marks_more (length c.args.self.now.output.items) c.args.self.now.log c.add.new.self _ c.args.self.now.told
      (omega (arith, ap length (some_same _ _ c.output.ensures))) c.add.ensures;
}

pub returns-then-waits-clause-reads : goal.returns-then-waits-clause-reads
returns-then-waits-clause-reads c buffer = record {
  may = tt;
  taken = ap Some (sym (append-nil _));
  left = refl;
  all = λ h. absurd (false≢true h);
  put = refl;
  ended = or_false _;
  faults = omega arith;
  host = refl;
  looked = looked c.args.self.now.input.items c.args.self.now.output.items c.output.result.now c.args.self.now.taken
      (nat_lt c.args.self.now.held 1000000) true c.args.self.now.log c.add.new.self c.output.ensures
      (lt-ltb c.args.self.now.held 1000000 c.if-waits.true) c.add.ensures;
}

pub returns-clause-reads : goal.returns-clause-reads
returns-clause-reads c buffer = record {
  may = search rules;
  taken = ap Some (sym (append-nil _));
  left = refl;
  all = λ h. absurd (false≢true h);
  put = refl;
  ended = or_false _;
  faults = omega (arith, c.saturating_add-self-2.ensures);
  host = refl;
  looked = looked c.args.self.now.input.items c.args.self.now.output.items c.output.result.now c.args.self.now.taken
      (nat_lt c.args.self.now.held 1000000) false c.args.self.now.log c.add.new.self c.output.ensures
      (le-ltb c.args.self.now.held 1000000 c.if-waits.false) c.add.ensures;
}
