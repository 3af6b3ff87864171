use Rattle.std.proofs.Common.{arith, rules, ◌≡◌, ℕ, ◌+◌, ◌-◌, ◌≤◌, List, length, take, drop, ◌++◌, ◌||◌, Bool, true}
use Rattle.std.proofs.Common.{false, Some, refl, sym, ap, ◌∙◌}
use Rattle.std.proofs.Math.Seq.{take-add}
use Rattle.std.proofs.lemmas.List.{append-nil, drop-drop, take-append-drop, take_rest}
use Rattle.std.proofs.lemmas.Bool.{false≢true}
use Rattle.std.proofs.lemmas.Grind.{common_steps}
use Rattle.memory_links.proofs.Scripted.{no_failure, failure_first, no_wait, fails_alone}
use Rattle.memory_links.proofs.Told.{some_same, marks_more, looked}
use Rattle.memory_links.proofs.memory_link.MemoryLink.read_free.Goals as goal

or_false : (b : Bool) → b ≡ b || false
or_false true = refl
or_false false = refl

-- what was copied to the start of the buffer is the next part of the input
copied : (t n most : ℕ) (input seen buffer : List ℕ) → seen ≡ input → length seen ≡ most → t + n ≤ most →
    take (length (take n (take (length seen - t) (drop t seen)))) buffer
    ≡ take n (take (length seen - t) (drop t seen)) → take n buffer ≡ take n (drop t input)
copied t n most input seen buffer e all fits h =
    let rest : take (length seen - t) (drop t seen) ≡ drop t seen = take_rest seen t in
    let part : take (length (take n (drop t seen))) buffer ≡ take n (drop t seen) = rw rest at h in
    let l : length (take n (drop t seen)) ≡ n = grind (arith, common_steps) in
    let f : take n buffer ≡ take n (drop t seen) = rw l at part in
    f ∙ ap (λ x. take n (drop t x)) e

-- so what was taken grows by it, and what is left began with it
grows : (t n : ℕ) (input given : List ℕ) → given ≡ take n (drop t input) → take (t + n) input ≡ take t input ++ given
grows t n input given is = take-add t n input ∙ ap (λ x. take t input ++ x) (sym is)

shrinks : (t n : ℕ) (input given : List ℕ) → given ≡ take n (drop t input) →
    drop t input ≡ given ++ drop (t + n) input
shrinks t n input given is =
    sym (ap (λ x. x ++ drop (t + n) input) is ∙ ap (λ x. take n (drop t input) ++ x) (sym (drop-drop n t input))
    ∙ take-append-drop n (drop t input))

pub returns-then-fails-clause-reads : goal.returns-then-fails-clause-reads
returns-then-fails-clause-reads c = record {
  may = search rules;
  taken = ap Some (sym (append-nil _));
  left = refl;
  all = λ h. absurd (false≢true h);
  put = refl;
  ended = or_false _;
  faults = omega (arith, c.saturating_add-self-then-fails.ensures);
  host = refl;
  looked = looked c.args.self.now.input.items c.args.self.now.output.items c.output.result.now c.args.self.now.taken
      c.waits_at-waits.result _ c.args.self.now.log c.add.new.self
      c.output.ensures (fails_alone _ _ _ c.waits_at-waits.ensures (search rules)) c.add.ensures;
}

pub returns-then-fails-clause-not_yet : goal.returns-then-fails-clause-not_yet
returns-then-fails-clause-not_yet c =
    failure_first c.args.self.now.plan.reads c.args.self.now.reads (λ e. cc) (search rules)

pub returns-then-waits-clause-reads : goal.returns-then-waits-clause-reads
returns-then-waits-clause-reads c = record {
  may = tt;
  taken = ap Some (sym (append-nil _));
  left = refl;
  all = λ h. absurd (false≢true h);
  put = refl;
  ended = or_false _;
  faults = omega arith;
  host = refl;
  looked = looked c.args.self.now.input.items c.args.self.now.output.items c.output.result.now c.args.self.now.taken
      c.waits_at-waits.result _ c.args.self.now.log c.add.new.self
      c.output.ensures (c.if-waits.true) c.add.ensures;
}

pub returns-then-waits-clause-failed : goal.returns-then-waits-clause-failed
returns-then-waits-clause-failed c =
    no_failure c.args.self.now.plan.reads.fails.items c.args.self.now.reads (λ e. cc) (search rules)

pub returns-then-count-eq0-clause-reads : goal.returns-then-count-eq0-clause-reads
returns-then-count-eq0-clause-reads c = record {
  may = tt;
  taken = ap Some (sym (append-nil _));
  left = refl;
  all = λ h. grind (arith, common_steps);
  put = refl;
  ended = search rules;
  faults = omega arith;
  host = refl;
  looked = looked c.args.self.now.input.items c.args.self.now.output.items c.output.result.now c.args.self.now.taken
      c.waits_at-waits.result _ c.args.self.now.log c.add.new.self
      c.output.ensures (c.if-waits.false) c.add.ensures;
}

pub returns-clause-reads : goal.returns-clause-reads
returns-clause-reads c =
    let given : take c.ready-count.result c.copy_to_start.new.into
    ≡ take c.ready-count.result (drop c.args.self.now.taken c.args.self.now.input.items)
    = copied c.args.self.now.taken c.ready-count.result _ _ _ _ c.deref-2.ensures.value c.deref-2.ensures.len
    c.ready-count.ensures.there c.copy_to_start.ensures in
    record {
      may = (omega arith, omega arith);
      taken = ap Some (grows c.args.self.now.taken c.ready-count.result c.args.self.now.input.items _ given);
      left = ap Some (shrinks c.args.self.now.taken c.ready-count.result c.args.self.now.input.items _ given);
      all = λ h. absurd (false≢true h);
      put = refl;
      ended = or_false _;
      faults = omega arith;
      host = refl;
      looked = looked c.args.self.now.input.items c.args.self.now.output.items c.output.result.now c.args.self.now.taken
          c.waits_at-waits.result _ c.args.self.now.log c.add.new.self
          c.output.ensures c.if-waits.false c.add.ensures;
    }

pub returns-then-count-eq0-clause-failed : goal.returns-then-count-eq0-clause-failed
returns-then-count-eq0-clause-failed c =
    no_failure c.args.self.now.plan.reads.fails.items c.args.self.now.reads (λ e. cc) (search rules)

pub returns-then-count-eq0-clause-not_yet : goal.returns-then-count-eq0-clause-not_yet
returns-then-count-eq0-clause-not_yet c =
    no_wait c.args.self.now.plan.reads c.args.self.now.reads (λ e. cc) (search rules)

pub returns-clause-failed : goal.returns-clause-failed
returns-clause-failed c =
    no_failure c.args.self.now.plan.reads.fails.items c.args.self.now.reads (λ e. cc) (search rules)

pub returns-clause-not_yet : goal.returns-clause-not_yet
returns-clause-not_yet c = no_wait c.args.self.now.plan.reads c.args.self.now.reads (λ e. cc) (search rules)

pub returns-clause-gives : goal.returns-clause-gives
returns-clause-gives c =
    let e : length c.copy_to_start.new.into ≡ length c.args.into.now = cc in rw e c.ready-count.ensures.most

pub invariant_of-self-then-fails : goal.invariant_of-self-then-fails
invariant_of-self-then-fails c = record {
  within = c.args.self.now.within;
  told = marks_more (length c.args.self.now.output.items) c.args.self.now.log c.add.new.self _ c.args.self.now.told
      (omega (arith, ap length (some_same _ _ c.output.ensures))) c.add.ensures;
}

pub invariant_of-self-else-fails : goal.invariant_of-self-else-fails
invariant_of-self-else-fails c = record {
  within = c.args.self.now.within;
  told = marks_more (length c.args.self.now.output.items) c.args.self.now.log c.add.new.self _ c.args.self.now.told
      (omega (arith, ap length (some_same _ _ c.output.ensures))) c.add.ensures;
}
