use Rattle.std.proofs.Common.{◌≡◌, ◌≢◌, ◌∷◌, ◌++◌, Some, length, ltb, true, false, ap, take, drop, sym, ◌∙◌, arith}
use Rattle.std.specs.Option.{option_map_or}
use Rattle.std.proofs.lemmas.Bool.{eq-eqb, ne_eqb}
use Rattle.std.proofs.lemmas.Bool.Decides.{nat_tests}
use Rattle.std.proofs.lemmas.Grind.{common_steps}
use Rattle.name_lookup.specs.Letters.{letters_of, letters_left, first_word}
use Rattle.name_lookup.specs.Steps.{Passes, IsStepOf, Bumps}
use Rattle.name_lookup.proofs.Skips.{skip, wrap}
use Rattle.name_lookup.proofs.Looks.{Told, told_word, told_ended, told_above, told_below, told_found, if_ok}
use Rattle.name_lookup.proofs.steps.look_at.Goals as goal

pub returns-then-not-branch : goal.returns-then-not-branch
returns-then-not-branch c =
    let pattern = c.args.pattern.now in let name = letters_of c.args.name.now in
    let asked = c.in-Some.asked.now in let later = c.in-Some.later.now in
    let left = letters_left c.loop-asked.letters in let target = c.loop-asked.target.items in
    let rest = letters_left c.push_word.new.letters in let after = c.push_word.new.target.items in
    let split : c.loop-asked.rest.now ≡ asked ∷ later = c.in-Some.ensures.cases.0 in
    let told : Told pattern name c.loop-asked.start target (asked ∷ later) left =
    c.loop-asked.invariant.told
    ∙ ap (λ r. wrap (take c.loop-asked.start target) (drop c.loop-asked.start target) (skip r left)) split in
    let passes : Passes false left rest target after = rw c.if-not-branch.true at c.in_ok-push_word.ensures in
    rw c.without_letters.ensures
    (told_ended pattern name c.loop-asked.start target asked later left c.loop-asked.invariant.within told rest after
    (eq-eqb asked 32 c.if-asked-eq32.true) passes)

pub loop-asked-preserved-else-not-branch : goal.loop-asked-preserved-else-not-branch
loop-asked-preserved-else-not-branch c =
    let pattern = c.args.pattern.now in let name = letters_of c.args.name.now in
    let asked = c.in-Some.asked.now in let later = c.in-Some.later.now in
    let left = letters_left c.loop-asked.letters in let target = c.loop-asked.target.items in
    let rest = letters_left c.push_word.new.letters in let after = c.push_word.new.target.items in
    let split : c.loop-asked.rest.now ≡ asked ∷ later = c.in-Some.ensures.cases.0 in
    let told : Told pattern name c.loop-asked.start target (asked ∷ later) left =
    c.loop-asked.invariant.told
    ∙ ap (λ r. wrap (take c.loop-asked.start target) (drop c.loop-asked.start target) (skip r left)) split in
    let passes : Passes true left rest target after = rw c.if-not-branch.false at c.in_ok-push_word.ensures in
    let long : c.len-start.result ≡ length after = omega (arith, c.len-start.ensures, c.push_word.new.target.ok.0) in
    record {
      within = omega (arith, long);
      told = rw long (told_word pattern name c.loop-asked.start target asked later left c.loop-asked.invariant.within
          told rest after (eq-eqb asked 32 c.if-asked-eq32.true) passes);
    }

pub returns-then-is_above : goal.returns-then-is_above
returns-then-is_above c =
    let pattern = c.args.pattern.now in let name = letters_of c.args.name.now in
    let asked = c.in-Some.asked.now in let later = c.in-Some.later.now in
    let left = letters_left c.loop-asked.letters in let target = c.loop-asked.target.items in
    let rest = letters_left c.next-letter.new.self in
    let split : c.loop-asked.rest.now ≡ asked ∷ later = c.in-Some.ensures.cases.0 in
    let told : Told pattern name c.loop-asked.start target (asked ∷ later) left =
    c.loop-asked.invariant.told
    ∙ ap (λ r. wrap (take c.loop-asked.start target) (drop c.loop-asked.start target) (skip r left)) split in
    let unlike : c.next-letter.result ≢ Some asked = λ e. grind (arith, common_steps, nat_tests) in
    let above : option_map_or (λ l. ltb asked l) c.next-letter.result false ≡ true =
    sym c.is_above.ensures ∙ c.if-is_above.true in
    if_ok (λ step. Bumps c.loop-asked.start target step c.pass_word.new.target.items)
    (λ step. IsStepOf step pattern name c.pass_word.new.target.items) c.pass_word.result
    (λ step bumps. told_above pattern name c.loop-asked.start target asked later left c.loop-asked.invariant.within told
    c.next-letter.result rest c.pass_word.new.target.items step (ne_eqb asked 32 c.if-asked-eq32.false)
    c.next-letter.ensures.steps unlike above bumps)
    c.pass_word.ensures

pub returns-then-ne : goal.returns-then-ne
returns-then-ne c =
    let pattern = c.args.pattern.now in let name = letters_of c.args.name.now in
    let asked = c.in-Some.asked.now in let later = c.in-Some.later.now in
    let left = letters_left c.loop-asked.letters in let target = c.loop-asked.target.items in
    let rest = letters_left c.next-letter.new.self in
    let split : c.loop-asked.rest.now ≡ asked ∷ later = c.in-Some.ensures.cases.0 in
    let told : Told pattern name c.loop-asked.start target (asked ∷ later) left =
    c.loop-asked.invariant.told
    ∙ ap (λ r. wrap (take c.loop-asked.start target) (drop c.loop-asked.start target) (skip r left)) split in
    let unlike : c.next-letter.result ≢ Some asked = λ e. grind (arith, common_steps, nat_tests) in
    let below : option_map_or (λ l. ltb asked l) c.next-letter.result false ≡ false =
    sym c.is_above.ensures ∙ c.if-is_above.false in
    told_below pattern name c.loop-asked.start target asked later left c.loop-asked.invariant.within told
    c.next-letter.result rest c.push_first.new.target.items (ne_eqb asked 32 c.if-asked-eq32.false)
    c.next-letter.ensures.steps unlike below
    (c.in_ok-push_first.ensures ∙ ap (λ r. target ++ first_word r) split)

pub returns : goal.returns
returns c =
    let none : length c.loop-asked.rest.now ≡ 0 = grind (arith, common_steps) in
    told_found c.args.pattern.now (letters_of c.args.name.now) c.loop-asked.start c.loop-asked.target.items
    c.loop-asked.rest.now (letters_left c.loop-asked.letters) none c.loop-asked.invariant.told
