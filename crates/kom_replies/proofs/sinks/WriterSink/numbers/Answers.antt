use Rattle.std.proofs.Common.{◌≡◌, ℕ, List, ◌++◌, take, sym, ap, subst, ◌∙◌}
use Rattle.std.specs.List.{flat_map}
use Rattle.std.proofs.lemmas.List.{take-append-drop}
use Rattle.kom_types.specs.spellings.Words.{number}
use Rattle.kom_framing.specs.Writing.{put_word}
use Rattle.kom_replies.specs.Items.{Begins}
use Rattle.kom_replies.specs.Sinks.{with_words}
use Rattle.kom_replies.proofs.NumberWords.{words_of_numbers, numbers_parted, numbers_keep, on_ok, kept_either}
use Rattle.kom_replies.proofs.sinks.WriterSink.numbers.Goals as goal

pub loop-left-preserved : goal.loop-left-preserved
loop-left-preserved c =
    let left : List ℕ = c.loop-left.left.now in
    let first : List ℕ = c.split_at.result.0.now in
    let others : List ℕ = c.split_at.result.1.now in
    let parted : first ++ others ≡ left =
    ap (λ (f : List ℕ). f ++ others) c.split_at.ensures.front
    ∙ ap (λ (o : List ℕ). take 256 left ++ o) c.split_at.ensures.back ∙ take-append-drop 256 left in
    let put = c.in_ok-numbers.ensures.ok in
    record {
      to_come = ap (with_words put_word (flat_map number others)) put
          ∙ numbers_parted left first others c.loop-left.self parted ∙ c.loop-left.invariant.to_come;
      keeps = λ prefix begins. subst (Begins prefix) (sym put)
          (numbers_keep first c.loop-left.self prefix (c.loop-left.invariant.keeps prefix begins));
    }

pub returns-clause-ok : goal.returns-clause-ok
returns-clause-ok c =
    on_ok c.numbers-2.result
    (λ put. put ∙ sym (words_of_numbers c.loop-left.left.now c.loop-left.self) ∙ c.loop-left.invariant.to_come)
    c.numbers-2.ensures.ok

pub returns-clause-keeps : goal.returns-clause-keeps
returns-clause-keeps c = λ prefix begins.
    kept_either c.numbers-2.result c.loop-left.left.now c.loop-left.self c.numbers-2.new.self c.numbers-2.ensures.ok
    c.numbers-2.ensures.err prefix (c.loop-left.invariant.keeps prefix begins)
