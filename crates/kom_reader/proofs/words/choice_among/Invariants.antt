use Rattle.std.proofs.Common.{◌≡◌, fold, filter, drop}
use Rattle.kom_reader.specs.declared.words.Choice.TheVariants as choice
use Rattle.kom_reader.specs.Words.{fits, choice_and}
use Rattle.kom_reader.proofs.words.choice_among.Given as goal

abbrev pub invariant-loop-word : goal.invariant-loop-word
invariant-loop-word l =
    fold choice_and l.choice (filter (fits l.typed) (drop l.word-index l.words))
    ≡ fold choice_and choice.None (filter (fits l.typed) l.words)
