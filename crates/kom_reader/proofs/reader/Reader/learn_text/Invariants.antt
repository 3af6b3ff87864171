use Rattle.std.proofs.Common.{◌≡◌, fold, drop}
use Rattle.kom_reader.specs.Hearing.{with_part}
use Rattle.kom_reader.proofs.reader.Reader.learn_text.Given as goal

abbrev pub invariant-loop-part : goal.invariant-loop-part
invariant-loop-part l =
    fold (with_part l.text) l.self (drop l.part-index l.part-items) ≡ fold (with_part l.text) l.fn.self l.part-items
