use Rattle.std.proofs.Common.{[], sym, ◌∙◌, append-nil}
use Rattle.kom_types.specs.Printing.{print_of}
use Rattle.kom_replies.proofs.PrintCuts.{print_then_more, prints_then_more, prints_alike}
use Rattle.kom_replies.proofs.cutting.cut_one_way.Goals as goal

pub returns-clause-item : goal.returns-clause-item
returns-clause-item c = λ first second short prefix.
    let same = prefix.1 ∙ sym (append-nil (print_of second)) in
    (print_then_more first second prefix.0 [] short same).0

pub returns-clause-items : goal.returns-clause-items
returns-clause-items c = λ first second short prefix. prints_then_more first second prefix.0 short prefix.1

pub returns-clause-whole : goal.returns-clause-whole
returns-clause-whole c = prints_alike
