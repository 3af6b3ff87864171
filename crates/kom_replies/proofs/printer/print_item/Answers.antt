use Rattle.std.proofs.Common.{◌∙◌}
use Rattle.kom_replies.proofs.ItemWords.{cut_back_again}
use Rattle.kom_replies.proofs.printer.print_item.Goals as goal

pub returns-then-is_err-clause-err : goal.returns-then-is_err-clause-err
returns-then-is_err-clause-err c =
    let place = c.mark_place-start in
    let lost_nothing = c.write_item.ensures.keeps in
    let again =
    cut_back_again c.args.out.now c.begin_line.new.self c.write_item.new.out place.result.length place.result.joined
    c.begin_line.ensures lost_nothing place.ensures.length place.ensures.joined in
    c.cut_back.ensures ∙ again
