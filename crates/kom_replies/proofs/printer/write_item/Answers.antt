use Rattle.std.proofs.Common.{◌≡◌, ap, ◌∙◌, subst, OnOk}
use Rattle.kom_framing.specs.Writing.{Written, end_line}
use Rattle.kom_replies.specs.Items.{with_item}
use Rattle.kom_replies.proofs.ItemWords.{item_written}
use Rattle.kom_replies.proofs.printer.write_item.Goals as goal

pub returns-clause-ok : goal.returns-clause-ok
returns-clause-ok c =
    let item = c.args.item.now in
    let whole : end_line c.put_words.new.out ≡ with_item item c.args.out.now =
    ap end_line c.in_ok-put_words.ensures.ok ∙ item_written item c.args.out.now c.requires in
    subst (λ (written : Written). OnOk c.end_line.result (c.end_line.new.self ≡ written)) whole c.end_line.ensures.ok
