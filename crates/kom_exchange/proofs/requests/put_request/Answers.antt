use Rattle.std.proofs.Common.{◌≡◌}
use Rattle.std.proofs.lemmas.Result.{on_ok_weaker}
use Rattle.kom_framing.specs.Writing.{end_line}
use Rattle.kom_exchange.proofs.Words.{line_put}
use Rattle.kom_exchange.proofs.requests.put_request.Goals as goal

pub returns : goal.returns
returns c =
    on_ok_weaker c.end_line.result
    (λ (e : c.end_line.new.self ≡ end_line c.put_arguments.new.writer).
    line_put c.args.reference c.args.request.now c.args.writer.now c.number.new.self c.number-2.new.self
    c.put_arguments.new.writer c.end_line.new.self c.requires c.in_ok-number.ensures.ok c.in_ok-number-2.ensures.ok
    (rw c.as_slice.ensures at c.in_ok-put_arguments.ensures) e) c.end_line.ensures.ok
