use Rattle.std.specs.Fmt.{decimal}
use Rattle.kom_client.specs.Keys.{words_of}
use Rattle.kom_client.specs.Seen.{request_seen}
use Rattle.kom_client.proofs.Words.{line_put}
use Rattle.kom_client.proofs.requests.put_request.Goals as goal

pub returns : goal.returns
returns c =
    line_put (decimal c.args.reference) (words_of c.args.person.now (request_seen c.args.request.now))
    c.clear.new.self c.number.new.self c.put_words_of.new.writer c.end_line.new.self c.clear.ensures
    c.in_ok-number.ensures.ok c.in_ok-put_words_of.ensures c.in_ok-end_line.ensures.ok
