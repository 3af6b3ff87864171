use Rattle.std.proofs.Common.{rules}
use Rattle.kom_replies.proofs.WrittenWords.{array_put}
use Rattle.kom_replies.proofs.arrays.put_array.Goals as goal

pub returns-clause-ok : goal.returns-clause-ok
returns-clause-ok g c =
    rw (array_put g.S.Sink.with_word g.T.Spelled.spelling c.args.values.now c.args.out.now c.if-is_empty.ensures)
    (search rules)
