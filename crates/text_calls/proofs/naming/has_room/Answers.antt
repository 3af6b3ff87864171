use Rattle.std.proofs.Common.{count_by, sym, arith}
use Rattle.std.proofs.lemmas.Bool.{lt-ltb}
use Rattle.std.proofs.lemmas.List.Sums.{count_by-le-length}
use Rattle.text_calls.specs.Names.{names}
use Rattle.text_calls.proofs.naming.has_room.Goals as goal

pub returns-then-before-most : goal.returns-then-before-most
returns-then-before-most c =
    let few = count_by-le-length (names c.args.naming) c.args.before.now in
    sym (lt-ltb (count_by (names c.args.naming) c.args.before.now) c.args.most (omega arith))
