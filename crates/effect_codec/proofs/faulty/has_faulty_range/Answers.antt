use Rattle.std.proofs.Common.{rules, sym, ◌∙◌}
use Rattle.effect_codec.proofs.Begins.{begins_faulty}
use Rattle.effect_codec.proofs.faulty.has_faulty_range.Goals as goal

pub returns-then-byte_of-eq19-clause-exact : goal.returns-then-byte_of-eq19-clause-exact
returns-then-byte_of-eq19-clause-exact c = search rules

pub returns-then-byte_of-eq19-clause-faulty : goal.returns-then-byte_of-eq19-clause-faulty
returns-then-byte_of-eq19-clause-faulty c is =
    begins_faulty c.args.bytes.now (sym (returns-then-byte_of-eq19-clause-exact c) ∙ is)
