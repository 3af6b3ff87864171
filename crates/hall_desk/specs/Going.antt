-- A desk goes on from any earlier state of it.
use Rattle.std.proofs.Common.{List, [], ◌++◌, refl, sym, ap, ◌∙◌, append_assoc, append-nil, arith}
use Rattle.std.proofs.Common.{le_refl}
use Rattle.kom_types.specs.declared.acts.Record.{Record}
use Rattle.hall_desk.specs.Desks.{Kept, GoesOn}

pub goes_on_itself : (kept : Kept) → GoesOn kept kept
goes_on_itself kept = record {
  table = refl;
  start = refl;
  number = refl;
  seen = ([], sym (append-nil kept.pass.seen));
  drawn = le_refl kept.pass.drawn;
}

pub goes_on_further : (first second third : Kept) → GoesOn first second → GoesOn second third →
    GoesOn first third
goes_on_further first second third one other = record {
  table = other.table ∙ one.table;
  start = other.start ∙ one.start;
  number = other.number ∙ one.number;
  seen = (
    one.seen.0 ++ other.seen.0,
    other.seen.1 ∙ ap (λ (seen : List Record). seen ++ other.seen.0) one.seen.1
        ∙ append_assoc first.pass.seen one.seen.0 other.seen.0,
  );
  drawn = omega arith;
}
