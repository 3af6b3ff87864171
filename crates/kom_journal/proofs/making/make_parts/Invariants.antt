use Rattle.std.proofs.Common.{◌-◌, length}
use Rattle.kom_journal.specs.Reading.{MakesFirst}
use Rattle.kom_journal.proofs.making.make_parts.Given as goal

abbrev pub invariant-parts : goal.invariant-parts
invariant-parts g l = record {
  made : MakesFirst g.M.BodyMaker.makes l.bytes l.initial.maker l.maker l.used;
}

abbrev pub decreases-parts : goal.decreases-parts
decreases-parts g l = length l.bytes - l.used
