-- How a sweep ends.
use Rattle.std.specs.Prelude.{⊤, Result, Ok, Err}
use Rattle.kom_types.specs.declared.answers.NotMade.{NotMade}
use Rattle.kom_types.specs.declared.answers.NotMade.TheVariants as fault
use Rattle.kom_sweep.specs.declared.ends.Cut.{Cut}
use Rattle.kom_sweep.specs.declared.ends.Cut.TheVariants as cut
use Rattle.kom_sweep.specs.declared.ends.SweepEnd.{SweepEnd}
use Rattle.kom_sweep.specs.declared.ends.SweepEnd.TheVariants as end

-- the end of a sweep for which the desk refused an act
abbrev pub end_at : NotMade → SweepEnd
end_at (fault.Gone why) = end.Gone why
end_at (fault.Full number) = end.Full number
end_at fault.Memory = end.Memory

-- the same of a sweep that came to this before its session was closed, or not
abbrev pub end_with : {X : Type 0} → Result SweepEnd Cut → Result X NotMade → SweepEnd
end_with (Err (cut.Desk reason)) closed = end_at reason
end_with (Err cut.Memory) (Err reason) = end_at reason
end_with (Err cut.Memory) (Ok done) = end.Memory
end_with (Ok ending) (Err reason) = end_at reason
end_with (Ok ending) (Ok done) = ending
