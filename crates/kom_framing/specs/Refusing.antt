use Rattle.kom_framing.specs.declared.fault.Fault.{Fault}
use Rattle.kom_framing.specs.declared.fault.Fault.TheVariants as fault
use Rattle.kom_framing.specs.declared.splitter.FeedRefusal.{FeedRefusal}
use Rattle.kom_framing.specs.declared.splitter.FeedRefusal.TheVariants as refusal

-- a fault as a refusal
abbrev pub refused_by : Fault → FeedRefusal
refused_by (fault.Malformed place) = refusal.Malformed place
refused_by (fault.LineTooLong place) = refusal.LineTooLong place
