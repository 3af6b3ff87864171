-- The calls about the server. (Protocol A, "Protocol Requests".)
use Rattle.std.specs.Prelude.{List, [], ◌∷◌}
use Rattle.kom_types.specs.declared.calls.Call.TheVariants as call
use Rattle.kom_types.specs.calls.Arguments.{integer}
use Rattle.kom_types.specs.calls.Pattern.{Pattern, none, one}

-- the pattern of each call
abbrev pub patterns : List Pattern
patterns =
    record { number = 35; reads = none call.GetTime } ∷
    record { number = 43; reads = none call.SyncKom } ∷
    record { number = 44; reads = one integer call.ShutdownKom } ∷
    record { number = 75; reads = none call.GetVersionInfo } ∷
    record { number = 85; reads = none call.GetCollateTable } ∷
    record { number = 94; reads = none call.GetInfo } ∷
    []
