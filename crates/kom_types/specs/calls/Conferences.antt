-- The calls about conferences. (Protocol A, "Protocol Requests".)
use Rattle.std.specs.Prelude.{List, [], ◌∷◌}
use Rattle.kom_types.specs.declared.calls.Call.TheVariants as call
use Rattle.kom_types.specs.calls.Arguments.{aux_inputs, conference_type, flag, integer, string}
use Rattle.kom_types.specs.calls.Pattern.{Pattern, none, one, two, three}

-- the pattern of each call
abbrev pub patterns : List Pattern
patterns =
    record { number = 3; reads = two integer string call.ChangeName } ∷
    record { number = 11; reads = one integer call.DeleteConf } ∷
    record { number = 16; reads = two integer integer call.SetPresentation } ∷
    record { number = 17; reads = two integer integer call.SetEtcMotd } ∷
    record { number = 18; reads = two integer integer call.SetSupervisor } ∷
    record { number = 19; reads = two integer integer call.SetPermittedSubmitters } ∷
    record { number = 20; reads = two integer integer call.SetSuperConf } ∷
    record { number = 21; reads = two integer conference_type call.SetConfType } ∷
    record { number = 22; reads = two integer integer call.SetGarbNice } ∷
    record { number = 76; reads = three string flag flag call.LookupZName } ∷
    record { number = 78; reads = one integer call.GetUconfStat } ∷
    record {
      number = 88;
      reads = three string conference_type aux_inputs
          (λ name kind aux_items.
          call.CreateConf (record { name = name; kind = kind; aux_items = aux_items }));
    } ∷
    record { number = 91; reads = one integer call.GetConfStat } ∷
    record { number = 97; reads = two integer integer call.SetExpire } ∷
    record { number = 105; reads = two integer integer call.SetKeepCommented } ∷
    record { number = 114; reads = none call.FirstUnusedConfNo } ∷
    record { number = 116; reads = one integer call.FindNextConfNo } ∷
    record { number = 117; reads = one integer call.FindPreviousConfNo } ∷
    []
