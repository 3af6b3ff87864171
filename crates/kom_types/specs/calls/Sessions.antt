-- The calls about sessions. (Protocol A, "Protocol Requests".)
use Rattle.std.specs.Prelude.{List, [], ◌∷◌}
use Rattle.kom_types.specs.declared.calls.Call.TheVariants as call
use Rattle.kom_types.specs.calls.Arguments.{byte, flag, integer, numbers, string}
use Rattle.kom_types.specs.calls.Pattern.{Pattern, none, one, two, three}

-- the pattern of each call
abbrev pub patterns : List Pattern
patterns =
    record { number = 1; reads = none call.Logout } ∷
    record { number = 2; reads = one integer call.ChangeConference } ∷
    record { number = 4; reads = one string call.ChangeWhatIAmDoing } ∷
    record { number = 42; reads = one byte call.Enable } ∷
    record { number = 53; reads = two integer string call.SendMessage } ∷
    record { number = 55; reads = one integer call.Disconnect } ∷
    record { number = 56; reads = none call.WhoAmI } ∷
    record { number = 62; reads = three integer string flag call.Login } ∷
    record {
      number = 69;
      reads = two string string
          (λ name version. call.SetClientVersion (record { name = name; version = version }));
    } ∷
    record { number = 70; reads = one integer call.GetClientName } ∷
    record { number = 71; reads = one integer call.GetClientVersion } ∷
    record { number = 80; reads = one numbers call.AcceptAsync } ∷
    record { number = 81; reads = none call.QueryAsync } ∷
    record { number = 82; reads = none call.UserActive } ∷
    record { number = 83; reads = three flag flag integer call.WhoIsOnDynamic } ∷
    record { number = 84; reads = one integer call.GetStaticSessionInfo } ∷
    []
