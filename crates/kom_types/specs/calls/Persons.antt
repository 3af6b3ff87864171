-- The calls about persons. (Protocol A, "Protocol Requests".)
use Rattle.std.specs.Prelude.{List, [], ◌∷◌}
use Rattle.kom_types.specs.declared.calls.Call.TheVariants as call
use Rattle.kom_types.specs.calls.Arguments.{aux_inputs, bits, integer, string}
use Rattle.kom_types.specs.calls.Pattern.{Pattern, one, two, three, four}

-- the pattern of each call
abbrev pub patterns : List Pattern
patterns =
    record { number = 7; reads = two integer (bits 16) call.SetPrivBits } ∷
    record {
      number = 8;
      reads = three integer string string
          (λ person old_password new_password.
          call.SetPasswd (record {
            person = person;
            old_password = old_password;
            new_password = new_password;
          }));
    } ∷
    record { number = 49; reads = one integer call.GetPersonStat } ∷
    record { number = 57; reads = two integer integer call.SetUserArea } ∷
    record {
      number = 89;
      reads = four string string (bits 8) aux_inputs
          (λ name password flags aux_items.
          call.CreatePerson (record {
            name = name;
            password = password;
            flags = flags;
            aux_items = aux_items;
          }));
    } ∷
    record { number = 106; reads = two integer (bits 8) call.SetPersFlags } ∷
    []
