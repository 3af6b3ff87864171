-- The calls about aux-items. (Protocol A, "Protocol Requests".)
use Rattle.std.specs.Prelude.{List, [], ◌∷◌}
use Rattle.kom_types.specs.declared.calls.Call.TheVariants as call
use Rattle.kom_types.specs.calls.Arguments.{aux_inputs, integer, numbers}
use Rattle.kom_types.specs.calls.Pattern.{Pattern, none, three}

-- the pattern of each call
abbrev pub patterns : List Pattern
patterns =
    record {
      number = 92;
      reads = three integer numbers aux_inputs
          (λ object delete add.
          call.ModifyTextInfo (record { object = object; delete = delete; add = add }));
    } ∷
    record {
      number = 93;
      reads = three integer numbers aux_inputs
          (λ object delete add.
          call.ModifyConfInfo (record { object = object; delete = delete; add = add }));
    } ∷
    record { number = 96; reads = none call.QueryPredefinedAuxItems } ∷
    []
