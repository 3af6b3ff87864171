-- The calls about texts. (Protocol A, "Protocol Requests".)
use Rattle.std.specs.Prelude.{List, [], ◌∷◌}
use Rattle.kom_types.specs.declared.calls.Call.TheVariants as call
use Rattle.kom_types.specs.calls.Arguments.{aux_inputs, byte, integer, misc_inputs, string}
use Rattle.kom_types.specs.calls.Pattern.{Pattern, none, one, two, three}

-- the pattern of each call
abbrev pub patterns : List Pattern
patterns =
    record { number = 23; reads = none call.GetMarks } ∷
    record { number = 25; reads = three integer integer integer call.GetText } ∷
    record { number = 29; reads = one integer call.DeleteText } ∷
    record { number = 30; reads = three integer integer integer call.AddRecipient } ∷
    record { number = 31; reads = two integer integer call.SubRecipient } ∷
    record { number = 32; reads = two integer integer call.AddComment } ∷
    record { number = 33; reads = two integer integer call.SubComment } ∷
    record { number = 37; reads = two integer integer call.AddFootnote } ∷
    record { number = 38; reads = two integer integer call.SubFootnote } ∷
    record { number = 60; reads = one integer call.FindNextTextNo } ∷
    record { number = 61; reads = one integer call.FindPreviousTextNo } ∷
    record { number = 72; reads = two integer byte call.MarkText } ∷
    record { number = 73; reads = one integer call.UnmarkText } ∷
    record {
      number = 86;
      reads = three string misc_inputs aux_inputs
          (λ body misc_inputs aux_items.
          call.CreateText (record {
            body = body;
            misc_inputs = misc_inputs;
            aux_items = aux_items;
          }));
    } ∷
    record {
      number = 87;
      reads = three string misc_inputs aux_inputs
          (λ body misc_inputs aux_items.
          call.CreateAnonymousText (record {
            body = body;
            misc_inputs = misc_inputs;
            aux_items = aux_items;
          }));
    } ∷
    record { number = 90; reads = one integer call.GetTextStat } ∷
    record { number = 103; reads = three integer integer integer call.LocalToGlobal } ∷
    record { number = 104; reads = three integer integer integer call.MapCreatedTexts } ∷
    record { number = 115; reads = none call.FirstUnusedTextNo } ∷
    record { number = 121; reads = three integer integer integer call.LocalToGlobalReverse } ∷
    []
