-- The guards of a new text's items, one after another.
use Rattle.std.proofs.Common.{◌≡◌, ℕ, ◌+◌, ◌<◌, ◌≤◌, Bool, List, [], ◌∷◌, ◌++◌, length, take, drop, get_or, Some, None}
use Rattle.std.proofs.Common.{sym, ap, ◌∙◌}
use Rattle.std.proofs.lemmas.List.{take_more, drop_more, drop_all}
use Rattle.kom_types.specs.declared.texts.MiscInput.{MiscInput}
use Rattle.kom_model.specs.declared.call_errors.Refused.{Refused}
use Rattle.kom_model.specs.calls.Call.{Asked}
use Rattle.kom_model.specs.calls.Guards.{Guard, first_refusal}
use Rattle.kom_model.specs.calls.NewTexts.{item_guard, item_guards}

module _ (asked : Asked) (anonymous : Bool) (items : List MiscInput) where
  -- what the guards of the items from a place on refuse
  abbrev pub refused_from : ℕ → Guard
  refused_from place = first_refusal (item_guards asked anonymous (take place items) (drop place items))

  module _ (place : ℕ) (item : MiscInput) (inside : place < length items) (is : item ≡ get_or items place item) where
    abbrev guard : Guard
    guard = item_guard asked anonymous (take place items) item

    more : take (place + 1) items ≡ take place items ++ item ∷ []
    more = take_more items place item inside ∙ ap (λ one. take place items ++ one ∷ []) (sym is)

    split : refused_from place
        ≡ first_refusal (guard ∷ item_guards asked anonymous (take (place + 1) items) (drop (place + 1) items))
    split =
        ap (λ rest. first_refusal (item_guards asked anonymous (take place items) rest))
        (drop_more items place item inside ∙ ap (λ one. one ∷ drop (place + 1) items) (sym is))
        ∙ ap (λ before. first_refusal (guard ∷ item_guards asked anonymous before (drop (place + 1) items))) (sym more)

    pub refused-next : guard ≡ None → refused_from place ≡ refused_from (place + 1)
    refused-next none =
        split ∙ ap (λ g. first_refusal (g ∷ item_guards asked anonymous (take (place + 1) items)
        (drop (place + 1) items))) none

    pub refused-here : (refused : Refused) → guard ≡ Some refused → refused_from place ≡ Some refused
    refused-here refused some =
        split ∙ ap (λ g. first_refusal (g ∷ item_guards asked anonymous (take (place + 1) items)
        (drop (place + 1) items))) some

  pub refused-end : (place : ℕ) → length items ≤ place → refused_from place ≡ None
  refused-end place past =
      ap (λ rest. first_refusal (item_guards asked anonymous (take place items) rest)) (drop_all place items past)
