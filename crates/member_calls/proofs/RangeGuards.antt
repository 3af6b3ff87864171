-- The guards of ranges, one after another.
use Rattle.std.proofs.Common.{◌≡◌, ℕ, ◌+◌, ◌<◌, ◌≤◌, List, ◌∷◌, ◌++◌, length, drop, get_or, Some, None}
use Rattle.std.proofs.Common.{sym, ap, ◌∙◌}
use Rattle.std.proofs.lemmas.List.{drop_more, drop_all}
use Rattle.kom_types.specs.declared.memberships.ReadRange.{ReadRange}
use Rattle.kom_model.specs.declared.call_errors.Refused.{Refused}
use Rattle.kom_model.specs.calls.Guards.{Guard, first_refusal}
use Rattle.kom_model.specs.calls.Memberships.{range_guards, ranges_guards}
use Rattle.member_calls.proofs.GuardLists.{refusal-after, refusal-before}

module _ (highest : ℕ) (ranges : List ReadRange) where
  -- what the guards of the ranges from a place on refuse, after a range with this end
  abbrev pub refused_from : ℕ → ℕ → Guard
  refused_from place end = first_refusal (ranges_guards highest place end (drop place ranges))

  module _ (place end : ℕ) (one : ReadRange) (inside : place < length ranges) (is : one ≡ get_or ranges place one) where
    split : refused_from place end
        ≡ first_refusal (range_guards highest place end one
        ++ ranges_guards highest (place + 1) one.last (drop (place + 1) ranges))
    split =
        ap (λ rest. first_refusal (ranges_guards highest place end rest))
        (drop_more ranges place one inside ∙ ap (λ first. first ∷ drop (place + 1) ranges) (sym is))

    pub refused-next : first_refusal (range_guards highest place end one) ≡ None →
        refused_from place end ≡ refused_from (place + 1) one.last
    refused-next none = split ∙ refusal-after (range_guards highest place end one) _ none

    pub refused-here : (refused : Refused) → first_refusal (range_guards highest place end one) ≡ Some refused →
        refused_from place end ≡ Some refused
    refused-here refused some = split ∙ refusal-before (range_guards highest place end one) _ refused some

  pub refused-end : (place end : ℕ) → length ranges ≤ place → refused_from place end ≡ None
  refused-end place end past =
      ap (λ rest. first_refusal (ranges_guards highest place end rest)) (drop_all place ranges past)
