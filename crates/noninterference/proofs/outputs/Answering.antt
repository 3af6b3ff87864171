-- Answers of a group's calls stand without what is hidden from the group.
use Rattle.std.proofs.Common.{◌≡◌, ◌==◌, ◌||◌, ◌&&◌, not, Option, ap}
use Rattle.std.specs.Prelude.{is_some}
use Rattle.kom_types.specs.declared.calls.Call.{Call}
use Rattle.kom_types.specs.calls.Numbers.{number_of_call}
use Rattle.kom_model.specs.declared.call_errors.Refused.{Refused}
use Rattle.kom_model.specs.Decide.{decision_of, definition_of, is_firm, limit_reply, was_refused}
use Rattle.kom_model.specs.Effects.{IsProtected}
use Rattle.kom_model.specs.declared.kinds.TheConstants.{FIRM_NUMBERS}
use Rattle.kom_model.specs.Kinds.{is_among, accept_async}
use Rattle.kom_model.specs.calls.Call.{Asked}
use Rattle.kom_model.specs.calls.Guards.{caller}
use Rattle.kom_laws.specs.Groups.{Group, IsOfGroup}
use Rattle.kom_laws.specs.Erasing.{erased_db}
use Rattle.noninterference.specs.outputs.Answers.{erased_asked, ComesToSame, AnswersStandErased}
use Rattle.noninterference.proofs.outputs.Alike.{alike-erased}
use Rattle.noninterference.proofs.outputs.Passing.{decided-same}
use Rattle.noninterference.proofs.outputs.calls.Calls.{comes-same}

module _ (group : Group) (asked : Asked) (call : Call) (protected : IsProtected asked.db)
    (of_group : IsOfGroup group (caller asked)) where
  defined : ComesToSame (definition_of (erased_asked group asked) call) (definition_of asked call)
  defined = comes-same asked (erased_db group asked.db)
      (alike-erased group asked.db (caller asked) protected of_group) call

  pub decided : decision_of (erased_asked group asked) call ≡ decision_of asked call
  unfolding decision_of
  decided = ap (limit_reply asked.reference) (decided-same _ _ defined)

  firm : is_firm (erased_asked group asked) call ≡ is_firm asked call
  unfolding is_firm
  firm = ap (λ (early : Option Refused). is_among FIRM_NUMBERS (number_of_call call) || was_refused call
      || (not (number_of_call call == accept_async) && is_some early)) defined.early

pub answers-erased : AnswersStandErased
answers-erased = record { defined = defined; decided = decided; firm = firm }
