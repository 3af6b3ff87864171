use Rattle.kom_state.proofs.NewItems.{few-new}
use Rattle.text_calls.proofs.making.new_text.Goals as goal

pub text_effects-requires : goal.text_effects-requires
text_effects-requires c = few-new _ _ _ c.in_ok-new_items_guard.ensures
