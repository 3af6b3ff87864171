use Rattle.kom_state.proofs.NewItems.{few-new}
use Rattle.conf_calls.proofs.on_conferences.create_conf.Goals as goal

pub made_effects-requires : goal.made_effects-requires
made_effects-requires c = few-new _ _ _ c.in_ok-new_items_guard.ensures
