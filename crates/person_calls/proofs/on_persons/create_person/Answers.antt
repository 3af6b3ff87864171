use Rattle.kom_state.proofs.NewItems.{few-new}
use Rattle.person_calls.proofs.on_persons.create_person.Goals as goal

pub person_effects-requires : goal.person_effects-requires
person_effects-requires c = few-new _ _ _ c.in_ok-new_items_guard.ensures
