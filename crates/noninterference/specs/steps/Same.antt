-- States that are the same for a group.
use Rattle.std.specs.Prelude.{◌≡◌, IsTrue}
use Rattle.std.specs.List.{AllByRecursion}
use Rattle.kom_model.specs.Kinds.{is_among}
use Rattle.kom_model.specs.State.{State}
use Rattle.kom_model.specs.Viewers.{viewer_of}
use Rattle.kom_laws.specs.Groups.{Group, IsOfGroup}
use Rattle.kom_laws.specs.Erasing.{erase}

-- in each session of the group nobody is logged in, or a person of the group, and none is strong
abbrev pub AreOfGroup : Group → State → Type 0
AreOfGroup group state = AllByRecursion
    (λ session. IsTrue (is_among group.sessions session.seat.number)
    → IsOfGroup group (viewer_of state.db session.seat)) state.sessions

-- The sessions of the group are such, and the states are the same without what is hidden from it.
pub record IsSameFor (group : Group) (one other : State) : Type 0 where
  pub of_group : AreOfGroup group one
  pub same : erase group one ≡ erase group other
